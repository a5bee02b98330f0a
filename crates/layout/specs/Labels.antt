-- 01's tables: the labels, and the layout of each record. Where 01 is silent (START, END and EPOCH OF CURRENT MAP, END OF FILE), 001's.
use Rattle.std.specs.Prelude.{List, [], ◌∷◌, ◌++◌, ℕ, get_or}
use Prim.Native.Char.{code}
use Prim.Native.String.{String, [] as []ˢ, ◌∷◌ as ◌∷ˢ◌}
use Rattle.mapset.specs.declared.Kind.{Kind}
use Rattle.mapset.specs.declared.Kind.TheVariants.{Tec, Rms, Height}
use Rattle.mapset.specs.Header.{Content, count, tenths, epoch as an_epoch, axis, program, mapping, observables, system as a_system, contents}
use Rattle.layout.specs.Records.{Item, I, F, X, A, U, Vals, Fields}

-- `head i` is the record of the i-th entry of the header's `contents`
pub data Label : Type 0 where
  version description comment system exponent aux_start aux_end header_end epoch block file_end : Label
  head : ℕ → Label
  start end : Kind → Label

-- a text's bytes
abbrev pub bytes : String → List ℕ
bytes []ˢ = []
bytes (c ∷ˢ s) = code c ∷ bytes s

-- the labels of the header's `contents` but the systems
abbrev pub heads : List (List ℕ)
heads =
    bytes "PGM / RUN BY / DATE " ∷
    bytes "EPOCH OF FIRST MAP  " ∷
    bytes "EPOCH OF LAST MAP   " ∷
    bytes "INTERVAL            " ∷
    bytes "# OF MAPS IN FILE   " ∷
    bytes "MAPPING FUNCTION    " ∷
    bytes "ELEVATION CUTOFF    " ∷
    bytes "OBSERVABLES USED    " ∷
    bytes "# OF STATIONS       " ∷
    bytes "# OF SATELLITES     " ∷
    bytes "BASE RADIUS         " ∷
    bytes "MAP DIMENSION       " ∷
    bytes "HGT1 / HGT2 / DHGT  " ∷
    bytes "LAT1 / LAT2 / DLAT  " ∷
    bytes "LON1 / LON2 / DLON  " ∷
    []

-- columns 61 to 80
unfoldable pub name : Label → List ℕ
name version = bytes "IONEX VERSION / TYPE"
name description = bytes "DESCRIPTION         "
name comment = bytes "COMMENT             "
name (head i) = get_or heads i []
name system = bytes "SYS / #STA / #SAT   "
name exponent = bytes "EXPONENT            "
name aux_start = bytes "START OF AUX DATA   "
name aux_end = bytes "END OF AUX DATA     "
name header_end = bytes "END OF HEADER       "
name (start Tec) = bytes "START OF TEC MAP    "
name (start Rms) = bytes "START OF RMS MAP    "
name (start Height) = bytes "START OF HEIGHT MAP "
name (end Tec) = bytes "END OF TEC MAP      "
name (end Rms) = bytes "END OF RMS MAP      "
name (end Height) = bytes "END OF HEIGHT MAP   "
name epoch = bytes "EPOCH OF CURRENT MAP"
name block = bytes "LAT/LON1/LON2/DLON/H"
name file_end = bytes "END OF FILE         "

-- the layout of a header record, by what it holds
abbrev pub items : Content → List Item
items (count low high) = I 6 ∷ X 54 ∷ []
items (tenths low high) = F 8 ∷ X 52 ∷ []
items an_epoch = I 6 ∷ I 6 ∷ I 6 ∷ I 6 ∷ I 6 ∷ I 6 ∷ X 24 ∷ []
items (axis l) = X 2 ∷ F 6 ∷ F 6 ∷ F 6 ∷ X 40 ∷ []
items program = A 20 ∷ A 20 ∷ A 20 ∷ []
items mapping = X 2 ∷ A 4 ∷ X 54 ∷ []
items observables = A 60 ∷ []
items a_system = X 5 ∷ A 1 ∷ I 6 ∷ I 6 ∷ X 42 ∷ []

abbrev pub content : ℕ → Content
content i = get_or contents i a_system

-- columns 1 to 60
abbrev pub layout : Label → List Item
layout version = F 8 ∷ X 12 ∷ A 1 ∷ U 19 ∷ A 3 ∷ U 17 ∷ []
layout description = A 60 ∷ []
layout comment = U 60 ∷ []
layout (head i) = items (content i)
layout system = items a_system
layout exponent = I 6 ∷ X 54 ∷ []
layout aux_start = U 60 ∷ []
layout aux_end = U 60 ∷ []
layout header_end = X 60 ∷ []
layout (start k) = I 6 ∷ X 54 ∷ []
layout (end k) = I 6 ∷ X 54 ∷ []
layout epoch = items an_epoch
layout block = X 2 ∷ F 6 ∷ F 6 ∷ F 6 ∷ F 6 ∷ F 6 ∷ X 28 ∷ []
layout file_end = X 60 ∷ []

-- the 32 known labels, in 01's order: 23 of the header, 9 of the maps
abbrev pub labels : List Label
labels =
    version ∷ head 0 ∷ description ∷ comment ∷ head 1 ∷ head 2 ∷ head 3 ∷ head 4 ∷ head 5 ∷ head 6 ∷ head 7 ∷ head 8 ∷ head 9
    ∷ system ∷ head 10 ∷ head 11 ∷ head 12 ∷ head 13 ∷ head 14 ∷ exponent ∷ aux_start ∷ aux_end ∷ header_end
    ∷ start Tec ∷ end Tec ∷ start Rms ∷ end Rms ∷ start Height ∷ end Height ∷ epoch ∷ block ∷ file_end ∷ []

-- the codes of the version record, the nine of 1.1 and then the two that 1.0 has besides; and the letters of SYS / #STA / #SAT
abbrev pub codes : List (List ℕ)
codes =
    bytes "BEN" ∷ bytes "ENV" ∷ bytes "ERS" ∷ bytes "GEO" ∷ bytes "GNS" ∷ bytes "IRI" ∷ bytes "MIX" ∷ bytes "NNS" ∷ bytes "TOP"
    ∷ bytes "GPS" ∷ bytes "GLO" ∷ []

abbrev pub letters : List ℕ
letters = bytes "GRECJIS"

-- `Rec l vs r`: the row r is the record of the label l that holds the values vs
pub data Rec (l : Label) (vs : Vals (layout l)) : List ℕ → Type 0 where
  rec : {fs : List ℕ} → Fields (layout l) vs fs → Rec l vs (fs ++ name l)
