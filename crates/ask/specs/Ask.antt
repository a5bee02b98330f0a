-- 01, 'The value at a place and second': what is asked, and what is answered.
use Rattle.std.specs.Prelude.{◌≡◌, List, ℕ, ◌<◌, ℤ, take, Result, Ok, Err}
use Rattle.kit.specs.Range.{Within}
use Rattle.mapset.specs.Grid.{layers, rows, columns}
use Rattle.mapset.specs.Areas.{Areas, Sound}
use Rattle.mapset.specs.declared.Kind.{Kind}
use Rattle.mapset.specs.declared.Kind.TheVariants.{Tec as tec, Rms as rms, Height as height}
use Rattle.mapset.specs.declared.Header.{Header}
use Rattle.mapset.specs.Described.{FullTexts}
use Rattle.ask_cells.specs.Place.{InCell100}
use Rattle.ask_spans.specs.Time.{Uses}
use Rattle.ask_nodes.specs.Value.{kind_of}
use Rattle.ask.specs.Sun.{in_time, Cells, Serves}
use Rattle.ask_sums.specs.Mean.{Term, Valued, Mean, spread, terms}
use Rattle.ask_cells.specs.declared.Cell.{Cell}
use Rattle.ask_spans.specs.declared.Shares.{Shares}
use Rattle.ask_nodes.specs.declared.Weighed.{Weighed}
use Rattle.ask_nodes.specs.declared.Shape.{Shape}
use Rattle.ask.specs.declared.Why.{Why}
use Rattle.ask.specs.declared.Why.TheVariants as W
use Rattle.ask_nodes.specs.declared.Value.{Value}
use Rattle.ask_nodes.specs.declared.Value.TheVariants as V

-- a map set, and what is asked of it: place in hundredths of a degree, time in whole seconds from 1900, a layer counted from 0
pub record Question : Type 0 where
  pub header : Header
  pub texts : FullTexts
  pub areas : Areas
  pub kind : ℕ
  pub method : ℕ
  pub layer : ℕ
  pub lat : ℤ
  pub lon : ℤ
  pub second : ℕ

-- thousandths of a TECU or of a kilometre, or 01's number of a refusal
pub data Told : Type 0 where
  tecu km : ℤ → Told
  refused : ℕ → Told

-- TEC and RMS in TECU, heights in kilometres
abbrev pub in_unit : Kind → ℤ → Told
in_unit tec v = tecu v
in_unit rms v = tecu v
in_unit height v = km v

-- the answer is number n where P does not hold, and R's where it does
pub data Guard (P : Type 0) (n : ℕ) (R : Told → Type 0) : Told → Type 0 where
  stop : ¬ P → Guard P n R (refused n)
  go : {a : Told} → P → R a → Guard P n R a

-- kind 0 TEC, 1 RMS, 2 height; method 0 nearest, 1 formula (2), 2 formula (3), 3 nearest and moved
abbrev pub Known : Question → Type 0
Known q = (q.kind < 3) × (q.method < 4)

-- the epochs of the maps
abbrev pub epochs : Question → List ℕ
epochs q = take q.header.times.maps q.areas.epochs

-- the maps can be turned where the method asks for it
abbrev pub Served : Question → Type 0
Served q = Serves q.method q.header.grid.longitudes (epochs q)

-- from the first epoch to the last
abbrev pub InTime : Question → Type 0
InTime q = Within q.header.times.first q.header.times.last q.second

-- the layer and the place are in the grid
pub record Inside (q : Question) : Type 0 where
  pub layer : q.layer < layers q.header.grid
  pub cell : Cell
  pub place : InCell100 q.header.grid q.lat q.lon cell

-- the nodes with their weights; each map has a cell of its own
pub record Weighs (q : Question) (ns : List Weighed) : Type 0 where
  pub shares : Shares
  pub uses : Uses (epochs q) q.second (in_time q.method) shares
  pub first : Cell
  pub second : Cell
  pub cells : Cells q.method q.header.grid q.lat q.lon q.second (epochs q) shares first second
  pub nodes : ns ≡ spread shares first second

-- the values of a kind
abbrev pub of_kind : Kind → List ℤ → List ℤ → List ℤ → List ℤ
of_kind tec t r h = t
of_kind rms t r h = r
of_kind height t r h = h

abbrev pub area : Kind → Areas → List ℤ
area k a = of_kind k a.tec a.rms a.height

-- how the areas of a question are laid out
abbrev pub layout : Header → ℕ → ℕ → Shape
layout h kind layer =
    record { kind = kind; layer = layer; maps = h.times.maps; layers = layers h.grid; rows = rows h.grid; columns = columns h.grid }

abbrev pub shape : Question → Shape
shape q = layout q.header q.kind q.layer

-- the nodes' weights and values
abbrev pub asked : Question → List Weighed → List Term
asked q ns = terms (shape q) (area (kind_of q.kind) q.areas) q.areas.exponents q.areas.marks ns

-- the mean of needed nodes that all have a value, in the kind's unit
abbrev pub Rounded : Kind → List Term → Told → Type 0
Rounded k ts a = (v : ℤ) × (Mean ts v × (a ≡ in_unit k v))

-- 22 where a needed node has no value, else the mean
abbrev pub Blended : Question → Told → Type 0
Blended q a = (ns : List Weighed) × (Weighs q ns × Guard (Valued (asked q ns)) 22 (Rounded (kind_of q.kind) (asked q ns)) a)

-- the refusals of a place and second in their order, then the value
abbrev pub Placed : Question → Told → Type 0
Placed q =
    Guard (InTime q) 20
    (Guard (Inside q) 21
    (Blended q))

-- before them those of the set, the kind and the method
abbrev pub Answers : Question → Told → Type 0
Answers q =
    Guard (Known q) 23
    (Guard (Sound q.header q.texts q.areas) 31
    (Guard (Served q) 24
    (Placed q)))

-- ---- what no layer, place or second changes
-- 23, 31 or 24 is due
pub data Barred (q : Question) : ℕ → Type 0 where
  unknown : ¬ Known q → Barred q 23
  unsound : Known q → ¬ Sound q.header q.texts q.areas → Barred q 31
  unserved : Known q → Sound q.header q.texts q.areas → ¬ Served q → Barred q 24

-- none of the three is
pub record Open (q : Question) : Type 0 where
  pub known : Known q
  pub sound : Sound q.header q.texts q.areas
  pub served : Served q

-- ---- what the code's answer tells
-- 01's number of each reason, and the answer's value
abbrev pub number : Why → ℕ
number W.Unknown = 23
number W.Unsound = 31
number W.Unserved = 24
number W.OutOfTime = 20
number W.OutOfPlace = 21
number W.NoValue = 22

-- 0 for a value, or 01's number
abbrev pub told_number : Told → ℕ
told_number (tecu v) = 0
told_number (km v) = 0
told_number (refused n) = n

-- a value in its unit, or why there is none
abbrev pub Asked : Type 0
Asked = Result Value Why

abbrev pub told : Asked → Told
told (Ok (V.Tecu v)) = tecu v.0
told (Ok (V.Km v)) = km v.0
told (Err w) = refused (number w)

abbrev pub question : Header → FullTexts → Areas → ℕ → ℕ → ℕ → ℤ → ℤ → ℕ → Question
question header texts areas kind method layer lat lon second =
    record { header = header; texts = texts; areas = areas; kind = kind; method = method; layer = layer; lat = lat; lon = lon; second = second }
