-- The rules of the header, of the grid and of the epochs are decided.
use Rattle.std.specs.Prelude.{ℕ, ◌+◌, ◌*◌, ◌%◌, ℤ, pos, negsuc, nat_abs, ◌-ℤ◌}
use Rattle.std.proofs.Math.Decide.{ℕ_discrete, dec_le, dec_lt}
use Rattle.kit.specs.Answer.{×_dec, ⊎_dec, ¬_dec}
use Rattle.kit.specs.Integer.{int?, le?, lt?, between?}
use Rattle.mapset.specs.Grid.{Line, heights, latitudes, longitudes, End, Step, Multiple, Together, layers, rows, columns, Limits}
use Rattle.mapset.specs.Header.{TakesCode, Dimension}
use Rattle.mapset.specs.Areas.{Follows}
use Rattle.mapset.specs.declared.Axis.{Axis}
use Rattle.mapset.specs.declared.Grid.{Grid}

unfoldable pub ×₃_dec : {P Q R : Type 0} → Dec P → Dec Q → Dec R → Dec (P × Q × R)
×₃_dec {P} {Q} {R} p q r = go (×_dec p (×_dec q r))
  where
    go : Dec (P × (Q × R)) → Dec (P × Q × R)
    go (yes h) = yes (h.0, h.1.0, h.1.1)
    go (no n) = no (λ h. n (h.0, (h.1, h.2)))

unfoldable pub ×₄_dec : {P Q R S : Type 0} → Dec P → Dec Q → Dec R → Dec S → Dec (P × Q × R × S)
×₄_dec {P} {Q} {R} {S} p q r s = go (×_dec p (×₃_dec q r s))
  where
    go : Dec (P × (Q × R × S)) → Dec (P × Q × R × S)
    go (yes h) = yes (h.0, h.1.0, h.1.1, h.1.2)
    go (no n) = no (λ h. n (h.0, (h.1, h.2, h.3)))

unfoldable pub end? : (l : Line) (x : ℤ) → Dec (End l x)
end? heights x = between? (pos 0) (pos 99999) x
end? latitudes x = between? (negsuc 899) (pos 900) x
end? longitudes x = between? (negsuc 1799) (pos 3600) x

unfoldable pub step? : (l : Line) (d : ℤ) → Dec (Step l d)
step? heights d = between? (pos 0) (pos 99999) d
step? latitudes d = ×_dec (dec_lt 0 (nat_abs d)) (dec_le (nat_abs d) 150)
step? longitudes d = between? (pos 1) (pos 150) d

unfoldable pub multiple? : (d x : ℤ) → Dec (Multiple d x)
multiple? d x = ℕ_discrete (nat_abs x % nat_abs d) 0

unfoldable pub together? : (l : Line) (a : Axis) → Dec (Together l a)
together? heights a =
    ⊎_dec (×_dec (int? a.step (pos 0)) (int? a.first a.last)) (×_dec (lt? a.first a.last) (multiple? a.step (a.last -ℤ a.first)))
together? latitudes a =
    ×₃_dec (multiple? a.step a.first) (multiple? a.step a.last)
    (⊎_dec (×_dec (lt? (pos 0) a.step) (le? a.first a.last)) (×_dec (lt? a.step (pos 0)) (le? a.last a.first)))
together? longitudes a =
    ×₃_dec (multiple? a.step a.first) (multiple? a.step a.last) (between? (pos 0) (pos 3600) (a.last -ℤ a.first))

unfoldable pub limits? : (n : ℕ) (g : Grid) → Dec (Limits n g)
limits? n g =
    ×₄_dec (dec_le (rows g) 361) (dec_le (columns g) 721) (dec_le (layers g) 64) (dec_le (n * layers g * rows g * columns g) 2000000)

abbrev pub takes_code? : (tenths code : ℕ) → Dec (TakesCode tenths code)
takes_code? tenths code = ⊎_dec (dec_lt code 9) (×_dec (ℕ_discrete tenths 10) (dec_lt code 11))

unfoldable pub dimension? : (d : ℕ) (a : Axis) → Dec (Dimension d a)
dimension? d a = ⊎_dec (×_dec (ℕ_discrete d 2) (int? a.step (pos 0))) (×_dec (ℕ_discrete d 3) (¬_dec (int? a.step (pos 0))))

unfoldable pub follows? : (interval before e : ℕ) → Dec (Follows interval before e)
follows? interval before e = ×_dec (×_dec (dec_lt before e) (dec_le e (before + 21600))) (⊎_dec (ℕ_discrete interval 0) (ℕ_discrete e (before + interval)))
