-- The values that a data block can hold.
use Rattle.std.specs.Prelude.{ℤ, pos, negsuc}
use Rattle.kit.specs.Integer.{Between}

-- what five columns can hold: I5
abbrev pub Value : ℤ → Type 0
Value z = Between (negsuc 9998) (pos 99999) z
