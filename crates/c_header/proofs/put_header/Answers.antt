use Rattle.std.proofs.Common.{◌≡◌, refl, rules, w32, w64, Fits, arith}
use lib.Seq.{sets}
use Rattle.std.proofs.lemmas.Int.{to_z_pos}
use Rattle.c_header.specs.Numbers.{first_numbers, grid_numbers, starred_numbers, numbers}
use Rattle.c_header.proofs.SetLaws.{sets_front}
use Rattle.c_header.proofs.put_header.Goals as goal

pub returns : goal.returns
returns c =
    let a = c.args in
    let n : Fits w32 a.h.descriptions = search rules in
    let e : c.put_starred.new.out ≡ sets (sets (sets a.out.now 0 (first_numbers a.h)) 10 (grid_numbers a.h.grid)) 19 (starred_numbers a.h) = rw (c.put_starred.ensures, c.put_grid.ensures, c.put_first.ensures) refl in
    rw (e, to_z_pos w64 a.h.descriptions (omega (arith, n))) (sets_front (numbers a.h) a.out.now c.requires.0)
