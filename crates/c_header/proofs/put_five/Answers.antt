use Rattle.std.proofs.Common.{◌≡◌, length, refl, sym, ◌∙◌, rules, arith}
use lib.Seq.{sets}
use Rattle.c_header.proofs.SetLaws.{sets_five}
use Rattle.c_header.proofs.put_five.Goals as goal

pub returns : goal.returns
returns c =
    let x = c.args.x in
    let o = c.args.out.now in
    let p : length x.program ≡ 20 = search rules in
    let a : length x.agency ≡ 20 = search rules in
    let d : length x.date ≡ 20 = search rules in
    let m : length x.mapping ≡ 4 = search rules in
    let u : length x.observables ≡ 60 = search rules in
    let e : c.copy_at-5.new.out ≡ sets (sets (sets (sets (sets o 0 x.program) 20 x.agency) 40 x.date) 60 x.mapping) 64 x.observables =
    rw (c.copy_at-5.ensures, c.copy_at-4.ensures, c.copy_at-3.ensures, c.copy_at-2.ensures, c.copy_at.ensures) refl in
    e ∙ sets_five x.program x.agency x.date x.mapping x.observables o 20 40 60 64 (sym p) (omega (arith, a)) (omega (arith, d)) (omega (arith, m)) (omega (arith, u, c.requires))
