use Rattle.std.proofs.Common.{◌≡◌, length, ap, ◌∙◌, rules, arith, length-append}
use lib.Seq.{sets}
use Rattle.c_header.specs.Numbers.{five_bytes}
use Rattle.c_header.proofs.SetLaws.{front_six}
use Rattle.c_header.proofs.put_texts.Goals as goal

pub returns : goal.returns
returns c =
    let x = c.args.x in
    let l = c.args.descriptions.now in
    let p : length x.program ≡ 20 = search rules in
    let a : length x.agency ≡ 20 = search rules in
    let d : length x.date ≡ 20 = search rules in
    let m : length x.mapping ≡ 4 = search rules in
    let u : length x.observables ≡ 60 = search rules in
    let n : 124 ≡ length (five_bytes x) = simp length-append (omega (arith, p, a, d, m, u)) in
    c.copy_at.ensures ∙ ap (λ o. sets o 124 l) c.put_five.ensures
    ∙ front_six x.program x.agency x.date x.mapping x.observables l c.args.out.now 124 n (omega (arith, c.requires.0, c.requires.1))
