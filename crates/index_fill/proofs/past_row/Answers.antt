use mir.Syntax.{w32}
use mathlib.Core.Bool.{true, false}
use mathlib.Core.Path.{refl, sym, ap, ◌∙◌}
use native.Mathlib.Omega.{arith}
use mir.Facts.{to_z-of_z}
use Rattle.layout.specs.Layout.{plain, aux}
use Rattle.index.specs.Made.{maps_of}
use Rattle.index_fill.proofs.HeadLaws.{passes_at, passes_other, passes_aux}
use Rattle.index_fill.proofs.past_row.Goals as goal

pub returns-then-aux : goal.returns-then-aux
returns-then-aux c = let s = c.before.before.before in passes_aux s.args.line.now s.requires _ c.label_of-k.ensures s.args.exponent s.args.aux c.if-aux.true _ (to_z-of_z s.ranges.exponent) _ refl

pub returns-in-19 : goal.returns-in-19
returns-in-19 c = let s = c.before.before.before.before.before in passes_at s.args.line.now s.requires _ c.label_of-k.ensures s.args.exponent 19 c.in-19.is (omega arith) s.args.aux c.if-aux.false false false _ (λ ps. ap (λ i. maps_of plain i ps) (sym (to_z-of_z {w = w32} (record { sfits = c.whole_in.type_inv }) ∙ c.whole_in.ensures)))

pub returns-in-20 : goal.returns-in-20
returns-in-20 c = let s = c.before.before.before.before in passes_at s.args.line.now s.requires _ c.label_of-k.ensures s.args.exponent 20 c.in-20.is (omega arith) s.args.aux c.if-aux.false false true _ (λ ps. ap (λ i. maps_of aux i ps) (sym (to_z-of_z s.ranges.exponent)))

pub returns-in-22 : goal.returns-in-22
returns-in-22 c = let s = c.before.before.before.before in passes_at s.args.line.now s.requires _ c.label_of-k.ensures s.args.exponent 22 c.in-22.is (omega arith) s.args.aux c.if-aux.false true false _ (λ ps. ap (λ i. (i, ps)) (sym (to_z-of_z s.ranges.exponent)))

pub returns-in_default : goal.returns-in_default
returns-in_default c = let s = c.before.before.before.before in let r = c.in_default.in_default-own.rest in passes_other s.args.line.now s.requires _ c.label_of-k.ensures s.args.exponent r.0.0.1 r.0.1 r.1 s.args.aux c.if-aux.false _ (to_z-of_z s.ranges.exponent)
