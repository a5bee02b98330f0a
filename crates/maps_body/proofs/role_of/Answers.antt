use native.Mathlib.Omega.{arith}
use Rattle.maps_body.proofs.RoleLaws.{role_unknown, role_at, role_other}
use Rattle.maps_body.proofs.role_of.Goals as goal

pub returns-then-label-ge32 : goal.returns-then-label-ge32
returns-then-label-ge32 c = role_unknown c.args.line.now c.requires _ c.label_of-label.ensures c.if-label-ge32.true

pub returns-in-3 : goal.returns-in-3
returns-in-3 c = role_at c.args.line.now c.requires _ c.label_of-label.ensures 3 c.in-3.is (omega arith)

pub returns-in-19 : goal.returns-in-19
returns-in-19 c = role_at c.args.line.now c.requires _ c.label_of-label.ensures 19 c.in-19.is (omega arith)

pub returns-in-23 : goal.returns-in-23
returns-in-23 c = role_at c.args.line.now c.requires _ c.label_of-label.ensures 23 c.in-23.is (omega arith)

pub returns-in-24 : goal.returns-in-24
returns-in-24 c = role_at c.args.line.now c.requires _ c.label_of-label.ensures 24 c.in-24.is (omega arith)

pub returns-in-25 : goal.returns-in-25
returns-in-25 c = role_at c.args.line.now c.requires _ c.label_of-label.ensures 25 c.in-25.is (omega arith)

pub returns-in-26 : goal.returns-in-26
returns-in-26 c = role_at c.args.line.now c.requires _ c.label_of-label.ensures 26 c.in-26.is (omega arith)

pub returns-in-27 : goal.returns-in-27
returns-in-27 c = role_at c.args.line.now c.requires _ c.label_of-label.ensures 27 c.in-27.is (omega arith)

pub returns-in-28 : goal.returns-in-28
returns-in-28 c = role_at c.args.line.now c.requires _ c.label_of-label.ensures 28 c.in-28.is (omega arith)

pub returns-in-29 : goal.returns-in-29
returns-in-29 c = role_at c.args.line.now c.requires _ c.label_of-label.ensures 29 c.in-29.is (omega arith)

pub returns-in-30 : goal.returns-in-30
returns-in-30 c = role_at c.args.line.now c.requires _ c.label_of-label.ensures 30 c.in-30.is (omega arith)

pub returns-in-31 : goal.returns-in-31
returns-in-31 c = role_at c.args.line.now c.requires _ c.label_of-label.ensures 31 c.in-31.is (omega arith)

pub returns-in_default : goal.returns-in_default
returns-in_default c = role_other c.args.line.now c.requires _ c.label_of-label.ensures (omega arith) (λ e. omega arith) (λ e. omega arith)
