use native.Mathlib.Omega.{arith}
use Rattle.read_events.proofs.RowLaws.{takes_at, takes_none}
use Rattle.read_events.proofs.brought_by.Goals as goal

pub returns-in-19 : goal.returns-in-19
returns-in-19 c = takes_at _ c.requires.0 _ c.label_of.ensures c.args.s 19 c.in-19.is (omega arith) c.with_exponent.result.event c.with_exponent.result.state c.with_exponent.ensures

pub returns-in-23 : goal.returns-in-23
returns-in-23 c = takes_at _ c.requires.0 _ c.label_of.ensures c.args.s 23 c.in-23.is (omega arith) c.start_tec.result.event c.start_tec.result.state c.start_tec.ensures

pub returns-in-25 : goal.returns-in-25
returns-in-25 c = takes_at _ c.requires.0 _ c.label_of.ensures c.args.s 25 c.in-25.is (omega arith) c.start_other.result.event c.start_other.result.state c.start_other.ensures

pub returns-in-27 : goal.returns-in-27
returns-in-27 c = takes_at _ c.requires.0 _ c.label_of.ensures c.args.s 27 c.in-27.is (omega arith) c.start_other-in-27.result.event c.start_other-in-27.result.state c.start_other-in-27.ensures

pub returns-in-29 : goal.returns-in-29
returns-in-29 c = takes_at _ c.requires.0 _ c.label_of.ensures c.args.s 29 c.in-29.is (omega arith) c.with_epoch.result.event c.with_epoch.result.state c.with_epoch.ensures

pub returns-in-30 : goal.returns-in-30
returns-in-30 c = takes_at _ c.requires.0 _ c.label_of.ensures c.args.s 30 c.in-30.is (omega arith) c.one_block.result.event c.one_block.result.state c.one_block.ensures

pub returns-in_default : goal.returns-in_default
returns-in_default c = rw (c.nothing.ensures.0, c.nothing.ensures.1) (takes_none _ c.requires.0 _ c.label_of.ensures c.args.s (λ e. omega arith) (λ e. omega arith) (λ e. omega arith) (λ e. omega arith) (λ e. omega arith) (λ e. omega arith))
