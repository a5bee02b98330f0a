use mathlib.Core.Path.{sym, ◌∙◌}
use Rattle.layout.specs.Labels.{name}
use Rattle.layout.specs.Names.{names}
use Rattle.labels.proofs.Laws.{opens_block, says_comment, says_exponent}
use Rattle.labels.proofs.frequent.Goals as goal

pub returns-then-has_whole : goal.returns-then-has_whole
unfolding names name
returns-then-has_whole c = opens_block _ (sym c.has_whole.ensures ∙ c.if-has_whole.true)

pub returns-then-has_label : goal.returns-then-has_label
unfolding names name
returns-then-has_label c = says_comment _ (sym c.has_label.ensures ∙ c.if-has_label.true)

pub returns-then-has_label-2 : goal.returns-then-has_label-2
unfolding names name
returns-then-has_label-2 c = says_exponent _ (sym c.has_label-then-first-eq69.ensures ∙ c.if-has_label-2.true)
