-- `field::words::reserved` meets its contract. Assumes nothing.
use Rattle.std.proofs.Common.{ap, ◌∙◌}
use Rattle.field.specs.own.Code.{is_word}
use Rattle.field.specs.laws.Words.{word-reserved}
use Rattle.field.proofs.words.reserved.Goals as goal

pub returns : goal.returns
returns c = c.is_some.ensures ∙ ap is_word c.operator.ensures ∙ word-reserved _
