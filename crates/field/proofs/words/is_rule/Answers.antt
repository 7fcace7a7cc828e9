-- `field::words::is_rule` meets its contract. Assumes nothing.
use Rattle.field.specs.laws.Words.{rule-is}
use Rattle.field.proofs.words.is_rule.Goals as goal

pub returns : goal.returns
returns c = rule-is c.args.f.now _ (λ i. (c.type_inv.f i).fits) c.code.ensures
