-- `sheet::pass::rule_in` meets its contract. Assumes nothing.
use Rattle.std.proofs.Common.{arith, sym, ◌∙◌}
use Rattle.sheet.specs.laws.Pass.{rule-body}
use Rattle.sheet.proofs.pass.rule_in.Goals as goal

pub rule_of-requires : goal.rule_of-requires
rule_of-requires c = let f = sym c.form.ensures ∙ c.in-Rule.is in
    (omega arith, rw (rule-body _ _ f) (c.requires _ f))

pub returns-in-Rule : goal.returns-in-Rule
returns-in-Rule c = let f = sym c.form.ensures ∙ c.in-Rule.is in
    rw (f, c.rule_of.ensures, rule-body _ _ f)
