-- `saying::rules::sub` meets its contract. Assumes nothing.
use Rattle.field.specs.own.Known.{fields_in, names_in}
use Rattle.stated.specs.laws.Fields.{rest-count}
use Rattle.saying.specs.laws.Rules.{sub-rule, sub-second}
use Rattle.saying.proofs.rules.sub.Goals as goal

pub read_expr-both-requires : goal.read_expr-both-requires
read_expr-both-requires c = let x = c.args in
    let l = x.fields.now.looked in
    sub-second (names_in x.known.now) (fields_in x.fields.now) x.from _ _ _ (rest-count x.from l c.saturating_sub-left.ensures) (rw c.blank-nodes.ensures at c.read_expr-first.ensures) c.requires.1 _ (rest-count _ l c.saturating_sub-rest.ensures)

pub returns : goal.returns
returns c = let x = c.args in
    let l = x.fields.now.looked in
    sub-rule (names_in x.known.now) (fields_in x.fields.now) x.from _ _ _ (rest-count x.from l c.saturating_sub-left.ensures) (rw c.blank-nodes.ensures at c.read_expr-first.ensures) c.requires.1 _ (rest-count _ l c.saturating_sub-rest.ensures) _ _ c.read_expr-both.ensures
