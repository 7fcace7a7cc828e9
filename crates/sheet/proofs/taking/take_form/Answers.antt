-- `sheet::taking::take_form` meets its contract. Assumes nothing.
use Rattle.sheet.specs.laws.Taken.{concept-declared, concept-room, concept-taken, item-declared, item-most, item-place, item_room, item-taken, line-near, role-declared, role-room, role-taken, rule-room, rule-taken, other-taken}
use Rattle.std.proofs.Common.{sym, ◌∙◌, arith}
use Rattle.line.specs.Fault.{begun}
use Rattle.sheet.specs.laws.Stands.{stands-fits, stopped-zero}
use Rattle.sheet.proofs.taking.take_form.Goals as goal

pub declare-requires : goal.declare-requires
declare-requires c = let q = c.requires.0.takes in
    let s = c.requires.1 in
    let f = c.form.ensures in
    let e = c.in-Concept.is in
    (omega (arith, concept-room q s _ f e, q.stands.tidy.long), omega (arith, concept-room q s _ f e), concept-declared q s _ f e, line-near q, omega arith)

pub declare-requires-in-Role : goal.declare-requires-in-Role
declare-requires-in-Role c = let q = c.requires.0.takes in
    let s = c.requires.1 in
    let f = c.form.ensures in
    let e = c.in-Role.is in
    (omega (arith, role-room q s _ f e, q.stands.tidy.long), omega (arith, role-room q s _ f e), role-declared q s _ f e, line-near q, omega arith)

pub declare-requires-in-Item : goal.declare-requires-in-Item
declare-requires-in-Item c = let q = c.requires.0.takes in
    let s = c.requires.1 in
    let f = c.form.ensures in
    let e = c.in-Item.is in
    (omega (arith, item_room q s _ f e, item-place q s _ f e), omega (arith, item_room q s _ f e, item-most q s _ f e c.requires.2.wide), item-declared q s _ f e, line-near q, omega arith)

pub take_rule-requires : goal.take_rule-requires
take_rule-requires c = (stopped-zero _ (begun c.args.k.marks) _ _ c.requires.0.takes.stands.store, stands-fits c.requires.0.takes.stands, rule-room c.requires.0.takes c.requires.1 _ c.form.ensures _ c.in-Rule.is, c.requires.2)

pub returns-in-Concept : goal.returns-in-Concept
returns-in-Concept c = λ sheet tk. concept-taken tk c.requires.1 _ c.form.ensures c.in-Concept.is _ _ c.args.fields.now.looked c.declare.ensures

pub returns-in-Role : goal.returns-in-Role
returns-in-Role c = λ sheet tk. role-taken tk c.requires.1 _ c.form.ensures c.in-Role.is _ _ c.args.fields.now.looked c.declare-in-Role.ensures

pub returns-in-Item : goal.returns-in-Item
returns-in-Item c = λ sheet tk. item-taken tk c.requires.1 _ c.form.ensures c.in-Item.is c.requires.2.wide _ _ c.args.fields.now.looked c.declare-in-Item.ensures

pub returns-in-Rule : goal.returns-in-Rule
returns-in-Rule c = λ sheet tk. rw c.take_rule.ensures.0 (rule-taken tk c.requires.1 _ c.form.ensures _ c.in-Rule.is c.take_rule.ensures.1)

pub returns-in_default : goal.returns-in_default
returns-in_default c = λ sheet tk.
    let d = c.in_default in
    other-taken tk c.requires.1 _ c.form.ensures d.not-Concept d.not-Role d.not-Item d.not-Rule (λ w e. c.requires.0.other w (sym c.form.ensures ∙ e))
