-- `field::words::form` meets its contract. Assumes nothing.
use Rattle.std.proofs.Common.{sym, ap, ◌∙◌, arith}
use Rattle.text.specs.Split.{fields}
use Rattle.field.specs.Words.{is_rule, line_form, rule_form}
use Rattle.field.specs.laws.Words.{fields-some, form-line, form-rule, form-bare}
use Rattle.field.proofs.words.form.Goals as goal

pub field-w-requires : goal.field-w-requires
field-w-requires c = let p = c.args.fields.now.looked in
    let s = fields-some c.args.fields.now.line.now in
    record { 0 = p.ended; 1 = s; 2 = omega (arith, p.count, s) }

pub field-requires : goal.field-requires
field-requires c = let p = c.args.fields.now.looked in
    record { 0 = p.ended; 1 = omega (arith, p.count, c.if-fields-gt1.true); 2 = c.if-fields-gt1.true }

pub returns-then-fields-gt1 : goal.returns-then-fields-gt1
returns-then-fields-gt1 c = let w = c.field-w.ensures in
    c.rule_form.ensures ∙ ap rule_form c.field.ensures
    ∙ form-rule (fields c.args.fields.now.line.now) (omega (arith, c.args.fields.now.looked.count, c.if-fields-gt1.true)) (ap is_rule (sym w) ∙ sym c.is_rule.ensures ∙ c.if-is_rule.true)

pub returns-then-is_rule : goal.returns-then-is_rule
returns-then-is_rule c = let w = c.field-w.ensures in
    form-bare (fields c.args.fields.now.line.now) (fields-some c.args.fields.now.line.now) (omega (arith, c.args.fields.now.looked.count, c.if-fields-gt1.false)) (ap is_rule (sym w) ∙ sym c.is_rule.ensures ∙ c.if-is_rule.true)

pub returns : goal.returns
returns c = let w = c.field-w.ensures in
    c.line_form.ensures ∙ ap line_form w ∙ form-line (fields c.args.fields.now.line.now) (fields-some c.args.fields.now.line.now) (ap is_rule (sym w) ∙ sym c.is_rule.ensures ∙ c.if-is_rule.false)
