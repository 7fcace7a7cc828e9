-- `quick::named` meets its contract. Assumes nothing.
use Rattle.std.proofs.Common.{◌∙◌, arith}
use Rattle.quick.specs.laws.Quick.{all_named, named-within, other-count}
use Rattle.quick.proofs.named.Goals as goal

pub returns-then-fields-field_count : goal.returns-then-fields-field_count
returns-then-fields-field_count c = other-count _ c.args.fields.now.looked (λ e. omega (arith, e, c.if-fields-field_count.true, c.field_count.ensures))

pub returns-then-within : goal.returns-then-within
returns-then-within c =
    all_named c.args.known.now.tidy _ c.args.fields.now.looked (c.if-fields-field_count.false ∙ c.field_count.ensures) c.statement-statement.ensures (c.within.ensures.holds c.if-within.true)

pub returns-else-within : goal.returns-else-within
returns-else-within c = λ z d. c.within.ensures.fails c.if-within.false (named-within c.args.known.now.tidy _ c.statement-statement.ensures d)
