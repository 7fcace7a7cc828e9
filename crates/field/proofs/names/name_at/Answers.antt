-- `field::names::name_at` meets its contract. Assumes nothing.
use Rattle.std.proofs.Common.{sym, ap, ◌∙◌}
use Rattle.field.specs.own.Table.{tag_of}
use Rattle.field.specs.laws.Tag.{tagged-own, tagged-none}
use Rattle.field.proofs.names.name_at.Goals as goal

pub returns-then-tag-p : goal.returns-then-tag-p
returns-then-tag-p c = let f = c.pointed-f.ensures in
    f ∙ sym (tagged-own _ _ (ap tag_of (sym f) ∙ sym c.tag.ensures.0 ∙ c.if-tag-p.true))

pub returns-else-tag-p : goal.returns-else-tag-p
returns-else-tag-p c = let f = c.pointed-f.ensures in
    sym (tagged-none _ _ (λ e. c.if-tag-p.false (c.tag.ensures.0 ∙ ap tag_of f ∙ e)))
