-- `field::names::entry_is` meets its contract. Assumes nothing.
use Rattle.std.proofs.Common.{sym, ap, ◌∙◌, true≢false, eq-eqb, ne_eqb}
use Rattle.text.specs.Bytes.{same}
use Rattle.field.specs.laws.Tag.{tagged-other, tagged-same}
use Rattle.field.proofs.names.entry_is.Goals as goal

pub returns-then-p-key : goal.returns-then-p-key
returns-then-p-key c = c.same-then-p-key.ensures ∙ ap (same c.args.w.now) c.pointed.ensures ∙ tagged-same _ c.args.w.now _ (c.if-p-key.true ∙ c.requires) (λ e. true≢false (sym (eq-eqb _ _ e) ∙ sym c.is_empty.ensures ∙ c.if-is_empty.false))

pub returns-else-p-key : goal.returns-else-p-key
returns-else-p-key c = rw (ne_eqb _ _ c.if-p-key.false) (sym (tagged-other _ c.args.w.now _ (λ q. c.if-p-key.false (q ∙ sym c.requires)) (λ e. true≢false (sym (eq-eqb _ _ e) ∙ sym c.is_empty.ensures ∙ c.if-is_empty.false))))
