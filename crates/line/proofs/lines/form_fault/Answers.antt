-- `line::lines::form_fault` meets its contract. Assumes nothing.
use Rattle.std.proofs.Common.{sym, ap, ◌∙◌}
use Rattle.line.specs.Fault.{ended, unknown}
use Rattle.field.specs.Words.{section_of}
use Rattle.line.specs.laws.Fault.{form-fields, known-body}
use Rattle.line.proofs.lines.form_fault.Goals as goal

pub returns : goal.returns
returns c = let s = c.section-s.ensures ∙ ap section_of c.form-f.ensures in
    let u = sym (c.unknown.ensures ∙ ap unknown s) ∙ c.if-unknown.false in
    c.fields_fault.ensures
    ∙ rw (c.form-f.ensures, known-body _ u)
    (form-fields _ _ _ _ u (sym (c.ended.ensures ∙ ap (ended c.args.m) s) ∙ c.if-ended.false))
