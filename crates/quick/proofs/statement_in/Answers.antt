-- `quick::statement_in` meets its contract. Assumes nothing.
use Rattle.std.proofs.Common.{sym, ap, ◌∙◌, not, ◌≡◌, length, rules}
use Rattle.quick.specs.laws.Quick.{finds-same, plain-bytes, plain-long, plain-some, plainly}
use Rattle.quick.proofs.statement_in.Goals as goal
use Rattle.quick.proofs.statement_in.Goals.{then-is_empty-via-then-is_empty, then-is_empty-via-else-is_empty+then-line-gt-LINE, then-is_empty-via-else-is_empty+else-line-gt-LINE+then-not-good}

pub returns-then-is_empty : goal.returns-then-is_empty
returns-then-is_empty c = λ z.
    elim c.then-is_empty.branch [
      | then-is_empty-via-then-is_empty w ↦ (let e : length c.args.line.now ≡ 0 = search rules in plain-some e)
      | then-is_empty-via-else-is_empty+then-line-gt-LINE w ↦ plain-long w.if-line-gt-LINE.true
      | then-is_empty-via-else-is_empty+else-line-gt-LINE+then-not-good w ↦ plain-bytes w.if-line-gt-LINE.false (ap not (sym c.requires.0 ∙ w.if-not-good.true))
    ]

pub returns : goal.returns
returns c =
    finds-same _ (λ z d. plainly _ _ _ _ c.args.known.now.tidy.proper d c.if-line-gt-LINE.false (ap not (sym c.requires.0 ∙ c.if-not-good.false))) (λ z p. p.stated) c.stated.ensures
