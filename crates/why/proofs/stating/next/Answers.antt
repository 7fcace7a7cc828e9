-- `why::stating::next` meets its contract: no line from the first place to this one is that of a statement. Assumes nothing.
use Rattle.std.proofs.Common.{ℕ, arith, min, refl, sym, ap, ◌≡◌, ◌-◌, ◌∙◌}
use Rattle.reader.specs.own.Scan.{line_at}
use Rattle.text.specs.own.Split.{part_of}
use Rattle.text.specs.laws.Split.{end_ge, end-le}
use Rattle.field.specs.laws.Looked.{looked}
use Rattle.why.specs.declared.StatementLine.{StatementLine}
use Rattle.why.specs.laws.Stating.{passing-end, passing-on, passing-past, passing-short, passing-statement}
use Rattle.why.proofs.stating.next.Goals as goal

pub slice_bounds-fields-count : goal.slice_bounds-fields-count
slice_bounds-fields-count c = omega (arith, c.look_from-s.ensures.end, end_ge 10 c.args.known.now.sheet.now c.loop-at.at)

pub slice_bounds-fields-start : goal.slice_bounds-fields-start
slice_bounds-fields-start c = omega (arith, c.look_from-s.ensures.end, end_ge 10 c.args.known.now.sheet.now c.loop-at.at)

pub slice_bounds-fields-end : goal.slice_bounds-fields-end
slice_bounds-fields-end c = omega (arith, c.look_from-s.ensures.end, end-le 10 c.args.known.now.sheet.now c.loop-at.at (omega arith))

pub invariant_of-fields : goal.invariant_of-fields
invariant_of-fields c = let few = passing-short (c.loop-at.invariant.0 _ _ c.requires.passing) c.look_from-s.result.end (line_at c.args.known.now.sheet.now c.loop-at.at) (omega arith) c.look_from-s.ensures.end refl in
    record { looked = rw c.look_from-s.ensures.end (looked c.look_from-s.ensures _ (c.min-n.ensures ∙ ap (min c.look_from-s.result.count) (sym c.loop-at.invariant.2)) (omega (arith, few, c.loop-at.invariant.2))) }

pub returns-in-Some : goal.returns-in-Some
returns-in-Some c = let is = ap (λ (e : ℕ). part_of c.args.known.now.sheet.now c.loop-at.at (e - c.loop-at.at)) c.look_from-s.ensures.end in
    let line = rw c.in-Some.is at c.statement_in.ensures in
    let past = passing-past (c.loop-at.invariant.0 _ _ c.requires.passing) _ _ (omega arith) c.look_from-s.ensures.end is _ line in
    record {
      statement = λ x done p. passing-statement (c.loop-at.invariant.0 x done p) _ _ (omega arith) c.look_from-s.ensures.end is _ line;
      later = λ q e. let h : c.in-Some.q ≡ q = cc in omega (arith, ap (λ (r : StatementLine). r.past) h, past, c.look_from-s.ensures.end, end_ge 10 c.args.known.now.sheet.now c.loop-at.at, c.loop-at.invariant.1);
    }

pub overflow_add-line : goal.overflow_add-line
overflow_add-line c = let p = c.loop-at.invariant.0 _ _ c.requires.passing in omega (arith, p.near, p.inside, p.short)

pub loop-at-smaller : goal.loop-at-smaller
loop-at-smaller c = omega (arith, c.look_from-s.ensures.end, end_ge 10 c.args.known.now.sheet.now c.loop-at.at, c.loop-at-test.true)

pub loop-at-preserved : goal.loop-at-preserved
loop-at-preserved c = let is = ap (λ (e : ℕ). part_of c.args.known.now.sheet.now c.loop-at.at (e - c.loop-at.at)) c.look_from-s.ensures.end in (
  (λ x done p. passing-on (c.loop-at.invariant.0 x done p) _ _ (omega arith) c.look_from-s.ensures.end is (rw c.in_default.is at c.statement_in.ensures)),
  omega (arith, c.look_from-s.ensures.end, end_ge 10 c.args.known.now.sheet.now c.loop-at.at, c.loop-at.invariant.1),
  c.look_from-s.auto.ends ∙ c.loop-at.invariant.2,
)

pub returns : goal.returns
returns c = record { statement = λ x done p. passing-end (c.loop-at.invariant.0 x done p) (omega arith); later = λ q e. absurd (cc) }
