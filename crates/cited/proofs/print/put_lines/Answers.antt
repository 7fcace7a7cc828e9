-- `cited::print::put_lines` meets its contract. Assumes nothing.
use Rattle.std.proofs.Common.{Bool, List, false, ◌≡◌, ◌+◌, ◌-◌, ◌∙◌, ap, arith, cond, min, refl, sym, zero-le, ℕ}
use Rattle.row.specs.own.Row.{row_hasb}
use Rattle.reader.specs.own.Scan.{line_at}
use Rattle.text.specs.own.Split.{end_of, part_of}
use Rattle.text.specs.laws.Split.{end_ge, end-le}
use Rattle.field.specs.laws.Looked.{looked}
use Rattle.cited.specs.laws.Writing.{one_at_most, part_length, room-grows, sheet-short, standing-start, written-end, written-few, written_next, written-short, written_start}
use Rattle.cited.proofs.print.put_lines.Goals as goal

-- the line at a place, by its end
line-is : (sheet : List ℕ) (at : ℕ) {e : ℕ} → e ≡ end_of 10 sheet at → part_of sheet at (e - at) ≡ line_at sheet at
line-is sheet at h = ap (λ (i : ℕ). part_of sheet at (i - at)) h

pub overflow_add-at : goal.overflow_add-at
overflow_add-at c = omega (arith, c.end_of-at.ensures, end-le 10 c.args.sheet.now 0 zero-le, sheet-short c.requires)

pub loop-at-init : goal.loop-at-init
loop-at-init c = ((λ W x o. written_start (standing-start W c.args.sheet.now x _ c.end_of-at.ensures o)), omega arith, omega arith, omega arith, omega arith, omega (arith, c.end_of-at.ensures, end-le 10 c.args.sheet.now 0 zero-le), refl, refl)

pub look_from-s-requires : goal.look_from-s-requires
look_from-s-requires c = (omega arith, omega (arith, sheet-short c.requires))

pub slice_bounds-fields-count : goal.slice_bounds-fields-count
slice_bounds-fields-count c = omega (arith, c.look_from-s.ensures.end, end_ge 10 c.args.sheet.now c.loop-at.at)

pub slice_bounds-fields-start : goal.slice_bounds-fields-start
slice_bounds-fields-start c = omega (arith, c.look_from-s.ensures.end, end_ge 10 c.args.sheet.now c.loop-at.at)

pub slice_bounds-fields-end : goal.slice_bounds-fields-end
slice_bounds-fields-end c = omega (arith, c.look_from-s.ensures.end, end-le 10 c.args.sheet.now c.loop-at.at (omega arith))

pub invariant_of-fields : goal.invariant_of-fields
invariant_of-fields c = let few = written-short (c.loop-at.invariant.0 c.requires.width c.requires.said c.requires.ends) c.look_from-s.result.end (line_at c.args.sheet.now c.loop-at.at) (omega (arith, c.loop-at-test.true)) c.look_from-s.ensures.end refl in
    record { looked = rw c.look_from-s.ensures.end (looked c.look_from-s.ensures _ (c.min-k.ensures ∙ ap (min c.look_from-s.result.count) (sym c.loop-at.invariant.7)) (omega (arith, few, c.loop-at.invariant.7))) }

pub marked_if-on-requires : goal.marked_if-on-requires
marked_if-on-requires c = λ e. omega (arith, c.requires.few, written-few (c.loop-at.invariant.0 c.requires.width c.requires.said c.requires.ends) _ _ (omega (arith, c.loop-at-test.true)) c.look_from-s.ensures.end (line-is c.args.sheet.now c.loop-at.at c.look_from-s.ensures.end) (sym c.is_statement-stated.ensures ∙ e))

pub put_line_if-p-requires : goal.put_line_if-p-requires
put_line_if-p-requires c = (omega (arith, c.loop-at.invariant.2, c.loop-at.invariant.5, sheet-short c.requires), omega (arith, c.loop-at.invariant.3, c.loop-at.invariant.5, sheet-short c.requires), omega (arith, part_length c.args.sheet.now c.loop-at.at c.look_from-s.result.end, c.look_from-s.ensures.end, end-le 10 c.args.sheet.now c.loop-at.at (omega (arith, c.loop-at-test.true)), sheet-short c.requires))

pub more_if-n-requires : goal.more_if-n-requires
more_if-n-requires c = omega (arith, c.loop-at.invariant.4, c.loop-at.invariant.5, sheet-short c.requires)

pub overflow_add-line : goal.overflow_add-line
overflow_add-line c = omega (arith, c.loop-at.invariant.1, c.loop-at.invariant.5, sheet-short c.requires)

pub overflow_add-at-in-loop-at : goal.overflow_add-at-in-loop-at
overflow_add-at-in-loop-at c = omega (arith, c.look_from-s.ensures.end, end-le 10 c.args.sheet.now c.loop-at.at (omega (arith, c.loop-at-test.true)), sheet-short c.requires)

pub loop-at-smaller : goal.loop-at-smaller
loop-at-smaller c = omega (arith, c.look_from-s.ensures.end, end_ge 10 c.args.sheet.now c.loop-at.at, c.loop-at-test.true)

pub loop-at-preserved : goal.loop-at-preserved
loop-at-preserved c = let long = part_length c.args.sheet.now c.loop-at.at c.look_from-s.result.end in
    let past = end_ge 10 c.args.sheet.now c.loop-at.at in (
      (λ W x o. written_next (c.loop-at.invariant.0 W x o) _ _ (omega (arith, c.loop-at-test.true)) c.look_from-s.ensures.end (line-is c.args.sheet.now c.loop-at.at c.look_from-s.ensures.end) _ (c.marked_if-on.ensures ∙ ap (λ (s : Bool). cond s (row_hasb c.args.marks.now c.loop-at.n) false) c.is_statement-stated.ensures) c.put_line_if-p.ensures (c.more_if-n.ensures ∙ ap (λ (s : Bool). c.loop-at.n + cond s 1 0) c.is_statement-stated.ensures)),
      omega (arith, c.loop-at.invariant.1, past, c.look_from-s.ensures.end),
      room-grows _ (c.marked_if-on.ensures ∙ ap (λ (s : Bool). cond s (row_hasb c.args.marks.now c.loop-at.n) false) c.is_statement-stated.ensures) c.put_line_if-p.ensures long (omega (arith, past, c.look_from-s.ensures.end)) c.loop-at.invariant.2,
      omega (arith, c.put_line_if-p.ensures.total, one_at_most c.marked_if-on.result, c.loop-at.invariant.3, past, c.look_from-s.ensures.end),
      omega (arith, c.more_if-n.ensures, one_at_most c.is_statement-stated.result, c.loop-at.invariant.4, past, c.look_from-s.ensures.end),
      omega (arith, c.look_from-s.ensures.end, end-le 10 c.args.sheet.now c.loop-at.at (omega (arith, c.loop-at-test.true))),
      c.put_line_if-p.auto.room ∙ c.loop-at.invariant.6,
      c.look_from-s.auto.ends ∙ c.loop-at.invariant.7,
    )

pub returns : goal.returns
returns c = record { wrote = λ W x o. (written-end (omega (arith, c.loop-at-test.false)) (c.loop-at.invariant.0 W x o)).0; total = λ W x o. (written-end (omega (arith, c.loop-at-test.false)) (c.loop-at.invariant.0 W x o)).1; short = omega (arith, c.loop-at.invariant.2, c.loop-at.invariant.5, sheet-short c.requires); few = omega (arith, c.loop-at.invariant.3, c.loop-at.invariant.5, sheet-short c.requires) }
