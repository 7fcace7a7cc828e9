-- `sheet::pass::next` meets its contract: no line from the first place to this one is that of a rule. Assumes nothing.
use Rattle.std.proofs.Common.{◌≡◌, ◌+◌, ◌∙◌, Some, ap, ℕ, ◌-◌, length, arith, rules}
use Rattle.text.specs.own.Split.{part_of}
use Rattle.text.specs.laws.Split.{end_ge, end-le}
use Rattle.field.specs.laws.Looked.{looked}
use Rattle.sheet.specs.declared.RuleLine.{RuleLine}
use Rattle.sheet.specs.laws.Pass.{passing-end, passing-on, passing-past, passing-ready, passing-rule, passing-short}
use Rattle.sheet.proofs.pass.next.Goals as goal

pub slice_bounds-fields-count : goal.slice_bounds-fields-count
slice_bounds-fields-count c = omega (arith, c.look_from-s.ensures.end, end_ge 10 c.args.known.now.sheet.now c.loop-at.at)

pub slice_bounds-fields-start : goal.slice_bounds-fields-start
slice_bounds-fields-start c = omega (arith, c.look_from-s.ensures.end, end_ge 10 c.args.known.now.sheet.now c.loop-at.at)

pub slice_bounds-fields-end : goal.slice_bounds-fields-end
slice_bounds-fields-end c = omega (arith, c.look_from-s.ensures.end, end-le 10 c.args.known.now.sheet.now c.loop-at.at (omega (arith, c.loop-at-test.true)))

pub invariant_of-fields : goal.invariant_of-fields
invariant_of-fields c = let s = c.args.known.now.sheet.now in
    let p = c.loop-at.invariant.0 _ _ c.requires.passing in
    let is = ap (λ (e : ℕ). part_of s c.loop-at.at (e - c.loop-at.at)) c.look_from-s.ensures.end in
    let short = passing-short p _ _ (omega (arith, c.loop-at-test.true)) c.look_from-s.ensures.end is in
    record { looked = rw is (looked c.look_from-s.ensures c.min-n.result (omega (arith, c.min-n.ensures, c.loop-at.invariant.2)) (omega (arith, short, ap length is, c.loop-at.invariant.2))) }

pub rule_in-requires : goal.rule_in-requires
rule_in-requires c = let s = c.args.known.now.sheet.now in
    let p = c.loop-at.invariant.0 _ _ c.requires.passing in
    let is = ap (λ (e : ℕ). part_of s c.loop-at.at (e - c.loop-at.at)) c.look_from-s.ensures.end in
    passing-ready p _ _ (omega (arith, c.loop-at-test.true)) c.look_from-s.ensures.end is

pub returns-in-Some : goal.returns-in-Some
returns-in-Some c = let s = c.args.known.now.sheet.now in
    let e = c.look_from-s.ensures.end in
    let is = ap (λ (k : ℕ). part_of s c.loop-at.at (k - c.loop-at.at)) e in
    let past : (q : RuleLine) → Some c.in-Some.q ≡ Some q → q.past ≡ c.look_from-s.result.end + 1 = λ q z. passing-past (c.loop-at.invariant.0 _ _ c.requires.passing) _ _ (omega (arith, c.loop-at-test.true)) e is c.rule_in.ensures q (c.in-Some.is ∙ z) in
    record {
      rule = λ x done p. passing-rule (c.loop-at.invariant.0 x done p) _ _ (omega (arith, c.loop-at-test.true)) e is c.rule_in.ensures _ c.in-Some.is;
      later = λ q z. omega (arith, past q z, e, end_ge 10 s c.loop-at.at, c.loop-at.invariant.1);
      inside = λ q z. omega (arith, past q z, e, end-le 10 s c.loop-at.at (omega (arith, c.loop-at-test.true)));
    }

pub overflow_add-line : goal.overflow_add-line
overflow_add-line c = omega (arith, (c.loop-at.invariant.0 _ _ c.requires.passing).near, (c.loop-at.invariant.0 _ _ c.requires.passing).inside, c.requires.passing.short)

pub loop-at-smaller : goal.loop-at-smaller
loop-at-smaller c = omega (arith, c.look_from-s.ensures.end, end_ge 10 c.args.known.now.sheet.now c.loop-at.at, c.loop-at-test.true)

pub loop-at-preserved : goal.loop-at-preserved
loop-at-preserved c = let s = c.args.known.now.sheet.now in
    let e = c.look_from-s.ensures.end in
    let is = ap (λ (k : ℕ). part_of s c.loop-at.at (k - c.loop-at.at)) e in
    ((λ x done p. passing-on (c.loop-at.invariant.0 x done p) _ _ (omega (arith, c.loop-at-test.true)) e is c.rule_in.ensures c.in_default.is), omega (arith, e, end_ge 10 s c.loop-at.at, c.loop-at.invariant.1), search rules)

pub returns : goal.returns
returns c = record { rule = λ x done p. passing-end (c.loop-at.invariant.0 x done p) (omega arith); later = λ q z. absurd (cc); inside = λ q z. absurd (cc) }
