-- Laws of a trail along the findings of all rules of a sheet. Assumes nothing.
use Rattle.std.specs.Prelude.{◌≡◌, refl, Option, Some, None, List, [], ◌∷◌, ◌++◌, ℕ, suc, ◌+◌, ◌-◌, ◌≤◌, ◌<◌, length, get_or, take, drop}
use Rattle.std.proofs.Common.{sym, ap, ◌∙◌, subst, add-one, arith, length-append, drop_of_length-le}
use Rattle.std.proofs.Math.Seq.{append_snoc, drop-append_seam, take-append_seam}
use Rattle.store.specs.declared.Counts.{Counts}
use Rattle.store.specs.declared.Layout.{Layout}
use Rattle.store.specs.Cell.{Cell}
use Rattle.store.specs.Layout.{ClosedStore, Holds, width_of}
use Rattle.store.specs.own.Laid.{layout_of}
use Rattle.rule.specs.declared.Finding.{Finding}
use Rattle.judge.specs.declared.Prepared.{Prepared}
use Rattle.judge.specs.declared.Search.{Search}
use Rattle.rule.specs.Findings.{Findings}
use Rattle.judge.specs.own.Search.{Coming, Starts, Stepped}
use Rattle.rule.specs.laws.Findings.{findings-unique}
use Rattle.judge.specs.laws.Search.{coming-first}
use Rattle.sheet.specs.declared.RuleLine.{RuleLine}
use Rattle.sheet.specs.own.Pass.{Next, NextRule, Passing, Paused, counted_in, found_rule}
use Rattle.sheet.specs.Promise.{FindingsFrom}
use Rattle.sheet.specs.Promise.FindingsFrom.{none, more}
use Rattle.sheet.specs.Said.{SheetRule}
use Rattle.field.specs.own.Table.{Table}
use Rattle.sheet.specs.laws.Pass.{passing-rest}
use Rattle.trail.specs.declared.Trail.{Trail}
use Rattle.trail.specs.own.Trail.{Beyond, Ended, Going, Onward, Sought, Steps, Went}

-- ---- the findings of rules

-- those of no rule
from-none : {C : Cell → Type 0} {n : Counts} {k : ℕ} {fs : List Finding} → FindingsFrom C n k [] fs → fs ≡ []
from-none none = refl

-- those of a rule, and of the others
record Parted (C : Cell → Type 0) (n : Counts) (k : ℕ) (r : SheetRule) (rs : List SheetRule) (fs : List Finding) : Type 0 where
  here : List Finding
  later : List Finding
  all : fs ≡ here ++ later
  findings : Findings C n k r.rule here
  rest : FindingsFrom C n (suc k) rs later

-- such findings are of that form
from_more : {C : Cell → Type 0} {n : Counts} {k : ℕ} {r : SheetRule} {rs : List SheetRule} {fs : List Finding} → FindingsFrom C n k (r ∷ rs) fs → Parted C n k r rs fs
from_more (more {fs = hs} {gs = gs} a b) = record { here = hs; later = gs; all = refl; findings = a; rest = b }

-- ---- the next rule

-- there is a rule next: its findings, and those past it
record RuleThen (sheet s : List ℕ) (names : Table) (k : ℕ) (r : RuleLine) (fs : List Finding) : Type 0 where
  here : List Finding
  later : List Finding
  all : fs ≡ here ++ later
  findings : Findings (Holds (width_of s) names.counts s) names.counts k r.rule here
  beyond : Beyond sheet s names r.past (r.line + 1) (k + 1) later

-- the reading pauses past it
pub beyond-paused : {sheet : List ℕ} {names : Table} {past line : ℕ} {o : Option RuleLine} {r : RuleLine} → Next sheet names past line o → o ≡ Some r → Paused sheet names past line → Paused sheet names r.past (r.line + 1)
beyond-paused {sheet} {names} {r = r} n e p = record {
  all = p.all;
  before = p.before ++ found_rule r ∷ [];
  passing = subst (NextRule sheet names p.all p.before) e (n.rule p.all p.before p.passing);
}

module _ (sheet s : List ℕ) (names : Table) (past line k : ℕ) (o : Option RuleLine) (n : Next sheet names past line o) where
  -- the findings of rules from a number on
  abbrev From : ℕ → List SheetRule → List Finding → Type 0
  From i rs fs = FindingsFrom (Holds (width_of s) names.counts s) names.counts i rs fs

  -- there is no rule next: there are no findings
  beyond-none : {fs : List Finding} → o ≡ None → Beyond sheet s names past line k fs → fs ≡ []
  beyond-none {fs} e b =
      let z : b.said.rules ≡ b.done = subst (NextRule sheet names b.said b.done) e (n.rule b.said b.done b.passing) in
      let h : length b.done ≤ k = omega (arith, b.number) in
      let d : drop k b.said.rules ≡ [] = ap (drop k) z ∙ drop_of_length-le b.done h in
      from-none (subst (λ (rs : List SheetRule). From k rs fs) d b.findings)

  -- there is one
  beyond-rule : (r : RuleLine) {fs : List Finding} → o ≡ Some r → Beyond sheet s names past line k fs → RuleThen sheet s names k r fs
  beyond-rule r {fs} e b = record {
    here = p.here;
    later = p.later;
    all = p.all;
    findings = p.findings;
    beyond = record {
      said = b.said;
      done = more-done;
      passing = z;
      number = long;
      findings = subst (λ (rs : List SheetRule). From (k + 1) rs p.later) (sym past-it) (subst (λ (i : ℕ). From i w.0 p.later) (sym (add-one k)) p.rest);
    };
  }
    where
      q : SheetRule
      q = found_rule r

      more-done : List SheetRule
      more-done = b.done ++ q ∷ []

      z : Passing sheet names b.said more-done r.past (r.line + 1)
      z = subst (NextRule sheet names b.said b.done) e (n.rule b.said b.done b.passing)

      w : (rest : List SheetRule) × (b.said.rules ≡ more-done ++ rest)
      w = passing-rest z

      at-it : drop k b.said.rules ≡ q ∷ w.0
      at-it = ap (drop k) (w.1 ∙ append_snoc b.done q w.0) ∙ ap (λ (i : ℕ). drop i (b.done ++ q ∷ w.0)) b.number ∙ drop-append_seam b.done (q ∷ w.0)

      long : k + 1 ≡ length more-done
      long = omega (arith, b.number, length-append b.done (q ∷ []))

      past-it : drop (k + 1) b.said.rules ≡ w.0
      past-it = ap (drop (k + 1)) w.1 ∙ ap (λ (i : ℕ). drop i (more-done ++ w.0)) long ∙ drop-append_seam more-done w.0

      p : Parted (Holds (width_of s) names.counts s) names.counts k q w.0 fs
      p = from_more (subst (λ (rs : List SheetRule). From k rs fs) at-it b.findings)

  -- no rule is left
  pub sought-none : {c : Trail} → o ≡ None → ClosedStore (width_of s) names.counts s → Paused sheet names past line → k ≤ past → Ended past line k c
      → Sought sheet names s past line k c
  sought-none {c} e m p h z = rw (z.past-kept, z.line_kept, z.number-kept) (record {
    going = record { ready = λ i. absurd (omega (arith, z.more)); store = m; paused = p; few = h };
    onward = λ fs b. record { here = []; later = fs; all = refl; more = z.more; coming = λ i. absurd (omega (arith, z.more)); beyond = b; end = λ i. beyond-none e b };
  })

  -- its findings are those that were sought
  module _ (r : RuleLine) {at : Layout} {p : Prepared} (e : o ≡ Some r) (l : at ≡ layout_of (width_of s)) (z : Starts s at names.counts k r.rule 0 p) where
    -- the list that the search began with is that of the rule's findings
    started : {fs : List Finding} (t : RuleThen sheet s names k r fs) → z.list ≡ t.here
    started t = findings-unique (subst (λ (a : Layout). Findings (Holds a.width names.counts s) names.counts k r.rule z.list) l z.findings) t.findings

    -- so many are counted
    counts : counted_in p.answer ≡ length z.list
    counts = ap counted_in z.answer

    -- none: the findings are those past it
    pub beyond-on : {fs : List Finding} → counted_in p.answer ≡ 0 → Beyond sheet s names past line k fs → Beyond sheet s names r.past (r.line + 1) (k + 1) fs
    beyond-on {fs} c b = go t t.here refl
      where
        t : RuleThen sheet s names k r fs
        t = beyond-rule r e b

        go : (t : RuleThen sheet s names k r fs) (hs : List Finding) → hs ≡ t.here → Beyond sheet s names r.past (r.line + 1) (k + 1) fs
        go t [] q = subst (Beyond sheet s names r.past (r.line + 1) (k + 1)) (sym (t.all ∙ ap (λ (hs : List Finding). hs ++ t.later) (sym q))) t.beyond
        go t (g ∷ gs) q = absurd (omega (arith, c, counts, ap length (started t), ap length q))

    -- some: the trail stands at the first
    pub sought-some : ClosedStore (width_of s) names.counts s → Paused sheet names past line → k ≤ past → 0 < counted_in p.answer
        → Sought sheet names s past line k (record { search = p.search; more = counted_in p.answer; past = r.past; line = r.line + 1; number = k + 1 })
    sought-some m a h c = record {
      going = record { ready = λ i. z.ready; store = m; paused = beyond-paused n e a; few = omega (arith, n.later r e) };
      onward = λ fs b. let t = beyond-rule r e b in record {
        here = t.here;
        later = t.later;
        all = t.all;
        more = counts ∙ ap length (started t);
        coming = λ i. subst (Coming s p.search) (started t) z.coming;
        beyond = t.beyond;
        end = λ i. absurd (omega (arith, i));
      };
    }

-- ---- one finding further

-- the first of the findings that come is the one at hand
pub onward-first : {sheet : List ℕ} {names : Table} {s : List ℕ} {c : Trail} {f : Finding} {fs : List Finding} → Onward sheet names s c (f ∷ fs) → f ≡ c.search.finding
onward-first {s = s} {c = c} {f = f} {fs = fs} k = go k.here k.all k.more k.coming
  where
    go : (hs : List Finding) → f ∷ fs ≡ hs ++ k.later → c.more ≡ length hs → (0 < c.more → Coming s c.search hs) → f ≡ c.search.finding
    go [] e m g = absurd (omega (arith, ap length e, ap length (k.end m)))
    go (h ∷ hs) e m g = ap (λ (l : List Finding). get_or l 0 f) e ∙ coming-first (g (omega (arith, m)))

-- the trail at a later search of the same rule
abbrev pub further : Trail → Search → Trail
further c d = record { search = d; more = c.more - 1; past = c.past; line = c.line; number = c.number }

-- of the same rule
pub steps-along : {sheet : List ℕ} {names : Table} {s : List ℕ} {c : Trail} {d : Search} → Going sheet names s c → 1 < c.more → Stepped s c.search d → Steps sheet names s c (further c d)
steps-along {sheet} {names} {s} {c} {d} a h t = record {
  going = record { ready = λ i. t.ready; store = a.store; paused = a.paused; few = a.few };
  next = λ f fs k. go f fs k k.here k.all k.more k.coming;
}
  where
    go : (f : Finding) (fs : List Finding) (k : Onward sheet names s c (f ∷ fs)) (hs : List Finding) → f ∷ fs ≡ hs ++ k.later → c.more ≡ length hs → (0 < c.more → Coming s c.search hs)
        → Onward sheet names s (further c d) fs
    go f fs k [] e m g = absurd (omega (arith, m))
    go f fs k (j ∷ hs) e m g = record {
      here = hs;
      later = k.later;
      all = ap (drop 1) e;
      more = omega (arith, m);
      coming = λ i. t.next j hs (g (omega arith));
      beyond = k.beyond;
      end = λ i. absurd (omega (arith, i));
    }

-- of the next rule that has any
pub steps-over : {sheet : List ℕ} {names : Table} {s : List ℕ} {c d : Trail} → c.more ≤ 1 → Sought sheet names s c.past c.line c.number d → Steps sheet names s c d
steps-over {sheet} {names} {s} {c} {d} h z = record { going = z.going; next = λ f fs k. z.onward fs (subst (Beyond sheet s names c.past c.line c.number) (sym (go f fs k k.here k.all k.more)) k.beyond) }
  where
    go : (f : Finding) (fs : List Finding) (k : Onward sheet names s c (f ∷ fs)) (hs : List Finding) → f ∷ fs ≡ hs ++ k.later → c.more ≡ length hs → fs ≡ k.later
    go f fs k [] e m = absurd (omega (arith, ap length e, ap length (k.end m)))
    go f fs k (j ∷ []) e m = ap (drop 1) e
    go f fs k (j ∷ i ∷ hs) e m = absurd (omega (arith, m))

-- ---- many findings further

-- what was met are the first of the findings that were to come, and the others are still to come
record Passed (sheet : List ℕ) (names : Table) (s : List ℕ) (d : Trail) (fs ms : List Finding) : Type 0 where
  rest : List Finding
  all : fs ≡ ms ++ rest
  onward : Onward sheet names s d rest

-- so it is after any number of steps
went-passed : {sheet : List ℕ} {names : Table} {s : List ℕ} {first d : Trail} {ms fs : List Finding} → Went sheet names s first ms d → Onward sheet names s first fs → length ms ≤ length fs → Passed sheet names s d fs ms
went-passed {fs = fs} Went.start k h = record { rest = fs; all = refl; onward = k }
went-passed {sheet} {names} {s} {fs = fs} (Went.more {fs = ms} {c = c} {d = d} w t) k h =
    let long = length-append ms (c.search.finding ∷ []) in
    let p = went-passed w k (omega arith) in
    go p.rest p.all p.onward
  where
    go : (gs : List Finding) → fs ≡ ms ++ gs → Onward sheet names s c gs → Passed sheet names s d fs (ms ++ c.search.finding ∷ [])
    go [] e k = absurd (omega (arith, ap length e, length-append ms [], length-append ms (c.search.finding ∷ [])))
    go (g ∷ gs) e k = record { rest = gs; all = e ∙ ap (λ (f : Finding). ms ++ f ∷ gs) (onward-first k) ∙ sym (append_snoc ms c.search.finding gs); onward = t.next g gs k }

-- the findings met are the first of those that were to come
pub went-first : {sheet : List ℕ} {names : Table} {s : List ℕ} {first d : Trail} {ms fs : List Finding} → Went sheet names s first ms d → Onward sheet names s first fs → length ms ≤ length fs → take (length ms) fs ≡ ms
went-first {ms = ms} w k h = let p = went-passed w k h in ap (take (length ms)) p.all ∙ take-append_seam ms p.rest
