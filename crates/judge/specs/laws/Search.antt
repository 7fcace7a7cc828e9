-- Laws of a search as a writer steps it, and of how a listing begins. Assumes nothing.
use Rattle.std.specs.Prelude.{◌≡◌, refl, List, [], ◌∷◌, ◌++◌, ℕ, suc, min, ◌≤◌, length, take}
use Rattle.std.proofs.Common.{sym, ap, ◌∙◌, subst, arith, add-one, length-append}
use Rattle.std.proofs.Math.Seq.{append_snoc, take-append_seam}
use Rattle.logic.specs.Lowest.{Lowest}
use Rattle.logic.specs.Number as counting
use Rattle.logic.specs.laws.Number.{number-iff}
use Rattle.store.specs.declared.Counts.{Counts}
use Rattle.store.specs.declared.Layout.{Layout}
use Rattle.store.specs.Layout.{ClosedStore, Holds, width_of}
use Rattle.store.specs.own.Laid.{Laid, layout_of}
use Rattle.judge.specs.declared.Cursor.{Cursor}
use Rattle.rule.specs.declared.Finding.{Finding}
use Rattle.breach.specs.declared.Plan.{Plan}
use Rattle.judge.specs.declared.Prepared.{Prepared}
use Rattle.rule.specs.declared.Rule.{Rule}
use Rattle.judge.specs.declared.RuleRefusal.{RuleRefusal}
use Rattle.judge.specs.declared.Search.{Search}
use Rattle.judge.specs.Total.{Total}
use Rattle.std.specs.Prelude.{Ok}
use Rattle.judge.specs.own.Cursor.{Advances, Begins, PlanBroken}
use Rattle.rule.specs.Findings.{Findings}
use Rattle.breach.specs.own.Plan.{Planned}
use Rattle.judge.specs.Promise.{Judged, RuleFault, Totals, number}
use Rattle.judge.specs.Promise.Totals.{refused as total-refused, counted}
use Rattle.judge.specs.own.Search.{Coming, Met, Opens, Prepares, Ready, Starts, Stepped, Stops, CellsOf, cursor_of, search_at}
use Rattle.judge.specs.own.Search.Opens.{refused as not_opened, judged}
use Rattle.judge.specs.laws.Cursor.{ahead-current}
use Rattle.judge.specs.laws.Listed.{findings-listed, listed-iff}
use Rattle.breach.specs.laws.Plan.{breaks-planned, planned-breaks}
use Rattle.judge.specs.laws.Sorted.{in_order}

-- the first of the findings that come is the one at hand
pub coming-first : {s : List ℕ} {c : Search} {f : Finding} {fs : List Finding} → Coming s c (f ∷ fs) → f ≡ c.finding
coming-first k = ahead-current k.ahead ∙ sym k.here

-- a cursor that is one finding further is a search that is
pub stepped : {s : List ℕ} {c : Search} {d : Cursor} → Ready s c → Advances (CellsOf s c) c.counts (cursor_of c) d → Stepped s c (search_at d c.finding.rule c.at c.counts)
stepped {c = c} r a = record {
  ready = record { laid = r.laid; store = r.store };
  next = λ f fs k. record { ahead = a.next c.finding.rule f fs k.ahead; here = refl };
}

-- what was met are the first of the findings that were to come, and the others are still to come
record Passed (s : List ℕ) (d : Search) (fs ms : List Finding) : Type 0 where
  rest : List Finding
  all : fs ≡ ms ++ rest
  coming : Coming s d rest

met-passed : {s : List ℕ} {first d : Search} {ms fs : List Finding} → Met s first ms d → Coming s first fs → length ms ≤ length fs → Passed s d fs ms
met-passed {fs = fs} Met.start k h = record { rest = fs; all = refl; coming = k }
met-passed {s} {fs = fs} (Met.more {fs = ms} {c = c} {d = d} w t) k h =
    let long = length-append ms (c.finding ∷ []) in
    let p = met-passed w k (omega arith) in
    go p.rest p.all p.coming
  where
    go : (gs : List Finding) → fs ≡ ms ++ gs → Coming s c gs → Passed s d fs (ms ++ c.finding ∷ [])
    go [] e k = absurd (omega (arith, ap length e, length-append ms [], length-append ms (c.finding ∷ [])))
    go (g ∷ gs) e k = record { rest = gs; all = e ∙ ap (λ (f : Finding). ms ++ f ∷ gs) (coming-first k) ∙ sym (append_snoc ms c.finding gs); coming = t.next g gs k }

-- the findings met are the first of those that were to come
pub met-first : {s : List ℕ} {first d : Search} {ms fs : List Finding} → Met s first ms d → Coming s first fs → length ms ≤ length fs → take (length ms) fs ≡ ms
met-first {ms = ms} w k h = let p = met-passed w k h in ap (take (length ms)) p.all ∙ take-append_seam ms p.rest

-- one more is met
pub met-more : (ms : List Finding) (f : Finding) → length (ms ++ f ∷ []) ≡ suc (length ms)
met-more ms f = length-append ms (f ∷ []) ∙ add-one (length ms)

-- a plan, the number of its findings and the cursor at the first are a listing that begins
pub starts : {s : List ℕ} {at : Layout} {n : Counts} (k : ℕ) {u : Rule} (room : ℕ) {p : Plan} {c : Cursor} {t : ℕ} → Laid at s → ClosedStore at.width n s → Planned (Holds at.width n s) n u p
    → counting.Number (PlanBroken (Holds at.width n s) n p) t → Begins (Holds at.width n s) n p c
    → Starts s at n k u room (record { answer = Ok t; write = min t room; search = search_at c k at n })
starts {s} {at} {n} k {u} room {t = t} l m d a b =
    let o = in_order k (number-iff (λ q x. planned-breaks d q.0 q.1 x) (λ q x. breaks-planned d q.0 q.1 x) a) in
    record {
      list = o.list;
      findings = o.findings;
      answer = ap Ok (sym o.count);
      write = ap (λ (i : ℕ). min i room) (sym o.count);
      coming = record { ahead = b.all k o.list (listed-iff (breaks-planned d) (planned-breaks d) (findings-listed o.findings)); here = refl };
      ready = record { laid = l; store = m };
    }

-- a refusal prepares a listing that writes nothing
pub prepared-refused : {s : List ℕ} {n : Counts} (k : ℕ) {u : Rule} (room : ℕ) {r : RuleRefusal} {p : Prepared} → Lowest (RuleFault (width_of s) n u s) (number r) → Stops r p → Prepares s n k u room p
prepared-refused k room l z = record { fits = omega (arith, z.write); ready = λ h. absurd (omega (arith, z.write)); opens = not_opened l z.answer z.write }

-- a rule that is judged prepares a listing of its findings
pub prepared-judged : {s : List ℕ} {at : Layout} {n : Counts} {k : ℕ} {u : Rule} {room : ℕ} {p : Prepared} → Judged (width_of s) n u s → at ≡ layout_of (width_of s) → Starts s at n k u room p → Prepares s n k u room p
prepared-judged {s} {n = n} {k = k} {u = u} d e z = record {
  fits = omega (arith, z.write);
  ready = λ h. z.ready;
  opens = judged d (subst (λ (a : Layout). Findings (Holds a.width n s) n k u z.list) e z.findings) z.answer z.write z.coming;
}

-- the answer of a listing with no room is the total
pub totals-by : {s : List ℕ} {n : Counts} {u : Rule} {p : Prepared} → Prepares s n 0 u 0 p → Totals (width_of s) n u s p.answer
totals-by {s} {n} {u} {p} a = go a.opens
  where
    go : Opens s n 0 u 0 p → Totals (width_of s) n u s p.answer
    go (not_opened l e z) = subst (λ (r : Total). Totals (width_of s) n u s r) (sym e) (total-refused l)
    go (judged d f e z c) = subst (λ (r : Total). Totals (width_of s) n u s r) (sym e) (counted d f)
