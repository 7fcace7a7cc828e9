-- Laws of going through the rules of a sheet and counting their findings. Assumes nothing.
use Rattle.std.specs.Prelude.{◌≡◌, refl, List, [], ◌∷◌, ◌++◌, ℕ, suc, ◌+◌, ◌*◌, ◌≤◌, length, Option, Some, None, Ok, Err}
use Rattle.std.proofs.Common.{sym, ap, ◌∙◌, subst, append_assoc, append-nil, arith, eq-eqb, ne_eqb, length-append}
use Rattle.store.specs.declared.Counts.{Counts}
use Rattle.store.specs.declared.Layout.{Layout}
use Rattle.store.specs.Cell.{Cell}
use Rattle.store.specs.Layout.{Holds, size, width_of}
use Rattle.rule.specs.declared.Finding.{Finding}
use Rattle.judge.specs.declared.Prepared.{Prepared}
use Rattle.rule.specs.declared.Rule.{Rule}
use Rattle.rule.specs.Findings.{Findings}
use Rattle.judge.specs.own.Search.{Starts}
use Rattle.sheet.specs.declared.Ended.{Ended}
use Rattle.sheet.specs.declared.Refused.{Refused}
use Rattle.line.specs.declared.Marks.{Marks}
use Rattle.sheet.specs.Reading.{accepted_as, refused_as}
use Rattle.sheet.specs.declared.RuleLine.{RuleLine}
use Rattle.field.specs.Names.{counts_of}
use Rattle.sheet.specs.own.Pass.{Counted, Judges, Next, NextRule, Opened, Passing, Paused, Totalled, Wholly, counted_in, found_rule}
use Rattle.sheet.specs.Promise.{FindingsFrom, FindingsIn, Held, Leaves, Reads}
use Rattle.sheet.specs.Promise.FindingsFrom.{none, more}
use Rattle.sheet.specs.Promise.Reads.{wrong_size, refused as refused_read, accepted as accepted_read}
use Rattle.sheet.specs.Said.{Outcome, Said, SheetRule, outcome}
use Rattle.sheet.specs.Said.Outcome.{accepted, refused}
use Rattle.sheet.specs.declared.Start.{Start}
use Rattle.sheet.specs.own.Stands.{Opens, Since, kept_table}
use Rattle.field.specs.own.Table.{Table, Tidy, names_of, table_of}
use Rattle.rule.specs.laws.Few.{few-findings}
use Rattle.sheet.specs.laws.Pass.{not-both, passing-rest, passing-since, said_of}
use Rattle.field.specs.laws.Table.{counts_of-names_of}

-- ---- going through the rules

-- the rule q comes next, after n others of which P holds
pub record Turn (sheet : List ℕ) (t : Table) (x : Said) (P : List SheetRule → Type 0) (q : Option RuleLine) (n : ℕ) : Type 0 where
  pub done : List SheetRule
  pub next : NextRule sheet t x done q
  pub number : n ≡ length done
  pub holds : P done

module _ {sheet : List ℕ} {t : Table} {x : Said} {P : List SheetRule → Type 0} {q : Option RuleLine} where
  pub turn-start : (W : ℕ) → Opened sheet t q → outcome W sheet ≡ accepted x → x.names ≡ names_of sheet t → P [] → Turn sheet t x P q 0
  turn-start W w o n h = record { done = []; next = w.rule W x o n; number = refl; holds = h }

  -- from where the rules begin
  pub turn-since : (W : ℕ) {b : Start} → Next sheet t b.at b.line q → Since W sheet b → outcome W sheet ≡ accepted x → x.names ≡ names_of sheet t → P [] → Turn sheet t x P q 0
  turn-since W {b = b} w v o n h = record { done = []; next = w.rule x [] (passing-since W sheet t x b v o n); number = refl; holds = h }

  module _ {n : ℕ} (w : Turn sheet t x P q n) where
    -- no rule comes next: P holds of all
    pub turn_end : q ≡ None → P x.rules
    turn_end f = subst P (sym (subst (NextRule sheet t x w.done) f w.next)) w.holds

    -- the rule r comes next
    module _ (r : RuleLine) (f : q ≡ Some r) where
      pub turn-passing : Passing sheet t x (w.done ++ found_rule r ∷ []) r.past (r.line + 1)
      turn-passing = subst (NextRule sheet t x w.done) f w.next

      -- where the second reading stands then
      pub turn-paused : Paused sheet t r.past (r.line + 1)
      turn-paused = record { all = x; before = w.done ++ found_rule r ∷ []; passing = turn-passing }

      -- the rule is that of the sheet after those done
      pub turn-rules : (rest : List SheetRule) × (x.rules ≡ w.done ++ found_rule r ∷ rest)
      turn-rules = let z = passing-rest turn-passing in (z.0, z.1 ∙ append_assoc w.done (found_rule r ∷ []) z.0)

      -- the next turn
      pub turn-next : {Q : List SheetRule → Type 0} {s : Option RuleLine} → Next sheet t r.past (r.line + 1) s → Q (w.done ++ found_rule r ∷ []) → Turn sheet t x Q s (n + 1)
      turn-next z h =
          record {
            done = w.done ++ found_rule r ∷ [];
            next = z.rule x (w.done ++ found_rule r ∷ []) turn-passing;
            number = omega (arith, w.number, length-append w.done (found_rule r ∷ []));
            holds = h;
          }

-- ---- findings

-- one rule more has its findings after those of the others
pub findings-snoc : {C : Cell → Type 0} {n : Counts} {k i : ℕ} {rs : List SheetRule} {fs gs : List Finding} (r : SheetRule) → FindingsFrom C n k rs fs → Findings C n i r.rule gs → i ≡ k + length rs
    → FindingsFrom C n k (rs ++ r ∷ []) (fs ++ gs)
findings-snoc {C} {n} {k} {i} {gs = gs} r none a e =
    let at : i ≡ k = omega (arith, e) in
    subst (λ (hs : List Finding). FindingsFrom C n k (r ∷ []) hs) (append-nil gs) (more (subst (λ (j : ℕ). Findings C n j r.rule gs) at a) none)
findings-snoc {C} {n} {k} {i} {gs = gs} r (more {r = q} {rs = rs} {fs = fs} {gs = hs} b m) a e =
    subst (λ (ls : List Finding). FindingsFrom C n k (q ∷ (rs ++ r ∷ [])) ls) (sym (append_assoc fs hs gs)) (more b (findings-snoc r m a (omega (arith, e))))

-- the findings of no rule, and of one more
pub counted_none : (W : ℕ) (x : Said) (s : List ℕ) → Counted W x s [] 0
counted_none W x s = record { list = []; findings = none; all = refl }

pub counted-more : {x : Said} {s : List ℕ} {done : List SheetRule} {total k room : ℕ} {l : Layout} {n : Counts} {p : Prepared} (r : SheetRule) → Counted l.width x s done total → counts_of x.names ≡ n → k ≡ length done
    → Starts s l n k r.rule room p → Counted l.width x s (done ++ r ∷ []) (total + counted_in p.answer)
counted-more {x} {s} {done} {k = k} {l = l} {n = n} r w c i z =
    record {
      list = w.list ++ z.list;
      findings = findings-snoc r w.findings found (omega (arith, i));
      all = omega (arith, w.all, ap counted_in z.answer, length-append w.list z.list);
    }
  where
    found : Findings (Holds l.width (counts_of x.names) s) (counts_of x.names) k r.rule z.list
    found = rw c z.findings

-- a rule counts few
pub counted-few : {s : List ℕ} {k room : ℕ} {m : ℕ} {l : Layout} {n : Counts} {u : Rule} {p : Prepared} → n.items ≤ m → Starts s l n k u room p → counted_in p.answer ≤ m * suc m
counted-few h z = omega (arith, ap counted_in z.answer, few-findings h z.findings)

-- ---- the whole sheet

-- a store of another length
pub whole-size : (sheet s numbers : List ℕ) (c : Counts) (b : Start) → Tidy sheet (table_of numbers c) → ¬ (length s ≡ size (width_of s)) → Wholly sheet s s numbers (record { answer = refused_as 0 1; counts = c; start = b })
whole-size sheet s numbers c b h z = record { reads = wrong_size z refl; tidy = h; names = λ x l o. absurd (z l); start = λ x l o. absurd (z l) }

reads_as : {sheet s t : List ℕ} {x : Said} {fs : List Finding} {n : Counts} {m k : ℕ} → n ≡ counts_of x.names → m ≡ length x.rules → k ≡ length fs → length s ≡ size (width_of s) → outcome (width_of s) sheet ≡ accepted x → Held (width_of s) x t
    → FindingsIn (width_of s) x t fs → Reads sheet s t (accepted_as n m k)
reads_as e f g l o h a = rw (e, f, g) (accepted_read l o h a)

-- an accepted sheet: its outcome, its store, its counts
module _ {W : ℕ} {sheet s numbers t : List ℕ} {e : Ended} (w : Opens W sheet s numbers t e) {v : Unit {0}} (z : e.read ≡ Ok v) where
  pub opens-outcome : outcome W sheet ≡ accepted w.said
  opens-outcome = w.ends ∙ rw z

  pub opens-held : Held W w.said t
  opens-held = rw z at w.leaves

  opens-counts : counts_of w.said.names ≡ e.kept.counts
  opens-counts = ap counts_of w.names ∙ counts_of-names_of sheet (kept_table numbers e) w.tidy

  pub opens-judges : Judges W sheet (kept_table numbers e) t
  opens-judges = record { tidy = w.tidy; sheet_said = record { width = W; said = w.said; ends = opens-outcome; names = w.names }; with = refl; store = rw opens-counts at opens-held.store }

  pub whole-accepted : {total : ℕ} → W ≡ width_of s → length s ≡ size W → Totalled W sheet (kept_table numbers e) t total
      → Wholly sheet s t numbers (record { answer = accepted_as e.kept.counts e.kept.marks.rules total; counts = e.kept.counts; start = e.start })
  whole-accepted {total} wide long c =
      let a = c w.said opens-outcome w.names in
      let o : outcome (width_of s) sheet ≡ accepted w.said = subst (λ (y : ℕ). outcome y sheet ≡ accepted w.said) wide opens-outcome in
      record {
        reads = reads_as (sym opens-counts) (sym (ap (λ (m : Marks). m.rules) w.marks)) a.all (subst (λ (u : ℕ). length s ≡ size u) wide long) o
            (subst (λ (y : ℕ). Held y w.said t) wide opens-held) (subst (λ (y : ℕ). FindingsIn y w.said t a.list) wide a.findings);
        tidy = w.tidy;
        names = λ x l q. ap (λ (y : Outcome). (said_of y).names) (sym q ∙ o) ∙ w.names;
        start = λ x l q. subst (λ (u : ℕ). Since u sheet e.start) wide (w.start v z);
      }

-- a refused one
pub whole-refused : {W : ℕ} {sheet s numbers t : List ℕ} {e : Ended} → W ≡ width_of s → length s ≡ size W → Opens W sheet s numbers t e → {p : Refused} → e.read ≡ Err p
    → Wholly sheet s t numbers (record { answer = Err p; counts = e.kept.counts; start = e.start })
whole-refused {W} {sheet} {s} {t = t} {e = e} v long w {p} z =
    let o : outcome W sheet ≡ refused p.line p.why w.said = w.ends ∙ rw z in
    let q = subst (λ (v : ℕ). outcome v sheet ≡ refused p.line p.why w.said) v o in
    record {
      reads = refused_read (subst (λ (u : ℕ). length s ≡ size u) v long) q (subst (λ (v : ℕ). Leaves v (refused p.line p.why w.said) s t) v (rw z at w.leaves));
      tidy = w.tidy;
      names = λ x l a. absurd (not-both (sym q ∙ a));
      start = λ x l a. absurd (not-both (sym q ∙ a));
    }
