-- Laws of the printed lines. Assumes nothing.
use Rattle.std.specs.Prelude.{◌≡◌, refl, List, [], ◌∷◌, ◌++◌, ℕ, zero, suc, ◌+◌, ◌-◌, ◌/◌, ◌%◌, ◌≤◌, length, get_or, take, drop}
use Rattle.std.proofs.Common.{sym, ap, ap₂, ◌∙◌, ⊎_elim, append_assoc, arith, length-take}
use Rattle.std.proofs.Math.Logic.{by_cases}
use Rattle.std.proofs.Math.Decide.{dec_lt}
use Rattle.std.proofs.Math.ListN.{get_or-eq_default}
use Rattle.text.specs.own.Split.{part_of}
use Rattle.logic.specs.Number.{One}
use Rattle.logic.specs.Number.One.{first, later}
use Rattle.logic.specs.laws.Number.{one-cases, one_none}
use Rattle.store.specs.declared.Counts.{Counts}
use Rattle.store.specs.Cell.{Cell}
use Rattle.rule.specs.declared.Finding.{Finding}
use Rattle.rule.specs.declared.Rule.{Rule}
use Rattle.rule.specs.Findings.{Findings}
use Rattle.field.specs.Names.{Names}
use Rattle.sheet.specs.Promise.{finding_text, findings_text}
use Rattle.sheet.specs.Said.{Said, line_of}
use Rattle.field.specs.own.Table.{entered, length_count, place_count, tagged_count}
use Rattle.field.specs.laws.Table.{entered_at, entered-length}
use Rattle.field.specs.laws.Tag.{tagged-short}
use Rattle.printed.specs.own.Lines.{line_text, lines_text}

-- ---- names

-- the name with the number i, of n names by their entries
module _ (sheet numbers : List ℕ) (from n : ℕ) (room : from + n ≤ length numbers) (i : ℕ) where
  -- there is none past them
  pub name-none : n ≤ i → [] ≡ get_or (entered sheet numbers from n) i []
  name-none h = sym (get_or-eq_default (entered sheet numbers from n) [] (omega (arith, entered-length sheet numbers from n room)))

  -- it has at most 31 bytes
  pub name-short : length (get_or (entered sheet numbers from n) i []) ≤ 31
  name-short = by_cases (dec_lt i n)
      (λ l.
      let p : ℕ = get_or numbers (from + i) 0 in
      omega (arith, ap length (entered_at sheet numbers from n room i l), tagged-short (p / tagged_count) (part_of sheet (p / length_count % place_count) (p % length_count)), length-take (p % length_count) (drop (p / length_count % place_count) sheet)))
      (λ l. omega (arith, ap length (name-none (omega arith))))

-- ---- lines

-- a finding is printed with the line number of its rule
pub finding-line : (x : Said) (f : Finding) → finding_text x f ≡ line_text x.names (line_of x f.rule) f
unfolding finding_text line_text
finding-line x f = refl

-- findings of one rule are printed with its line number
pub findings-lines : (x : Said) (k : ℕ) (fs : List Finding) → ((f : Finding) → One f fs → f.rule ≡ k) → findings_text x fs ≡ lines_text x.names (line_of x k) fs
unfolding findings_text lines_text
findings-lines x k [] h = refl
findings-lines x k (f ∷ fs) h =
    ap₂ {C = List ℕ} (λ a b. a ++ b) (finding-line x f ∙ ap (λ (i : ℕ). line_text x.names (line_of x i) f) (h f first)) (findings-lines x k fs (λ g o. h g (later o)))

-- one of the first m is one of all
one-take : (m : ℕ) {f : Finding} (fs : List Finding) → One f (take m fs) → One f fs
one-take zero fs o = absurd (one_none o)
one-take (suc m) [] o = o
one-take (suc m) (g ∷ fs) o = ⊎_elim (λ e. rw e first) (λ p. later (one-take m fs p)) (one-cases o)

-- the first m findings of a rule
pub rule-lines : {C : Cell → Type 0} {n : Counts} {k : ℕ} {u : Rule} {fs : List Finding} (x : Said) (m : ℕ) → Findings C n k u fs → findings_text x (take m fs) ≡ lines_text x.names (line_of x k) (take m fs)
rule-lines {k = k} {fs = fs} x m a = findings-lines x k (take m fs) (λ f o. (a.sound f (one-take m fs o)).0)

-- lines after lines
pub lines-append : (n : Names) (line : ℕ) (fs gs : List Finding) → lines_text n line (fs ++ gs) ≡ lines_text n line fs ++ lines_text n line gs
unfolding lines_text
lines-append n line [] gs = refl
lines-append n line (f ∷ fs) gs = ap (λ (t : List ℕ). line_text n line f ++ t) (lines-append n line fs gs) ∙ sym (append_assoc (line_text n line f) (lines_text n line fs) (lines_text n line gs))

pub findings-append : (x : Said) (fs gs : List Finding) → findings_text x (fs ++ gs) ≡ findings_text x fs ++ findings_text x gs
unfolding findings_text
findings-append x [] gs = refl
findings-append x (f ∷ fs) gs = ap (λ (t : List ℕ). finding_text x f ++ t) (findings-append x fs gs) ∙ sym (append_assoc (finding_text x f) (findings_text x fs) (findings_text x gs))

-- of findings after findings the first m are the first m of those, and of these as many as are left
take-both : (m : ℕ) (fs gs : List Finding) → take m (fs ++ gs) ≡ take m fs ++ take (m - length fs) gs
take-both zero fs gs = let e : 0 - length fs ≡ 0 = omega arith in rw e
take-both (suc m) [] gs = let e : suc m ≡ suc m - 0 = omega arith in ap (λ (i : ℕ). take i gs) e
take-both (suc m) (f ∷ fs) gs =
    let e : m - length fs ≡ suc m - suc (length fs) = omega arith in
    ap (λ (t : List Finding). f ∷ t) (take-both m fs gs ∙ ap (λ (i : ℕ). take m fs ++ take i gs) e)

pub findings-more : (x : Said) (m : ℕ) (fs gs : List Finding) → findings_text x (take m (fs ++ gs)) ≡ findings_text x (take m fs) ++ findings_text x (take (m - length fs) gs)
findings-more x m fs gs = ap (findings_text x) (take-both m fs gs) ∙ findings-append x (take m fs) (take (m - length fs) gs)
