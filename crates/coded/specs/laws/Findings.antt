-- Laws of findings as words: what the writer leaves, and that any two results allowed are equal. Assumes nothing.
use Rattle.std.specs.Prelude.{◌≡◌, refl, List, [], ◌∷◌, ◌++◌, ℕ, suc, min, ◌+◌, ◌*◌, ◌/◌, ◌≤◌, ◌<◌, ℤ, pos, neg_ℤ, length, get_or, set, take, drop, ◌^◌}
use Rattle.std.proofs.Common.{sym, ap, ◌∙◌, subst, add-one, arith, length-append, drop-cons}
use Rattle.std.proofs.Math.Seq.{append_snoc}
use Rattle.std.proofs.lemmas.List.{set_at}
use Rattle.logic.specs.laws.Lowest.{lowest-unique}
use Rattle.store.specs.declared.Counts.{Counts}
use Rattle.store.specs.laws.Width.{width-wide}
use Rattle.rule.specs.declared.Finding.{Finding}
use Rattle.judge.specs.declared.Prepared.{Prepared}
use Rattle.rule.specs.declared.Rule.{Rule}
use Rattle.judge.specs.declared.Search.{Search}
use Rattle.judge.specs.Total.{Total}
use Rattle.judge.specs.own.Search.{Met, Opens, Prepares, Stepped}
use Rattle.judge.specs.own.Search.Opens.{refused as not_opened, judged}
use Rattle.rule.specs.laws.Findings.{findings-unique as rule-unique}
use Rattle.judge.specs.laws.Refusals.{judged-none}
use Rattle.judge.specs.laws.Search.{met-first, met-more}
use Rattle.rule.specs.laws.Few.{few-findings}
use Rattle.coded.specs.Promise.{ListCode, pair_words, second_word}
use Rattle.coded.specs.Promise.ListCode.{refused, listed}
use Rattle.spelled.specs.Rules.{rule_of}
use Rattle.std.specs.Result.{ForOk}
use Rattle.refusal.specs.laws.Signed.{at_most-fits}
use Rattle.coded.specs.own.Writing.{SmallTotal, Written, WroteTo, most_items, total_code}

-- two words a finding
pairs-length : (fs : List Finding) → length (pair_words fs) ≡ 2 * length fs
unfolding pair_words
pairs-length [] = refl
pairs-length (f ∷ fs) = let h = pairs-length fs in omega arith

-- one finding more is two words more
pairs-more : (fs : List Finding) (f : Finding) (r : List ℕ) → pair_words (fs ++ f ∷ []) ++ r ≡ pair_words fs ++ f.item.0 ∷ second_word f.second ∷ r
unfolding pair_words
pairs-more [] f r = refl
pairs-more (g ∷ fs) f r = ap (λ (w : List ℕ). g.item.0 ∷ second_word g.second ∷ w) (pairs-more fs f r)

-- two words written after others
pair_set : (p l : List ℕ) (k a b : ℕ) → length p ≡ k → k + 1 < length l → set (set (p ++ drop k l) k a) (k + 1) b ≡ p ++ a ∷ b ∷ drop (k + 2) l
pair_set p l k a b e h =
    let y : ℕ = get_or l (suc k) 0 in
    let r : List ℕ = drop (suc (suc k)) l in
    let was : drop k l ≡ get_or l k 0 ∷ y ∷ r = drop-cons l k 0 (omega arith) ∙ ap (λ (w : List ℕ). get_or l k 0 ∷ w) (drop-cons l (suc k) 0 (omega arith)) in
    let one : set (p ++ drop k l) k a ≡ p ++ a ∷ y ∷ r = ap (λ (w : List ℕ). set (p ++ w) k a) was ∙ set_at p (get_or l k 0) (y ∷ r) a k e in
    let long : length (p ++ a ∷ []) ≡ k + 1 = omega (arith, length-append p (a ∷ [])) in
    let two : set (p ++ a ∷ y ∷ r) (k + 1) b ≡ p ++ a ∷ b ∷ r =
    ap (λ (w : List ℕ). set w (k + 1) b) (sym (append_snoc p a (y ∷ r))) ∙ set_at (p ++ a ∷ []) y r b (k + 1) long ∙ append_snoc p a (b ∷ r) in
    let on : suc (suc k) ≡ k + 2 = omega arith in
    ap (λ (w : List ℕ). set w (k + 1) b) one ∙ two ∙ ap (λ (i : ℕ). p ++ a ∷ b ∷ drop i l) on

-- nothing is written yet
pub wrote-start : {s : List ℕ} {first : Search} {l : List ℕ} → WroteTo s first l 0 first l
unfolding pair_words
wrote-start = record { found = []; met = Met.start; count = refl; words = refl }

-- one more finding is written
pub wrote-more : {s : List ℕ} {first : Search} {l : List ℕ} {i : ℕ} {c d : Search} {m : List ℕ} → 2 * i + 1 < length l → WroteTo s first l i c m → Stepped s c d
    → WroteTo s first l (i + 1) d (set (set m (2 * i) c.finding.item.0) (2 * i + 1) (second_word c.finding.second))
wrote-more {l = l} {i = i} {c = c} {m = m} h w t =
    let f : Finding = c.finding in
    let on : 2 * i + 2 ≡ 2 * (i + 1) = omega arith in
    let long : length (pair_words w.found) ≡ 2 * i = omega (arith, pairs-length w.found, w.count) in
    record {
      found = w.found ++ f ∷ [];
      met = Met.more w.met t;
      count = met-more w.found f ∙ ap suc w.count ∙ sym (add-one i);
      words = ap (λ (m : List ℕ). set (set m (2 * i) f.item.0) (2 * i + 1) (second_word f.second)) w.words
          ∙ pair_set (pair_words w.found) l (2 * i) f.item.0 (second_word f.second) long h
          ∙ sym (pairs-more w.found f (drop (2 * i + 2) l)) ∙ ap (λ (k : ℕ). pair_words (w.found ++ f ∷ []) ++ drop k l) on;
    }

-- a rule has few findings
pub small-total : {s : List ℕ} {n : Counts} {k : ℕ} {u : Rule} {room : ℕ} {p : Prepared} → Opens s n k u room p → SmallTotal p.answer
small-total (not_opened l e z) = subst SmallTotal (sym e) tt
small-total {s} {n} (judged d f e z c) = let few : n.items ≤ most_items = omega (arith, d.store.fits.items, width-wide s) in subst SmallTotal (sym e) (few-findings few f)

-- and can be a signed number
pub total-fits : {s : List ℕ} {n : Counts} {k : ℕ} {u : Rule} {room : ℕ} {p : Prepared} → Opens s n k u room p → ForOk p.answer (λ m. m < 2 ^ 63)
total-fits {p = p} o = at_most-fits p.answer (omega arith) (small-total o)

-- the writer's work is the promise
pub list-by : {n : Counts} {s g before after : List ℕ} {p : Prepared} {r : ℤ} → Prepares s n 0 (rule_of g) (length before / 2) p → Written s p.search p.write before after → r ≡ total_code p.answer
    → ListCode n s g before after r
unfolding pair_words
list-by {n} {s} {g} {before} {after} {p} {r} a w q = go a.opens
  where
    coded : {t : Total} → p.answer ≡ t → ListCode n s g before after (total_code t) → ListCode n s g before after r
    coded e = subst (ListCode n s g before after) (sym (q ∙ ap total_code e))

    nothing : (ms : List Finding) → length ms ≡ 0 → p.write ≡ 0 → pair_words ms ++ drop (2 * p.write) before ≡ before
    nothing [] l z = ap (λ (i : ℕ). drop (2 * i) before) z
    nothing (m ∷ ms) l z = absurd (omega arith)

    go : Opens s n 0 (rule_of g) (length before / 2) p → ListCode n s g before after r
    go (not_opened l e z) = coded e (refused l (w.wrote.words ∙ nothing w.wrote.found (w.wrote.count ∙ z) z))
    go (judged {fs = fs} d f e z c) =
        let few : length w.wrote.found ≤ length fs = omega (arith, z, w.wrote.count) in
        let first-ones : take p.write fs ≡ w.wrote.found = ap (λ (i : ℕ). take i fs) (sym w.wrote.count) ∙ met-first w.wrote.met c few in
        coded e (listed d f (w.wrote.words ∙ ap (λ (ms : List Finding). pair_words ms ++ drop (2 * p.write) before) (sym first-ones) ∙ ap (λ (i : ℕ). pair_words (take i fs) ++ drop (2 * i) before) z))

-- the promise allows one result
pub findings-unique : {n : Counts} {s g before after after' : List ℕ} {r r' : ℤ} → ListCode n s g before after r → ListCode n s g before after' r' → (after ≡ after') × (r ≡ r')
findings-unique (refused l e) (refused l' e') = (e ∙ sym e', ap (λ (j : ℕ). neg_ℤ (pos j)) (lowest-unique l l'))
findings-unique (refused l e) (listed d f e') = absurd (judged-none d _ l.applies)
findings-unique (listed d f e) (refused l e') = absurd (judged-none d _ l.applies)
findings-unique {before = before} (listed d f e) (listed d' f' e') =
    let q = rule-unique f f' in (
      e ∙ ap (λ (fs : List Finding). pair_words (take (min (length fs) (length before / 2)) fs) ++ drop (2 * min (length fs) (length before / 2)) before) q ∙ sym e',
      ap (λ (fs : List Finding). pos (length fs)) q,
    )
