-- Laws of writing the findings of a rule, one after the other. Assumes nothing.
use Rattle.std.specs.Prelude.{◌≡◌, List, [], ◌∷◌, ◌++◌, ℕ, suc, ◌+◌, ◌≤◌, length, get_or, take, drop}
use Rattle.std.proofs.Common.{sym, ap, ◌∙◌, subst, append-nil, add-one, arith, drop-cons, take-suc}
use Rattle.rule.specs.declared.Finding.{Finding}
use Rattle.judge.specs.declared.Search.{Search}
use Rattle.judge.specs.own.Search.{Coming, Stepped}
use Rattle.judge.specs.laws.Search.{coming-first}
use Rattle.text.specs.Text.{Wrote}
use Rattle.text.specs.laws.Text.{wrote_none, wrote_then}
use Rattle.field.specs.Names.{Names}
use Rattle.printed.specs.own.Lines.{RuleLines, line_text, lines_text}
use Rattle.printed.specs.laws.Lines.{lines-append}

-- i findings are written, and the others are still to come: the search that began at first stands at c
pub record Reached (s : List ℕ) (first : Search) (i : ℕ) (names : Names) (line : ℕ) (room : List ℕ) (at : ℕ) (c : Search) (exit : List ℕ) (r : ℕ) : Type 0 where
  pub coming : (fs : List Finding) → Coming s first fs → i ≤ length fs → Coming s c (drop i fs)
  pub wrote : (fs : List Finding) → Coming s first fs → i ≤ length fs → Wrote room at (lines_text names line (take i fs)) exit r

-- none is written yet
pub reached-start : (s : List ℕ) (first : Search) (names : Names) (line : ℕ) (room : List ℕ) (at : ℕ) → Reached s first 0 names line room at first room at
unfolding lines_text
reached-start s first names line room at = record { coming = λ fs k h. k; wrote = λ fs k h. wrote_none room at }

-- a line more
lines_more : (names : Names) (line : ℕ) (fs : List Finding) (f : Finding) → lines_text names line (fs ++ f ∷ []) ≡ lines_text names line fs ++ line_text names line f
unfolding lines_text
lines_more names line fs f = lines-append names line fs (f ∷ []) ∙ ap (λ (t : List ℕ). lines_text names line fs ++ t) (append-nil (line_text names line f))

-- one more is written
pub reached-more : {s : List ℕ} {first c d : Search} {i : ℕ} {names : Names} {line : ℕ} {room mid exit : List ℕ} {at p r : ℕ} → Reached s first i names line room at c mid p → Stepped s c d
    → Wrote mid p (line_text names line c.finding) exit r → Reached s first (i + 1) names line room at d exit r
reached-more {s} {first} {c} {d} {i} {names} {line} {room} {mid} {exit} {at} {p} {r} w t z = record {
  coming = λ fs k h. subst (λ (j : ℕ). Coming s d (drop j fs)) (sym (add-one i)) (t.next (get_or fs i f) (drop (suc i) fs) (here fs k h));
  wrote = λ fs k h. subst (λ (u : List ℕ). Wrote room at u exit r) (sym (text fs k h)) (wrote_then (w.wrote fs k (omega arith)) z);
}
  where
    f : Finding
    f = c.finding

    here : (fs : List Finding) → Coming s first fs → i + 1 ≤ length fs → Coming s c (get_or fs i f ∷ drop (suc i) fs)
    here fs k h = subst (Coming s c) (drop-cons fs i f (omega arith)) (w.coming fs k (omega arith))

    text : (fs : List Finding) → Coming s first fs → i + 1 ≤ length fs → lines_text names line (take (i + 1) fs) ≡ lines_text names line (take i fs) ++ line_text names line f
    text fs k h =
        ap (λ (j : ℕ). lines_text names line (take j fs)) (add-one i) ∙ ap (lines_text names line) (take-suc fs i f (omega arith))
        ∙ ap (λ (g : Finding). lines_text names line (take i fs ++ g ∷ [])) (coming-first (here fs k h)) ∙ lines_more names line (take i fs) f

-- n are written
pub reached-all : {s : List ℕ} {first c : Search} {n : ℕ} {names : Names} {line : ℕ} {room exit : List ℕ} {at r : ℕ} → Reached s first n names line room at c exit r → RuleLines s first n names line room at exit r
reached-all w = record { wrote = w.wrote }
