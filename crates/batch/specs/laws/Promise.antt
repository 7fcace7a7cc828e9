-- Adding a list of statements allows one result. Assumes nothing.
use Rattle.std.specs.Prelude.{◌≡◌, refl, List, ℕ, suc, ◌<◌, ℤ, pos, get_or}
use Rattle.std.proofs.Common.{sym, ◌∙◌, subst, arith, ext_get_or}
use Rattle.std.proofs.Math.Decide.{dec_lt, ℕ_discrete}
use Rattle.store.specs.declared.Counts.{Counts}
use Rattle.batch.specs.Codes.{AddCode}
use Rattle.batch.specs.Promise.{AddsAll, InTurn, cell_numbered}
use Rattle.batch.specs.Promise.InTurn.{none, more}
use Rattle.batch.specs.laws.Codes.{add-code-unique}

-- as many statements leave the same words and the same answers
turns-unique : {n : Counts} {xs : List ℕ} {a b : List ℤ} {s t u : List ℕ} {k : ℕ} → InTurn n xs a s k t → InTurn n xs b s k u → (t ≡ u) × ((j : ℕ) → j < k → get_or a j (pos 0) ≡ get_or b j (pos 0))
turns-unique none none = (refl, λ j l. absurd (omega arith))
turns-unique {n} {xs} {a} {b} (more {k = k} {t = t} {u = t'} x y w) (more {t = u} {u = u'} x' y' w') =
    let e = turns-unique x x' in
    let q = add-code-unique w w' y (subst (λ (v : List ℕ). AddCode n (cell_numbered xs k) v u' (get_or b k (pos 0))) (sym e.0) y') in
    (q.0, λ j l. at e.1 q.1 j l (ℕ_discrete j k))
  where
    at : ((j : ℕ) → j < k → get_or a j (pos 0) ≡ get_or b j (pos 0)) → get_or a k (pos 0) ≡ get_or b k (pos 0) → (j : ℕ) → j < suc k → Dec (j ≡ k) → get_or a j (pos 0) ≡ get_or b j (pos 0)
    at f e j l (yes p) = rw p e
    at f e j l (no p) = f j (omega arith)

-- any two results that are allowed are equal
pub adds-all-unique : {n : Counts} {xs : List ℕ} {z a b : List ℤ} {s t u : List ℕ} {k m : ℕ} → AddsAll n xs z a s t k → AddsAll n xs z b s u m → (t ≡ u) × (a ≡ b) × (k ≡ m)
adds-all-unique {n} {xs} {z} {a} {b} {s} {t} {u} {k} {m} x y =
    let e : k ≡ m = x.taken ∙ sym y.taken in
    let q = turns-unique x.added (subst (λ (j : ℕ). InTurn n xs b s j u) (sym e) y.added) in
    (q.0, ext_get_or (pos 0) a b (x.long ∙ sym y.long) (λ i l. at e q.1 i (dec_lt i k)), e)
  where
    at : k ≡ m → ((j : ℕ) → j < k → get_or a j (pos 0) ≡ get_or b j (pos 0)) → (i : ℕ) → Dec (i < k) → get_or a i (pos 0) ≡ get_or b i (pos 0)
    at e f i (yes l) = f i l
    at e f i (no l) = x.past i (omega arith) ∙ sym (y.past i (omega arith))
