-- Laws of counting articles: items that are the same count once. Assumes nothing.
use Rattle.std.specs.Prelude.{◌≡◌, refl, List, [], ◌∷◌, ℕ, zero, suc, ◌≤◌, ◌<◌, length}
use Rattle.std.proofs.Common.{sym, ap, subst, ⊎_elim, arith}
use Rattle.std.proofs.Math.Decide.{ℕ_discrete, dec_lt}
use Rattle.logic.specs.Number.{One, Distinct}
use Rattle.logic.specs.Number.One.{first, later}
use Rattle.logic.specs.Number.Distinct.{none as no_other, more as one_more}
use Rattle.logic.specs.laws.Number.{one-cases, one_none, length-le}
use Rattle.store.specs.declared.Counts.{Counts}
use Rattle.store.specs.Cell.{Cell, Obeys, DeclaredItem}
use Rattle.store.specs.Cell.Cell.{Same}
use Rattle.rule.specs.Meaning.{Different, Articles}
use Rattle.rule.specs.Meaning.Different.{none, more}

-- ---- no more different items than items that they are the same as

-- x is the same as one of the list
abbrev pub Covered : (Cell → Type 0) → List ℕ → ℕ → Type 0
Covered C xs x = (b : ℕ) × One b xs × C (Same b x)

-- for each of ys one of xs that is the same, all of them distinct
record Chosen (C : Cell → Type 0) (xs ys : List ℕ) : Type 0 where
  list : List ℕ
  distinct : Distinct list
  count : length list ≡ length ys
  from : (b : ℕ) → One b list → One b xs × ((y : ℕ) × One y ys × C (Same b y))

module _ {C : Cell → Type 0} {n : Counts} (o : Obeys n C) where
  choose : {xs ys : List ℕ} → Different C ys → ((y : ℕ) → One y ys → Covered C xs y) → Chosen C xs ys
  choose none f = record { list = []; distinct = no_other; count = refl; from = λ b q. absurd (one_none q) }
  choose {xs} (more {x = y} {xs = ys} apart d) f = with_first (f y first) (choose d (λ z q. f z (later q)))
    where
      with_first : Covered C xs y → Chosen C xs ys → Chosen C xs (y ∷ ys)
      with_first b r = record {
        list = b.0 ∷ r.list;
        distinct = one_more (λ q. let z = r.from b.0 q in apart z.1.0 z.1.1 (o.same-trans (o.same-sym b.2) z.1.2)) r.distinct;
        count = ap suc r.count;
        from = λ z q. ⊎_elim (λ e. subst (λ (v : ℕ). One v xs × ((y' : ℕ) × One y' (y ∷ ys) × C (Same v y'))) (sym e) (b.1, (y, first, b.2)))
            (λ w. let v = r.from z w in (v.0, (v.1.0, later v.1.1, v.1.2)))
            (one-cases q);
      }

  -- the pigeonhole
  pub cover-le : {xs ys : List ℕ} → Different C ys → ((y : ℕ) → One y ys → Covered C xs y) → length ys ≤ length xs
  cover-le d f = let r = choose d f in omega (arith, r.count, length-le r.distinct (λ b q. (r.from b q).0))

-- ---- telling whether there are so many

-- of k or more different items, k
pub fewer-articles : {C : Cell → Type 0} {n : Counts} {P : ℕ → Type 0} {xs : List ℕ} (k : ℕ) → Different C xs → k ≤ length xs → ((b : ℕ) → One b xs → DeclaredItem n b × P b) → Articles C n k P
fewer-articles k none l f = record { items = []; count = omega arith; each = f; different = none }
fewer-articles {C} {n} {P} k (more {x = x} {xs = xs} a d) l f = go (dec_lt (length xs) k) (λ h. fewer-articles k d h (λ b q. f b (later q)))
  where
    go : Dec (length xs < k) → (k ≤ length xs → Articles C n k P) → Articles C n k P
    go (yes h) r = record { items = x ∷ xs; count = omega arith; each = f; different = more a d }
    go (no h) r = r (omega arith)

-- whether one of a list has a property that can be told
any-one? : {Q : ℕ → Type 0} → ((b : ℕ) → Dec (Q b)) → (xs : List ℕ) → Dec ((b : ℕ) × One b xs × Q b)
any-one? d [] = no (λ r. one_none r.1)
any-one? {Q} d (x ∷ xs) = go (d x) (any-one? d xs)
  where
    go : Dec (Q x) → Dec ((b : ℕ) × One b xs × Q b) → Dec ((b : ℕ) × One b (x ∷ xs) × Q b)
    go (yes q) r = yes (x, first, q)
    go (no q) (yes r) = yes (r.0, later r.1, r.2)
    go (no q) (no r) = no (λ s. ⊎_elim (λ e. q (subst Q e s.2)) (λ w. r (s.0, w, s.2)) (one-cases s.1))

-- items of kind P below i, no two the same, such that each one below i is the same as one of them
record Spread (C : Cell → Type 0) (P : ℕ → Type 0) (i : ℕ) : Type 0 where
  items : List ℕ
  each : (b : ℕ) → One b items → (b < i) × P b
  different : Different C items
  covers : (x : ℕ) → x < i → P x → Covered C items x

module _ {C : Cell → Type 0} {n : Counts} (o : Obeys n C) (C? : (c : Cell) → Dec (C c)) {P : ℕ → Type 0} (P? : (b : ℕ) → Dec (P b)) where
  spread : (i : ℕ) → i ≤ n.items → Spread C P i
  spread zero l = record { items = []; each = λ b q. absurd (one_none q); different = none; covers = λ x h p. absurd (omega arith) }
  spread (suc i) l = go (P? i) (spread i (omega arith))
    where
      -- the list serves for i too
      keeps : (r : Spread C P i) → (P i → Covered C r.items i) → Spread C P (suc i)
      keeps r f = record {
        items = r.items;
        each = λ b q. (omega (arith, (r.each b q).0), (r.each b q).1);
        different = r.different;
        covers = λ x h p. cover x h p (ℕ_discrete x i);
      }
        where
          cover : (x : ℕ) → x < suc i → P x → Dec (x ≡ i) → Covered C r.items x
          cover x h p (yes e) = subst (λ (y : ℕ). Covered C r.items y) (sym e) (f (subst P e p))
          cover x h p (no e) = r.covers x (omega arith) p

      grows : (r : Spread C P i) → P i → ¬ (Covered C r.items i) → Spread C P (suc i)
      grows r p f = record {
        items = i ∷ r.items;
        each = λ b q. ⊎_elim (λ e. subst (λ (y : ℕ). (y < suc i) × P y) (sym e) (omega arith, p)) (λ w. (omega (arith, (r.each b w).0), (r.each b w).1)) (one-cases q);
        different = more (λ y q s. f (y, q, o.same-sym s)) r.different;
        covers = λ x h z. cover x h z (ℕ_discrete x i);
      }
        where
          cover : (x : ℕ) → x < suc i → P x → Dec (x ≡ i) → Covered C (i ∷ r.items) x
          cover x h z (yes e) = subst (λ (y : ℕ). Covered C (i ∷ r.items) y) (sym e) (i, first, o.same_refl (omega arith))
          cover x h z (no e) = let c = r.covers x (omega arith) z in (c.0, later c.1, c.2)

      tell : (r : Spread C P i) → P i → Dec (Covered C r.items i) → Spread C P (suc i)
      tell r p (yes c) = keeps r (λ p'. c)
      tell r p (no f) = grows r p f

      go : Dec (P i) → Spread C P i → Spread C P (suc i)
      go (yes p) r = tell r p (any-one? (λ b. C? (Same b i)) r.items)
      go (no p) r = keeps r (λ p'. absurd (p p'))

  -- whether k or more different articles contain an item with the property can be told
  pub articles? : (k : ℕ) → Dec (Articles C n k P)
  articles? k = go (spread n.items (omega arith))
    where
      go : Spread C P n.items → Dec (Articles C n k P)
      go r = tell (dec_lt (length r.items) k)
        where
          tell : Dec (length r.items < k) → Dec (Articles C n k P)
          tell (yes l) = no (λ a. omega (arith, a.count, cover-le o a.different (λ y q. let p = a.each y q in r.covers y p.0 p.1)))
          tell (no l) = yes (fewer-articles k r.different (omega arith) r.each)

-- what means the same for declared items has the same articles
pub articles-iff : {C : Cell → Type 0} {n : Counts} {k : ℕ} {P Q : ℕ → Type 0} → ((b : ℕ) → DeclaredItem n b → P b → Q b) → Articles C n k P → Articles C n k Q
articles-iff f a = record { items = a.items; count = a.count; each = λ b q. let p = a.each b q in (p.0, f b p.0 p.1); different = a.different }
