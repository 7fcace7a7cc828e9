-- Laws of the short forms: each means what its words say, in a closed store. Assumes nothing.
use Rattle.std.specs.Prelude.{◌≡◌, refl, ◌⊎◌, ◌↔◌, List, [], ◌∷◌, ℕ, suc, ◌≤◌, ◌<◌, length}
use Rattle.std.proofs.Common.{sym, subst, inl, inr, ⊎_elim, arith}
use Rattle.std.proofs.Math.Decide.{dec_lt}
use Rattle.logic.specs.Number.{One}
use Rattle.logic.specs.Number.One.{first}
use Rattle.logic.specs.laws.Number.{one-cases, one_none}
use Rattle.store.specs.declared.Counts.{Counts}
use Rattle.store.specs.Cell.{Cell, DeclaredItem}
use Rattle.store.specs.Layout.{ClosedStore, Holds}
use Rattle.rule.specs.declared.RoleUse.{RoleUse}
use Rattle.rule.specs.Expr.{Expr, bot, either, some, every, at_most}
use Rattle.rule.specs.Expr.Expr.{neg}
use Rattle.rule.specs.Meaning.{Linked, Different, Articles, HoldsOf}
use Rattle.rule.specs.Meaning.Different.{none, more}
use Rattle.rule.proofs.laws.Articles.{fewer-articles}
use Rattle.rule.proofs.laws.Told.{store-holds_of?}

-- a declared item that is linked from x and has the expression
abbrev pub LinkedWith : (Cell → Type 0) → Counts → RoleUse → Expr → ℕ → ℕ → Type 0
LinkedWith C n u c x b = DeclaredItem n b × (Linked C u x b × HoldsOf C n c b)

module _ {W : ℕ} {n : Counts} {s : List ℕ} (k : ClosedStore W n s) where
  -- bot holds of nothing
  pub bot-none : (x : ℕ) → ¬ (HoldsOf (Holds W n s) n bot x)
  unfolding HoldsOf
  bot-none x h = h tt

  -- either C D: what C holds of and what D holds of
  pub either-holds : (c d : Expr) (x : ℕ) → HoldsOf (Holds W n s) n (either c d) x ↔ (HoldsOf (Holds W n s) n c x ⊎ HoldsOf (Holds W n s) n d x)
  unfolding HoldsOf
  either-holds c d x = (λ h. go h (store-holds_of? k c x) (store-holds_of? k d x), λ y h. ⊎_elim h.0 h.1 y)
    where
      go : ¬ (¬ (HoldsOf (Holds W n s) n c x) × ¬ (HoldsOf (Holds W n s) n d x)) → Dec (HoldsOf (Holds W n s) n c x) → Dec (HoldsOf (Holds W n s) n d x)
          → HoldsOf (Holds W n s) n c x ⊎ HoldsOf (Holds W n s) n d x
      go h (yes p) q = inl p
      go h (no p) (yes q) = inr q
      go h (no p) (no q) = absurd (h (p, q))

  -- some R C: there is a declared item that is linked and that C holds of
  pub some_holds : (u : RoleUse) (c : Expr) (x : ℕ) → HoldsOf (Holds W n s) n (some u c) x ↔ ((b : ℕ) × LinkedWith (Holds W n s) n u c x b)
  unfolding HoldsOf
  some_holds u c x = (
    λ a. go a.items a.count a.each,
    λ r. record { items = r.0 ∷ []; count = refl; each = λ b q. ⊎_elim (λ e. subst (λ (y : ℕ). With y) (sym e) r.1) (λ w. absurd (one_none w)) (one-cases q); different = more (λ y q. absurd (one_none q)) none },
  )
    where
      With : ℕ → Type 0
      With b = LinkedWith (Holds W n s) n u c x b

      go : (xs : List ℕ) → length xs ≡ 1 → ((b : ℕ) → One b xs → With b) → (b : ℕ) × With b
      go [] e f = absurd (omega arith)
      go (y ∷ ys) e f = (y, f y first)

  -- every R C: C holds of every declared item that is linked
  pub every_holds : (u : RoleUse) (c : Expr) (x : ℕ)
      → HoldsOf (Holds W n s) n (every u c) x ↔ ((b : ℕ) → DeclaredItem n b → Linked (Holds W n s) u x b → HoldsOf (Holds W n s) n c b)
  unfolding HoldsOf
  every_holds u c x = (
    λ h b l y. go b (λ p. h ((some_holds u (neg c) x).1 (b, (l, (y, p))))) (store-holds_of? k c b),
    λ f h. let r = (some_holds u (neg c) x).0 h in r.1.1.1 (f r.0 r.1.0 r.1.1.0),
  )
    where
      go : (b : ℕ) → ¬ (¬ (HoldsOf (Holds W n s) n c b)) → Dec (HoldsOf (Holds W n s) n c b) → HoldsOf (Holds W n s) n c b
      go b h (yes p) = p
      go b h (no p) = absurd (h p)

  -- at most m R C: no m + 1 different articles are linked that C holds of; any list of such items, no two the same, is at most m long
  pub at_most-holds : (m : ℕ) (u : RoleUse) (c : Expr) (x : ℕ)
      → HoldsOf (Holds W n s) n (at_most m u c) x ↔ ((ys : List ℕ) → Different (Holds W n s) ys → ((b : ℕ) → One b ys → LinkedWith (Holds W n s) n u c x b) → length ys ≤ m)
  unfolding HoldsOf
  at_most-holds m u c x = (λ h ys d f. go h ys d f (dec_lt m (length ys)), λ f a. omega (arith, a.count, f a.items a.different a.each))
    where
      go : ¬ (Articles (Holds W n s) n (suc m) (λ b. Linked (Holds W n s) u x b × HoldsOf (Holds W n s) n c b)) → (ys : List ℕ) → Different (Holds W n s) ys
          → ((b : ℕ) → One b ys → LinkedWith (Holds W n s) n u c x b) → Dec (m < length ys) → length ys ≤ m
      go h ys d f (yes l) = absurd (h (fewer-articles (suc m) d (omega arith) f))
      go h ys d f (no l) = omega arith
