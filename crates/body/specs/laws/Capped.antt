-- Laws of lengths as far as one past the limit. Assumes nothing.
use Rattle.std.specs.Prelude.{◌≡◌, refl, List, ℕ, zero, suc, ◌+◌, ◌*◌, ◌-◌, ◌/◌, ◌≤◌, min}
use Rattle.std.proofs.Common.{sym, ap, subst, ◌∙◌, mul-le-mul, suc-mul, arith}
use Rattle.std.proofs.Math.Logic.{by_cases}
use Rattle.std.proofs.Math.Decide.{dec_le, ℕ_discrete}
use Rattle.store.specs.declared.Item.{Item}
use Rattle.rule.specs.declared.Head.{Head}
use Rattle.rule.specs.declared.Head.TheVariants.{Sub, Chain, In}
use Rattle.rule.specs.declared.RoleUse.{RoleUse}
use Rattle.rule.specs.declared.Slot.{Slot}
use Rattle.rule.specs.Expr.{Expr, expr_of}
use Rattle.rule.specs.Expr.Expr.{neg, both, many}
use Rattle.body.specs.Length.{length_of, head_length, item_limit}
use Rattle.body.specs.own.Writing.{Capped, Long}

pub cap-as : (r : ℕ) (e f : Expr) → e ≡ f → Capped f r → Capped e r
cap-as r e f p h = subst (λ x. Capped x r) (sym p) h

pub cap-not : (r c : ℕ) (C : Expr) → Capped C c → r ≡ min (2 + c) (item_limit + 1) → Capped (neg C) r
cap-not r c C h k = record { is = (let z = h.is in omega arith) }

pub cap-and : (r c d : ℕ) (C D : Expr) → Capped C c → Capped D d → r ≡ min (c + d) (item_limit + 1) → Capped (both C D) r
cap-and r c d C D h k m = record { is = (let y = h.is in let z = k.is in omega arith) }

-- n times as much is no less
pub at-least-itself : (n m : ℕ) → ¬ (n ≡ 0) → m ≤ n * m
at-least-itself zero m ne = absurd (ne refl)
at-least-itself (suc n) m ne = omega (arith, suc-mul n m)

pub times-past : (n c : ℕ) → n ≤ n * (1 + c)
times-past zero c = omega arith
times-past (suc n) c = let h = times-past n c in omega (arith, suc-mul n (1 + c))

pub times-small : (a b : ℕ) → a ≤ 1000 → b ≤ 1000 → a * b ≤ 1000000
times-small a b h k = mul-le-mul h k

pub cap-least : (r n c : ℕ) (R : RoleUse) (C : Expr) → Capped C c → r ≡ min (n * (1 + c) + 3 * (n * (n - 1)) / 2) (item_limit + 1) → Capped (many n R C) r
cap-least r n c R C cap k = let h = cap.is in record {
  is =
      by_cases (dec_le (length_of C) (item_limit + 1))
      (λ le. k ∙ ap (λ x. min (n * (1 + x) + 3 * (n * (n - 1)) / 2) (item_limit + 1)) (h ∙ omega arith))
      (λ nl. by_cases (ℕ_discrete n 0)
      (λ e. k ∙ none e)
      (λ ne. let e : c ≡ item_limit + 1 = omega arith in omega (arith, at-least-itself n (1 + c) ne, at-least-itself n (1 + length_of C) ne)));
}
  where
    none : n ≡ 0 → min (n * (1 + c) + 3 * (n * (n - 1)) / 2) (item_limit + 1) ≡ min (n * (1 + length_of C) + 3 * (n * (n - 1)) / 2) (item_limit + 1)
    none e = rw e (omega arith)

-- ---- the length of a rule's query

pub long-fixed : (ns : List Slot) (h : Head) (n : ℕ) → head_length ns h ≡ n → n ≤ item_limit → Long ns h n
long-fixed ns h n e l = record { exact = λ _. sym e; over = λ k. absurd (omega arith); bound = omega arith }

pub long-sub : (ns : List Slot) (c d l r : ℕ) → Capped (expr_of ns c) l → Capped (expr_of ns d) r → Long ns (Sub c d) (l + 2 + r)
unfolding head_length
long-sub ns c d l r hc hd = let y = hc.is in let z = hd.is in record { exact = λ le. omega arith; over = λ lt. omega arith; bound = omega arith }

pub long-in : (ns : List Slot) (c l : ℕ) (a : Item) → Capped (expr_of ns c) l → Long ns (In c a) (2 + l)
unfolding head_length
long-in ns c l a hc = let y = hc.is in record { exact = λ le. omega arith; over = λ lt. omega arith; bound = omega arith }

pub long-chain : (ns : List Slot) (k n : ℕ) (r1 r2 r3 r4 r : RoleUse) → n ≡ min (k + 3) (item_limit + 1) → Long ns (Chain k r1 r2 r3 r4 r) n
unfolding head_length
long-chain ns k n r1 r2 r3 r4 r e = record { exact = λ le. omega arith; over = λ lt. omega arith; bound = omega arith }
