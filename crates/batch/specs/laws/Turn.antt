-- Laws of statements added one after the other: a closed store stays closed, so one test is enough. Assumes nothing.
use Rattle.std.specs.Prelude.{◌≡◌, refl, List, ℕ, suc, zero, ◌+◌, ◌/◌, ◌≤◌, ◌<◌, min, ℤ, pos, length, get_or, set}
use Rattle.std.proofs.Common.{sym, ap, ◌∙◌, subst, add-one, arith, length-set, get_or-set_same, get_or-set_other}
use Rattle.std.proofs.Math.Decide.{ℕ_discrete}
use Rattle.logic.specs.Lowest.{Lowest}
use Rattle.row.specs.Bit.{Words}
use Rattle.store.specs.declared.Counts.{Counts}
use Rattle.store.specs.Cell.{Cell, Within}
use Rattle.store.specs.Layout.{ClosedStore, Sized, size, width_of}
use Rattle.store.specs.laws.Width.{width_same}
use Rattle.std.specs.Prelude.{Err, Ok}
use Rattle.closure.specs.declared.Refusal.{Refusal}
use Rattle.closure.specs.declared.Refusal.TheVariants.{Number}
use Rattle.closure.specs.Refusal.{AddFault, Answer, number}
use Rattle.closure.specs.Promise.{Adds, Included}
use Rattle.closure.specs.Promise.Adds.{refused, added}
use Rattle.closure.specs.laws.Refusals.{add_none, add-refused-4, closed-sized}
use Rattle.batch.specs.Codes.{AddCode, code_of}
use Rattle.batch.specs.Promise.{AddsAll, InTurn, cell_numbered}
use Rattle.batch.specs.Promise.InTurn.{none, more}
use Rattle.batch.specs.own.Turn.{Answered, Filled, Turn}

-- ---- one statement

-- a number that is not below its count
pub turn-refused : {n : Counts} {c : Cell} {s : List ℕ} {r : ℤ} → ClosedStore (width_of s) n s → ¬ (Within n c) → r ≡ code_of (Err Number) → Turn n c s s r
turn-refused k w e = record {
  code = record { answer = Err Number; adds = refused {k = Number} (add-refused-4 (closed-sized k) k w) refl; code = e };
  closed = k;
}

-- a statement that is taken
pub taken-adds : {n : Counts} {c : Cell} {s t : List ℕ} {m : ℕ} → ClosedStore (width_of s) n s → Within n c → Included (width_of s) n c s t m → Adds (width_of s) n c s t (Ok m)
taken-adds k w x = added (add_none (closed-sized k) k w) x

pub turn-taken : {n : Counts} {c : Cell} {s t : List ℕ} {m : ℕ} {r : ℤ} → ClosedStore (width_of s) n s → Within n c → Included (width_of s) n c s t m → r ≡ code_of (Ok m) → Turn n c s t r
turn-taken {m = m} k w x e = record {
  code = record { answer = Ok m; adds = taken-adds k w x; code = e };
  closed = x.keeps.store;
}

-- a statement that is taken or refused
pub turn-of : {n : Counts} {c : Cell} {s t : List ℕ} {a : Answer} {r : ℤ} → ClosedStore (width_of s) n s → Adds (width_of s) n c s t a → r ≡ code_of a → Turn n c s t r
turn-of {n} {s = s} k (refused {k = j} l e) f = record {
  code = record { answer = Err j; adds = refused l e; code = f };
  closed = subst (λ (u : List ℕ). ClosedStore (width_of s) n u) (sym e) k;
}
turn-of k (added {m = m} f x) e = record { code = record { answer = Ok m; adds = added f x; code = e }; closed = x.keeps.store }

-- the same answer and the same cell, written otherwise
pub turn_at : {n : Counts} {c d : Cell} {s t : List ℕ} {r q : ℤ} → c ≡ d → r ≡ q → Turn n c s t r → Turn n d s t q
turn_at e f y = rw (← e, ← f) y

-- ---- one after the other

-- the answers before k are all that counts
same-answers : {n : Counts} {xs : List ℕ} {a b : List ℤ} {s t : List ℕ} {k : ℕ} → ((j : ℕ) → j < k → get_or a j (pos 0) ≡ get_or b j (pos 0)) → InTurn n xs a s k t → InTurn n xs b s k t
same-answers f none = none
same-answers {n} {xs} f (more {k = k} {t = t} {u = u} x y w) =
    more (same-answers (λ j l. f j (omega arith)) x) (subst (λ (r : ℤ). AddCode n (cell_numbered xs k) t u r) (f k (omega arith)) y) w

-- before the first
pub answered-none : {n : Counts} (xs : List ℕ) (a : List ℤ) {s : List ℕ} → ClosedStore (width_of s) n s → Answered n xs a a s s 0
answered-none xs a k = record { added = none; closed = k; wide = refl; long = refl; past = λ i l. refl }

-- one more
pub answered-more : {n : Counts} {xs : List ℕ} {a b : List ℤ} {s t u : List ℕ} {i : ℕ} {r : ℤ} → Answered n xs a b s t i → i < length b → Turn n (cell_numbered xs i) t u r → Words 64 u
    → Answered n xs a (set b i r) s u (i + 1)
answered-more {n} {xs} {b = b} {s} {t} {u} {i} {r} d l y w = record {
  added = rw add-one (more earlier (subst (λ (q : ℤ). AddCode n (cell_numbered xs i) t u q) (sym (get_or-set_same b i r (pos 0) l)) y.code) w);
  closed = rw d.wide at y.closed;
  wide = width_same u t (y.closed.long ∙ ap size d.wide ∙ sym d.closed.long) ∙ d.wide;
  long = length-set b i r ∙ d.long;
  past = λ j h. get_or-set_other b i j r (pos 0) (λ e. omega arith) ∙ d.past j (omega arith);
}
  where
    earlier : InTurn n xs (set b i r) s i t
    earlier = same-answers (λ j h. sym (get_or-set_other b i j r (pos 0) (λ e. omega arith))) d.added

-- after the last
pub answered-done : {n : Counts} {xs : List ℕ} {a b : List ℤ} {s t : List ℕ} {i k : ℕ} → Answered n xs a b s t i → i ≤ k → k ≤ i → Answered n xs a b s t k
answered-done {n} {xs} {a} {b} {s} {t} {i} {k} d h l = let e : i ≡ k = omega arith in subst (λ (j : ℕ). Answered n xs a b s t j) e d

-- ---- answers that are all alike

-- before the first
pub filled_none : (r : ℤ) (a : List ℤ) → Filled r 0 a a
filled_none r a = record { long = refl; first = λ i l. absurd (omega arith); past = λ i l. refl }

-- one more
pub filled_more : {r : ℤ} {i : ℕ} {a b : List ℤ} → Filled r i a b → i < length b → Filled r (i + 1) a (set b i r)
filled_more {r} {i} {a} {b} d l = record {
  long = length-set b i r ∙ d.long;
  first = λ j h. at j h (ℕ_discrete j i);
  past = λ j h. get_or-set_other b i j r (pos 0) (λ e. omega arith) ∙ d.past j (omega arith);
}
  where
    at : (j : ℕ) → j < i + 1 → Dec (j ≡ i) → get_or (set b i r) j (pos 0) ≡ r
    at j h (yes e) = rw e (get_or-set_same b i r (pos 0) l)
    at j h (no e) = get_or-set_other b i j r (pos 0) e ∙ d.first j (omega arith)

-- after the last
pub filled-done : {r : ℤ} {i k : ℕ} {a b : List ℤ} → Filled r i a b → i ≤ k → k ≤ i → Filled r k a b
filled-done d h l = record { long = d.long; first = λ j m. d.first j (omega arith); past = λ j m. d.past j (omega arith) }

-- the same answer, written otherwise
pub filled_at : {r q : ℤ} {k : ℕ} {a b : List ℤ} → r ≡ q → Filled r k a b → Filled q k a b
filled_at e d = rw (← e) d

-- where every statement is refused alike, nothing changes
refused-turns : {n : Counts} {s : List ℕ} {a : List ℤ} (j : Refusal) (xs : List ℕ) (k : ℕ) → ((c : Cell) → Lowest (AddFault (width_of s) n c s) (number j)) → Words 64 s
    → ((i : ℕ) → i < k → get_or a i (pos 0) ≡ code_of (Err j)) → InTurn n xs a s k s
refused-turns j xs zero f w e = none
refused-turns j xs (suc k) f w e =
    more (refused-turns j xs k f w (λ i l. e i (omega arith))) (record { answer = Err j; adds = refused {k = j} (f (cell_numbered xs k)) refl; code = e k (omega arith) }) w

pub all-refused : {n : Counts} {s xs : List ℕ} {z a : List ℤ} {k : ℕ} {r : ℤ} (j : Refusal) → ((c : Cell) → Lowest (AddFault (width_of s) n c s) (number j)) → Words 64 s → k ≡ min (length xs / 4) (length z)
    → Filled r k z a → r ≡ code_of (Err j) → AddsAll n xs z a s s k
all-refused {xs = xs} {k = k} j f w t d e = record { taken = t; added = refused-turns j xs k f w (λ i l. d.first i l ∙ e); long = d.long; past = d.past }
