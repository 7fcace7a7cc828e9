-- Laws of the caller's list. Assumes nothing.
use Rattle.std.specs.Prelude.{◌≡◌, Bool, true, false, cond, List, [], ◌∷◌, ◌++◌, ℕ, suc, ◌+◌, ◌≤◌, min, length, set}
use Rattle.std.proofs.Math.Path.{refl}
use Rattle.std.proofs.Common.{sym, ap, ◌∙◌, subst, append-nil, arith, length-append, length-set}
use Rattle.std.proofs.lemmas.List.{length-map}
use Rattle.row.specs.own.Row.{row_hasb}
use Rattle.sheet.specs.Said.{SheetStatement}
use Rattle.why.specs.Listed.{Listed, lines_of}
use Rattle.why.specs.own.Writing.{PutIf}
use Rattle.reason.specs.own.Picked.{picked, picked_from}
use Rattle.reason.specs.laws.Picked.{picked_more}

-- the list b with the numbers ls written from its start on, as far as it reaches
abbrev over : List ℕ → List ℕ → List ℕ
over [] b = b
over (l ∷ ls) [] = []
over (l ∷ ls) (x ∷ b) = l ∷ over ls b

over-more : (ls b : List ℕ) (l : ℕ) → set (over ls b) (length ls) l ≡ over (ls ++ l ∷ []) b
over-more [] [] l = refl
over-more [] (x ∷ b) l = refl
over-more (k ∷ ls) [] l = refl
over-more (k ∷ ls) (x ∷ b) l = ap (◌∷◌ k) (over-more ls b l)

over-listed : (ls b : List ℕ) → Listed ls b (over ls b)
over-listed [] b = let e : min 0 (length b) ≡ 0 = omega arith in rw e
over-listed (l ∷ ls) [] = let e : min (suc (length ls)) 0 ≡ 0 = omega arith in rw e
over-listed (l ∷ ls) (x ∷ b) = let e : min (suc (length ls)) (suc (length b)) ≡ suc (min (length ls) (length b)) = omega arith in rw e (ap (◌∷◌ l) (over-listed ls b))

-- a list of no place
pub listed-none : (ls room : List ℕ) → length room ≡ 0 → Listed ls room room
listed-none ls room h = let e : min (length ls) (length room) ≡ 0 = omega (arith, h) in rw e

-- the lines of those marked among the statements passed are written, and there are r of them
pub record Putting (marks before : List ℕ) (after : List ℕ) (r : ℕ) (done : List SheetStatement) : Type 0 where
  pub written : after ≡ over (lines_of (picked marks done)) before
  pub total : r ≡ length (picked marks done)

-- one line more
pub lines_more : (ls : List SheetStatement) (l : SheetStatement) → lines_of (ls ++ l ∷ []) ≡ lines_of ls ++ l.line ∷ []
lines_more [] l = refl
lines_more (k ∷ ls) l = ap (◌∷◌ k.line) (lines_more ls l)

-- the place after is at most one more
pub put-le : {on : Bool} {i line r : ℕ} {b a : List ℕ} → PutIf on i line b a r → r ≤ i + 1
put-le {on} {i} {r = r} h = go on h.next
  where
    go : (t : Bool) → r ≡ cond t (i + 1) i → r ≤ i + 1
    go true e = omega arith
    go false e = omega arith

pub put-length : {on : Bool} {i line r : ℕ} {b a : List ℕ} → PutIf on i line b a r → length a ≡ length b
put-length {on} {i} {line} {b = b} {a = a} h = go on h.list
  where
    go : (t : Bool) → a ≡ cond t (set b i line) b → length a ≡ length b
    go true e = ap length e ∙ length-set b i line
    go false e = ap length e

module _ {marks before : List ℕ} where
  pub putting-none : Putting marks before before 0 []
  unfolding picked_from
  putting-none = record { written = refl; total = refl }

  pub putting-more : {after then : List ℕ} {r q i : ℕ} {on : Bool} {done : List SheetStatement} (l : SheetStatement) → i ≡ length done → on ≡ row_hasb marks i → Putting marks before after r done → PutIf on r l.line after then q
      → Putting marks before then q (done ++ l ∷ [])
  putting-more {after} {then} {r} {q} {on = on} {done = done} l at is w p =
      let e = picked_more (row_hasb marks) done l on (ap (row_hasb marks) (sym at) ∙ sym is) in
      record {
        written = subst (λ (ls : List SheetStatement). then ≡ over (lines_of ls) before) (sym e) (written on p.list);
        total = subst (λ (ls : List SheetStatement). q ≡ length ls) (sym e) (total on p.next);
      }
    where
      written : (b : Bool) → then ≡ cond b (set after r l.line) after → then ≡ over (lines_of (picked marks done ++ cond b (l ∷ []) [])) before
      written true h =
          h ∙ ap (λ (z : List ℕ). set z r l.line) w.written ∙ ap (λ (j : ℕ). set (over (lines_of (picked marks done)) before) j l.line) (w.total ∙ sym (length-map (picked marks done) (λ (k : SheetStatement). k.line)))
          ∙ over-more (lines_of (picked marks done)) before l.line ∙ ap (λ (z : List ℕ). over z before) (sym (lines_more (picked marks done) l))
      written false h = h ∙ w.written ∙ ap (λ (z : List SheetStatement). over (lines_of z) before) (sym (append-nil (picked marks done)))

      total : (b : Bool) → q ≡ cond b (r + 1) r → q ≡ length (picked marks done ++ cond b (l ∷ []) [])
      total true h = omega (arith, h, w.total, length-append (picked marks done) (l ∷ []))
      total false h = h ∙ w.total ∙ ap length (sym (append-nil (picked marks done)))

  pub putting-listed : {after : List ℕ} {r : ℕ} {all : List SheetStatement} → Putting marks before after r all → Listed (lines_of (picked marks all)) before after
  putting-listed {all = all} w = w.written ∙ over-listed (lines_of (picked marks all)) before
