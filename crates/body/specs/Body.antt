-- The items of a query as words, and the conditions that they write down.
use Rattle.std.specs.Prelude.{List, [], ◌∷◌, ◌++◌, ℕ, zero, suc, ◌+◌}

infixr 65 ◌⊕◌
-- A term is a number: a variable's own, or 4096 + a for the item a.
abbrev pub first_item : ℕ
first_item = 4096

-- a concept and its term; a role and its two terms; an equality of two terms
pub data Atom : Type 0 where
  is_a : ℕ → ℕ → Atom
  rel : ℕ → ℕ → ℕ → Atom
  eq : ℕ → ℕ → Atom

-- conditions, one after the other: an atom and what follows it; what stands in a not and what follows it
pub data Body : Type 0 where
  end : Body
  atom : Atom → Body → Body
  not : Body → Body → Body

-- one body after the other
abbrev pub ◌⊕◌ : Body → Body → Body
end ⊕ r = r
atom a q ⊕ r = atom a (q ⊕ r)
not p q ⊕ r = not p (q ⊕ r)

-- an item is four words: kind (1 concept, 2 role, 3 equality, 4 open not, 5 close not), name number or 0, first term, second term or 0
abbrev pub flat : Body → List ℕ
flat end = []
flat (atom (is_a c s) q) = 1 ∷ c ∷ s ∷ 0 ∷ flat q
flat (atom (rel r s t) q) = 2 ∷ r ∷ s ∷ t ∷ flat q
flat (atom (eq s t) q) = 3 ∷ 0 ∷ s ∷ t ∷ flat q
flat (not p q) = 4 ∷ 0 ∷ 0 ∷ 0 ∷ (flat p ++ (5 ∷ 0 ∷ 0 ∷ 0 ∷ flat q))

-- the number of items
abbrev pub size : Body → ℕ
size end = 0
size (atom a q) = 1 + size q
size (not p q) = 2 + (size p + size q)

-- What the words from some item on say. `whole q`: they are q. `inside p r`: they are the rest of a not that holds p, and then r. `broken`: nothing.
pub data Reading : Type 0 where
  broken : Reading
  whole : Body → Reading
  inside : Body → Reading → Reading

-- with one more condition in front
abbrev pub on : (Body → Body) → Reading → Reading
on f broken = broken
on f (whole q) = whole (f q)
on f (inside q r) = inside (f q) r

-- with a close not in front: what stands before it is in the not
abbrev pub closes : Reading → Reading
closes broken = broken
closes (whole q) = inside end (whole q)
closes (inside q r) = inside end (inside q r)

-- with an open not in front: the not is whole
abbrev pub opens : Reading → Reading
opens broken = broken
opens (whole q) = broken
opens (inside p r) = on (not p) r

-- with one more item in front
abbrev pub item : ℕ → ℕ → ℕ → ℕ → Reading → Reading
item zero n s t r = broken
item (suc zero) n s t r = on (atom (is_a n s)) r
item (suc (suc zero)) n s t r = on (atom (rel n s t)) r
item (suc (suc (suc zero))) n s t r = on (atom (eq s t)) r
item (suc (suc (suc (suc zero)))) n s t r = opens r
item (suc (suc (suc (suc (suc zero))))) n s t r = closes r
item (suc (suc (suc (suc (suc (suc k)))))) n s t r = broken

-- what words say, four to an item
abbrev pub reads : List ℕ → Reading
reads [] = whole end
reads (k ∷ []) = broken
reads (k ∷ n ∷ []) = broken
reads (k ∷ n ∷ s ∷ []) = broken
reads (k ∷ n ∷ s ∷ t ∷ l) = item k n s t (reads l)
