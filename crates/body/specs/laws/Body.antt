-- Laws of the items of a query: the words read back, and their number. Assumes nothing.
use Rattle.std.specs.Prelude.{◌≡◌, refl, List, [], ◌∷◌, ◌++◌, ℕ, ◌+◌, ◌*◌, length}
use Rattle.std.proofs.Common.{sym, ap, ◌∙◌, append_assoc, arith, length-append}
use Rattle.body.specs.Body.{is_a, rel, eq, Body, end, atom, not, ◌⊕◌, flat, size, Reading, broken, whole, inside, on, closes, opens, reads}

pub ⊕-end : (q : Body) → q ⊕ end ≡ q
⊕-end end = refl
⊕-end (atom a q) = ap (atom a) (⊕-end q)
⊕-end (not p q) = ap (not p) (⊕-end q)

pub flat-⊕ : (p q : Body) → flat (p ⊕ q) ≡ flat p ++ flat q
flat-⊕ end q = refl
flat-⊕ (atom (is_a A s) p) q = rw (flat-⊕ p q)
flat-⊕ (atom (rel R s t) p) q = rw (flat-⊕ p q)
flat-⊕ (atom (eq s t) p) q = rw (flat-⊕ p q)
flat-⊕ (not p r) q = rw (flat-⊕ r q, append_assoc)

on-id : (r : Reading) → r ≡ on (λ q. q) r
on-id broken = refl
on-id (whole q) = refl
on-id (inside q r) = refl

on-on : (f g : Body → Body) (r : Reading) → on f (on g r) ≡ on (λ q. f (g q)) r
on-on f g broken = refl
on-on f g (whole q) = refl
on-on f g (inside q r) = refl

opens-closes : (p q : Body) (r : Reading) → opens (on (λ x. p ⊕ x) (closes (on (λ x. q ⊕ x) r))) ≡ on (λ x. not p (q ⊕ x)) r
opens-closes p q broken = refl
opens-closes p q (whole x) = rw (⊕-end p)
opens-closes p q (inside x r) = rw (⊕-end p)

reads-flat : (q : Body) (l : List ℕ) → reads (flat q ++ l) ≡ on (λ r. q ⊕ r) (reads l)
reads-flat end l = on-id (reads l)
reads-flat (atom (is_a A s) q) l = rw (reads-flat q l) (on-on (atom (is_a A s)) (λ r. q ⊕ r) (reads l))
reads-flat (atom (rel R s t) q) l = rw (reads-flat q l) (on-on (atom (rel R s t)) (λ r. q ⊕ r) (reads l))
reads-flat (atom (eq s t) q) l = rw (reads-flat q l) (on-on (atom (eq s t)) (λ r. q ⊕ r) (reads l))
reads-flat (not p q) l =
    ap (λ ws. opens (reads ws)) (append_assoc (flat p) (5 ∷ 0 ∷ 0 ∷ 0 ∷ flat q) l)
    ∙ ap opens (reads-flat p (5 ∷ 0 ∷ 0 ∷ 0 ∷ (flat q ++ l)))
    ∙ ap (λ r. opens (on (λ x. p ⊕ x) (closes r))) (reads-flat q l)
    ∙ opens-closes p q (reads l)

pub reads-back : (q : Body) → reads (flat q) ≡ whole q
reads-back q = ap reads (sym (append-nil (flat q))) ∙ reads-flat q [] ∙ ap whole (⊕-end q)
  where
    append-nil : (l : List ℕ) → l ++ [] ≡ l
    append-nil [] = refl
    append-nil (a ∷ l) = ap (λ m. a ∷ m) (append-nil l)

-- ---- their number

pub size-⊕ : (p q : Body) → size (p ⊕ q) ≡ size p + size q
size-⊕ end q = omega arith
size-⊕ (atom a p) q = let e = size-⊕ p q in omega arith
size-⊕ (not p r) q = let e = size-⊕ r q in omega arith

pub length-flat : (q : Body) → length (flat q) ≡ 4 * size q
length-flat end = refl
length-flat (atom (is_a A s) q) = let e = length-flat q in omega arith
length-flat (atom (rel R s t) q) = let e = length-flat q in omega arith
length-flat (atom (eq s t) q) = let e = length-flat q in omega arith
length-flat (not p q) = let e = length-flat p in let f = length-flat q in omega (arith, length-append (flat p) (5 ∷ 0 ∷ 0 ∷ 0 ∷ flat q))
