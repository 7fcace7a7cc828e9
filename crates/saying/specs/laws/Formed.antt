-- The nodes of an expression in prefix order: each uses later ones, and all but the first are used once. Assumes nothing.
use Rattle.std.specs.Prelude.{◌≡◌, refl, drop, get_or, length, take}
use Rattle.std.proofs.Common.{sym, ◌∙◌, ap, eq-eqb, ne_eqb, take-suc, List, [], ◌∷◌, ◌++◌, map, ℕ, zero, suc, ◌+◌, ◌≤◌, ◌<◌, arith}
use Rattle.std.proofs.Math.Decide.{ℕ_discrete, dec_lt}
use Rattle.std.proofs.lemmas.List.{length-map}
use Rattle.std.proofs.Math.ListN.{get_or-append, get_or-map}
use Rattle.std.proofs.lemmas.List.Edits.{sets-eq}
use Rattle.std.proofs.Math.Seq.{take-length}
use Rattle.store.specs.declared.Counts.{Counts}
use Rattle.rule.specs.declared.Node.{Node}
use Rattle.rule.specs.declared.Node.TheVariants as node
use Rattle.rule.specs.declared.Slot.{Slot}
use Rattle.rule.specs.Expr.{Expr}
use Rattle.rule.specs.Expr.Expr.{both, many, name, neg, one, own, top}
use Rattle.rule.specs.Form.{CountFits, NodeWithin, UsesLater, hit, node_at, node_limit, uses, uses_below}
use Rattle.saying.specs.Read.{blank, laid, nodes_at, size, slot}
use Rattle.saying.specs.laws.Nodes.{nodes-length}
use Rattle.saying.specs.laws.Parse.{size-some}
use Rattle.saying.specs.laws.Within.{Sound}

-- the node that stands where there is none
abbrev none : Node
none = node.Name (record { 0 = 0 })

-- the nodes at their places in a rule
pub laid-node : (xs : List Node) (j : ℕ) → length xs ≤ node_limit → j < length xs → node_at (laid xs) j ≡ get_or xs j none
laid-node xs j h l =
    let z : 0 + length (map slot xs) ≤ length blank = rw length-map (omega arith) in
    ap (λ (l : List Slot). (get_or l j (slot none)).node) (sets-eq (map slot xs) blank 0 z)
    ∙ ap (λ (s : Slot). s.node) (get_or-append (map slot xs) (drop (0 + length (map slot xs)) blank) (slot none) j (rw length-map l) ∙ get_or-map slot xs j none)

-- ---- what holds of each node at its place

unfoldable pub Each : (ℕ → Node → Type 0) → ℕ → List Node → Type 0
Each P i [] = Unit {0}
Each P i (x ∷ xs) = P i x × Each P (i + 1) xs

module _ (P : ℕ → Node → Type 0) where
  pub each_append : (i k : ℕ) (xs ys : List Node) → k ≡ i + length xs → Each P i xs → Each P k ys → Each P i (xs ++ ys)
  unfolding Each
  each_append i k [] ys e a b = let z : k ≡ i = omega arith in rw z at b
  each_append i k (x ∷ xs) ys e a b = (a.0, each_append (i + 1) k xs ys (omega arith) a.1 b)

  pub each_at : (i j : ℕ) (xs : List Node) → Each P i xs → j < length xs → P (i + j) (get_or xs j none)
  unfolding Each
  each_at i j [] a h = absurd (omega arith)
  each_at i zero (x ∷ xs) a h = let z : i + 0 ≡ i = omega arith in rw z a.0
  each_at i (suc j) (x ∷ xs) a h = let z : i + suc j ≡ i + 1 + j = omega arith in rw z (each_at (i + 1) j xs a.1 (omega arith))

  pub each-parts : (i k : ℕ) (xs ys : List Node) → k ≡ i + length xs → Each P i (xs ++ ys) → Each P i xs × Each P k ys
  unfolding Each
  each-parts i k [] ys e a = let z : k ≡ i = omega arith in (tt, rw z a)
  each-parts i k (x ∷ xs) ys e a = let r = each-parts (i + 1) k xs ys (omega arith) a.1 in ((a.0, r.0), r.1)

  pub each_all : (i : ℕ) (xs : List Node) → ((j : ℕ) → j < length xs → P (i + j) (get_or xs j none)) → Each P i xs
  unfolding Each
  each_all i [] a = tt
  each_all i (x ∷ xs) a =
      let z : i + 0 ≡ i = omega arith in
      (rw z at (a 0 (omega arith)), each_all (i + 1) xs (λ j l. let y : i + suc j ≡ i + 1 + j = omega arith in rw y at (a (suc j) (omega arith))))

-- each node uses later ones
pub later-each : (L i : ℕ) (e : Expr) → i + size e ≤ L → Each (UsesLater L) i (nodes_at i e)
unfolding Each nodes_at size
later-each L i (name c) h = (tt, tt)
later-each L i top h = (tt, tt)
later-each L i (neg c) h = ((omega arith, omega (arith, size-some c)), later-each L (i + 1) c (omega arith))
later-each L i (both c d) h = (
  (omega arith, omega (arith, size-some c), omega arith, omega (arith, size-some d)),
  each_append (UsesLater L) (i + 1) (i + 1 + size c) (nodes_at (i + 1) c) (nodes_at (i + 1 + size c) d) (omega (arith, nodes-length (i + 1) c))
      (later-each L (i + 1) c (omega arith)) (later-each L (i + 1 + size c) d (omega arith)),
)
later-each L i (many k u c) h = ((omega arith, omega (arith, size-some c)), later-each L (i + 1) c (omega arith))
later-each L i (own u) h = (tt, tt)
later-each L i (one a) h = (tt, tt)

-- the numbers of each node are below their counts, and its count is 1 to 8
pub fine-each : (n : Counts) (i : ℕ) (e : Expr) → Sound n e → Each (λ (j : ℕ) (x : Node). CountFits x × NodeWithin n x) i (nodes_at i e)
unfolding Each nodes_at size Sound
fine-each n i (name c) s = ((tt, s), tt)
fine-each n i top s = ((tt, tt), tt)
fine-each n i (neg c) s = ((tt, tt), fine-each n (i + 1) c s)
fine-each n i (both c d) s = (
  (tt, tt),
  each_append (λ (j : ℕ) (x : Node). CountFits x × NodeWithin n x) (i + 1) (i + 1 + size c) (nodes_at (i + 1) c) (nodes_at (i + 1 + size c) d) (omega (arith, nodes-length (i + 1) c))
      (fine-each n (i + 1) c s.0) (fine-each n (i + 1 + size c) d s.1),
)
fine-each n i (many k u c) s = (((s.0, s.1), s.2), fine-each n (i + 1) c s.3)
fine-each n i (own u) s = ((tt, s), tt)
fine-each n i (one a) s = ((tt, s), tt)

-- ---- how often a node is used

-- by the nodes of a list
unfoldable pub uses_in : List Node → ℕ → ℕ
uses_in [] j = 0
uses_in (x ∷ xs) j = uses x j + uses_in xs j

pub uses-append : (xs ys : List Node) (j : ℕ) → uses_in (xs ++ ys) j ≡ uses_in xs j + uses_in ys j
unfolding uses_in
uses-append [] ys j = omega arith
uses-append (x ∷ xs) ys j = omega (arith, uses-append xs ys j)

-- by the nodes in their places
uses-below : (xs : List Node) (j k : ℕ) → length xs ≤ node_limit → k ≤ length xs → uses_below (laid xs) j k ≡ uses_in (take k xs) j
unfolding uses_below uses_in
uses-below xs j zero h l = refl
uses-below xs j (suc k) h l =
    rw (take-suc xs k none (omega arith), laid-node xs k h (omega arith), uses-below xs j k h (omega arith))
    (sym (uses-append (take k xs) (get_or xs k none ∷ []) j ∙ add-last (uses_in (take k xs) j) (uses (get_or xs k none) j)))
  where
    add-last : (a b : ℕ) → a + (b + 0) ≡ a + b
    add-last a b = omega arith

pub uses-all : (xs : List Node) (j : ℕ) → length xs ≤ node_limit → uses_below (laid xs) j (length xs) ≡ uses_in xs j
uses-all xs j h = uses-below xs j (length xs) h (omega arith) ∙ rw (take-length xs)

hit-yes : (a j : ℕ) → a ≡ j → hit a j ≡ 1
hit-yes a j e = rw (eq-eqb a j e)

hit-no : (a j : ℕ) → (a ≡ j → ⊥) → hit a j ≡ 0
hit-no a j e = rw (ne_eqb a j e)

-- u uses of node j by an expression of s nodes from i on: each but the first is used once, and no other
pub record Used (i s j u : ℕ) : Type 0 where
  pub low : j ≤ i → u ≡ 0
  pub mid : i < j → j < i + s → u ≡ 1
  pub high : i + s ≤ j → u ≡ 0

used-none : (i j : ℕ) → Used i 1 j 0
used-none i j = record { low = λ h. refl; mid = λ h g. omega arith; high = λ h. refl }

-- one child after its node
used-one : (i s j u : ℕ) → 1 ≤ s → Used (i + 1) s j u → Used i (1 + s) j (hit (i + 1) j + u)
used-one i s j u some c =
    record {
      low = λ h. omega (arith, hit-no (i + 1) j (λ e. omega arith), c.low (omega arith));
      mid = λ h g. go h g (ℕ_discrete (i + 1) j);
      high = λ h. omega (arith, hit-no (i + 1) j (λ e. omega arith), c.high (omega arith));
    }
  where
    go : i < j → j < i + (1 + s) → Dec (i + 1 ≡ j) → hit (i + 1) j + u ≡ 1
    go h g (yes e) = omega (arith, hit-yes (i + 1) j e, c.low (omega arith))
    go h g (no e) = omega (arith, hit-no (i + 1) j e, c.mid (omega arith) (omega arith))

-- two children after their node
used-two : (i s t j u v : ℕ) → 1 ≤ s → 1 ≤ t → Used (i + 1) s j u → Used (i + 1 + s) t j v → Used i (1 + s + t) j (hit (i + 1) j + hit (i + 1 + s) j + (u + v))
used-two i s t j u v some more c d =
    record {
      low = λ h. omega (arith, hit-no (i + 1) j (λ e. omega arith), hit-no (i + 1 + s) j (λ e. omega arith), c.low (omega arith), d.low (omega arith));
      mid = λ h g. go h g (ℕ_discrete (i + 1) j) (ℕ_discrete (i + 1 + s) j) (dec_lt j (i + 1 + s));
      high = λ h. omega (arith, hit-no (i + 1) j (λ e. omega arith), hit-no (i + 1 + s) j (λ e. omega arith), c.high (omega arith), d.high (omega arith));
    }
  where
    go : i < j → j < i + (1 + s + t) → Dec (i + 1 ≡ j) → Dec (i + 1 + s ≡ j) → Dec (j < i + 1 + s) → hit (i + 1) j + hit (i + 1 + s) j + (u + v) ≡ 1
    go h g (yes e) b l = omega (arith, hit-yes (i + 1) j e, hit-no (i + 1 + s) j (λ q. omega arith), c.low (omega arith), d.low (omega arith))
    go h g (no e) (yes b) l = omega (arith, hit-no (i + 1) j e, hit-yes (i + 1 + s) j b, c.high (omega arith), d.low (omega arith))
    go h g (no e) (no b) (yes l) = omega (arith, hit-no (i + 1) j e, hit-no (i + 1 + s) j b, c.mid (omega arith) (omega arith), d.low (omega arith))
    go h g (no e) (no b) (no l) = omega (arith, hit-no (i + 1) j e, hit-no (i + 1 + s) j b, c.high (omega arith), d.mid (omega arith) (omega arith))

pub tree-uses : (i : ℕ) (e : Expr) (j : ℕ) → Used i (size e) j (uses_in (nodes_at i e) j)
unfolding uses_in nodes_at size
tree-uses i (name c) j = used-none i j
tree-uses i top j = used-none i j
tree-uses i (neg c) j = used-one i (size c) j (uses_in (nodes_at (i + 1) c) j) (size-some c) (tree-uses (i + 1) c j)
tree-uses i (both c d) j =
    rw (uses-append (nodes_at (i + 1) c) (nodes_at (i + 1 + size c) d) j)
    (used-two i (size c) (size d) j (uses_in (nodes_at (i + 1) c) j) (uses_in (nodes_at (i + 1 + size c) d) j) (size-some c) (size-some d) (tree-uses (i + 1) c j) (tree-uses (i + 1 + size c) d j))
tree-uses i (many k u c) j = used-one i (size c) j (uses_in (nodes_at (i + 1) c) j) (size-some c) (tree-uses (i + 1) c j)
tree-uses i (own u) j = used-none i j
tree-uses i (one a) j = used-none i j

-- a root and its expression, and two of them one after the other
pub once-one : (e : Expr) (j : ℕ) → j < size e → hit 0 j + uses_in (nodes_at 0 e) j ≡ 1
once-one e j h = go (ℕ_discrete 0 j)
  where
    go : Dec (0 ≡ j) → hit 0 j + uses_in (nodes_at 0 e) j ≡ 1
    go (yes q) = omega (arith, hit-yes 0 j q, (tree-uses 0 e j).low (omega arith))
    go (no q) = omega (arith, hit-no 0 j q, (tree-uses 0 e j).mid (omega arith) (omega arith))

pub once-two : (c d : Expr) (j : ℕ) → j < size c + size d → hit 0 j + hit (size c) j + uses_in (nodes_at 0 c ++ nodes_at (size c) d) j ≡ 1
once-two c d j h = rw (uses-append (nodes_at 0 c) (nodes_at (size c) d) j) (go (ℕ_discrete 0 j) (ℕ_discrete (size c) j) (dec_lt j (size c)))
  where
    go : Dec (0 ≡ j) → Dec (size c ≡ j) → Dec (j < size c) → hit 0 j + hit (size c) j + (uses_in (nodes_at 0 c) j + uses_in (nodes_at (size c) d) j) ≡ 1
    go (yes q) b l = omega (arith, size-some c, hit-yes 0 j q, hit-no (size c) j (λ e. omega (arith, size-some c)), (tree-uses 0 c j).low (omega arith), (tree-uses (size c) d j).low (omega arith))
    go (no q) (yes b) l = omega (arith, hit-no 0 j q, hit-yes (size c) j b, (tree-uses 0 c j).high (omega arith), (tree-uses (size c) d j).low (omega arith))
    go (no q) (no b) (yes l) = omega (arith, hit-no 0 j q, hit-no (size c) j b, (tree-uses 0 c j).mid (omega arith) (omega arith), (tree-uses (size c) d j).low (omega arith))
    go (no q) (no b) (no l) = omega (arith, hit-no 0 j q, hit-no (size c) j b, (tree-uses 0 c j).high (omega arith), (tree-uses (size c) d j).mid (omega arith) (omega arith))
