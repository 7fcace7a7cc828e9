-- Laws of writing an expression's nodes word by word. Assumes nothing.
use Rattle.std.specs.Prelude.{Option, Some, None}
use Rattle.std.specs.Prelude.{◌≡◌, map, ℕ, zero, suc, ◌+◌, ◌<◌, drop, set}
use Rattle.std.proofs.Common.{refl, sym, ◌∙◌, ap, add-zero, set-set, List, [], ◌∷◌, ◌++◌, append_assoc, add-one, arith, length, length-append}
use Rattle.std.proofs.lemmas.List.{length-map, map-append, set_comm}
use Rattle.std.proofs.lemmas.List.Edits.{sets}
use Rattle.std.proofs.Math.Seq.{length-sets}
use Rattle.logic.specs.laws.Sets.{sets-append}
use Rattle.rule.specs.declared.Node.{Node}
use Rattle.rule.specs.declared.Node.TheVariants as node
use Rattle.rule.specs.declared.Slot.{Slot}
use Rattle.rule.specs.Expr.{Expr}
use Rattle.rule.specs.Expr.Expr.{both, many, name, neg, one, own, top}
use Rattle.field.specs.declared.Operator.{Operator}
use Rattle.field.specs.declared.Operator.TheVariants as operator
use Rattle.field.specs.Names.{Names, count_of}
use Rattle.saying.specs.own.Nodes.{Joined, PutAll, children_of, fill_and, head_fields, head_nodes}
use Rattle.saying.specs.Read.{Read, by_word, nodes_at, size, slot}
use Rattle.field.specs.Words.{at, Field}

-- ---- lists

-- a store before a run of stores
set-sets : (l : List Slot) (i k : ℕ) (v : Slot) (vs : List Slot) → i < k → set (sets l k vs) i v ≡ sets (set l i v) k vs
set-sets l i k v [] h = refl
set-sets l i k v (a ∷ vs) h = set-sets (set l k a) i (suc k) v vs (omega arith) ∙ rw (set_comm l k i a v (λ q. omega arith))

-- a store among a run of stores
sets-set : (l : List Slot) (i j : ℕ) (v : Slot) (vs : List Slot) → j < length vs → set (sets l i vs) (i + j) v ≡ sets l i (set vs j v)
sets-set l i j v [] h = absurd (omega arith)
sets-set l i zero v (a ∷ vs) h = rw add-zero (set-sets (set l i a) i (suc i) v vs (omega arith) ∙ rw (set-set l i a v))
sets-set l i (suc j) v (a ∷ vs) h = let z : i + suc j ≡ suc i + j = omega arith in rw z (sets-set (set l i a) (suc i) j v vs (omega arith))

-- ---- nodes in the room

-- two runs of nodes, one after the other
pub slots-both : (room : List Slot) (i k : ℕ) (xs ys : List Node) → k ≡ i + length xs → sets (sets room i (map slot xs)) k (map slot ys) ≡ sets room i (map slot (xs ++ ys))
slots-both room i k xs ys e = rw (e, map-append slot xs ys, sets-append room i (map slot xs) (map slot ys), length-map xs slot)

module _ {room : List Slot} {len : ℕ} where
  pub put-none : {exit : List Slot} → exit ≡ room → PutAll room len [] exit len
  put-none e = record { here = e; count = omega arith }

  module _ {xs : List Node} {exit : List Slot} {r : ℕ} where
    pub put-long : PutAll room len xs exit r → length exit ≡ length room
    put-long p = ap length p.here ∙ length-sets room len (map slot xs)

    -- the same nodes, and the same room
    pub put_as : {ys : List Node} → xs ≡ ys → PutAll room len xs exit r → PutAll room len ys exit r
    put_as e p = rw e at p

    pub put-after : {new : List Slot} → room ≡ new → PutAll room len xs exit r → PutAll new len xs exit r
    put-after e p = rw e at p

    -- more nodes after them
    pub put-more : {ys : List Node} {last : List Slot} {s : ℕ} → PutAll room len xs exit r → PutAll exit r ys last s → PutAll room len (xs ++ ys) last s
    put-more {ys} {last} {s} p q =
        record { here = q.here ∙ rw p.here (slots-both room len r xs ys p.count); count = omega (arith, p.count, q.count, length-append xs ys) }

-- ---- what a word writes

at_one : (fs : List Field) → at 1 fs ≡ at 0 (drop 1 fs)
at_one [] = refl
at_one (f ∷ fs) = refl

at-two : (fs : List Field) → at 2 fs ≡ at 1 (drop 1 fs)
at-two [] = refl
at-two (f ∷ fs) = refl

pub drop-later : (k : ℕ) (fs : List Field) → drop (suc k) fs ≡ drop k (drop 1 fs)
drop-later zero fs = refl
drop-later (suc k) [] = refl
drop-later (suc k) (f ∷ fs) = refl

-- an expression has as many nodes as its size says
pub nodes-length : (i : ℕ) (e : Expr) → length (nodes_at i e) ≡ size e
unfolding nodes_at size
nodes-length i (name c) = refl
nodes-length i top = refl
nodes-length i (neg c) = rw (nodes-length (i + 1) c) (omega arith)
nodes-length i (both c d) = rw (length-append (nodes_at (i + 1) c) (nodes_at (i + 1 + size c) d), nodes-length (i + 1) c, nodes-length (i + 1 + size c) d) (omega arith)
nodes-length i (many k u c) = rw (nodes-length (i + 1) c) (omega arith)
nodes-length i (own u) = refl
nodes-length i (one a) = refl

module _ (n : Names) (more : List Field → Read) (i : ℕ) (fs : List Field) where
  -- the expression that begins with the word o
  abbrev whole : Option Operator → Read
  whole o = by_word n more o (at 0 fs) (drop 1 fs)

  -- a word without children
  pub leaf-nodes : (o : Option Operator) → children_of o ≡ 0 → (head_nodes n o i fs ≡ nodes_at i (whole o).expr) × (length (head_nodes n o i fs) ≡ size (whole o).expr) × (drop (head_fields o) fs ≡ (whole o).rest)
  unfolding nodes_at size
  leaf-nodes (Some operator.And) e = absurd (omega arith)
  leaf-nodes (Some operator.Or) e = absurd (omega arith)
  leaf-nodes (Some operator.Not) e = absurd (omega arith)
  leaf-nodes (Some operator.Some) e = absurd (omega arith)
  leaf-nodes (Some operator.All) e = absurd (omega arith)
  leaf-nodes (Some operator.AtLeast) e = absurd (omega arith)
  leaf-nodes (Some operator.AtMost) e = absurd (omega arith)
  leaf-nodes (Some operator.SelfOf) e = (rw (at_one fs), refl, drop-later 1 fs)
  leaf-nodes (Some operator.One) e = (rw (at_one fs), refl, drop-later 1 fs)
  leaf-nodes (Some operator.Top) e = (refl, refl, refl)
  leaf-nodes (Some operator.Bot) e = (refl, refl, refl)
  leaf-nodes None e = (refl, refl, refl)

  -- a word with one child
  pub one-nodes : (o : Option Operator) → children_of o ≡ 1
      → (nodes_at i (whole o).expr ≡ head_nodes n o i fs ++ nodes_at (i + length (head_nodes n o i fs)) (more (drop (head_fields o) fs)).expr)
      × (size (whole o).expr ≡ length (head_nodes n o i fs) + size (more (drop (head_fields o) fs)).expr) × ((whole o).rest ≡ (more (drop (head_fields o) fs)).rest)
  unfolding nodes_at size
  one-nodes (Some operator.And) e = absurd (omega arith)
  one-nodes (Some operator.Or) e = absurd (omega arith)
  one-nodes (Some operator.Not) e = (refl, refl, refl)
  one-nodes (Some operator.Some) e = (rw (at_one fs, drop-later 1 fs), rw (drop-later 1 fs), rw (drop-later 1 fs))
  one-nodes (Some operator.All) e =
      let x : i + 1 + 1 ≡ i + 2 = omega arith in
      let y : i + 2 + 1 ≡ i + 3 = omega arith in
      (rw (at_one fs, drop-later 1 fs, x, y), rw (drop-later 1 fs) (omega arith), rw (drop-later 1 fs))
  one-nodes (Some operator.AtLeast) e = (rw (at_one fs, at-two fs, drop-later 2 fs), rw (drop-later 2 fs), rw (drop-later 2 fs))
  one-nodes (Some operator.AtMost) e =
      let x : i + 1 + 1 ≡ i + 2 = omega arith in
      (rw (at_one fs, at-two fs, drop-later 2 fs, x, add-one (count_of (at 0 (drop 1 fs)))), rw (drop-later 2 fs) (omega arith), rw (drop-later 2 fs))
  one-nodes (Some operator.SelfOf) e = absurd (omega arith)
  one-nodes (Some operator.One) e = absurd (omega arith)
  one-nodes (Some operator.Top) e = absurd (omega arith)
  one-nodes (Some operator.Bot) e = absurd (omega arith)
  one-nodes None e = absurd (omega arith)

  -- a word with two children: what stands before the nodes of the second, where c is the first
  abbrev pub front : Option Operator → Expr → List Node
  front (Some operator.And) c = node.And (i + 1) (i + 1 + size c) ∷ nodes_at (i + 1) c
  front (Some operator.Or) c = node.Not (i + 1) ∷ node.And (i + 2) (i + 3 + size c) ∷ node.Not (i + 3) ∷ nodes_at (i + 3) c ++ (node.Not (i + 3 + size c + 1) ∷ [])
  front (Some operator.Not) c = []
  front (Some operator.Some) c = []
  front (Some operator.All) c = []
  front (Some operator.AtLeast) c = []
  front (Some operator.AtMost) c = []
  front (Some operator.SelfOf) c = []
  front (Some operator.One) c = []
  front (Some operator.Top) c = []
  front (Some operator.Bot) c = []
  front None c = []

  module _ (arr : List Slot) where
    -- the `and` of the first node, and that of the second, gets its second child
    and_first : (b : ℕ) (xs : List Node) → fill_and (sets arr i (map slot (node.And (i + 1) 0 ∷ xs))) i b ≡ sets arr i (map slot (node.And (i + 1) b ∷ xs))
    and_first b xs = rw add-zero at (sets-set arr i 0 (slot (node.And (i + 1) b)) (map slot (node.And (i + 1) 0 ∷ xs)) (omega arith))

    and_second : (x : Node) (b : ℕ) (xs : List Node) → fill_and (sets arr i (map slot (x ∷ node.And (i + 2) 0 ∷ xs))) (i + 1) b ≡ sets arr i (map slot (x ∷ node.And (i + 2) b ∷ xs))
    and_second x b xs =
        let z : i + 1 + 1 ≡ i + 2 = omega arith in
        rw z (sets-set arr i 1 (slot (node.And (i + 2) b)) (map slot (x ∷ node.And (i + 2) 0 ∷ xs)) (omega arith))

    -- the nodes of the first child after the word's own, then the word's `and` filled in
    pub join-nodes : (o : Option Operator) (c : Expr) (nodes : List Slot) (len : ℕ) (exit : List Slot) (r : ℕ) → children_of o ≡ 2
        → nodes ≡ sets arr i (map slot (head_nodes n o i fs ++ nodes_at (i + length (head_nodes n o i fs)) c)) → len ≡ i + length (head_nodes n o i fs) + size c → Joined o nodes i len exit r
        → PutAll arr i (front o c) exit r
    join-nodes (Some operator.And) c nodes len exit r e h l j =
        record { here = j.here ∙ rw (h, l) (and_first (i + 1 + size c) (nodes_at (i + 1) c)); count = omega (arith, j.count, l, nodes-length (i + 1) c) }
    join-nodes (Some operator.Or) c nodes len exit r e h l j =
        let xs : List Node = node.Not (i + 1) ∷ node.And (i + 2) (i + 3 + size c) ∷ node.Not (i + 3) ∷ nodes_at (i + 3) c in
        let k : i + 3 + size c ≡ i + length xs = omega (arith, nodes-length (i + 3) c) in
        record {
          here =
              j.here ∙ rw (h, l) (rw (and_second (node.Not (i + 1)) (i + 3 + size c) (node.Not (i + 3) ∷ nodes_at (i + 3) c))
              (slots-both arr i (i + 3 + size c) xs (node.Not (i + 3 + size c + 1) ∷ []) k));
          count = omega (arith, j.count, l, k, length-append (nodes_at (i + 3) c) (node.Not (i + 3 + size c + 1) ∷ []));
        }
    join-nodes (Some operator.Not) c nodes len exit r e h l j = absurd (omega arith)
    join-nodes (Some operator.Some) c nodes len exit r e h l j = absurd (omega arith)
    join-nodes (Some operator.All) c nodes len exit r e h l j = absurd (omega arith)
    join-nodes (Some operator.AtLeast) c nodes len exit r e h l j = absurd (omega arith)
    join-nodes (Some operator.AtMost) c nodes len exit r e h l j = absurd (omega arith)
    join-nodes (Some operator.SelfOf) c nodes len exit r e h l j = absurd (omega arith)
    join-nodes (Some operator.One) c nodes len exit r e h l j = absurd (omega arith)
    join-nodes (Some operator.Top) c nodes len exit r e h l j = absurd (omega arith)
    join-nodes (Some operator.Bot) c nodes len exit r e h l j = absurd (omega arith)
    join-nodes None c nodes len exit r e h l j = absurd (omega arith)

  -- the whole expression: what stands before the second child, and the second child
  pub two-nodes : (o : Option Operator) → children_of o ≡ 2
      → (nodes_at i (whole o).expr ≡ front o (more (drop 1 fs)).expr ++ nodes_at (i + length (front o (more (drop 1 fs)).expr)) (more (more (drop 1 fs)).rest).expr)
      × (size (whole o).expr ≡ length (front o (more (drop 1 fs)).expr) + size (more (more (drop 1 fs)).rest).expr) × ((whole o).rest ≡ (more (more (drop 1 fs)).rest).rest) × (head_fields o ≡ 1)
  unfolding nodes_at size
  two-nodes (Some operator.And) e =
      let c = (more (drop 1 fs)).expr in
      let k : i + 1 + size c ≡ i + length (front (Some operator.And) c) = omega (arith, nodes-length (i + 1) c) in
      (rw (← k), omega (arith, nodes-length (i + 1) c), refl, refl)
  two-nodes (Some operator.Or) e =
      let c = (more (drop 1 fs)).expr in
      let x : i + 1 + 1 ≡ i + 2 = omega arith in
      let y : i + 2 + 1 ≡ i + 3 = omega arith in
      let u : i + 2 + (1 + size c) ≡ i + 3 + size c = omega arith in
      let l = length-append (nodes_at (i + 3) c) (node.Not (i + 3 + size c + 1) ∷ []) in
      let v : i + length (front (Some operator.Or) c) ≡ i + 3 + size c + 1 = omega (arith, l, nodes-length (i + 3) c) in
      let d = (more (more (drop 1 fs)).rest).expr in (
        rw (x, y, u, v)
            (ap (λ (ns : List Node). node.Not (i + 1) ∷ node.And (i + 2) (i + 3 + size c) ∷ node.Not (i + 3) ∷ ns)
            (sym (append_assoc (nodes_at (i + 3) c) (node.Not (i + 3 + size c + 1) ∷ []) (nodes_at (i + 3 + size c + 1) d)))),
        omega (arith, l, nodes-length (i + 3) c),
        refl,
        refl,
      )
  two-nodes (Some operator.Not) e = absurd (omega arith)
  two-nodes (Some operator.Some) e = absurd (omega arith)
  two-nodes (Some operator.All) e = absurd (omega arith)
  two-nodes (Some operator.AtLeast) e = absurd (omega arith)
  two-nodes (Some operator.AtMost) e = absurd (omega arith)
  two-nodes (Some operator.SelfOf) e = absurd (omega arith)
  two-nodes (Some operator.One) e = absurd (omega arith)
  two-nodes (Some operator.Top) e = absurd (omega arith)
  two-nodes (Some operator.Bot) e = absurd (omega arith)
  two-nodes None e = absurd (omega arith)
