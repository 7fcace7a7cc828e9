-- Laws of reading one expression into nodes, word by word. Assumes nothing.
use Rattle.std.specs.Prelude.{Option, Some, None}
use Rattle.std.specs.Prelude.{◌≡◌, refl, true, List, [], ◌∷◌, ◌++◌, map, ℕ, zero, suc, ◌+◌, ◌-◌, ◌≤◌, ◌<◌, drop, length}
use Rattle.std.proofs.Common.{sym, ◌∙◌, ap, true≢false, arith, length-append, length-drop, drop-drop}
use Rattle.std.proofs.lemmas.List.Edits.{sets}
use Rattle.std.proofs.Math.Seq.{length-sets}
use Rattle.rule.specs.declared.Node.TheVariants as node
use Rattle.rule.specs.declared.Slot.{Slot}
use Rattle.rule.specs.Form.{node_limit}
use Rattle.rule.specs.Expr.{Expr}
use Rattle.rule.specs.Expr.Expr.{both, many, name, neg, one, own, top}
use Rattle.field.specs.declared.Due.{Due}
use Rattle.field.specs.declared.Due.TheVariants as due
use Rattle.field.specs.declared.Operator.{Operator}
use Rattle.field.specs.declared.Operator.TheVariants as operator
use Rattle.saying.specs.declared.Parsed.{Parsed}
use Rattle.field.specs.Due.{fits, wanted}
use Rattle.field.specs.Names.{Names, nodes_in, nodes_of}
use Rattle.saying.specs.own.Nodes.{Joined, PutAll, ReadsOne, Ready, children_of, head_fields, head_nodes}
use Rattle.saying.specs.Read.{Read, by_word, nodes_at, read, size, slot}
use Rattle.field.specs.Words.{at, Field, operator_of}
use Rattle.saying.specs.laws.Nodes.{drop-later, front, join-nodes, leaf-nodes, nodes-length, one-nodes, put-long, slots-both, two-nodes}
use Rattle.saying.specs.laws.Read.{Begun, Reader, drop-two, plain-field, read_right}

-- the first word of an expression, and what it wants
first_word : (ds : List Due) (fs : List Field) → fits (due.Expr ∷ ds) fs ≡ true
    → (fits (wanted (operator_of (at 0 fs)) ++ ds) (drop 1 fs) ≡ true) × (nodes_in (due.Expr ∷ ds) fs ≡ nodes_of (operator_of (at 0 fs)) + nodes_in (wanted (operator_of (at 0 fs)) ++ ds) (drop 1 fs))
    × (length fs ≡ suc (length (drop 1 fs)))
unfolding fits nodes_in
first_word ds [] h = absurd (true≢false (sym h))
first_word ds (f ∷ fs) h = (h, refl, refl)

nodes-some : (o : Option Operator) → 1 ≤ nodes_of o
nodes-some (Some operator.And) = omega arith
nodes-some (Some operator.Or) = omega arith
nodes-some (Some operator.Not) = omega arith
nodes-some (Some operator.Some) = omega arith
nodes-some (Some operator.All) = omega arith
nodes-some (Some operator.AtLeast) = omega arith
nodes-some (Some operator.AtMost) = omega arith
nodes-some (Some operator.SelfOf) = omega arith
nodes-some (Some operator.One) = omega arith
nodes-some (Some operator.Top) = omega arith
nodes-some (Some operator.Bot) = omega arith
nodes-some None = omega arith

-- an expression has a node
expr-some : (ds : List Due) (fs : List Field) → fits (due.Expr ∷ ds) fs ≡ true → 1 ≤ nodes_in (due.Expr ∷ ds) fs
expr-some ds fs h = omega (arith, (first_word ds fs h).1, nodes-some (operator_of (at 0 fs)))

-- the only child of a word, after what the word takes with it
one-child : (o : Option Operator) (ds : List Due) (fs : List Field) → children_of o ≡ 1 → fits (wanted o ++ ds) (drop 1 fs) ≡ true
    → (fits (due.Expr ∷ ds) (drop (head_fields o) fs) ≡ true) × (nodes_in (wanted o ++ ds) (drop 1 fs) ≡ nodes_in (due.Expr ∷ ds) (drop (head_fields o) fs)) × (length (drop (head_fields o) fs) ≤ length (drop 1 fs))
one-child (Some operator.And) ds fs e h = absurd (omega arith)
one-child (Some operator.Or) ds fs e h = absurd (omega arith)
one-child (Some operator.Not) ds fs e h = (h, refl, omega arith)
one-child (Some operator.Some) ds fs e h = let p = plain-field due.RoleUse (due.Expr ∷ ds) (drop 1 fs) refl h in rw (drop-later 1 fs) (p.0, p.1, omega (arith, p.2))
one-child (Some operator.All) ds fs e h = let p = plain-field due.RoleUse (due.Expr ∷ ds) (drop 1 fs) refl h in rw (drop-later 1 fs) (p.0, p.1, omega (arith, p.2))
one-child (Some operator.AtLeast) ds fs e h =
    let p = plain-field due.AtLeast (due.RoleUse ∷ due.Expr ∷ ds) (drop 1 fs) refl h in
    let q = plain-field due.RoleUse (due.Expr ∷ ds) (drop 1 (drop 1 fs)) refl p.0 in
    rw (drop-later 2 fs, drop-two (drop 1 fs)) (q.0, p.1 ∙ q.1, omega (arith, p.2, q.2))
one-child (Some operator.AtMost) ds fs e h =
    let p = plain-field due.AtMost (due.RoleUse ∷ due.Expr ∷ ds) (drop 1 fs) refl h in
    let q = plain-field due.RoleUse (due.Expr ∷ ds) (drop 1 (drop 1 fs)) refl p.0 in
    rw (drop-later 2 fs, drop-two (drop 1 fs)) (q.0, p.1 ∙ q.1, omega (arith, p.2, q.2))
one-child (Some operator.SelfOf) ds fs e h = absurd (omega arith)
one-child (Some operator.One) ds fs e h = absurd (omega arith)
one-child (Some operator.Top) ds fs e h = absurd (omega arith)
one-child (Some operator.Bot) ds fs e h = absurd (omega arith)
one-child None ds fs e h = absurd (omega arith)

-- a word with two children wants two expressions, and has at least one node beside theirs
two-children : (o : Option Operator) → children_of o ≡ 2 → (wanted o ≡ due.Expr ∷ due.Expr ∷ []) × (head_fields o ≡ 1)
two-children (Some operator.And) e = (refl, refl)
two-children (Some operator.Or) e = (refl, refl)
two-children (Some operator.Not) e = absurd (omega arith)
two-children (Some operator.Some) e = absurd (omega arith)
two-children (Some operator.All) e = absurd (omega arith)
two-children (Some operator.AtLeast) e = absurd (omega arith)
two-children (Some operator.AtMost) e = absurd (omega arith)
two-children (Some operator.SelfOf) e = absurd (omega arith)
two-children (Some operator.One) e = absurd (omega arith)
two-children (Some operator.Top) e = absurd (omega arith)
two-children (Some operator.Bot) e = absurd (omega arith)
two-children None e = absurd (omega arith)

two-at-most : (o : Option Operator) (k : ℕ) → children_of o ≡ suc (suc k) → children_of o ≡ 2
two-at-most (Some operator.And) k e = refl
two-at-most (Some operator.Or) k e = refl
two-at-most (Some operator.Not) k e = absurd (omega arith)
two-at-most (Some operator.Some) k e = absurd (omega arith)
two-at-most (Some operator.All) k e = absurd (omega arith)
two-at-most (Some operator.AtLeast) k e = absurd (omega arith)
two-at-most (Some operator.AtMost) k e = absurd (omega arith)
two-at-most (Some operator.SelfOf) k e = absurd (omega arith)
two-at-most (Some operator.One) k e = absurd (omega arith)
two-at-most (Some operator.Top) k e = absurd (omega arith)
two-at-most (Some operator.Bot) k e = absurd (omega arith)
two-at-most None k e = absurd (omega arith)

-- of the nodes of a word some are written at once, and with two children the others before the second
head_few : (n : Names) (o : Option Operator) (i : ℕ) (fs : List Field) → length (head_nodes n o i fs) ≤ nodes_of o
head_few n (Some operator.And) i fs = omega arith
head_few n (Some operator.Or) i fs = omega arith
head_few n (Some operator.Not) i fs = omega arith
head_few n (Some operator.Some) i fs = omega arith
head_few n (Some operator.All) i fs = omega arith
head_few n (Some operator.AtLeast) i fs = omega arith
head_few n (Some operator.AtMost) i fs = omega arith
head_few n (Some operator.SelfOf) i fs = omega arith
head_few n (Some operator.One) i fs = omega arith
head_few n (Some operator.Top) i fs = omega arith
head_few n (Some operator.Bot) i fs = omega arith
head_few n None i fs = omega arith

-- and few fields are passed with it
pub fields-few : (o : Option Operator) → head_fields o ≤ 3
fields-few (Some operator.And) = omega arith
fields-few (Some operator.Or) = omega arith
fields-few (Some operator.Not) = omega arith
fields-few (Some operator.Some) = omega arith
fields-few (Some operator.All) = omega arith
fields-few (Some operator.AtLeast) = omega arith
fields-few (Some operator.AtMost) = omega arith
fields-few (Some operator.SelfOf) = omega arith
fields-few (Some operator.One) = omega arith
fields-few (Some operator.Top) = omega arith
fields-few (Some operator.Bot) = omega arith
fields-few None = omega arith

-- a word with two children: what stands before the second has all the word's nodes and those of the first
front_length : (n : Names) (o : Option Operator) (more : List Field → Read) (i : ℕ) (fs : List Field) (c : Expr) → children_of o ≡ 2 → length (front n more i fs o c) ≡ nodes_of o + size c
front_length n (Some operator.And) more i fs c e = rw (nodes-length (i + 1) c) (omega arith)
front_length n (Some operator.Or) more i fs c e = omega (arith, length-append (nodes_at (i + 3) c) (node.Not (i + 3 + size c + 1) ∷ []), nodes-length (i + 3) c)
front_length n (Some operator.Not) more i fs c e = absurd (omega arith)
front_length n (Some operator.Some) more i fs c e = absurd (omega arith)
front_length n (Some operator.All) more i fs c e = absurd (omega arith)
front_length n (Some operator.AtLeast) more i fs c e = absurd (omega arith)
front_length n (Some operator.AtMost) more i fs c e = absurd (omega arith)
front_length n (Some operator.SelfOf) more i fs c e = absurd (omega arith)
front_length n (Some operator.One) more i fs c e = absurd (omega arith)
front_length n (Some operator.Top) more i fs c e = absurd (omega arith)
front_length n (Some operator.Bot) more i fs c e = absurd (omega arith)
front_length n None more i fs c e = absurd (omega arith)

pub size-some : (e : Expr) → 1 ≤ size e
unfolding size
size-some (name c) = omega arith
size-some top = omega arith
size-some (neg c) = omega arith
size-some (both c d) = omega arith
size-some (many k u c) = omega arith
size-some (own u) = omega arith
size-some (one a) = omega arith

read_step : (n : Names) (left : ℕ) (fs : List Field) → (left ≡ 0 → ⊥) → read left n fs ≡ by_word n (read (left - 1) n) (operator_of (at 0 fs)) (at 0 fs) (drop 1 fs)
unfolding read
read_step n zero fs h = absurd (h refl)
read_step n (suc left) fs h = let z : suc left - 1 ≡ left = omega arith in rw z

module _ (n : Names) (all : List Field) (left : ℕ) (p : Parsed) (o : Option Operator) (rd : Ready (drop p.at all) p.len left) (some : left ≡ 0 → ⊥) (is : o ≡ operator_of (at 0 (drop p.at all))) where
  abbrev fs : List Field
  fs = drop p.at all

  abbrev more : List Field → Read
  more = read (left - 1) n

  -- the expression is what its word makes of it
  by-word : read left n fs ≡ by_word n more o (at 0 fs) (drop 1 fs)
  by-word = read_step n left fs some ∙ rw is

  wants : (fits (wanted o ++ rd.dues) (drop 1 fs) ≡ true) × (nodes_in (due.Expr ∷ rd.dues) fs ≡ nodes_of o + nodes_in (wanted o ++ rd.dues) (drop 1 fs)) × (length fs ≡ suc (length (drop 1 fs)))
  wants = rw is (first_word rd.dues fs rd.fit)

  -- there is room for the word's own nodes
  pub word_room : p.len + nodes_of o ≤ node_limit
  word_room = omega (arith, wants.1, rd.room)

  -- the word is written and passed
  module _ (room nodes : List Slot) (q : Parsed) (w : PutAll room p.len (head_nodes n o p.len fs) nodes q.len) (past : q.at ≡ p.at + head_fields o) where
    passed-word : drop q.at all ≡ drop (head_fields o) fs
    passed-word = rw (past, drop-drop (head_fields o) p.at all)

    pub word-leaf : children_of o ≡ 0 → ReadsOne n all left p room nodes q
    word-leaf e =
        let l = leaf-nodes n more p.len fs o e in
        record { nodes = rw by-word (w.here ∙ rw l.0); len = rw by-word (omega (arith, w.count, l.1)); rest = rw by-word (passed-word ∙ l.2) }

    -- the next expression can be read
    pub first-ready : (children_of o ≡ 0 → ⊥) → Ready (drop q.at all) q.len (left - 1)
    first-ready z = rw passed-word (go (children_of o) refl)
      where
        go : (k : ℕ) → children_of o ≡ k → Ready (drop (head_fields o) fs) q.len (left - 1)
        go zero e = absurd (z e)
        go (suc zero) e =
            let c = one-child o rd.dues fs e wants.0 in
            record { dues = rd.dues; fit = c.0; room = omega (arith, w.count, head_few n o p.len fs, wants.1, c.1, rd.room); enough = omega (arith, c.2, wants.2, rd.enough) }
        go (suc (suc k)) e =
            let t = two-children o (two-at-most o k e) in
            let f : fits (due.Expr ∷ due.Expr ∷ rd.dues) (drop 1 fs) ≡ true = rw t.0 at wants.0 in
            let m : nodes_in (wanted o ++ rd.dues) (drop 1 fs) ≡ nodes_in (due.Expr ∷ due.Expr ∷ rd.dues) (drop 1 fs) = rw t.0 in
            rw t.1
            (record { dues = due.Expr ∷ rd.dues; fit = f; room = omega (arith, w.count, head_few n o p.len fs, wants.1, m, rd.room); enough = omega (arith, wants.2, rd.enough) })

    -- the first child is read
    module _ (exit : List Slot) (r : Parsed) (c : ReadsOne n all (left - 1) q nodes exit r) where
      -- it is the only one
      pub word-one : children_of o ≡ 1 → ReadsOne n all left p room exit r
      word-one e =
          let l = one-nodes n more p.len fs o e in
          record {
            nodes = rw by-word (c.nodes ∙ rw (w.here, w.count, passed-word, slots-both room p.len _ (head_nodes n o p.len fs) _ refl, ← l.0));
            len = rw by-word (c.len ∙ rw (w.count, passed-word) (omega (arith, l.1)));
            rest = rw by-word (c.rest ∙ rw (passed-word, ← l.2));
          }

      -- it is the first of two
      module _ (e : children_of o ≡ 2) where
        abbrev first : Read
        first = more (drop 1 fs)

        two-fit : fits (due.Expr ∷ due.Expr ∷ rd.dues) (drop 1 fs) ≡ true
        two-fit = rw (two-children o e).0 at wants.0

        two-count : nodes_in (wanted o ++ rd.dues) (drop 1 fs) ≡ nodes_in (due.Expr ∷ due.Expr ∷ rd.dues) (drop 1 fs)
        two-count = rw (two-children o e).0

        passed : drop q.at all ≡ drop 1 fs
        passed = passed-word ∙ rw (two-children o e).1

        begins : Begun (due.Expr ∷ rd.dues) (drop 1 fs) first.rest (size first.expr)
        unfolding Reader
        begins = read_right n (left - 1) (due.Expr ∷ rd.dues) (drop 1 fs) (omega (arith, wants.2, rd.enough)) two-fit

        first-nodes : exit ≡ sets room p.len (map slot (head_nodes n o p.len fs ++ nodes_at (p.len + length (head_nodes n o p.len fs)) first.expr))
        first-nodes = c.nodes ∙ rw (w.here, w.count, passed, slots-both room p.len _ (head_nodes n o p.len fs) _ refl)

        first-len : r.len ≡ p.len + length (head_nodes n o p.len fs) + size first.expr
        first-len = c.len ∙ rw (w.count, passed)

        first_rest : drop r.at all ≡ first.rest
        first_rest = c.rest ∙ rw passed

        spare : p.len + nodes_of o + size first.expr + 1 ≤ node_limit
        spare = omega (arith, wants.1, two-count, begins.nodes, expr-some rd.dues first.rest begins.fit, rd.room)

        -- what joining asks
        pub join-ready : (p.len + 1 < node_limit) × (r.len < node_limit)
        join-ready = (omega (arith, spare, nodes-some o, size-some first.expr), omega (arith, spare, first-len, head_few n o p.len fs))

        module _ (both : List Slot) (s : Parsed) (j : Joined o exit p.len r.len both s.len) (same : s.at ≡ r.at) where
          joined : PutAll room p.len (front n more p.len fs o first.expr) both s.len
          joined = join-nodes n more p.len fs room o first.expr exit r.len both s.len e first-nodes first-len j

          pub joined-long : length both ≡ length room
          joined-long = put-long joined

          second-rest : drop s.at all ≡ first.rest
          second-rest = rw same first_rest

          pub second-ready : Ready (drop s.at all) s.len (left - 1)
          second-ready =
              rw second-rest
              (record {
                dues = rd.dues;
                fit = begins.fit;
                room = omega (arith, joined.count, front_length n o more p.len fs first.expr e, wants.1, two-count, begins.nodes, rd.room);
                enough = omega (arith, begins.less, wants.2, rd.enough);
              })

          pub word_two : (last : List Slot) (v : Parsed) → ReadsOne n all (left - 1) s both last v → ReadsOne n all left p room last v
          word_two last v d =
              let l = two-nodes n more p.len fs o e in
              record {
                nodes = rw by-word (d.nodes ∙ rw (joined.here, joined.count, second-rest, slots-both room p.len _ (front n more p.len fs o first.expr) _ refl, ← l.0));
                len = rw by-word (d.len ∙ rw (joined.count, second-rest) (omega (arith, l.1)));
                rest = rw by-word (d.rest ∙ rw (second-rest, ← l.2));
              }

-- there is a word to be read
pub ready-some : (fs : List Field) (len left : ℕ) → Ready fs len left → left ≡ 0 → ⊥
ready-some fs len left rd z = omega (arith, (first_word rd.dues fs rd.fit).2, rd.enough)

pub ready-inside : (fs : List Field) (k : ℕ) {len left : ℕ} → Ready (drop k fs) len left → k < length fs
ready-inside fs k rd = omega (arith, (first_word rd.dues (drop k fs) rd.fit).2, length-drop k fs)

-- reading leaves the room as long as it was
pub reads-long : {n : Names} {fs : List Field} {left : ℕ} {p : Parsed} {room exit : List Slot} {r : Parsed} → ReadsOne n fs left p room exit r → length exit ≡ length room
reads-long {n} {fs} {left} {p} {room} d = ap length d.nodes ∙ length-sets room p.len (map slot (nodes_at p.len (read left n (drop p.at fs)).expr))

-- neither none nor one: two
pub two-else : (o : Option Operator) → (children_of o ≡ 0 → ⊥) → (children_of o ≡ 1 → ⊥) → children_of o ≡ 2
two-else (Some operator.And) z s = refl
two-else (Some operator.Or) z s = refl
two-else (Some operator.Not) z s = absurd (s refl)
two-else (Some operator.Some) z s = absurd (s refl)
two-else (Some operator.All) z s = absurd (s refl)
two-else (Some operator.AtLeast) z s = absurd (s refl)
two-else (Some operator.AtMost) z s = absurd (s refl)
two-else (Some operator.SelfOf) z s = absurd (z refl)
two-else (Some operator.One) z s = absurd (z refl)
two-else (Some operator.Top) z s = absurd (z refl)
two-else (Some operator.Bot) z s = absurd (z refl)
two-else None z s = absurd (z refl)
