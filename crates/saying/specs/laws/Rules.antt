-- Laws of reading rules from their fields. Assumes nothing.
use Rattle.std.specs.Prelude.{◌≡◌, ℕ, ◌+◌, ◌-◌, ◌≤◌, drop, length}
use Rattle.std.proofs.Common.{sym, ◌∙◌, true≢false, arith, List, [], ◌∷◌, ◌++◌}
use Rattle.rule.specs.declared.Head.TheVariants as head
use Rattle.rule.specs.declared.Node.{Node}
use Rattle.rule.specs.declared.RoleUse.{RoleUse}
use Rattle.rule.specs.declared.Slot.{Slot}
use Rattle.rule.specs.Form.{node_limit}
use Rattle.store.specs.declared.Item.{Item}
use Rattle.field.specs.declared.Due.TheVariants as due
use Rattle.saying.specs.declared.Parsed.{Parsed}
use Rattle.field.specs.declared.RuleWord.TheVariants as rule
use Rattle.field.specs.Due.{fits}
use Rattle.field.specs.Names.{Names}
use Rattle.saying.specs.own.Nodes.{ReadsOne, Ready, RuleReady}
use Rattle.saying.specs.Read.{Read, blank, chain_of, laid, nodes_at, read_expr, rule_of, size}
use Rattle.stated.specs.Stated.{item_of, role_use_of}
use Rattle.field.specs.Words.{at, Field}
use Rattle.stated.specs.laws.Fields.{field-from, first-from}
use Rattle.saying.specs.laws.Nodes.{nodes-length, slots-both}
use Rattle.saying.specs.laws.Read.{Begun, Reader, read_right}

-- a chain has a role
pub chain-some : (fs : List Field) → RuleReady rule.Chain fs → 1 ≤ length fs
unfolding fits
chain-some [] r = absurd (true≢false (sym r.fit))
chain-some (f ∷ fs) r = omega arith

-- the roles of a chain
module _ (n : Names) (all : List Field) (from k : ℕ) (a b c d e : RoleUse) where
  pub chain_head : k + 1 ≡ length (drop from all) → a ≡ role_use_of n (at from all) → b ≡ role_use_of n (at (from + 1) all) → c ≡ role_use_of n (at (from + 2) all) → d ≡ role_use_of n (at (from + 3) all)
      → e ≡ role_use_of n (at (from + k) all) → head.Chain k a b c d e ≡ chain_of n (drop from all)
  chain_head l p q r s t =
      let z : length (drop from all) - 1 ≡ k = omega arith in
      rw (p, q, r, s, t, z, first-from all from, field-from all from 1, field-from all from 2, field-from all from 3, field-from all from k)

-- no nodes yet
abbrev start : ℕ → Parsed
start from = record { len = 0; at = from }

module _ (n : Names) (all : List Field) (from : ℕ) where
  abbrev fs : List Field
  fs = drop from all

  abbrev first : Read
  first = read_expr n fs

  pub in-first : RuleReady rule.In fs → (k : ℕ) → k ≡ length fs → Ready fs 0 k
  in-first r k e = record { dues = due.Item ∷ []; fit = r.fit; room = omega (arith, r.room); enough = omega arith }

  pub sub-first : RuleReady rule.Sub fs → (k : ℕ) → k ≡ length fs → Ready fs 0 k
  sub-first r k e = record { dues = due.Expr ∷ []; fit = r.fit; room = omega (arith, r.room); enough = omega arith }

  -- the first expression is read, into whatever room: the nodes are no more than a rule may have
  module _ (room nodes : List Slot) (p : Parsed) (k : ℕ) (count : k ≡ length fs) (c : ReadsOne n all k (start from) room nodes p) where
    read-first : ReadsOne n all (length fs) (start from) room nodes p
    read-first = rw count at c

    len-first : p.len ≡ size first.expr
    len-first = omega (arith, read-first.len)

    -- of `in`
    module _ (r : RuleReady rule.In fs) where
      begun-in : Begun (due.Item ∷ []) fs first.rest (size first.expr)
      unfolding Reader
      begun-in = read_right n (length fs) (due.Item ∷ []) fs (omega arith) r.fit

      pub in-room : p.len ≤ node_limit
      in-room = omega (arith, len-first, begun-in.nodes, r.room)

    -- of `sub`
    module _ (r : RuleReady rule.Sub fs) (j : ℕ) (rest : j ≡ length (drop p.at all)) where
      begun-sub : Begun (due.Expr ∷ []) fs first.rest (size first.expr)
      unfolding Reader
      begun-sub = read_right n (length fs) (due.Expr ∷ []) fs (omega arith) r.fit

      -- the second expression can be read
      pub sub-ready : Ready (drop p.at all) p.len j
      sub-ready = rw (rest, read-first.rest) (record { dues = []; fit = begun-sub.fit; room = omega (arith, len-first, begun-sub.nodes, r.room); enough = omega arith })

      begun-second : Begun [] first.rest (read_expr n first.rest).rest (size (read_expr n first.rest).expr)
      unfolding Reader
      begun-second = read_right n (length first.rest) [] first.rest (omega arith) begun-sub.fit

      module _ (exit : List Slot) (q : Parsed) (d : ReadsOne n all j p nodes exit q) where
        read-second : ReadsOne n all (length first.rest) p nodes exit q
        read-second = rw (rest, read-first.rest) at d

        len-second : q.len ≡ p.len + size (read_expr n first.rest).expr
        len-second = read-second.len ∙ rw read-first.rest

        pub sub-room : q.len ≤ node_limit
        sub-room = omega (arith, len-second, len-first, begun-sub.nodes, begun-second.nodes, r.room)

  -- the first expression is read
  module _ (nodes : List Slot) (p : Parsed) (k : ℕ) (count : k ≡ length fs) (c : ReadsOne n all k (start from) blank nodes p) where
    first_read : ReadsOne n all (length fs) (start from) blank nodes p
    first_read = rw count at c

    first-len : p.len ≡ size first.expr
    first-len = omega (arith, first_read.len)

    -- of `in`: an expression and an item
    pub in-rule : (i : Item) → i ≡ item_of n (at 0 (drop p.at all)) → record { head = head.In 0 i; len = p.len; nodes = nodes } ≡ rule_of n rule.In fs
    in-rule i e = rw (first_read.nodes, e, first_read.rest, first-len)

    -- of `sub`: two expressions
    module _ (r : RuleReady rule.Sub fs) (j : ℕ) (rest : j ≡ length (drop p.at all)) where
      abbrev second : Read
      second = read_expr n first.rest

      begun_first : Begun (due.Expr ∷ []) fs first.rest (size first.expr)
      unfolding Reader
      begun_first = read_right n (length fs) (due.Expr ∷ []) fs (omega arith) r.fit

      pub sub-second : Ready (drop p.at all) p.len j
      sub-second = rw (rest, first_read.rest) (record { dues = []; fit = begun_first.fit; room = omega (arith, first-len, begun_first.nodes, r.room); enough = omega arith })

      module _ (exit : List Slot) (q : Parsed) (d : ReadsOne n all j p nodes exit q) where
        second-read : ReadsOne n all (length first.rest) p nodes exit q
        second-read = rw (rest, first_read.rest) at d

        second-len : q.len ≡ p.len + size second.expr
        second-len = second-read.len ∙ rw first_read.rest

        abbrev both : List Node
        both = nodes_at 0 first.expr ++ nodes_at (size first.expr) second.expr

        second-nodes : exit ≡ laid both
        second-nodes =
            let m : size first.expr ≡ 0 + length (nodes_at 0 first.expr) = omega (arith, nodes-length 0 first.expr) in
            second-read.nodes ∙ rw (first_read.rest, first-len, first_read.nodes) (slots-both blank 0 (size first.expr) (nodes_at 0 first.expr) (nodes_at (size first.expr) second.expr) m)

        pub sub-rule : record { head = head.Sub 0 p.len; len = q.len; nodes = exit } ≡ rule_of n rule.Sub fs
        sub-rule = rw (second-nodes, second-len, first-len)
