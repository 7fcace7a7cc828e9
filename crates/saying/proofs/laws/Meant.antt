-- The rule that a line says means what the line's fields mean: its nodes, read back, are the expressions that were read. Assumes nothing.
use Rattle.std.specs.Prelude.{◌≡◌, true, length}
use Rattle.std.proofs.Common.{refl, sym, ap, ap₂, true≢false, length-append, List, [], ◌∷◌, ◌++◌, ℕ, zero, suc, ◌+◌, ◌≤◌, max, min, arith}
use Rattle.store.specs.declared.Item.{Item}
use Rattle.rule.specs.declared.Head.TheVariants as head
use Rattle.rule.specs.declared.Node.{Node}
use Rattle.rule.specs.declared.Slot.{Slot}
use Rattle.rule.specs.Expr.{Expr, expr_at}
use Rattle.rule.specs.Expr.Expr.{both, many, name, neg, one, own, top}
use Rattle.rule.specs.Form.{node_at, node_limit}
use Rattle.field.specs.declared.Due.TheVariants as due
use Rattle.field.specs.declared.RuleWord.{RuleWord}
use Rattle.field.specs.declared.RuleWord.TheVariants as rule
use Rattle.field.specs.Due.{chain_longest, chain_shortest, fits, rule_lineup}
use Rattle.field.specs.Names.{Names, nodes_in}
use Rattle.field.specs.Words.{Field, at}
use Rattle.saying.specs.Read.{laid, nodes_at, read_expr, rule_of, size, with_one, with_two}
use Rattle.stated.specs.Stated.{item_of}
use Rattle.saying.specs.Meant.{meaning_of, meant_by}
use Rattle.saying.specs.Meant.Meant.{isin, sub}
use Rattle.saying.specs.laws.Formed.{Each, each_all, each-parts, laid-node}
use Rattle.saying.specs.laws.Nodes.{nodes-length}
use Rattle.saying.specs.laws.Parse.{size-some}
use Rattle.saying.specs.laws.Read.{Reader, read_right}

-- the node x stands at the place j
abbrev Stands : List Slot → ℕ → Node → Type 0
Stands ns j x = node_at ns j ≡ x

module _ (ns : List Slot) where
  -- an expression whose nodes stand from i on is the one that is read there
  read_back : (left i : ℕ) (e : Expr) → size e ≤ left → Each (Stands ns) i (nodes_at i e) → expr_at left ns i ≡ e
  unfolding Each nodes_at size expr_at
  read_back zero i e h a = absurd (omega (arith, size-some e))
  read_back (suc left) i (name c) h a = rw a.0
  read_back (suc left) i top h a = rw a.0
  read_back (suc left) i (neg c) h a = rw a.0 (ap neg (read_back left (i + 1) c (omega arith) a.1))
  read_back (suc left) i (both c d) h a =
      let p = each-parts (Stands ns) (i + 1) (i + 1 + size c) (nodes_at (i + 1) c) (nodes_at (i + 1 + size c) d) (omega (arith, nodes-length (i + 1) c)) a.1 in
      rw (a.0, read_back left (i + 1) c (omega arith) p.0, read_back left (i + 1 + size c) d (omega arith) p.1)
  read_back (suc left) i (many k u c) h a = rw a.0 (ap (many k u) (read_back left (i + 1) c (omega arith) a.1))
  read_back (suc left) i (own u) h a = rw a.0
  read_back (suc left) i (one b) h a = rw a.0

-- nodes laid out stand in their places
laid-stand : (xs : List Node) → length xs ≤ node_limit → Each (Stands (laid xs)) 0 xs
laid-stand xs h = each_all (Stands (laid xs)) 0 xs (λ j l. let z : 0 + j ≡ j = omega arith in rw z (laid-node xs j h l))

-- a rule with one expression, and with two
one-meant : (a : Item) (c : Expr) → size c ≤ node_limit → meaning_of (with_one (λ r. head.In r a) c) ≡ isin c a
one-meant a c h =
    let ns = laid (nodes_at 0 c) in
    ap (λ (e : Expr). isin e a) (read_back ns node_limit 0 c h (laid-stand (nodes_at 0 c) (omega (arith, nodes-length 0 c))))

two-meant : (c d : Expr) → size c + size d ≤ node_limit → meaning_of (with_two head.Sub c d) ≡ sub c d
two-meant c d h =
    let ns = laid (nodes_at 0 c ++ nodes_at (size c) d) in
    let l : length (nodes_at 0 c ++ nodes_at (size c) d) ≡ size c + size d = rw (length-append, nodes-length, nodes-length) in
    let p = each-parts (Stands ns) 0 (size c) (nodes_at 0 c) (nodes_at (size c) d) (omega (arith, nodes-length 0 c)) (laid-stand (nodes_at 0 c ++ nodes_at (size c) d) (omega arith)) in
    ap₂ sub (read_back ns node_limit 0 c (omega arith) p.0) (read_back ns node_limit (size c) d (omega arith) p.1)

module _ (n : Names) where
  sub-meant : (fs : List Field) → fits (due.Expr ∷ due.Expr ∷ []) fs ≡ true → nodes_in (due.Expr ∷ due.Expr ∷ []) fs ≤ node_limit → meaning_of (rule_of n rule.Sub fs) ≡ meant_by n rule.Sub fs
  unfolding Reader
  sub-meant fs f small =
      let a = read_right n (length fs) (due.Expr ∷ []) fs (omega arith) f in
      let b = read_right n (length (read_expr n fs).rest) [] (read_expr n fs).rest (omega arith) a.fit in
      two-meant (read_expr n fs).expr (read_expr n (read_expr n fs).rest).expr (omega (arith, a.nodes, b.nodes))

  in-meant : (fs : List Field) → fits (due.Expr ∷ due.Item ∷ []) fs ≡ true → nodes_in (due.Expr ∷ due.Item ∷ []) fs ≤ node_limit → meaning_of (rule_of n rule.In fs) ≡ meant_by n rule.In fs
  unfolding Reader
  in-meant fs f small =
      let a = read_right n (length fs) (due.Item ∷ []) fs (omega arith) f in
      one-meant (item_of n (at 0 (read_expr n fs).rest)) (read_expr n fs).expr (omega (arith, a.nodes))

  -- a path of 2 to 4 roles, and the last
  chain-meant : (fs : List Field) → fits (rule_lineup rule.Chain (length fs)) fs ≡ true → meaning_of (rule_of n rule.Chain fs) ≡ meant_by n rule.Chain fs
  unfolding fits
  chain-meant [] f = absurd (true≢false (sym f))
  chain-meant (a ∷ []) f = absurd (true≢false (sym f))
  chain-meant (a ∷ b ∷ []) f = absurd (true≢false (sym f))
  chain-meant (a ∷ b ∷ c ∷ []) f = refl
  chain-meant (a ∷ b ∷ c ∷ d ∷ []) f = refl
  chain-meant (a ∷ b ∷ c ∷ d ∷ e ∷ []) f = refl
  chain-meant (a ∷ b ∷ c ∷ d ∷ e ∷ g ∷ fs) f =
      let z : max chain_shortest (min (length (a ∷ b ∷ c ∷ d ∷ e ∷ g ∷ fs)) chain_longest) ≡ chain_longest = omega arith in
      let q = rw z at f in
      absurd (true≢false (sym q))

  -- the rule of an accepted rule line means what its fields mean
  pub rule-meant : (w : RuleWord) (fs : List Field) → fits (rule_lineup w (length fs)) fs ≡ true → nodes_in (rule_lineup w (length fs)) fs ≤ node_limit → meaning_of (rule_of n w fs) ≡ meant_by n w fs
  rule-meant rule.Sub fs f small = sub-meant fs f small
  rule-meant rule.RoleSub fs f small = refl
  rule-meant rule.Chain fs f small = chain-meant fs f
  rule-meant rule.Ref fs f small = refl
  rule-meant rule.Irr fs f small = refl
  rule-meant rule.Dis fs f small = refl
  rule-meant rule.In fs f small = in-meant fs f small
  rule-meant rule.Rel fs f small = refl
  rule-meant rule.NoRel fs f small = refl
  rule-meant rule.Same fs f small = refl
  rule-meant rule.Differ fs f small = refl
