-- An accepted rule line says a rule that is well formed, with its numbers below their counts. Assumes nothing.
use Rattle.std.specs.Prelude.{◌≡◌, false, drop, length}
use Rattle.std.proofs.Common.{refl, sym, true≢false, length-append, List, [], ◌∷◌, ◌++◌, ℕ, suc, ◌+◌, ◌≤◌, ◌<◌, max, min, arith}
use Rattle.text.specs.Bytes.{place}
use Rattle.store.specs.declared.Counts.{Counts}
use Rattle.store.specs.declared.Item.{Item}
use Rattle.rule.specs.declared.Head.{Head}
use Rattle.rule.specs.declared.Head.TheVariants as head
use Rattle.rule.specs.declared.Node.{Node}
use Rattle.rule.specs.declared.Rule.{Rule}
use Rattle.rule.specs.Expr.{Expr}
use Rattle.rule.specs.Form.{CountFits, HeadFits, HeadWithin, NodeWithin, RuleWithin, UsesLater, WellFormed, node_limit, root_uses}
use Rattle.field.specs.declared.Due.{Due}
use Rattle.field.specs.declared.Due.TheVariants as due
use Rattle.field.specs.declared.RuleWord.{RuleWord}
use Rattle.field.specs.declared.RuleWord.TheVariants as rule
use Rattle.field.specs.Due.{chain_longest, chain_shortest, fits, is_expr, rule_lineup}
use Rattle.field.specs.Names.{Names, counts_of, field_fault, nodes_in, plain}
use Rattle.field.specs.Words.{at, Field}
use Rattle.saying.specs.Read.{bare, laid, nodes_at, read_expr, rule_of, size, with_one, with_two}
use Rattle.stated.specs.Stated.{item_of}
use Rattle.field.specs.laws.Right.{Right, item-declared, right-first, role-use-declared}
use Rattle.saying.specs.laws.Formed.{Each, each_append, each_at, fine-each, laid-node, later-each, once-one, once-two, uses-all, uses_in}
use Rattle.saying.specs.laws.Nodes.{nodes-length}
use Rattle.saying.specs.laws.Parse.{size-some}
use Rattle.saying.specs.laws.Read.{Reader, read_right}
use Rattle.saying.specs.laws.Within.{Sound, SoundReader, read-sound}
use Rattle.store.specs.Cell.{DeclaredItem}

-- what a rule of a sheet is judged by
pub record Good (n : Counts) (u : Rule) : Type 0 where
  pub form : WellFormed u
  pub within : RuleWithin n u

-- a rule without expressions
bare-good : (n : Counts) (h : Head) → HeadFits 0 h → HeadWithin n h → Good n (bare h)
bare-good n h f w =
    record {
      form = record { short = omega arith; head = f; later = λ i l. absurd (omega arith); counts = λ i l. absurd (omega arith); once = λ j l. absurd (omega arith) };
      within = record { head = w; nodes = λ i l. absurd (omega arith) };
    }

from_zero : (i : ℕ) → 0 + i ≡ i
from_zero i = omega arith

-- nodes in their places, of which each is fine
module _ (n : Counts) (h : Head) (xs : List Node) (small : length xs ≤ node_limit) (later : Each (UsesLater (length xs)) 0 xs) (fine : Each (λ (j : ℕ) (x : Node). CountFits x × NodeWithin n x) 0 xs) where
  nodes-good : HeadFits (length xs) h → HeadWithin n h → ((j : ℕ) → j < length xs → root_uses h j + uses_in xs j ≡ 1) → Good n (record { head = h; len = length xs; nodes = laid xs })
  nodes-good f w once =
      record {
        form = record {
          short = small;
          head = f;
          later = λ i l. rw (laid-node xs i small l) (rw (from_zero i) at (each_at (UsesLater (length xs)) 0 i xs later l));
          counts = λ i l. rw (laid-node xs i small l) (each_at (λ (j : ℕ) (x : Node). CountFits x × NodeWithin n x) 0 i xs fine l).0;
          once = λ j l. rw (uses-all xs j small) (once j l);
        };
        within = record { head = w; nodes = λ i l. rw (laid-node xs i small l) (each_at (λ (j : ℕ) (x : Node). CountFits x × NodeWithin n x) 0 i xs fine l).1 };
      }

-- a rule with one expression, and with two
module _ (n : Counts) (c : Expr) (sound : Sound n c) where
  in-good : (a : Item) → size c ≤ node_limit → DeclaredItem n a.0 → Good n (with_one (λ r. head.In r a) c)
  in-good a small w =
      let l = nodes-length 0 c in
      rw l at
      (nodes-good n (head.In 0 a) (nodes_at 0 c) (omega arith) (rw l (later-each (size c) 0 c (omega arith))) (fine-each n 0 c sound) (omega (arith, size-some c)) w
      (λ j h. once-one c j (omega arith)))

  sub-good : (d : Expr) → Sound n d → size c + size d ≤ node_limit → Good n (with_two head.Sub c d)
  sub-good d more small =
      let l : length (nodes_at 0 c ++ nodes_at (size c) d) ≡ size c + size d = rw (length-append, nodes-length, nodes-length) in
      rw l at
      (nodes-good n (head.Sub 0 (size c)) (nodes_at 0 c ++ nodes_at (size c) d) (omega arith)
      (rw l (each_append (UsesLater (size c + size d)) 0 (size c) (nodes_at 0 c) (nodes_at (size c) d) (omega (arith, nodes-length 0 c)) (later-each (size c + size d) 0 c (omega arith)) (later-each (size c + size d) (size c) d (omega arith))))
      (each_append (λ (j : ℕ) (x : Node). CountFits x × NodeWithin n x) 0 (size c) (nodes_at 0 c) (nodes_at (size c) d) (omega (arith, nodes-length 0 c)) (fine-each n 0 c sound) (fine-each n (size c) d more))
      (omega (arith, size-some c), omega (arith, size-some d)) tt
      (λ j h. once-two c d j (omega arith)))

-- ---- by the rule word

at_next : (i : ℕ) (fs : List Field) → at i (drop 1 fs) ≡ at (suc i) fs
at_next i [] = refl
at_next i (f ∷ fs) = refl

module _ (n : Names) where
  two_fields : (a b : Due) (fs : List Field) → is_expr a ≡ false → is_expr b ≡ false → Right n (a ∷ b ∷ []) fs → (field_fault n a (at 0 fs) ≡ 0) × (field_fault n b (at 1 fs) ≡ 0)
  two_fields a b fs e g r =
      let x = right-first n a (b ∷ []) fs e r in
      let y = right-first n b [] (drop 1 fs) g x.1 in
      (x.0, rw (at_next 0 fs) at y.0)

  three-fields : (a b c : Due) (fs : List Field) → is_expr a ≡ false → is_expr b ≡ false → is_expr c ≡ false → Right n (a ∷ b ∷ c ∷ []) fs
      → (field_fault n a (at 0 fs) ≡ 0) × (field_fault n b (at 1 fs) ≡ 0) × (field_fault n c (at 2 fs) ≡ 0)
  three-fields a b c fs e g h r =
      let x = right-first n a (b ∷ c ∷ []) fs e r in
      let y = two_fields b c (drop 1 fs) g h x.1 in
      (x.0, rw (at_next 0 fs) at y.0, rw (at_next 1 fs) at y.1)

  role-in : (fs : List Field) (i : ℕ) → field_fault n due.RoleUse (at i fs) ≡ 0 → place (plain (at i fs)) n.roles < length n.roles
  role-in fs i e = role-use-declared n (at i fs) e

  item_in : (fs : List Field) (i : ℕ) → field_fault n due.Item (at i fs) ≡ 0 → place (at i fs) n.items < length n.items
  item_in fs i e = item-declared n (at i fs) e

  -- two expressions
  sub-rule-good : (fs : List Field) → Right n (due.Expr ∷ due.Expr ∷ []) fs → nodes_in (due.Expr ∷ due.Expr ∷ []) fs ≤ node_limit → Good (counts_of n) (rule_of n rule.Sub fs)
  unfolding Reader SoundReader
  sub-rule-good fs r small =
      let a = read-sound n (length fs) (due.Expr ∷ []) fs (omega arith) r in
      let b = read_right n (length fs) (due.Expr ∷ []) fs (omega arith) r.fit in
      let c = read-sound n (length (read_expr n fs).rest) [] (read_expr n fs).rest (omega arith) a.1 in
      let d = read_right n (length (read_expr n fs).rest) [] (read_expr n fs).rest (omega arith) a.1.fit in
      sub-good (counts_of n) (read_expr n fs).expr a.0 (read_expr n (read_expr n fs).rest).expr c.0 (omega (arith, b.nodes, d.nodes))

  -- an expression and an item
  in-rule-good : (fs : List Field) → Right n (due.Expr ∷ due.Item ∷ []) fs → nodes_in (due.Expr ∷ due.Item ∷ []) fs ≤ node_limit → Good (counts_of n) (rule_of n rule.In fs)
  unfolding Reader SoundReader
  in-rule-good fs r small =
      let a = read-sound n (length fs) (due.Item ∷ []) fs (omega arith) r in
      let b = read_right n (length fs) (due.Item ∷ []) fs (omega arith) r.fit in
      let i = right-first n due.Item [] (read_expr n fs).rest refl a.1 in
      in-good (counts_of n) (read_expr n fs).expr a.0 (item_of n (at 0 (read_expr n fs).rest)) (omega (arith, b.nodes)) (item-declared n (at 0 (read_expr n fs).rest) i.0)

  four-roles : (fs : List Field) → Right n (due.RoleUse ∷ due.RoleUse ∷ due.RoleUse ∷ due.RoleUse ∷ []) fs
      → (field_fault n due.RoleUse (at 0 fs) ≡ 0) × (field_fault n due.RoleUse (at 1 fs) ≡ 0) × (field_fault n due.RoleUse (at 2 fs) ≡ 0) × (field_fault n due.RoleUse (at 3 fs) ≡ 0)
  four-roles fs r =
      let x = right-first n due.RoleUse (due.RoleUse ∷ due.RoleUse ∷ due.RoleUse ∷ []) fs refl r in
      let y = three-fields due.RoleUse due.RoleUse due.RoleUse (drop 1 fs) refl refl refl x.1 in
      (x.0, rw (at_next 0 fs) at y.0, rw (at_next 1 fs) at y.1, rw (at_next 2 fs) at y.2)

  -- a path of 2 to 4 roles, and the last
  chain-rule-good : (fs : List Field) → Right n (rule_lineup rule.Chain (length fs)) fs → Good (counts_of n) (rule_of n rule.Chain fs)
  unfolding fits
  chain-rule-good [] r = absurd (true≢false (sym r.fit))
  chain-rule-good (a ∷ []) r = absurd (true≢false (sym r.fit))
  chain-rule-good (a ∷ b ∷ []) r = absurd (true≢false (sym r.fit))
  chain-rule-good (a ∷ b ∷ c ∷ []) r =
      let fs = a ∷ b ∷ c ∷ [] in
      let x = three-fields due.RoleUse due.RoleUse due.RoleUse fs refl refl refl r in
      bare-good (counts_of n) _ (omega arith, omega arith)
      ((λ h. role-in fs 0 x.0), (λ h. role-in fs 1 x.1), (λ h. absurd (omega arith)), (λ h. absurd (omega arith)), role-in fs 2 x.2)
  chain-rule-good (a ∷ b ∷ c ∷ d ∷ []) r =
      let fs = a ∷ b ∷ c ∷ d ∷ [] in
      let x = four-roles fs r in
      bare-good (counts_of n) _ (omega arith, omega arith)
      ((λ h. role-in fs 0 x.0), (λ h. role-in fs 1 x.1), (λ h. role-in fs 2 x.2), (λ h. absurd (omega arith)), role-in fs 3 x.3)
  chain-rule-good (a ∷ b ∷ c ∷ d ∷ e ∷ []) r =
      let fs = a ∷ b ∷ c ∷ d ∷ e ∷ [] in
      let x = right-first n due.RoleUse (due.RoleUse ∷ due.RoleUse ∷ due.RoleUse ∷ due.RoleUse ∷ []) fs refl r in
      let y = four-roles (b ∷ c ∷ d ∷ e ∷ []) x.1 in
      bare-good (counts_of n) _ (omega arith, omega arith)
      ((λ h. role-in fs 0 x.0), (λ h. role-in fs 1 y.0), (λ h. role-in fs 2 y.1), (λ h. role-in fs 3 y.2), role-in fs 4 y.3)
  chain-rule-good (a ∷ b ∷ c ∷ d ∷ e ∷ f ∷ fs) r =
      let z : max chain_shortest (min (length (a ∷ b ∷ c ∷ d ∷ e ∷ f ∷ fs)) chain_longest) ≡ chain_longest = omega arith in
      let q = rw z at r.fit in
      absurd (true≢false (sym q))

  -- the rule that the fields of an accepted rule line say
  pub rule-good : (w : RuleWord) (fs : List Field) → Right n (rule_lineup w (length fs)) fs → nodes_in (rule_lineup w (length fs)) fs ≤ node_limit → Good (counts_of n) (rule_of n w fs)
  rule-good rule.Sub fs r s = sub-rule-good fs r s
  rule-good rule.RoleSub fs r s = let x = two_fields due.RoleUse due.RoleUse fs refl refl r in bare-good (counts_of n) _ tt (role-in fs 0 x.0, role-in fs 1 x.1)
  rule-good rule.Chain fs r s = chain-rule-good fs r
  rule-good rule.Ref fs r s = bare-good (counts_of n) _ tt (role-in fs 0 (right-first n due.RoleUse [] fs refl r).0)
  rule-good rule.Irr fs r s = bare-good (counts_of n) _ tt (role-in fs 0 (right-first n due.RoleUse [] fs refl r).0)
  rule-good rule.Dis fs r s = let x = two_fields due.RoleUse due.RoleUse fs refl refl r in bare-good (counts_of n) _ tt (role-in fs 0 x.0, role-in fs 1 x.1)
  rule-good rule.In fs r s = in-rule-good fs r s
  rule-good rule.Rel fs r s = let x = three-fields due.RoleUse due.Item due.Item fs refl refl refl r in bare-good (counts_of n) _ tt (role-in fs 0 x.0, item_in fs 1 x.1, item_in fs 2 x.2)
  rule-good rule.NoRel fs r s = let x = three-fields due.RoleUse due.Item due.Item fs refl refl refl r in bare-good (counts_of n) _ tt (role-in fs 0 x.0, item_in fs 1 x.1, item_in fs 2 x.2)
  rule-good rule.Same fs r s = let x = two_fields due.Item due.Item fs refl refl r in bare-good (counts_of n) _ tt (item_in fs 0 x.0, item_in fs 1 x.1)
  rule-good rule.Differ fs r s = let x = two_fields due.Item due.Item fs refl refl r in bare-good (counts_of n) _ tt (item_in fs 0 x.0, item_in fs 1 x.1)
