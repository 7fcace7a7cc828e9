-- What writing a whole query asks and leaves.
use Rattle.std.specs.Prelude.{◌≡◌, List, [], ◌∷◌, ℕ, ◌*◌, ◌≤◌, ◌<◌, length, take}
use Rattle.std.proofs.lemmas.List.Edits.{sets}
use Rattle.rule.specs.declared.Head.{Head}
use Rattle.rule.specs.declared.Head.TheVariants.{Sub, RoleSub, Chain, Ref, Irr, Dis, In, Rel, NoRel, Same, Differ}
use Rattle.rule.specs.declared.Slot.{Slot}
use Rattle.rule.specs.Form.{shortest, longest}
use Rattle.rule.specs.Expr.{expr_of}
use Rattle.body.specs.Body.{first_item, flat}
use Rattle.body.specs.Translation.{body_of}
use Rattle.body.specs.Length.{head_length, item_limit}
use Rattle.body.specs.own.Writing.{SmallRole, SmallPath, Small}

-- the numbers of a head can be written as words
abbrev pub SmallHead : List Slot → Head → Type 0
SmallHead ns (Sub c d) = Small (expr_of ns c) × Small (expr_of ns d)
SmallHead ns (RoleSub r s) = SmallRole r × SmallRole s
SmallHead ns (Chain k r1 r2 r3 r4 r) = (shortest ≤ k) × (k ≤ longest) × SmallPath (take k (r1 ∷ r2 ∷ r3 ∷ r4 ∷ [])) × SmallRole r
SmallHead ns (Ref r) = SmallRole r
SmallHead ns (Irr r) = SmallRole r
SmallHead ns (Dis r s) = SmallRole r × SmallRole s
SmallHead ns (In c a) = Small (expr_of ns c) × (a.0 < first_item)
SmallHead ns (Rel r a b) = SmallRole r × (a.0 < first_item) × (b.0 < first_item)
SmallHead ns (NoRel r a b) = SmallRole r × (a.0 < first_item) × (b.0 < first_item)
SmallHead ns (Same a b) = (a.0 < first_item) × (b.0 < first_item)
SmallHead ns (Differ a b) = (a.0 < first_item) × (b.0 < first_item)

-- there is room for the query of a head, and its numbers can be written
pub record Spacious (room : List ℕ) (ns : List Slot) (h : Head) : Type 0 where
  pub fits : 4 * head_length ns h ≤ length room
  pub long : head_length ns h ≤ item_limit
  pub small : SmallHead ns h

-- the query of a head was written at the start of the room
pub record Filled (before after : List ℕ) (ns : List Slot) (h : Head) : Type 0 where
  pub room : after ≡ sets before 0 (flat (body_of ns h))
