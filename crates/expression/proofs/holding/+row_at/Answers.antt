-- `expression::holding::row_at` meets its contract, by the fall of `left`: a node's row follows from its children's rows. Assumes nothing.
use Rattle.std.specs.Prelude.{◌≡◌, true, false, []}
use Rattle.std.proofs.Common.{refl, sym, ◌∙◌, true≢false}
use Rattle.row.specs.laws.Marks.{marks-ever}
use Rattle.store.specs.own.View.{held}
use Rattle.expression.specs.laws.Holding.{row-marks, row-top}
use Rattle.expression.proofs.holding.+row_at.Goals as goal

-- a node has no such child
none : {A : Type 0} → false ≡ true → A
none h = absurd (true≢false (sym h))

pub returns-then-left-eq0 : goal.returns-then-left-eq0
returns-then-left-eq0 t c = let v = c.args.view.now in
    row-top (held v) v.counts c.args.nodes.now c.args.node c.args.left (λ x. ⊥) (λ x. ⊥) c.if-left-eq0.true (marks-ever c.below.ensures (λ x l. tt))

pub returns-in-Name : goal.returns-in-Name
returns-in-Name t c = let v = c.args.view.now in
    row-marks (held v) v.counts c.args.nodes.now c.args.node c.args.left [] [] c.if-left-eq0.false (sym c.in-Name.is ∙ c.node_at.ensures) none none c.named.ensures

pub returns-in-Top : goal.returns-in-Top
returns-in-Top t c = let v = c.args.view.now in
    row-marks (held v) v.counts c.args.nodes.now c.args.node c.args.left [] [] c.if-left-eq0.false (sym c.in-Top.is ∙ c.node_at.ensures) none none (marks-ever c.below-in-Top.ensures (λ x l. tt))

pub returns-in-Not : goal.returns-in-Not
returns-in-Not t c = let v = c.args.view.now in
    row-marks (held v) v.counts c.args.nodes.now c.args.node c.args.left c.row_at.result [] c.if-left-eq0.false (sym c.in-Not.is ∙ c.node_at.ensures) (λ h. (c.in-Not.a, refl, c.row_at.ensures)) none c.others.ensures

pub returns-in-And : goal.returns-in-And
returns-in-And t c = let v = c.args.view.now in
    row-marks (held v) v.counts c.args.nodes.now c.args.node c.args.left c.row_at-p.result c.row_at-in-And.result c.if-left-eq0.false (sym c.in-And.is ∙ c.node_at.ensures) (λ h. (c.in-And.a, refl, c.row_at-p.ensures)) (λ h. (c.in-And.b, refl, c.row_at-in-And.ensures)) c.shared.ensures

pub returns-in-AtLeast : goal.returns-in-AtLeast
returns-in-AtLeast t c = let v = c.args.view.now in
    row-marks (held v) v.counts c.args.nodes.now c.args.node c.args.left c.row_at-in-AtLeast.result [] c.if-left-eq0.false (sym c.in-AtLeast.is ∙ c.node_at.ensures) (λ h. (c.in-AtLeast.a, refl, c.row_at-in-AtLeast.ensures)) none c.many.ensures

pub returns-in-SelfOf : goal.returns-in-SelfOf
returns-in-SelfOf t c = let v = c.args.view.now in
    row-marks (held v) v.counts c.args.nodes.now c.args.node c.args.left [] [] c.if-left-eq0.false (sym c.in-SelfOf.is ∙ c.node_at.ensures) none none c.selves.ensures

pub returns-in-One : goal.returns-in-One
returns-in-One t c = let v = c.args.view.now in
    row-marks (held v) v.counts c.args.nodes.now c.args.node c.args.left [] [] c.if-left-eq0.false (sym c.in-One.is ∙ c.node_at.ensures) none none c.alike.ensures
