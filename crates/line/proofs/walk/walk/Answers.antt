-- `line::walk::walk` meets its contract. Assumes nothing.
use Rattle.std.proofs.Common.{◌≡◌, ◌+◌, [], ◌∷◌, drop, sym, ◌∙◌, arith, add-one, drop-cons, drop_of_length-le}
use Rattle.text.specs.laws.Split.{split-few}
use Rattle.field.specs.own.Known.{fields_in, names_in}
use Rattle.due.specs.own.Pending.{pending}
use Rattle.line.specs.own.Number.{found}
use Rattle.line.specs.laws.Walk.{along-start, along-step, along-stop, along-end}
use Rattle.line.proofs.walk.walk.Goals as goal

pub loop-k-init : goal.loop-k-init
loop-k-init c = rw c.pend-p.ensures (omega arith, omega arith, omega arith, along-start _ _ _)

pub returns-in_default : goal.returns-in_default
returns-in_default c = let x = c.args in
    let v = c.loop-k in
    let fs = fields_in x.fields.now in
    let z = rw (drop-cons fs v.k [] (omega (arith, x.fields.now.looked.count))) at v.invariant.3 in
    along-stop (names_in x.known.now) x.l.now _ (pending x.l.now v.p) _ _ v.fault v.nodes (sym c.next_due.ensures ∙ c.in_default.is) z

pub step-p-requires : goal.step-p-requires
step-p-requires c = let f = split-few 9 c.args.fields.now.line.now in
    let k = c.args.fields.now.looked.count in
    let v = c.loop-k.invariant in
    (omega (arith, f, k, v.0), omega (arith, f, k, v.1))

pub loop-k-preserved : goal.loop-k-preserved
loop-k-preserved c = let x = c.args in
    let v = c.loop-k in
    let fs = fields_in x.fields.now in
    let f : drop v.k fs ≡ c.field-f.result.now ∷ drop (v.k + 1) fs = drop-cons fs v.k [] (omega (arith, x.fields.now.looked.count)) ∙ rw (c.field-f.ensures, add-one) in
    let z = rw f at v.invariant.3 in
    let s = c.step-p.ensures in (
      omega (arith, s.exprs, v.invariant.0),
      omega (arith, s.own, v.invariant.1),
      omega (arith, c.due_nodes-nodes.ensures.1, v.invariant.2),
      along-step (names_in x.known.now) x.l.now _ (pending x.l.now v.p) _ _ _ _ _ (found v.fault) _ v.nodes _ s.due (sym c.next_due.ensures ∙ c.in-Some.is) c.word_in-o.ensures
          (c.lower-fault.ensures ∙ rw c.field.ensures) c.due_nodes-nodes.ensures.0 z,
    )

pub returns : goal.returns
returns c = let x = c.args in
    let v = c.loop-k in
    let z = rw (drop_of_length-le (fields_in x.fields.now) {i = v.k} (omega (arith, x.fields.now.looked.count))) at v.invariant.3 in
    along-end (names_in x.known.now) x.l.now _ (pending x.l.now v.p) v.fault v.nodes _ c.none_left.ensures z
