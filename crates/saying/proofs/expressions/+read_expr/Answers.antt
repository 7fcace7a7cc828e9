-- `saying::expressions::read_expr` meets its contract, by the fall of `left`: the nodes of a word, then those of its children. Assumes nothing.
use Rattle.std.proofs.Common.{ap, arith, refl, sym, ◌∙◌, ◌+◌, ℕ}
use Rattle.field.specs.Words.{operator_of}
use Rattle.field.specs.own.Known.{fields_in, names_in}
use Rattle.stated.specs.laws.Fields.{first-from}
use Rattle.saying.specs.laws.Parse.{fields-few, first-ready, join-ready, ready-inside, ready-some, second-ready, two-else, word-leaf, word-one, word_room, word_two}
use Rattle.saying.proofs.expressions.+read_expr.Goals as goal

pub returns-then-left-eq0 : goal.returns-then-left-eq0
returns-then-left-eq0 t c = absurd (ready-some _ _ _ c.requires c.if-left-eq0.true)

pub put_head-len-requires : goal.put_head-len-requires
put_head-len-requires t c = let x = c.args in
    let n = names_in x.known.now in
    let fs = fields_in x.fields.now in
    (word_room n fs x.left x.p c.operator-o.result c.requires c.if-left-eq0.false (c.operator-o.ensures ∙ ap operator_of (c.nth.ensures ∙ first-from fs x.p.at)), omega (arith, ready-inside fs x.p.at c.requires, x.fields.now.looked.count))

pub overflow_add-word : goal.overflow_add-word
overflow_add-word t c = let x = c.args in
    let fs = fields_in x.fields.now in
    omega (arith, ready-inside fs x.p.at c.requires, x.fields.now.looked.count, c.head_fields.ensures, fields-few c.operator-o.result, c.well_formed)

pub returns-then-k-eq0 : goal.returns-then-k-eq0
returns-then-k-eq0 t c = let x = c.args in
    let n = names_in x.known.now in
    let fs = fields_in x.fields.now in
    word-leaf n fs x.left x.p c.operator-o.result c.requires c.if-left-eq0.false (c.operator-o.ensures ∙ ap operator_of (c.nth.ensures ∙ first-from fs x.p.at)) x.nodes.now _ (record { len = c.put_head-len.result; at = x.p.at + c.head_fields.result }) c.put_head-len.ensures (ap (λ (k : ℕ). x.p.at + k) c.head_fields.ensures) (sym c.children-k.ensures ∙ c.if-k-eq0.true)

pub read_expr-first-requires : goal.read_expr-first-requires
read_expr-first-requires t c = let x = c.args in
    let n = names_in x.known.now in
    let fs = fields_in x.fields.now in
    (omega (arith, c.decreases, c.if-left-eq0.false), (first-ready n fs x.left x.p c.operator-o.result c.requires c.if-left-eq0.false (c.operator-o.ensures ∙ ap operator_of (c.nth.ensures ∙ first-from fs x.p.at)) x.nodes.now _ (record { len = c.put_head-len.result; at = x.p.at + c.head_fields.result }) c.put_head-len.ensures (ap (λ (k : ℕ). x.p.at + k) c.head_fields.ensures) (λ z. c.if-k-eq0.false (c.children-k.ensures ∙ z))))

pub returns-then-k-eq1 : goal.returns-then-k-eq1
returns-then-k-eq1 t c = let x = c.args in
    let n = names_in x.known.now in
    let fs = fields_in x.fields.now in
    word-one n fs x.left x.p c.operator-o.result c.requires c.if-left-eq0.false (c.operator-o.ensures ∙ ap operator_of (c.nth.ensures ∙ first-from fs x.p.at)) x.nodes.now _ (record { len = c.put_head-len.result; at = x.p.at + c.head_fields.result }) c.put_head-len.ensures (ap (λ (k : ℕ). x.p.at + k) c.head_fields.ensures) _ c.read_expr-first.result c.read_expr-first.ensures (sym c.children-k.ensures ∙ c.if-k-eq1.true)

pub join-requires : goal.join-requires
join-requires t c = let x = c.args in
    let n = names_in x.known.now in
    let fs = fields_in x.fields.now in
    join-ready n fs x.left x.p c.operator-o.result c.requires c.if-left-eq0.false (c.operator-o.ensures ∙ ap operator_of (c.nth.ensures ∙ first-from fs x.p.at)) x.nodes.now _ (record { len = c.put_head-len.result; at = x.p.at + c.head_fields.result }) c.put_head-len.ensures (ap (λ (k : ℕ). x.p.at + k) c.head_fields.ensures) _ c.read_expr-first.result c.read_expr-first.ensures (two-else c.operator-o.result (λ z. c.if-k-eq0.false (c.children-k.ensures ∙ z)) (λ z. c.if-k-eq1.false (c.children-k.ensures ∙ z)))

pub read_expr-requires : goal.read_expr-requires
read_expr-requires t c = let x = c.args in
    let n = names_in x.known.now in
    let fs = fields_in x.fields.now in
    (omega (arith, c.decreases, c.if-left-eq0.false), (second-ready n fs x.left x.p c.operator-o.result c.requires c.if-left-eq0.false (c.operator-o.ensures ∙ ap operator_of (c.nth.ensures ∙ first-from fs x.p.at)) x.nodes.now _ (record { len = c.put_head-len.result; at = x.p.at + c.head_fields.result }) c.put_head-len.ensures (ap (λ (k : ℕ). x.p.at + k) c.head_fields.ensures) _ c.read_expr-first.result c.read_expr-first.ensures (two-else c.operator-o.result (λ z. c.if-k-eq0.false (c.children-k.ensures ∙ z)) (λ z. c.if-k-eq1.false (c.children-k.ensures ∙ z))) _ (record { len = c.join.result; at = c.read_expr-first.result.at }) c.join.ensures refl))

pub returns : goal.returns
returns t c = let x = c.args in
    let n = names_in x.known.now in
    let fs = fields_in x.fields.now in
    word_two n fs x.left x.p c.operator-o.result c.requires c.if-left-eq0.false (c.operator-o.ensures ∙ ap operator_of (c.nth.ensures ∙ first-from fs x.p.at)) x.nodes.now _ (record { len = c.put_head-len.result; at = x.p.at + c.head_fields.result }) c.put_head-len.ensures (ap (λ (k : ℕ). x.p.at + k) c.head_fields.ensures) _ c.read_expr-first.result c.read_expr-first.ensures (two-else c.operator-o.result (λ z. c.if-k-eq0.false (c.children-k.ensures ∙ z)) (λ z. c.if-k-eq1.false (c.children-k.ensures ∙ z))) _ (record { len = c.join.result; at = c.read_expr-first.result.at }) c.join.ensures refl _ c.read_expr.result c.read_expr.ensures
