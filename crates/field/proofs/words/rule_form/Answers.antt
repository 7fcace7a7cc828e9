-- `field::words::rule_form` meets its contract. Assumes nothing.
use Rattle.field.specs.laws.Words.{rule-form-is, rule-form-none}
use Rattle.field.proofs.words.rule_form.Goals as goal

pub returns-in-23229811 : goal.returns-in-23229811
returns-in-23229811 c = rule-form-is c.args.f.now _ (λ i. (c.type_inv.f i).fits) c.code-k.ensures _ c.in-23229811.is

pub returns-in-5946831730 : goal.returns-in-5946831730
returns-in-5946831730 c = rule-form-is c.args.f.now _ (λ i. (c.type_inv.f i).fits) c.code-k.ensures _ c.in-5946831730.is

pub returns-in-1573726021731 : goal.returns-in-1573726021731
returns-in-1573726021731 c = rule-form-is c.args.f.now _ (λ i. (c.type_inv.f i).fits) c.code-k.ensures _ c.in-1573726021731.is

pub returns-in-23487858 : goal.returns-in-23487858
returns-in-23487858 c = rule-form-is c.args.f.now _ (λ i. (c.type_inv.f i).fits) c.code-k.ensures _ c.in-23487858.is

pub returns-in-24277609 : goal.returns-in-24277609
returns-in-24277609 c = rule-form-is c.args.f.now _ (λ i. (c.type_inv.f i).fits) c.code-k.ensures _ c.in-24277609.is

pub returns-in-24340836 : goal.returns-in-24340836
returns-in-24340836 c = rule-form-is c.args.f.now _ (λ i. (c.type_inv.f i).fits) c.code-k.ensures _ c.in-24340836.is

pub returns-in-93801 : goal.returns-in-93801
returns-in-93801 c = rule-form-is c.args.f.now _ (λ i. (c.type_inv.f i).fits) c.code-k.ensures _ c.in-93801.is

pub returns-in-23881074 : goal.returns-in-23881074
returns-in-23881074 c = rule-form-is c.args.f.now _ (λ i. (c.type_inv.f i).fits) c.code-k.ensures _ c.in-23881074.is

pub returns-in-1565070094190 : goal.returns-in-1565070094190
returns-in-1565070094190 c = rule-form-is c.args.f.now _ (λ i. (c.type_inv.f i).fits) c.code-k.ensures _ c.in-1565070094190.is

pub returns-in-5996634483 : goal.returns-in-5996634483
returns-in-5996634483 c = rule-form-is c.args.f.now _ (λ i. (c.type_inv.f i).fits) c.code-k.ensures _ c.in-5996634483.is

pub returns-in-407254811961700 : goal.returns-in-407254811961700
returns-in-407254811961700 c = rule-form-is c.args.f.now _ (λ i. (c.type_inv.f i).fits) c.code-k.ensures _ c.in-407254811961700.is

pub returns-in_default : goal.returns-in_default
returns-in_default c = let r = c.in_default.in_default-own.rest in rule-form-none c.args.f.now _ (λ i. (c.type_inv.f i).fits) c.code-k.ensures (r.0.0.0.0.0.0.0.0.0.0.1, (r.0.0.0.0.0.0.0.0.0.1, (r.0.0.0.0.0.0.0.0.1, (r.0.0.0.0.0.0.0.1, (r.0.0.0.0.0.0.1, (r.0.0.0.0.0.1, (r.0.0.0.0.1, (r.0.0.0.1, (r.0.0.1, (r.0.1, (r.1, tt)))))))))))
