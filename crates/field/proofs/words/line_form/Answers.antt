-- `field::words::line_form` meets its contract. Assumes nothing.
use Rattle.field.specs.laws.Words.{line-form-is, line-form-none}
use Rattle.field.proofs.words.line_form.Goals as goal

pub returns-in-104832272098553699 : goal.returns-in-104832272098553699
returns-in-104832272098553699 c = line-form-is c.args.f.now _ (λ i. (c.type_inv.f i).fits) c.code-k.ensures _ c.in-104832272098553699.is

pub returns-in-5996572530 : goal.returns-in-5996572530
returns-in-5996572530 c = line-form-is c.args.f.now _ (λ i. (c.type_inv.f i).fits) c.code-k.ensures _ c.in-5996572530.is

pub returns-in-6130332777 : goal.returns-in-6130332777
returns-in-6130332777 c = line-form-is c.args.f.now _ (λ i. (c.type_inv.f i).fits) c.code-k.ensures _ c.in-6130332777.is

pub returns-in-93801 : goal.returns-in-93801
returns-in-93801 c = line-form-is c.args.f.now _ (λ i. (c.type_inv.f i).fits) c.code-k.ensures _ c.in-93801.is

pub returns-in-23881074 : goal.returns-in-23881074
returns-in-23881074 c = line-form-is c.args.f.now _ (λ i. (c.type_inv.f i).fits) c.code-k.ensures _ c.in-23881074.is

pub returns-in-5996634483 : goal.returns-in-5996634483
returns-in-5996634483 c = line-form-is c.args.f.now _ (λ i. (c.type_inv.f i).fits) c.code-k.ensures _ c.in-5996634483.is

pub returns-in-1590838980213 : goal.returns-in-1590838980213
returns-in-1590838980213 c = line-form-is c.args.f.now _ (λ i. (c.type_inv.f i).fits) c.code-k.ensures _ c.in-1590838980213.is

pub returns-in-407254778934642 : goal.returns-in-407254778934642
returns-in-407254778934642 c = line-form-is c.args.f.now _ (λ i. (c.type_inv.f i).fits) c.code-k.ensures _ c.in-407254778934642.is

pub returns-in_default : goal.returns-in_default
returns-in_default c = let r = c.in_default.in_default-own.rest in line-form-none c.args.f.now _ (λ i. (c.type_inv.f i).fits) c.code-k.ensures (r.0.0.0.0.0.0.0.1, (r.0.0.0.0.0.0.1, (r.0.0.0.0.0.1, (r.0.0.0.0.1, (r.0.0.0.1, (r.0.0.1, (r.0.1, (r.1, tt))))))))
