-- `field::words::operator` meets its contract. Assumes nothing.
use Rattle.field.specs.laws.Words.{operator-is, operator-none}
use Rattle.field.proofs.words.operator.Goals as goal

pub returns-in-23359073 : goal.returns-in-23359073
returns-in-23359073 c = operator-is c.args.f.now _ (λ i. (c.type_inv.f i).fits) c.code-k.ensures _ c.in-23359073.is

pub returns-in-94831 : goal.returns-in-94831
returns-in-94831 c = operator-is c.args.f.now _ (λ i. (c.type_inv.f i).fits) c.code-k.ensures _ c.in-94831.is

pub returns-in-24407918 : goal.returns-in-24407918
returns-in-24407918 c = operator-is c.args.f.now _ (λ i. (c.type_inv.f i).fits) c.code-k.ensures _ c.in-24407918.is

pub returns-in-5996638067 : goal.returns-in-5996638067
returns-in-5996638067 c = operator-is c.args.f.now _ (λ i. (c.type_inv.f i).fits) c.code-k.ensures _ c.in-5996638067.is

pub returns-in-23882849 : goal.returns-in-23882849
returns-in-23882849 c = operator-is c.args.f.now _ (λ i. (c.type_inv.f i).fits) c.code-k.ensures _ c.in-23882849.is

pub returns-in-104835553486992481 : goal.returns-in-104835553486992481
returns-in-104835553486992481 c = operator-is c.args.f.now _ (λ i. (c.type_inv.f i).fits) c.code-k.ensures _ c.in-104835553486992481.is

pub returns-in-409514116215905 : goal.returns-in-409514116215905
returns-in-409514116215905 c = operator-is c.args.f.now _ (λ i. (c.type_inv.f i).fits) c.code-k.ensures _ c.in-409514116215905.is

pub returns-in-6013347187 : goal.returns-in-6013347187
returns-in-6013347187 c = operator-is c.args.f.now _ (λ i. (c.type_inv.f i).fits) c.code-k.ensures _ c.in-6013347187.is

pub returns-in-23424623 : goal.returns-in-23424623
returns-in-23424623 c = operator-is c.args.f.now _ (λ i. (c.type_inv.f i).fits) c.code-k.ensures _ c.in-23424623.is

pub returns-in-24145780 : goal.returns-in-24145780
returns-in-24145780 c = operator-is c.args.f.now _ (λ i. (c.type_inv.f i).fits) c.code-k.ensures _ c.in-24145780.is

pub returns-in-24407906 : goal.returns-in-24407906
returns-in-24407906 c = operator-is c.args.f.now _ (λ i. (c.type_inv.f i).fits) c.code-k.ensures _ c.in-24407906.is

pub returns-in_default : goal.returns-in_default
returns-in_default c = let r = c.in_default.in_default-own.rest in operator-none c.args.f.now _ (λ i. (c.type_inv.f i).fits) c.code-k.ensures (r.0.0.0.0.0.0.0.0.0.0.1, (r.0.0.0.0.0.0.0.0.0.1, (r.0.0.0.0.0.0.0.0.1, (r.0.0.0.0.0.0.0.1, (r.0.0.0.0.0.0.1, (r.0.0.0.0.0.1, (r.0.0.0.0.1, (r.0.0.0.1, (r.0.0.1, (r.0.1, (r.1, tt)))))))))))
