-- The rules of a sheet have few findings. Assumes nothing.
use Rattle.std.specs.Prelude.{List, ℕ, suc, ◌*◌, ◌≤◌, length}
use Rattle.std.proofs.Common.{arith, length-append}
use Rattle.store.specs.declared.Counts.{Counts}
use Rattle.store.specs.Cell.{Cell}
use Rattle.rule.specs.declared.Finding.{Finding}
use Rattle.rule.specs.laws.Few.{few-findings}
use Rattle.sheet.specs.Promise.{FindingsFrom}
use Rattle.sheet.specs.Said.{SheetRule}

-- among m items at most m times m + 1 for each
pub few-from : {C : Cell → Type 0} {n : Counts} {k m : ℕ} {rs : List SheetRule} {fs : List Finding} → n.items ≤ m → FindingsFrom C n k rs fs → length fs ≤ m * suc m * length rs
few-from h FindingsFrom.none = omega arith
few-from h (FindingsFrom.more {fs = fs} {gs = gs} a b) = omega (arith, few-findings h a, few-from h b, length-append fs gs)
