-- `sheet::sheets::fill` meets its contract. Assumes nothing.
use Rattle.std.proofs.Common.{◌∙◌, ap, ℕ, arith, length-set, replicate, get_or-set_same}
use Rattle.sheet.specs.laws.Sheets.{opens-long, zeroed-all}
use Rattle.std.proofs.lemmas.List.{length-replicate}
use Rattle.store.specs.Layout.{size}
use Rattle.store.specs.laws.Laid.{laid-is, laid_of}
use Rattle.field.specs.own.Table.{room_at}
use Rattle.sheet.proofs.sheets.fill.Goals as goal

pub returns-then-sheet-gt-BYTES : goal.returns-then-sheet-gt-BYTES
returns-then-sheet-gt-BYTES c = rw c.too_long.ensures (opens-long _ _ _ _ (rw c.allow.ensures (omega (arith, c.requires.0, length-set c.args.names.now room_at 0))) (rw c.allow.ensures (get_or-set_same c.args.names.now room_at 0 0 (omega (arith, c.requires.0)))) c.if-sheet-gt-BYTES.true)

pub fill_short-requires : goal.fill_short-requires
fill_short-requires c = let z = zeroed-all _ _ c.zero_all.ensures ∙ ap (λ (n : ℕ). replicate n 0) c.requires.1.long in
    (omega (arith, c.if-sheet-gt-BYTES.false), z, rw c.allow.ensures (omega (arith, c.requires.0, length-set c.args.names.now room_at 0)), rw c.allow.ensures (get_or-set_same c.args.names.now room_at 0 0 (omega (arith, c.requires.0))), laid_of (laid-is c.requires.1) (rw z (length-replicate {A = ℕ} (size c.args.at.width) 0)) c.requires.1.wide, c.requires.2)
