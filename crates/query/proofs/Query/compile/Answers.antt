-- `Query::compile` meets its contract: the lowest number that applies, or the query. Assumes nothing.
use Rattle.std.proofs.Common.{refl, arith}
use Rattle.query.specs.Promise.Compiles.{refused}
use Rattle.query.specs.laws.Promise.{refused-1, refused-3, refused-4, long-refused, room-refused, spacious, filled-compiled}
use Rattle.query.proofs.Query.compile.Goals as goal

pub returns-then-not-fits : goal.returns-then-not-fits
returns-then-not-fits c = refused (refused-1 (c.fits.ensures.fails c.if-not-fits.true)) refl

pub returns-then-not-well_formed : goal.returns-then-not-well_formed
returns-then-not-well_formed c = refused (refused-3 (c.fits.ensures.holds c.if-not-fits.false) (c.well_formed-2.ensures.fails c.if-not-well_formed.true)) refl

pub returns-then-not-rule_within : goal.returns-then-not-rule_within
returns-then-not-rule_within c = refused (refused-4 (c.fits.ensures.holds c.if-not-fits.false) (c.well_formed-2.ensures.holds c.if-not-well_formed.false) (c.rule_within.ensures.fails c.if-not-rule_within.true)) refl

pub returns-then-n-gt-ITEMS : goal.returns-then-n-gt-ITEMS
returns-then-n-gt-ITEMS c = long-refused _ _ _ _ (c.fits.ensures.holds c.if-not-fits.false) (c.well_formed-2.ensures.holds c.if-not-well_formed.false) (c.rule_within.ensures.holds c.if-not-rule_within.false) c.rule_length-n.ensures c.if-n-gt-ITEMS.true

pub returns-then-room-n : goal.returns-then-room-n
returns-then-room-n c = room-refused _ _ _ _ (c.fits.ensures.holds c.if-not-fits.false) (c.well_formed-2.ensures.holds c.if-not-well_formed.false) (c.rule_within.ensures.holds c.if-not-rule_within.false) c.rule_length-n.ensures (omega (arith, c.if-n-gt-ITEMS.false)) c.if-room-n.true

pub fill-requires : goal.fill-requires
fill-requires c = spacious _ _ _ _ (c.fits.ensures.holds c.if-not-fits.false) (c.well_formed-2.ensures.holds c.if-not-well_formed.false) (c.rule_within.ensures.holds c.if-not-rule_within.false) c.rule_length-n.ensures (omega (arith, c.if-n-gt-ITEMS.false)) (omega (arith, c.if-room-n.false))

pub returns : goal.returns
returns c = filled-compiled _ _ _ _ _ _ (c.fits.ensures.holds c.if-not-fits.false) (c.well_formed-2.ensures.holds c.if-not-well_formed.false) (c.rule_within.ensures.holds c.if-not-rule_within.false) c.rule_length-n.ensures (omega (arith, c.if-n-gt-ITEMS.false)) (omega (arith, c.if-room-n.false)) c.fill.ensures c.answers_of.ensures refl
