-- `closed::lent::Lent::pair_closed` meets its contract. Assumes nothing.
use Rattle.std.specs.Prelude.{◌*◌}
use Rattle.std.proofs.Common.{arith, sym, ◌∙◌, mul-le-mul_right}
use Rattle.logic.specs.laws.Decides.{decides-yes}
use Rattle.row.specs.laws.Rows.{row_within}
use Rattle.closed.specs.laws.Pairs.{link-word-lt, no-link}
use Rattle.closed.proofs.lent.Lent.pair_closed.Goals as goal

pub gather-there-requires : goal.gather-there-requires
gather-there-requires c = omega (arith, row_within c.args.a (64 * c.args.self.now.at.width) c.args.self.now.at.width (omega arith), row_within c.args.b (64 * c.args.self.now.at.width) c.args.self.now.at.width (omega arith), mul-le-mul_right (64 * c.args.self.now.at.width * c.args.self.now.at.width) c.args.self.now.fits.roles)

pub returns-then-there-eq0 : goal.returns-then-there-eq0
returns-then-there-eq0 c = decides-yes (no-link c.args.self.now.at c.args.self.now.words.now c.args.self.now.counts.roles c.args.a c.args.b c.args.self.now.fits.roles (sym c.gather-there.ensures ∙ c.if-there-eq0.true))

pub gather-back-requires : goal.gather-back-requires
gather-back-requires c = omega (arith, row_within c.args.a (64 * c.args.self.now.at.width) c.args.self.now.at.width (omega arith), row_within c.args.b (64 * c.args.self.now.at.width) c.args.self.now.at.width (omega arith), mul-le-mul_right (64 * c.args.self.now.at.width * c.args.self.now.at.width) c.args.self.now.fits.roles)

pub overflow_mul-back : goal.overflow_mul-back
overflow_mul-back c = omega (arith, link-word-lt c.args.self.now.at c.args.self.now.words.now c.args.self.now.counts.roles c.args.b c.args.a c.args.self.now.fits.roles, link-word-lt c.args.self.now.at c.args.self.now.words.now c.args.self.now.counts.roles c.args.a c.args.b c.args.self.now.fits.roles, c.gather-there.ensures, c.gather-back.ensures)

pub overflow_add-back : goal.overflow_add-back
overflow_add-back c = omega (arith, link-word-lt c.args.self.now.at c.args.self.now.words.now c.args.self.now.counts.roles c.args.b c.args.a c.args.self.now.fits.roles, link-word-lt c.args.self.now.at c.args.self.now.words.now c.args.self.now.counts.roles c.args.a c.args.b c.args.self.now.fits.roles, c.gather-there.ensures, c.gather-back.ensures)
