-- `listing::read` meets its contract. Assumes nothing.
use Rattle.sheet.specs.laws.Width.{numbers-large}
use Rattle.listing.specs.laws.Reads.{reads-by}
use Rattle.listing.proofs.read.Goals as goal

pub open-p-requires : goal.open-p-requires
open-p-requires c = numbers-large c.args.words.now

pub returns : goal.returns
returns c = reads-by c.open-p.ensures c.write_all.ensures
