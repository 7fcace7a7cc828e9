-- `sheet::taking::add` meets its contract. Assumes nothing.
use Rattle.sheet.specs.laws.Stands.{begun-keeps}
use Rattle.store.specs.laws.Laid.{laid-is, laid_of}
use Rattle.sheet.proofs.taking.add.Goals as goal

pub state-requires : goal.state-requires
state-requires c = let k = (begun-keeps c.requires.0.stands c.begin.ensures).store in (k, c.requires.1, laid_of (laid-is c.requires.2) k.long c.requires.2.wide)
