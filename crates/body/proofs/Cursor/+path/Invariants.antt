-- `Cursor::path` meets its contract: the roles get fewer. Assumes nothing.
use Rattle.std.proofs.Common.{length}
use Rattle.body.proofs.Cursor.+path.Given as goal

abbrev pub decreases-path : goal.decreases-path
decreases-path l = length l.roles.now
