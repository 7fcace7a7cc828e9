-- `store::role_word::turn_word` meets its contract. Assumes nothing.
use Rattle.store.specs.own.RoleWord.{turned}
use Rattle.store.proofs.role_word.turn_word.Goals as goal

pub returns-then-v : goal.returns-then-v
unfolding turned
returns-then-v c = simp c.if-v.true

pub returns-else-v : goal.returns-else-v
unfolding turned
returns-else-v c = simp c.if-v.false
