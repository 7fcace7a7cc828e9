-- `closed::parts::role_closed` meets its contract: a word read either way is the word or the turned word. Assumes nothing.
use Rattle.std.specs.Prelude.{true, false}
use Rattle.logic.specs.laws.Decides.{decides-iff, decides-no}
use Rattle.closed.specs.laws.RoleBits.{both-turns}
use Rattle.store.specs.own.RoleWord.{turned}
use Rattle.closed.proofs.parts.role_closed.Goals as goal

pub returns-then-word_includes : goal.returns-then-word_includes
returns-then-word_includes c = decides-iff (both-turns _ _ _ _ (c.word_includes.ensures.holds c.if-word_includes.true)) (λ f. f true) (rw c.turn_word.ensures at c.word_includes-then-word_includes.ensures)

pub returns-else-word_includes : goal.returns-else-word_includes
unfolding turned
returns-else-word_includes c = rw c.if-word_includes.false (decides-no (λ f. c.word_includes.ensures.fails c.if-word_includes.false (f false)))
