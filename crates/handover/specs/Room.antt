-- A text in the room that a host lends.
use Rattle.std.specs.Prelude.{◌≡◌, List, ◌++◌, ℕ, ◌≤◌, ◌<◌, ℤ, pos, neg_ℤ, length, drop}

-- A text of which Text holds is put into the room, which becomes exit: the answer is the number of bytes written, and past them the room is untouched.
-- Or it is longer than the room: minus 8, and the room is as it was.
pub data InRoom (Text : List ℕ → Type 0) (room exit : List ℕ) : ℤ → Type 0 where
  too_long : {text : List ℕ} → Text text → length room < length text → exit ≡ room → InRoom Text room exit (neg_ℤ (pos 8))
  written : {text : List ℕ} → Text text → length text ≤ length room → exit ≡ text ++ drop (length text) room → InRoom Text room exit (pos (length text))
