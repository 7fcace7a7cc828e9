-- Answers that fit a signed number.
use Rattle.std.specs.Prelude.{◌*◌}
use Rattle.store.specs.Layout.{size}
use Rattle.store.specs.own.Laid.{widest}
use Rattle.refusal.specs.Signed.{AtMost}
use Rattle.closure.specs.Refusal.{Answer}

-- an answer whose cells a store can have
abbrev pub Small : Answer → Type 0
Small = AtMost (64 * size widest)
