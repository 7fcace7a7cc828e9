-- What a view of a closed store shows.
use Rattle.store.specs.Cell.{Cell}
use Rattle.store.specs.Layout.{Holds}
use Rattle.store.specs.declared.view.View.{View}

-- the cells of the store that is read
abbrev pub held : View → Cell → Type 0
held v = Holds v.at.width v.counts v.words.now
