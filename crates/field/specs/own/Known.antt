-- What is known of a sheet's names, and a line that was looked at, as the definitions have them.
use Rattle.std.specs.Prelude.{List}
use Rattle.text.specs.Split.{fields}
use Rattle.field.specs.Names.{Names}
use Rattle.field.specs.Words.{Field}
use Rattle.field.specs.own.Table.{names_of, table_of}
use Rattle.field.specs.declared.known.Known.{Known}
use Rattle.field.specs.declared.known.Fields.{Fields}

-- the names that are known
abbrev pub names_in : Known → Names
names_in k = names_of k.sheet.now (table_of k.numbers.now k.counts)

-- the fields of the line
abbrev pub fields_in : Fields → List Field
fields_in f = fields f.line.now
