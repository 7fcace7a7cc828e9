-- What is wrong with a line: the numbers of refusal 10 to 21.
use Rattle.std.specs.Prelude.{Option, Some, None}
use Rattle.std.specs.Prelude.{Bool, true, false, cond, not, ◌||◌, ◌&&◌, List, ◌∷◌, ◌++◌, ℕ, leb, ltb, length}
use Rattle.text.specs.Bytes.{bytes, every, same}
use Rattle.text.specs.Name.{line_byte}
use Rattle.text.specs.Split.{fields}
use Rattle.store.specs.Layout.{item_limit, large, small}
use Rattle.rule.specs.Form.{node_limit}
use Rattle.field.specs.declared.Form.{Form}
use Rattle.line.specs.declared.Marks.{Marks}
use Rattle.field.specs.declared.Section.{Section}
use Rattle.field.specs.declared.Section.TheVariants as section
use Rattle.field.specs.Due.{lineup_of, fits, none}
use Rattle.field.specs.Names.{Names, fault, lower_fault, field_faults, nodes_in}
use Rattle.field.specs.Words.{Field, form_of, body_of, section_of}

-- the limits of a sheet
abbrev pub sheet_limit : ℕ
sheet_limit = 32768

abbrev pub line_limit : ℕ
line_limit = 512

abbrev pub rule_limit : ℕ
rule_limit = 64

-- a statement or a rule was accepted
abbrev pub begun : Marks → Bool
begun m = m.stated || ltb 0 m.rules

-- the section has ended: a declaration after a statement or rule, a statement after a rule
abbrev pub ended : Marks → Option Section → Bool
ended m (Some section.Declarations) = begun m
ended m (Some section.Statements) = ltb 0 m.rules
ended m (Some section.Rules) = false
ended m None = false

-- the word is unknown
abbrev pub unknown : Option Section → Bool
unknown (Some section.Declarations) = false
unknown (Some section.Statements) = false
unknown (Some section.Rules) = false
unknown None = true

-- there is no room for one more rule
abbrev pub full : Marks → Option Section → Bool
full m (Some section.Declarations) = false
full m (Some section.Statements) = false
full m (Some section.Rules) = leb rule_limit m.rules
full m None = false

-- what is wrong with the fields of a line: the lowest number that applies, or 0
unfoldable pub fields_fault : Names → Marks → Form → List Field → ℕ
fields_fault n m f body =
    fault (not (fits (lineup_of f (length body)) body)) 14
    (lower_fault (field_faults n (lineup_of f (length body)) body)
    (fault (full m (section_of f)) 18
    (fault (ltb node_limit (nodes_in (lineup_of f (length body)) body)) 21 0)))

-- the same by its form
unfoldable pub form_fault : Names → Marks → Form → List Field → ℕ
form_fault n m f body = fault (unknown (section_of f)) 12 (fault (ended m (section_of f)) 13 (fields_fault n m f body))

-- what is wrong with a line after the first, after the names n and the marks m: the lowest number that applies, or 0; with an empty line, nothing
unfoldable pub line_fault : Names → Marks → List ℕ → ℕ
line_fault n m l =
    cond (none l) 0
    (fault (ltb line_limit (length l)) 10
    (fault (not (every line_byte l)) 10
    (form_fault n m (form_of (fields l)) (body_of (fields l)))))

-- the header of an edition
abbrev pub header : List ℕ → List ℕ
header edition = bytes "sheet" ++ 9 ∷ edition

-- line 1 is the header of edition 1
abbrev pub is_first : List ℕ → Bool
is_first l = same l (header (bytes "1"))

-- line 1 is the header of edition 2
abbrev pub is_second : List ℕ → Bool
is_second l = same l (header (bytes "2"))

-- line 1 is a header that a store with item rows of W words takes: edition 2 needs the larger store
abbrev pub headed : ℕ → List ℕ → Bool
headed W l = is_first l || (is_second l && leb large W)

-- what is wrong with line 1, with such a store
unfoldable pub header_fault : ℕ → List ℕ → ℕ
header_fault W l = fault (ltb line_limit (length l)) 10 (fault (not (every line_byte l)) 10 (fault (not (headed W l)) 11 0))

-- the most items of a sheet, by its line 1: those of its edition
unfoldable pub room_by : List ℕ → ℕ
room_by l = cond (is_second l) (item_limit large) (item_limit small)
