-- The lines after a note.
use Rattle.std.specs.Prelude.{ℕ, zero, suc, ◌-◌, not, List, [], ◌∷◌, ◌++◌, length, take, codes, decimal}
use Rattle.std.specs.List.{filter, flat_map}
use Rattle.diagnostics.specs.ShownBytes.{cut}
use Rattle.ruletable.specs.Rules.{same_name}
use Rattle.ruletable.specs.declared.note.NoteKind.{NoteKind}
use Rattle.ruletable.specs.declared.note.NoteKind.TheVariants.{Redefined, ExtendedEarly, Unused}
use Rattle.ruletable.specs.declared.table.NameCase.{NameCase}
use Rattle.diagnostics.specs.DefinitionHeads.{DefinedAt}

-- the definitions of a name
abbrev pub named : NameCase → List ℕ → List DefinedAt → List DefinedAt
named names name definitions = filter (λ d. same_name names name d.name) definitions

-- those that do not add to a rule
abbrev pub not_adding : List DefinedAt → List DefinedAt
not_adding definitions = filter (λ d. not d.adds) definitions

-- the line of a definition
abbrev pub name_line : List ℕ → DefinedAt → List ℕ
name_line reported d = codes "  line " ++ (decimal d.line ++ (codes ": '" ++ (cut d.name ++ (codes "' " ++ (reported
    ++ codes "\n")))))

-- how many more there are, if there are any
abbrev pub more_reported : ℕ → List ℕ
more_reported zero = []
more_reported (suc n) = codes "  and " ++ (decimal (suc n) ++ codes " more\n")

-- the definitions that do not stand: a line of each of the first eight, and how many more there are
abbrev pub agains_reported : List DefinedAt → List ℕ
agains_reported definitions = flat_map (name_line (codes "is defined again")) (take 8 definitions)
    ++ more_reported (length definitions - 8)

-- the first definition of a rule
abbrev pub first_line : List ℕ → List DefinedAt → List ℕ
first_line reported [] = []
first_line reported (d ∷ ds) = name_line reported d

-- the first definition of a rule, and after it those that do not stand: all that do not add to it
abbrev pub redefined_lines : List DefinedAt → List ℕ
redefined_lines [] = []
redefined_lines (d ∷ ds) = name_line (codes "is defined") d ++ agains_reported (not_adding ds)

-- what the definitions of the rule report after a note of the kind
abbrev pub lines_of : NoteKind → List DefinedAt → List ℕ
lines_of Redefined definitions = redefined_lines definitions
lines_of ExtendedEarly definitions = first_line (codes "begins with \"=/\"") definitions
lines_of Unused definitions = first_line (codes "is defined") definitions
lines_of _ definitions = []

-- where a rule is first defined, as after a note that nothing uses it
abbrev pub defined_line : NameCase → List DefinedAt → List ℕ → List ℕ
defined_line names definitions name = lines_of Unused (named names name definitions)
