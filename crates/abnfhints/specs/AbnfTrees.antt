-- What the tree of a grammar's text has of its definitions.
use Rattle.std.specs.Prelude.{List, map}
use Rattle.abnfcheck.specs.AbnfUses.{names_in}
use Rattle.abnfread.specs.Element.{Definition}
use Rattle.diagnostics.specs.ReportedTrees.{TreeRule}

-- the definitions, as the tokens report them
abbrev pub tree_definitions : List Definition → List TreeRule
tree_definitions definitions =
    map (λ d. record { name = d.name; start = d.span.start; adds = d.adds; uses = names_in d.body }) definitions
