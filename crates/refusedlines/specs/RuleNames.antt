-- The names of rules, as explanations report them.
use Rattle.std.specs.Prelude.{ℕ, List, [], map, slice_index_or}
use Rattle.abnfread.specs.Element.{Rule}
use Rattle.diagnostics.specs.ShownBytes.{cut}

-- the name of the rule of that id, as its definition spells it
abbrev pub name_at : List Rule → ℕ → List ℕ
name_at rules id = slice_index_or (map (λ rule. rule.name) rules) id []

-- .. cut
abbrev pub shown_name : List Rule → ℕ → List ℕ
shown_name rules id = cut (name_at rules id)
