-- What the tokens of a grammar's text report of its tree.
use Rattle.std.specs.Prelude.{◌≡◌, ℕ, Bool, List, map}
use Rattle.std.specs.List.{filter, flat_map}
use Rattle.diagnostics.specs.BodyMentions.{MentionedAt, is_kind}
use Rattle.diagnostics.specs.DefinitionHeads.{DefinedAt}
use Rattle.diagnostics.specs.declared.noteplaces.mentions.MentionKind.TheVariants.{Use}

-- a definition of the tree: its name, where that begins, whether it adds to a rule, and the names in its body, in order
pub record TreeRule : Type 0 where
  pub name : List ℕ
  pub start : ℕ
  pub adds : Bool
  pub uses : List (List ℕ)

-- the name of a definition, where it begins, and whether the definition adds to a rule
abbrev pub Heading : Type 0
Heading = List ℕ × ℕ × Bool

-- the definitions
abbrev pub headings : List DefinedAt → List Heading
headings definitions = map (λ d. (d.name, d.start, d.adds)) definitions

-- the uses of names, each with the position of the definition in whose body it stands
abbrev pub placed_uses : List MentionedAt → List (ℕ × List ℕ)
placed_uses mentions = map (λ m. (m.within, m.text)) (filter (λ m. is_kind Use m.kind) mentions)

-- The tokens report the definitions of the tree, and in each the names that its body uses, all in order.
pub record ReportTree (definitions : List DefinedAt) (mentions : List MentionedAt) (rules : List TreeRule) : Type
    0 where
  pub definitions_are : headings definitions ≡ map (λ r. (r.name, r.start, r.adds)) rules
  pub uses_are : placed_uses mentions ≡ flat_map (λ r. map (λ name. (r.start, name)) r.uses) rules
