-- Which definitions and mentions of a text have a name. It serves private helpers alone.
use Rattle.std.specs.Prelude.{◌≡◌, ℕ, suc, ◌≤◌, ◌==◌, ◌&&◌, Bool, List, [], ◌∷◌, map, ⊤}
use Rattle.std.specs.Coded.{×_prop, Unit-prop, le_prop}
use Rattle.std.specs.List.{filter, list_any}
use Rattle.std.proofs.Common.{Global, Vec}
use Rattle.ruletable.specs.Rules.{Rules, same_name}
use Rattle.ruletable.specs.declared.table.NameCase.{NameCase}
use Rattle.diagnostics.specs.BodyMentions.{is_kind}
use Rattle.diagnostics.specs.NumberLists.{numbers_for, positions_from}
use Rattle.diagnostics.specs.declared.noteplaces.heads.Head.{Head}
use Rattle.diagnostics.specs.declared.noteplaces.mentions.Mention.{Mention}
use Rattle.diagnostics.specs.declared.noteplaces.mentions.MentionKind.TheVariants.{Use}

-- each number is greater than the one before it, and the first is at least that
abbrev pub Rises : ℕ → List ℕ → Type 0
Rises low [] = ⊤
Rises low (n ∷ ns) = (low ≤ n) × Rises (suc n) ns

pub Rises-prop : (low : ℕ) (ns : List ℕ) → IsProp (Rises low ns)
Rises-prop low [] = Unit-prop
Rises-prop low (n ∷ ns) = ×_prop le_prop (Rises-prop (suc n) ns)

-- where definitions start
abbrev pub starts_of : List Head → List ℕ
starts_of heads = map (λ h. h.start) heads

module _ (names : NameCase) where
  abbrev pub is_called : List ℕ → Head → Bool
  is_called name h = same_name names name h.name.items

  abbrev pub uses_name : List ℕ → Mention → Bool
  uses_name name m = is_kind Use m.kind && same_name names name m.text.items

  -- whether a mention stands in a definition of the name
  abbrev pub stands_under : List Head → List ℕ → Mention → Bool
  stands_under heads name m = list_any (λ h. h.start == m.within) (filter (is_called name) heads)

  -- The lists have, by name: the positions of the definitions of the name, of its uses, and of the mentions in its
  -- definitions.
  abbrev pub ListHeads : List Head → Rules (Vec ℕ Global) → Type 0
  ListHeads heads lists = (name : List ℕ) → numbers_for lists name ≡ positions_from 0 (is_called name) heads

  abbrev pub ListUses : List Mention → Rules (Vec ℕ Global) → Type 0
  ListUses mentions lists = (name : List ℕ) → numbers_for lists name ≡ positions_from 0 (uses_name name) mentions

  abbrev pub ListBodies : List Head → List Mention → Rules (Vec ℕ Global) → Type 0
  ListBodies heads mentions lists = (name : List ℕ) → numbers_for lists name
      ≡ positions_from 0 (stands_under heads name) mentions
