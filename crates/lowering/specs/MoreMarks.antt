-- Rules that derive a list of symbols that is not empty, and the sources by which they are found.
use Rattle.std.specs.Prelude.{◌↔◌, ℕ, ◌<◌, ◌==◌, Bool, true, List, [], ◌∷◌, ◌++◌, length, ltb, map, Option, Some}
use Rattle.std.specs.Prelude.{None, if◌then◌else◌}
use Rattle.abnfcheck.specs.Derivable.{AreLetters, RuleDerives}
use Rattle.abnfread.specs.Element.{Element, Elements, Text, Values, Range, Concat, Alt, Rep, Opt, Name, Prose, none}
use Rattle.abnfread.specs.Element.{more, Rule, id_of}
use Rattle.fixpoint.specs.Demands.{Demand, All, One}
use Rattle.fixpoint.specs.NumberMarks.{IsMarked}
use Rattle.lowering.specs.Pruned.{ArePruned}

-- a rule derives a list of symbols that is not empty
pub record DerivesMore (has : ℕ → Bool) (rules : List Rule) (id : ℕ) : Type 0 where
  pub first : ℕ
  pub rest : List ℕ
  pub letters : AreLetters has (first ∷ rest)
  pub derives : RuleDerives has rules id (first ∷ rest)

-- of rules without what derives nothing exactly those are marked that derive such a list
abbrev pub AreMoreMarks : List Rule → List Bool → Type 0
AreMoreMarks left marks = (has : ℕ → Bool) (rules : List Rule) → ArePruned has rules left → (id : ℕ)
    → id < length left → (IsMarked marks id ↔ DerivesMore has left id)

-- A repetition may have an iteration. Private helpers alone use this and what follows.
abbrev pub may_iterate : Option ℕ → Bool
may_iterate (Some most) = ltb 0 most
may_iterate None = true

-- of each terminal of a symbol or more the number of rules, and of each name the id of its rule; an operand that is
-- never iterated has none
abbrev mutual
  pub sources : List Rule → Element → List ℕ
  sources rules (Text folds t) = if length t == 0 then [] else length rules ∷ []
  sources rules (Values vs) = if length vs == 0 then [] else length rules ∷ []
  sources rules (Range low high) = length rules ∷ []
  sources rules (Concat es) = all_sources rules es
  sources rules (Alt es) = all_sources rules es
  sources rules (Rep a b e) = if may_iterate b then sources rules e else []
  sources rules (Opt e) = sources rules e
  sources rules (Name n) = id_of rules n ∷ []
  sources rules (Prose t) = []

  pub all_sources : List Rule → Elements → List ℕ
  all_sources rules none = []
  all_sources rules (more e es) = sources rules e ++ all_sources rules es

-- each rule needs one of its sources; what stands for the terminals needs nothing
abbrev pub source_demands : List Rule → List Demand
source_demands rules = map (λ rule. One (sources rules rule.body)) rules ++ All [] ∷ []
