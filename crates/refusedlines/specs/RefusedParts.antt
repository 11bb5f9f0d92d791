-- The parts that can come next where a line is rejected: names and terminals of rules, as whole lists.
use Rattle.std.specs.Prelude.{◌≡◌, ℕ, zero, suc, ◌+◌, Bool, List, [], ◌∷◌, ◌++◌, length, map}
use Rattle.abnfread.specs.Element.{Element, Elements, Text, Values, Range, Concat, Alt, Rep, Opt, Name, Prose, none}
use Rattle.abnfread.specs.Element.{more, Rule, id_of}
use Rattle.lowering.specs.AwaitedParts.{IsAwaited}
use Rattle.lowering.specs.MoreMarks.{DerivesMore}
use Rattle.ruletable.specs.Letters.{has}
use Rattle.ruletable.specs.declared.alphabet.Alphabet.{Alphabet}

-- a name or a terminal of a rule's body, and how many of its symbols are read
pub record RulePart : Type 0 where
  pub rule : ℕ
  pub site : List ℕ  -- the numbers of the operands that lead to it
  pub element : Element
  pub read : ℕ

-- what is reported of a part: the rule in whose body it is, the name or terminal, and how many of its symbols are read
pub record ShownPart : Type 0 where
  pub rule : ℕ
  pub element : Element
  pub read : ℕ

-- .. which is the same at each site of the body
abbrev pub part_as_shown : RulePart → ShownPart
part_as_shown part = record { rule = part.rule; element = part.element; read = part.read }

-- n numbers, from k on
abbrev pub counts : ℕ → ℕ → List ℕ
counts k zero = []
counts k (suc n) = k ∷ counts (k + 1) n

-- a name or a terminal after each number of symbols below n
abbrev pub reads_of : ℕ → List ℕ → Element → ℕ → List RulePart
reads_of rule site element n =
    map (λ k. record { rule = rule; site = site; element = element; read = k }) (counts 0 n)

-- All parts of an element, in the order of the body. The site is that of the element; that of an operand is the site
-- with the operand's number after it.
abbrev mutual
  pub parts_in : ℕ → List ℕ → Element → List RulePart
  parts_in rule site (Text folds t) = reads_of rule site (Text folds t) (length t)
  parts_in rule site (Values vs) = reads_of rule site (Values vs) (length vs)
  parts_in rule site (Range low high) = reads_of rule site (Range low high) 1
  parts_in rule site (Concat es) = operands_in rule site 0 es
  parts_in rule site (Alt es) = operands_in rule site 0 es
  parts_in rule site (Rep a b e) = parts_in rule (site ++ 0 ∷ []) e
  parts_in rule site (Opt e) = parts_in rule (site ++ 0 ∷ []) e
  parts_in rule site (Name n) = reads_of rule site (Name n) 1
  parts_in rule site (Prose t) = []

  -- .. of operands, numbered from i on
  pub operands_in : ℕ → List ℕ → ℕ → Elements → List RulePart
  operands_in rule site i none = []
  operands_in rule site i (more e es) = parts_in rule (site ++ i ∷ []) e ++ operands_in rule site (i + 1) es

-- .. of rules, in the order of the rule table, numbered from id on
abbrev pub parts_from : ℕ → List Rule → List RulePart
parts_from id [] = []
parts_from id (r ∷ rules) = parts_in id [] r.body ++ parts_from (id + 1) rules

-- the rule of a name derives a list that is not empty
abbrev pub NamesMore : (ℕ → Bool) → List Rule → Element → Type 0
NamesMore test rules (Name n) = DerivesMore test rules (id_of rules n)
NamesMore test rules e = Unit {0}

-- A part is reported after n symbols of a line: it can come next, and if it is a name, its rule derives more than the
-- empty list. The rules are those without what derives nothing.
abbrev pub IsPartReported : Alphabet → List Rule → ℕ → List ℕ → ℕ → RulePart → Type 0
IsPartReported alphabet rules judged x n p =
    IsAwaited (has alphabet) rules judged x n p.rule p.site p.element p.read × NamesMore (has alphabet) rules p.element

-- of some parts those with Q, in the same order
pub data AreChosenParts (Q : RulePart → Type 0) : List RulePart → List RulePart → Type 0 where
  chosen_none : AreChosenParts Q [] []
  chosen : {p : RulePart} {all few : List RulePart} → Q p → AreChosenParts Q all few
      → AreChosenParts Q (p ∷ all) (p ∷ few)
  left_out : {p : RulePart} {all few : List RulePart} → (Q p → ⊥) → AreChosenParts Q all few
      → AreChosenParts Q (p ∷ all) few

-- what is reported of the parts with Q, in the same order
pub record AreReportedParts (Q : RulePart → Type 0) (all : List RulePart) (shown : List ShownPart) : Type 0 where
  pub parts : List RulePart
  pub chosen : AreChosenParts Q all parts
  pub shown_as : shown ≡ map part_as_shown parts
