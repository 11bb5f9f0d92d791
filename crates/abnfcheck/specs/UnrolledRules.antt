-- Left recursion as a loop: the rule `a = y / a x` derives what the rule `a = (y) *(x)` derives.
use Rattle.std.specs.Prelude.{◌≡◌, ℕ, suc, ◌==◌, List, [], ◌∷◌, Option, Some, None, if◌then◌else◌}
use Rattle.std.specs.Prelude.{option_map}
use Rattle.abnfcheck.specs.AbnfGrammar.{Grammar}
use Rattle.abnfread.specs.AbnfViews.{rules_of}
use Rattle.abnfread.specs.Element.{Alt, Concat, Element, Elements, Name, Rep, Rule, id_of, more, none}

-- one of the first, and then any number of the second
abbrev pub loop : Elements → Elements → Element
loop firsts steps = Concat (more (Alt firsts) (more (Rep 0 None (Alt steps)) none))

-- the name that an element consists of
abbrev pub name_in : Element → Option (List ℕ)
name_in (Name name) = Some name
name_in e = None

-- the name with which an element begins, and what follows it
abbrev pub split_name : Element → Option (List ℕ × Elements)
split_name (Name name) = Some (name, none)
split_name (Concat (more e es)) = option_map (λ name. (name, es)) (name_in e)
split_name e = None

-- the alternatives of an alternation
abbrev pub alternatives_in : Element → Elements
alternatives_in (Alt es) = es
alternatives_in e = none

module _ (rules : List Rule) (id : ℕ) where
  abbrev pub tail_after : Option (List ℕ × Elements) → Option Elements
  tail_after None = None
  tail_after (Some split) = if id_of rules split.0 == id then Some split.1 else None

  -- what follows the name of the rule in an element that begins with it
  abbrev pub tail_of : Element → Option Elements
  tail_of e = tail_after (split_name e)

  abbrev first_left : Option Elements → Element → Elements → Elements
  first_left None e es = more e es
  first_left (Some tail) e es = es

  -- the alternatives that do not begin with the name of the rule
  abbrev pub firsts : Elements → Elements
  firsts none = none
  firsts (more e es) = first_left (tail_of e) e (firsts es)

  abbrev step_left : Option Elements → Elements → Elements
  step_left None es = es
  step_left (Some tail) es = more (Concat tail) es

  -- what follows the name in the other alternatives
  abbrev pub steps : Elements → Elements
  steps none = none
  steps (more e es) = step_left (tail_of e) (steps es)

  abbrev looped : Element → Elements → Elements → Element
  looped e ys none = e
  looped e ys (more x xs) = loop ys (more x xs)

  -- a body of which some alternatives begin with the name is a loop
  abbrev pub unrolled_body : Element → Element
  unrolled_body e = looped e (firsts (alternatives_in e)) (steps (alternatives_in e))

-- these rules, the first of which has that id, with unrolled bodies
abbrev pub unrolled_from : List Rule → ℕ → List Rule → List Rule
unrolled_from rules id [] = []
unrolled_from rules id (rule ∷ rest) =
    record { name = rule.name; body = unrolled_body rules id rule.body; span = rule.span }
    ∷ unrolled_from rules (suc id) rest

-- the grammar with unrolled bodies
pub record IsUnrolledGrammar (g unrolled : Grammar) : Type 0 where
  pub judged : unrolled.judged ≡ g.judged
  pub rules : rules_of unrolled.rules ≡ unrolled_from (rules_of g.rules) 0 (rules_of g.rules)
