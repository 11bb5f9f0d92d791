-- The elements, rules and definitions that the code's stand for.
use Rattle.std.specs.Prelude.{◌≡◌, List, [], ◌∷◌, map}
use Rattle.ruletable.specs.Rules as table
use Rattle.abnfread.specs.declared.definition.Definition.{Definition as CodeDefinition}
use Rattle.abnfread.specs.declared.elem.Elem.{Elem}
use Rattle.abnfread.specs.declared.elem.Elem.TheOpen.{Elem-F}
use Rattle.abnfread.specs.declared.elem.Elem.TheFolds.{fold-Elem}
use Rattle.abnfread.specs.Element.{Element, Elements, Text, Values, Range, Concat, Alt, Rep, Opt, Name, Prose, none}
use Rattle.abnfread.specs.Element.{more, Rule, Definition}

abbrev pub elements : List Element → Elements
elements [] = none
elements (e ∷ es) = more e (elements es)

-- one node, with the element of each operand in its place
abbrev pub node_element : Elem-F Element → Element
node_element (Elem-F.Text folds text) = Text folds text.items
node_element (Elem-F.Values values) = Values values.items
node_element (Elem-F.Range low high) = Range low high
node_element (Elem-F.Concat members) = Concat (elements members.items)
node_element (Elem-F.Alt alternatives) = Alt (elements alternatives.items)
node_element (Elem-F.Rep least most operand) = Rep least most operand.value
node_element (Elem-F.Opt operand) = Opt operand.value
node_element (Elem-F.Name name) = Name name.items
node_element (Elem-F.Prose text) = Prose text.items

abbrev pub element_of : Elem → Element
element_of = fold-Elem Element node_element

abbrev pub elements_of : List Elem → Elements
elements_of es = elements (map element_of es)

-- the element is the concatenation of these items
abbrev pub IsSequence : List Elem → Elem → Type 0
IsSequence es e = element_of e ≡ Concat (elements_of es)

-- the element is the alternation of these alternatives
abbrev pub IsChoice : List Elem → Elem → Type 0
IsChoice es e = element_of e ≡ Alt (elements_of es)

-- a rule of a table, with the element of its body
abbrev pub rule_of : table.Rule Elem → Rule
rule_of rule = record { name = rule.name; body = element_of rule.body; span = rule.span }

abbrev pub rules_of : table.Rules Elem → List Rule
rules_of rules = map rule_of rules.rules

abbrev pub definition_from : CodeDefinition → Definition
definition_from d = record { adds = d.adds; name = d.name.now; span = d.span; body = element_of d.body }

abbrev pub definitions_from : List CodeDefinition → List Definition
definitions_from ds = map definition_from ds
