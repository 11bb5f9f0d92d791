-- The element of an `Elem`, one equation for each variant.
-- Serves: core_rules, read_abnf
use Rattle.std.proofs.Common.{◌≡◌, ℕ, Bool, Option, Vec, Box, Global, sym, ap, ◌∙◌}
use Rattle.abnfread.specs.Element as p
use Rattle.abnfread.specs.AbnfViews.{element_of, elements_of, node_element}
use Rattle.abnfread.specs.declared.elem.Elem.{Elem}
use Rattle.abnfread.specs.declared.elem.Elem.TheOpen.{Elem-F}
use Rattle.abnfread.specs.declared.elem.Elem.TheFolds.{fold-roll-Elem}
use Rattle.abnfread.specs.declared.elem.Elem.TheVariants.{Text, Values, Range, Concat, Alt, Rep, Opt, Name, Prose}
use Rattle.abnfread.specs.declared.elem.Elem.TheVariants.{rolls-Text, rolls-Values, rolls-Range, rolls-Concat}
use Rattle.abnfread.specs.declared.elem.Elem.TheVariants.{rolls-Alt, rolls-Rep, rolls-Opt, rolls-Name, rolls-Prose}

pub element-Text : (folds : Bool) (text : Vec ℕ Global) → element_of (Text folds text) ≡ p.Text folds text.items
element-Text folds text = ap element_of (sym (rolls-Text folds text))
    ∙ fold-roll-Elem p.Element node_element (Elem-F.Text folds text)

pub element-Values : (values : Vec ℕ Global) → element_of (Values values) ≡ p.Values values.items
element-Values values = ap element_of (sym (rolls-Values values))
    ∙ fold-roll-Elem p.Element node_element (Elem-F.Values values)

pub element-Range : (low high : ℕ) → element_of (Range low high) ≡ p.Range low high
element-Range low high = ap element_of (sym (rolls-Range low high))
    ∙ fold-roll-Elem p.Element node_element (Elem-F.Range low high)

pub element-Concat : (members : Vec Elem Global) → element_of (Concat members) ≡ p.Concat (elements_of members.items)
element-Concat members = ap element_of (sym (rolls-Concat members))
    ∙ fold-roll-Elem p.Element node_element (Elem-F.Concat members)

pub element-Alt : (alternatives : Vec Elem Global) → element_of (Alt alternatives)
    ≡ p.Alt (elements_of alternatives.items)
element-Alt alternatives = ap element_of (sym (rolls-Alt alternatives))
    ∙ fold-roll-Elem p.Element node_element (Elem-F.Alt alternatives)

pub element-Rep : (least : ℕ) (most : Option ℕ) (operand : Box Elem Global) → element_of (Rep least most operand)
    ≡ p.Rep least most (element_of operand.value)
element-Rep least most operand = ap element_of (sym (rolls-Rep least most operand))
    ∙ fold-roll-Elem p.Element node_element (Elem-F.Rep least most operand)

pub element-Opt : (operand : Box Elem Global) → element_of (Opt operand) ≡ p.Opt (element_of operand.value)
element-Opt operand = ap element_of (sym (rolls-Opt operand))
    ∙ fold-roll-Elem p.Element node_element (Elem-F.Opt operand)

pub element-Name : (name : Vec ℕ Global) → element_of (Name name) ≡ p.Name name.items
element-Name name = ap element_of (sym (rolls-Name name)) ∙ fold-roll-Elem p.Element node_element (Elem-F.Name name)

pub element-Prose : (text : Vec ℕ Global) → element_of (Prose text) ≡ p.Prose text.items
element-Prose text = ap element_of (sym (rolls-Prose text)) ∙ fold-roll-Elem p.Element node_element (Elem-F.Prose text)
