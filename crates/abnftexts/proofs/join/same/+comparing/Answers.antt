use Rattle.std.proofs.Common.{◌≡◌, ◌∙◌, ◌&&◌, Bool, true, false, List, [], ◌∷◌, ap, arith, length, refl, sym, ℕ}
use Rattle.abnfread.specs.AbnfViews.{element_of, elements_of}
use Rattle.abnfread.specs.Element as element
use Rattle.abnfread.specs.Element.{Element}
use Rattle.abnfread.specs.declared.elem.Elem.{Elem}
use Rattle.abnfread.proofs.ElementLemmas.{element-Name, element-Range, element-Text, element-Values}
use Rattle.abnftexts.specs.SameElements.{same_as, all_same}
use Rattle.abnftexts.proofs.join.same.+comparing.Goals as goal

and-false : (b : Bool) → (b && false) ≡ false
and-false true = refl
and-false false = refl

module _ (named : Bool) where
  -- an element without operands, whatever counts for prose
  leaf-same : (a b : Elem) (x : Element) (r : Bool) → element_of a ≡ x
      → ((n : Bool) → r ≡ same_as n x (element_of b)) → r ≡ same_as named (element_of a) (element_of b)
  leaf-same a b x r is h = h named ∙ ap (λ (e : Element). same_as named e (element_of b)) (sym is)

  unlike-lengths : (a b : List Elem) → (length a ≡ length b → ⊥)
      → all_same named (elements_of a) (elements_of b) ≡ false
  unlike-lengths [] [] h = absurd (h refl)
  unlike-lengths [] (y ∷ ys) h = refl
  unlike-lengths (x ∷ xs) [] h = refl
  unlike-lengths (x ∷ xs) (y ∷ ys) h =
      let rest = unlike-lengths xs ys (λ e. h (omega arith)) in
      rw rest (and-false (same_as named (element_of x) (element_of y)))

pub are_same-returns-then-a-b : goal.are_same-returns-then-a-b
are_same-returns-then-a-b t c = sym (unlike-lengths c.args.named c.args.a.now c.args.b.now c.if-a-b.true)

pub is_same_element-returns-in-Text : goal.is_same_element-returns-in-Text
is_same_element-returns-in-Text t c = leaf-same c.args.named c.args.a.now c.args.b.now
    (element.Text c.in-Text.folds c.deref.result.now) c.is_text.result
    (ap element_of c.in-Text.is ∙ element-Text c.in-Text.folds c.in-Text.text
    ∙ ap (λ (z : List ℕ). element.Text c.in-Text.folds z) (sym c.deref.ensures.value))
    c.is_text.ensures

pub is_same_element-returns-in-Values : goal.is_same_element-returns-in-Values
is_same_element-returns-in-Values t c = leaf-same c.args.named c.args.a.now c.args.b.now
    (element.Values c.deref-in-Values.result.now) c.has_values.result
    (ap element_of c.in-Values.is ∙ element-Values c.in-Values.values
    ∙ ap (λ (z : List ℕ). element.Values z) (sym c.deref-in-Values.ensures.value))
    c.has_values.ensures

pub is_same_element-returns-in-Range : goal.is_same_element-returns-in-Range
is_same_element-returns-in-Range t c = leaf-same c.args.named c.args.a.now c.args.b.now
    (element.Range c.in-Range.low c.in-Range.high) c.is_range.result
    (ap element_of c.in-Range.is ∙ element-Range c.in-Range.low c.in-Range.high)
    c.is_range.ensures

pub is_same_element-returns-in-Name : goal.is_same_element-returns-in-Name
is_same_element-returns-in-Name t c = leaf-same c.args.named c.args.a.now c.args.b.now
    (element.Name c.deref-in-Name.result.now) c.is_name.result
    (ap element_of c.in-Name.is ∙ element-Name c.in-Name.name
    ∙ ap (λ (z : List ℕ). element.Name z) (sym c.deref-in-Name.ensures.value))
    c.is_name.ensures
