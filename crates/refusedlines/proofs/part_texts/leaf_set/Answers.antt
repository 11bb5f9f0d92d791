use Rattle.std.proofs.Common.{◌∙◌, ap, refl, slice_get, sym}
use Rattle.std.proofs.lemmas.Option.{slice_get_past, slice_get_read}
use Rattle.abnfread.proofs.ElementLemmas.{element-Text, element-Values}
use Rattle.refusedlines.proofs.part_texts.leaf_set.Goals as goal

pub returns-in_err-get-in-Text : goal.returns-in_err-get-in-Text
returns-in_err-get-in-Text c =
    let found = c.in_err-get-in-Text.ensures.lookup in
    let none = ap (λ xs. slice_get xs c.args.read) (sym c.deref.ensures.value)
    ∙ slice_get_past c.deref.result.now c.args.read found.3 in
    rw (c.from_residual.ensures, c.in-Text.is, element-Text, none) refl

pub returns-in_err-get-in-Values : goal.returns-in_err-get-in-Values
returns-in_err-get-in-Values c =
    let found = c.in_err-get-in-Values.ensures.lookup in
    let none = ap (λ xs. slice_get xs c.args.read) (sym c.deref-in-Values.ensures.value)
    ∙ slice_get_past c.deref-in-Values.result.now c.args.read found.3 in
    rw (c.from_residual-in_err-get-in-Values.ensures, c.in-Values.is, element-Values, none) refl

pub returns-in_ok-get-in-Text : goal.returns-in_ok-get-in-Text
returns-in_ok-get-in-Text c =
    let found = c.in_ok-get-in-Text.ensures.lookup in
    let there = ap (λ xs. slice_get xs c.args.read) (sym c.deref.ensures.value)
    ∙ slice_get_read c.deref.result.now _ c.args.read c.in_ok-get-in-Text.field-0.now refl found.3.0 found.1 in
    rw (c.in-Text.is, element-Text, there, c.letter_set.ensures) refl

pub returns-in_ok-get-in-Values : goal.returns-in_ok-get-in-Values
returns-in_ok-get-in-Values c =
    let found = c.in_ok-get-in-Values.ensures.lookup in
    let there = ap (λ xs. slice_get xs c.args.read) (sym c.deref-in-Values.ensures.value)
    ∙ slice_get_read c.deref-in-Values.result.now _ c.args.read c.in_ok-get-in-Values.field-0.now refl found.3.0
    found.1 in
    rw (c.in-Values.is, element-Values, there) refl
