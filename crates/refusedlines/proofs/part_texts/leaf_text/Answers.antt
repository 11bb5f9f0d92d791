use Rattle.std.proofs.Common.{◌++◌, ◌∙◌, append_assoc, codes, sym}
use Rattle.std.proofs.lemmas.Result.{IfOk-weaker}
use Rattle.abnfread.specs.AbnfViews.{element_of}
use Rattle.refusedlines.proofs.PartTextsLemmas.{long_text, read_text, short_text, whole_text}
use Rattle.refusedlines.proofs.part_texts.leaf_text.Goals as goal

pub returns-then-leaf_size-eq1 : goal.returns-then-leaf_size-eq1
returns-then-leaf_size-eq1 c = IfOk-weaker c.set_text.result _ _
    (λ text. short_text c.args.alphabet (element_of c.args.e.now) c.args.read text.items
    (sym c.leaf_size.ensures ∙ c.if-leaf_size-eq1.true))
    (rw c.leaf_set.ensures at c.set_text.ensures)

pub returns-then-read-eq0 : goal.returns-then-read-eq0
returns-then-read-eq0 c =
    let e = element_of c.args.e.now in
    long_text c.args.alphabet e c.args.read _ (λ one. c.if-leaf_size-eq1.false (c.leaf_size.ensures ∙ one))
    (whole_text c.args.alphabet e c.args.read _ c.if-read-eq0.true c.in_ok-leaf.ensures)

pub returns : goal.returns
returns c =
    let e = element_of c.args.e.now in
    let set = c.in_ok-text.text.items in
    long_text c.args.alphabet e c.args.read _ (λ one. c.if-leaf_size-eq1.false (c.leaf_size.ensures ∙ one))
    (read_text c.args.alphabet e c.args.read set _ c.if-read-eq0.false
    (rw c.leaf_set-2.ensures at c.in_ok-text.ensures)
    (c.in_ok-extend_from_slice-2.ensures.items
    ∙ (λ i. c.in_ok-extend_from_slice.ensures.items i ++ (c.deref.ensures.value ∙ c.in_ok-leaf.ensures) i)
    ∙ append_assoc set (codes " of ") _))
