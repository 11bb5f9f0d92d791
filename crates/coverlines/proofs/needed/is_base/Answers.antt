-- The line is the list of the rule in the context.
use Rattle.std.proofs.Common.{◌∙◌, sym}
use Rattle.std.proofs.lemmas.Bool.Decides.{Decides-eqb}
use Rattle.std.proofs.lemmas.Bool.{ltb-true}
use Rattle.std.proofs.lemmas.Slice.Eq.{slice_eq-Decides}
use Rattle.coverlines.proofs.RuleContextsLemmas.{context_index}
use Rattle.coverlines.proofs.WordsLemmas.{known_index}
use Rattle.coverlines.proofs.needed.is_base.Goals as goal

pub returns : goal.returns
returns c = λ yes. record {
  list = c.in-Some-Some.word;
  context = c.in-Some-Some-get.context;
  known_is = known_index c.args.known.now c.args.line.now.goal.rule c.in-Some-Some.field-0.now
      (ltb-true _ _ (sym c.in-Some-Some.ensures.lookup.0)) c.in-Some-Some.ensures.lookup.1 ∙ c.in-Some-Some.field-0-is;
  context_is = context_index c.args.contexts.now c.args.line.now.goal.rule c.in-Some-Some-get.field-0.now
      (ltb-true _ _ (sym c.in-Some-Some-get.ensures.lookup.0)) c.in-Some-Some-get.ensures.lookup.1
      ∙ c.in-Some-Some-get.field-0-is;
  is = sym c.as_slice-2.ensures.value ∙ (sym ((slice_eq-Decides Decides-eqb c.as_slice.result.now
      c.as_slice-2.result.now c.eq.result c.eq.ensures).0 yes) ∙ (c.as_slice.ensures.value
      ∙ (rw c.deref.ensures.value at c.in_ok-base.ensures)));
}
