use Rattle.std.proofs.Common.{refl, subst}
use Rattle.std.specs.Prelude.{IfSome}
use Rattle.lazydfa.specs.StateSets.{AreStatesOf, IsStartState}
use Rattle.rulelines.proofs.MissSearchLemmas.{states_begun}
use Rattle.rulelines.proofs.OldAloneLemmas.{begun_of, first_added}
use Rattle.rulelines.proofs.miss.prefixes.begin_search.Goals as goal

pub returns : goal.returns
returns c = record {
  grammar = begun_of c.args.flat.now c.in-Some.states c.start.new.self
      (subst (λ v. IfSome v (AreStatesOf c.args.flat.now)) c.in-Some.is c.in_ok-states.ensures)
      c.in_ok-start.ensures.more;
  at_first = refl;
  starts = λ has samples. states_begun c.start.new.self c.in-Some-2.start
      (subst (λ v. IfSome v (IsStartState c.start.new.self)) c.in-Some-2.is c.in_ok-start.ensures.is) has samples
      c.add_pair.new.pairs.items.items
      (first_added c.no_pairs-pairs.result.items.items c.add_pair.new.pairs.items.items _ c.no_pairs-pairs.ensures
      c.in_ok-add_pair.ensures);
}
