use Rattle.std.proofs.Common.{subst}
use Rattle.std.specs.Prelude.{IfSome}
use Rattle.lazydfa.specs.StateSets.{AreStatesOf, IsStartState}
use Rattle.rulelines.proofs.OldAloneLemmas.{begun_of, first_added, search_begun}
use Rattle.rulelines.proofs.alone.begin_search.Goals as goal

pub returns : goal.returns
returns c = record {
  olds_are = begun_of c.args.old.now c.in-Some.olds c.start.new.self
      (subst (λ v. IfSome v (AreStatesOf c.args.old.now)) c.in-Some.is c.in_ok-olds.ensures)
      c.in_ok-first.ensures.more;
  news_are = begun_of c.args.new.now c.in-Some-2.news c.start-2.new.self
      (subst (λ v. IfSome v (AreStatesOf c.args.new.now)) c.in-Some-2.is c.in_ok-news.ensures)
      c.in_ok-second.ensures.more;
  starts = λ has samples. search_begun c.start.new.self c.start-2.new.self c.in-Some-3.first c.in-Some-4.second
      (subst (λ v. IfSome v (IsStartState c.start.new.self)) c.in-Some-3.is c.in_ok-first.ensures.is)
      (subst (λ v. IfSome v (IsStartState c.start-2.new.self)) c.in-Some-4.is c.in_ok-second.ensures.is) has samples
      c.add_pair.new.pairs.items.items
      (first_added c.no_pairs-pairs.result.items.items c.add_pair.new.pairs.items.items _ c.no_pairs-pairs.ensures
      c.in_ok-add_pair.ensures);
}
