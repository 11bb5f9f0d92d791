use Rattle.std.proofs.Common.{subst, map, ap}
use Rattle.flatgrammar.specs.NodeSteps.{flat_of}
use Rattle.flatgrammar.specs.Stacks.{AreUncounted, MarksLast}
use Rattle.lazydfa.specs.Conts.{last_of}
use Rattle.lazydfa.specs.RunVerdicts.{IsOne}
use Rattle.lazydfa.specs.StateSets.{state_set_of}
use Rattle.lazydfa.proofs.MoveLemmas.{marks_last}
use Rattle.lazydfa.proofs.states.States.new.Goals as goal

pub returns : goal.returns
returns c =
    let view = c.in_ok-tables.ensures.view in
    let served = c.are_served.ensures c.if-not-are_served.false in
    record {
      is = view;
      none = ap (λ v. map (state_set_of c.empty_memo-memo.result.cache.conts.items.items) v)
          c.empty_memo-memo.ensures.states;
      one = subst (λ v. IsOne v) view (subst (λ v. IsOne (flat_of v)) c.deref.ensures served.1);
      uncounted = subst (λ v. AreUncounted v) view (subst (λ v. AreUncounted (flat_of v)) c.deref.ensures served.0);
      tail_positions = subst (λ v. MarksLast v (last_of c.in_ok-tables.tables.value)) view
          (marks_last c.in_ok-tables.tables.value c.in_ok-tables.ensures.exact.targets);
    }
