use Rattle.std.proofs.Common.{◌<◌, [], sym, subst}
use Rattle.earley.specs.RowIndexes.{IsAfterOwn}
use Rattle.earley.specs.RowItems.{Gains}
use Rattle.earley.proofs.IsAfterInLemmas.{own_and_rest}
use Rattle.earley.proofs.row_step.complete_call.Goals as goal

pub complete_rest-requires-clause-after : goal.complete_rest-requires-clause-after
complete_rest-requires-clause-after c = subst (λ v. c.args.call.after < v)
    (sym (c.in_ok-complete_own.ensures []).count) c.requires

pub complete_rest-requires-clause-own : goal.complete_rest-requires-clause-own
complete_rest-requires-clause-own c dots = (subst (λ v. Gains dots (IsAfterOwn dots c.args.call v c.args.row.now)
    c.args.set.now c.complete_own.new.set) c.deref.ensures.value (c.in_ok-complete_own.ensures dots)).all

pub returns : goal.returns
returns c positions indexed dots = own_and_rest dots positions c.args.filled.now indexed c.args.call c.args.row.now
    c.args.set.now c.complete_own.new.set c.complete_rest.new.set
    (subst (λ v. Gains dots (IsAfterOwn dots c.args.call v c.args.row.now) c.args.set.now c.complete_own.new.set)
    c.deref.ensures.value (c.in_ok-complete_own.ensures dots)) (c.in_ok-complete_rest.ensures positions indexed dots)
