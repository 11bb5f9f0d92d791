use Rattle.std.proofs.Common.{[], ◌∷◌, ap, arith, length, length-append, subst}
use Rattle.std.proofs.lemmas.Option.{slice_get-get_or}
use Rattle.std.specs.Prelude.{IfSome}
use Rattle.lazydfa.specs.StateSets.{IsNextState}
use Rattle.rulelines.proofs.StateTableLemmas.{more_trans, row_more}
use Rattle.rulelines.proofs.list.table.lead_row.Goals as goal

pub loop-start-preserved : goal.loop-start-preserved
loop-start-preserved c =
    let row = c.loop-start.row.items in
    let inv = c.loop-start.invariant in
    let next = subst (λ v. IfSome v (IsNextState c.next.new.self c.symbol_at.result c.args.state)) c.in-Some.is
    c.in_ok-next.ensures.is in
    record {
      more = more_trans c.args.states.now c.loop-start.states c.next.new.self inv.more c.in_ok-next.ensures.more;
      count = (let a = ap (λ v. length v) c.in_ok-push.ensures.items in let b = inv.count in
          let d = length-append row (c.in-Some.next ∷ []) in omega (arith, a, b, d));
      row = row_more c.loop-start.states c.next.new.self c.in_ok-next.ensures.more c.args.starts.now c.args.state
          c.loop-start.start-index row c.push.new.self.items _ c.in-Some.next inv.row inv.count
          (slice_get-get_or c.args.starts.now c.loop-start.start-index 0 c.loop-start-test.true)
          (subst (λ v. IsNextState c.next.new.self v c.args.state c.in-Some.next) c.symbol_at.ensures next)
          c.in_ok-push.ensures.items;
    }
