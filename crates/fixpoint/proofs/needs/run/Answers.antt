use Rattle.std.proofs.Common.{◌≡◌, length, arith, ◌∙◌, sym, subst}
use Rattle.std.proofs.lemmas.Option.{slice_get_read}
use Rattle.fixpoint.specs.UserLists.{AreListsWithin}
use Rattle.fixpoint.proofs.ContainsLemmas.{in_get}
use Rattle.fixpoint.proofs.IsDerivedLemmas as d
use Rattle.fixpoint.proofs.needs.run.Goals as goal

pub report-requires-clause-m : goal.report-requires-clause-m
report-requires-clause-m c =
    let e = c.len.ensures in
    let ok = c.loop-position.order.ok.0 in
    let size : c.len.result ≡ length c.loop-position.order.items = omega (arith, e, ok) in
    let at = slice_get_read _ _ _ _ size c.loop-position-test.true c.index.ensures in
    let low = d.queue_within _ _ _ c.loop-position.invariant.queue (in_get _ _ _ at) in
    let l = c.requires.count in
    let k = c.loop-position.invariant.count in
    omega (arith, low, l, k)

pub report-requires-clause-lists : goal.report-requires-clause-lists
report-requires-clause-lists c =
    subst (λ v. AreListsWithin c.args.users.now v) (sym c.loop-position.invariant.count) c.requires.lists

pub loop-position-smaller : goal.loop-position-smaller
loop-position-smaller c =
    let e = c.len.ensures in
    let ok = c.loop-position.order.ok.0 in
    let short = d.queue_short _ _ c.loop-position.invariant.queue in
    let more = c.loop-position-test.true in
    let reported = c.in_ok-report.ensures c.requires.lists.rows c.requires.lists.lists in
    let k = reported.count in
    omega (arith, e, ok, short, more, k)

pub loop-position-preserved : goal.loop-position-preserved
loop-position-preserved c =
    let first = c.in_ok-report.ensures c.requires.lists.rows c.requires.lists.lists in record {
      count = first.count ∙ c.loop-position.invariant.count;
      queue = first.queue;
      coming = λ needs rows a u g.
          let e = c.len.ensures in
          let ok = c.loop-position.order.ok.0 in
          let size : c.len.result ≡ length c.loop-position.order.items = omega (arith, e, ok) in
          let at = slice_get_read _ _ _ _ size c.loop-position-test.true c.index.ensures in
          d.coming_next needs _ _ _ _ _ _ _ u (c.loop-position.invariant.coming needs rows a u g) at
          (c.in_ok-report.ensures rows a);
    }

pub returns : goal.returns
returns c = λ needs rows a u g.
    let e = c.len.ensures in
    let ok = c.loop-position.order.ok.0 in
    let past = c.loop-position-test.false in
    d.coming_done needs _ _ _ (omega (arith, e, ok, past)) (c.loop-position.invariant.coming needs rows a u g)
