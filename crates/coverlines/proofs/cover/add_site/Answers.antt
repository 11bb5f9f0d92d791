-- One line more.
use Rattle.std.proofs.Common.{refl}
use Rattle.coverlines.specs.Sites.{stood_of}
use Rattle.coverlines.proofs.CoverLinesLemmas as l
use Rattle.coverlines.proofs.cover.add_site.Goals as goal

pub loop-one-preserved : goal.loop-one-preserved
loop-one-preserved c = record {
  order = c.in_ok-add_line.ensures.order;
  added = l.next_made_line c.args.words.now.bounds.limit c.args.rule c.args.outer.now (stood_of c.args.site.now)
      c.deref-one-items.result.now c.loop-one.one-index c.one-item.result (record {
        goal = record { rule = c.args.rule; elem = c.args.site.now.elem; way = c.one-item.result.way };
        line = c.in_ok-line.field-0;
      }) c.args.found.now.items c.loop-one.found.items c.add_line.new.found.items c.loop-one-test.true c.one-item.is
      refl refl (rw (c.in_ok-context.ensures.before, c.in_ok-context.ensures.after, c.deref.ensures.value) at
      c.in_ok-line.ensures) c.loop-one.invariant.added c.in_ok-add_line.ensures.added;
}

pub returns-clause-added : goal.returns-clause-added
returns-clause-added c = λ rules known. l.site_lines c.args.words.now.bounds rules c.args.rule c.args.outer.now
    (stood_of c.args.site.now) c.deref-one-items.result.now c.loop-one.one-index c.args.found.now.items
    c.loop-one.found.items c.loop-one-test.false
    (rw c.deref-one-items.ensures.value (c.in_ok-made.ensures rules known)) c.loop-one.invariant.added
