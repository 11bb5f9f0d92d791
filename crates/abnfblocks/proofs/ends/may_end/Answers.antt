use Rattle.std.proofs.Common.{◌≡◌, ◌∙◌, ◌∷◌, [], ◌+◌, arith, length-append, map, ap, length, sym, take, drop}
use Rattle.std.proofs.lemmas.List.{length-map}
use Rattle.abnfblocks.specs.RuleCuts.{lines_text}
use Rattle.abnfblocks.specs.RuleEnds.{LeavesOpen}
use Rattle.abnfblocks.specs.TextLines.{numbered}
use Rattle.abnfblocks.proofs.RuleEndLemmas.{bars-more, left-more, long-bars, no_line, open-bars, stand-more}
use Rattle.abnfblocks.proofs.ends.may_end.Goals as goal

pub loop-at-init : goal.loop-at-init
loop-at-init c =
    let none = c.new-tests.ensures.items in
    record { count = ap length none; stand = no_line; bar = rw none (λ k e h. cc); left = omega arith }

pub loop-at-preserved : goal.loop-at-preserved
loop-at-preserved c =
    let h = c.loop-at.invariant in
    let items = c.in_ok-push.ensures.items in
    let text = c.deref.ensures.value ∙ c.in_ok-text.ensures in
    let leaves = rw text at c.after_text-stand.ensures in
    let stand = stand-more c.args.margin_size c.args.rule.now c.loop-at.at c.loop-at-test.true h.stand leaves in
    let more = left-more c.args.margin_size c.args.rule.now c.loop-at.at c.loop-at-test.true in
    record {
      count = omega (arith, ap length items, length-append c.loop-at.tests.items (c.is_closed.result ∷ []));
      stand = stand;
      bar = rw items (bars-more c.args.margin_size (map numbered c.args.rule.now) c.loop-at.tests.items
          c.is_closed.result c.loop-at.at h.count h.bar
          (λ e (ds, read). open-bars c.is_closed.result stand c.is_closed.ensures e read));
      left = (let size = ap length c.in_ok-text.ensures in
          let before = h.left in
          omega (arith, c.len-left.ensures, c.len.ensures, c.if-len-left.false));
    }

pub returns-then-len-left : goal.returns-then-len-left
returns-then-len-left c =
    let h = c.loop-at.invariant in
    let more = left-more c.args.margin_size c.args.rule.now c.loop-at.at c.loop-at-test.true in
    record {
      bar = h.bar;
      within = (let count = h.count in omega (arith, length-map c.args.rule.now numbered));
      long = λ k lt within read. long-bars c.args.margin_size (map numbered c.args.rule.now) c.loop-at.at k
          (let size = ap length c.in_ok-text.ensures in
          let before = h.left in
          omega (arith, c.len.ensures, c.if-len-left.true)) (let count = h.count in omega (arith, lt)) read;
    }
