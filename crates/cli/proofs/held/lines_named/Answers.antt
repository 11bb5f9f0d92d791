-- Each byte is added with the name before it where a line begins.
use Rattle.std.proofs.Common.{refl}
use Rattle.std.proofs.lemmas.List.{take_more}
use Rattle.cli.proofs.FileRunsLemmas.{line_pushed, lines_none, starts_none, starts_pushed}
use Rattle.cli.proofs.held.lines_named.Goals as goal

pub loop-byte-init : goal.loop-byte-init
loop-byte-init c = record {
  text = rw (c.new-text.ensures.items, lines_none c.args.name.now) refl;
  starts = rw starts_none refl;
}

pub loop-byte-preserved : goal.loop-byte-preserved
loop-byte-preserved c =
    let front = take_more c.args.messages.now c.loop-byte.byte-index 0 c.loop-byte-test.true in
    record {
      text = line_pushed c.args.name.now c.args.messages.now c.loop-byte.byte-index _ c.loop-byte.starts
          c.loop-byte.text.items _ c.push.new.self.items front c.loop-byte.invariant.text c.loop-byte.invariant.starts
          c.in_ok-push_name.ensures c.in_ok-push.ensures.items;
      starts = starts_pushed c.args.messages.now c.loop-byte.byte-index _ front;
    }
