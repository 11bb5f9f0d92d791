-- Each path in turn.
use Rattle.std.proofs.Common.{◌≡◌, map, rules, true}
use Rattle.std.specs.Result.{is_ok}
use Rattle.abnfx.proofs.TextsReadLemmas.{path_among, texts_more, unread_among}
use Rattle.abnfx.proofs.texts.read_texts.Goals as goal

pub returns-in-Err-clause-unread : goal.returns-in-Err-clause-unread
returns-in-Err-clause-unread g c =
    unread_among c.in-Err.why _ (map (λ p. p.now) c.args.paths.now)
    (path_among c.args.paths.now c.loop-path.path-index _ c.loop-path-test.true) c.in-Err.ensures.unread

pub loop-path-preserved : goal.loop-path-preserved
loop-path-preserved g c =
    let fine : is_ok c.push.result ≡ true = search rules in
    rw (c.push.ensures.items, fine)
    (texts_more c.args.paths.now c.loop-path.path-index _ c.loop-path.texts.items c.in-Ok.text c.loop-path-test.true
    c.in-Ok.ensures.text.0 c.in-Ok.ensures.text.1 c.loop-path.invariant)
