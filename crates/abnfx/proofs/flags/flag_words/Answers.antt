-- Each word in turn.
use Rattle.std.proofs.Common.{◌∙◌, ap, refl, string_bytes}
use Rattle.abnfx.proofs.FlagWordsLemmas.{flags_all, flags_more}
use Rattle.abnfx.proofs.flags.flag_words.Goals as goal

pub loop-word-init : goal.loop-word-init
loop-word-init c = rw c.new-flags.ensures.items refl

pub loop-word-preserved : goal.loop-word-preserved
loop-word-preserved c =
    flags_more string_bytes c.args.words.now c.loop-word.word-index _ c.loop-word.flags.items _ c.in_ok-new.new
    c.loop-word.ended _ c.as_str-text.result.now c.loop-word-test.true
    (c.as_str-text.ensures.value ∙ ap string_bytes c.word-item.is) c.loop-word.invariant c.in_ok-new.ensures
    c.in_ok-push.ensures.items c.has_ended-ended.ensures

pub returns : goal.returns
returns c = flags_all string_bytes c.args.words.now c.loop-word.word-index c.loop-word.flags.items c.loop-word.ended
    c.loop-word-test.false c.loop-word.invariant
