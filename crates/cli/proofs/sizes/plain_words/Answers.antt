-- Each word in turn.
use Rattle.std.proofs.Common.{◌∙◌, ap, string_bytes}
use Rattle.cli.proofs.SizesLemmas.{words_all, words_more}
use Rattle.cli.specs.LimitWords.{none}
use Rattle.cli.proofs.sizes.plain_words.Goals as goal

pub loop-word-init : goal.loop-word-init
loop-word-init c = rw c.new-plain.ensures.items none

pub loop-word-preserved : goal.loop-word-preserved
loop-word-preserved c =
    words_more string_bytes c.args.words.now c.loop-word.word-index c.word-item.result c.loop-word.plain.items _
    c.in_ok-new.new c.loop-word.role _ c.as_str-text.result.now c.loop-word-test.true
    (c.as_str-text.ensures.value ∙ ap string_bytes c.word-item.is) c.loop-word.invariant c.in_ok-new.ensures
    c.in_ok-push.ensures.items c.after-role.ensures

pub returns : goal.returns
returns c = (
  c.loop-word.role,
  words_all string_bytes c.args.words.now c.loop-word.plain.items c.loop-word.word-index c.loop-word.role
      c.loop-word-test.false c.loop-word.invariant,
)
