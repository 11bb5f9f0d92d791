-- The value of a limit is written out, or the word stays.
use Rattle.std.proofs.lemmas.Result.{IfOk-weaker}
use Rattle.cli.proofs.SizesLemmas.{word_valued}
use Rattle.cli.specs.LimitWords.{other}
use Rattle.cli.proofs.sizes.plain_word.Goals as goal

pub returns-in_ok-push_plain-in-Some : goal.returns-in_ok-push_plain-in-Some
returns-in_ok-push_plain-in-Some c =
    let pushed = c.in_ok-push_plain-in-Some.ensures in
    word_valued c.args.role c.args.word.now c.in-Some.front.now c.in-Some.value.now pushed.0 _ _ c.in-Some.ensures
    pushed.1 c.in_ok-new-in-Some.ensures.ok pushed.2

pub returns-in-None : goal.returns-in-None
returns-in-None c =
    IfOk-weaker c.from_str-in-None.result _ _ (λ s same. rw same (other c.args.word.now c.in-None.ensures))
    c.from_str-in-None.ensures.ok
