-- The line is UTF-8, and its code points have this answer.
use Rattle.abnfread.specs.AbnfViews.{rules_of}
use Rattle.std.proofs.Common.{arith, subst, sym}
use Rattle.std.proofs.lemmas.Bool.Decides.{when_true}
use Rattle.std.proofs.lemmas.List.{length-map, map-id}
use Rattle.std.proofs.lemmas.Result.{IfErr-weaker, IfOk-weaker}
use Rattle.abnfrun.proofs.IsAnswerToLemmas.{line_costly, text_answer, text_letters}
use Rattle.abnfrun.proofs.SpellsLengthLemmas.{ascii_letters, ascii_spelled, points_at_most}
use Rattle.abnfrun.proofs.line_judge.judge_points.Goals as goal
use Rattle.abnfcheck.specs.Derivable.{AreLetters}
use Rattle.ruletable.specs.Letters.{has}
use Rattle.ruletable.specs.declared.alphabet.Alphabet.TheVariants.{Utf8}
use Rattle.ruletable.specs.Utf8Text.{number, numbers}

pub returns-then-is_text-clause-answer : goal.returns-then-is_text-clause-answer
returns-then-is_text-clause-answer c =
    let j = c.args.judges.now in
    IfOk-weaker c.judge_letters-then-is_text.result _ _ (text_answer j.viable (rules_of j.grammar.now.rules)
    j.grammar.now.judged c.args.line.now c.utf8_is_decided.ensures.one (numbers c.as_slice-points.result.now)
    (rw c.as_slice-points.ensures.value (c.in_ok-is_text.ensures.text c.if-is_text.true)))
    (rw c.requires.letters at c.judge_letters-then-is_text.ensures.answer)

pub judge_letters-requires-then-is_text-clause-within : goal.judge_letters-requires-then-is_text-clause-within
judge_letters-requires-then-is_text-clause-within c =
    let spelled = rw (← c.as_slice-points.ensures.value) at (c.in_ok-is_text.ensures.text c.if-is_text.true) in
    let most = points_at_most spelled in
    let size = length-map c.as_slice-points.result.now number in
    let short = c.requires.within in
    omega (arith, most, size, short)

pub judge_letters-requires-clause-letters : goal.judge_letters-requires-clause-letters
judge_letters-requires-clause-letters c =
    let ascii = when_true _ _ c.if-is_ascii.true c.is_ascii.ensures.cases in
    rw (← c.requires.letters) at
    (subst (λ v. AreLetters (has Utf8) v) (sym (map-id c.args.line.now))
    (ascii_letters c.args.line.now ascii))

pub returns-then-is_ascii-clause-answer : goal.returns-then-is_ascii-clause-answer
returns-then-is_ascii-clause-answer c =
    let j = c.args.judges.now in
    let ascii = when_true _ _ c.if-is_ascii.true c.is_ascii.ensures.cases in
    IfOk-weaker c.judge_letters.result _ _ (text_answer j.viable (rules_of j.grammar.now.rules) j.grammar.now.judged
    c.args.line.now c.utf8_is_decided.ensures.one c.args.line.now (ascii_spelled c.args.line.now ascii))
    (rw (c.requires.letters, map-id c.args.line.now) at c.judge_letters.ensures.answer)

pub returns-then-is_text-clause-costly : goal.returns-then-is_text-clause-costly
returns-then-is_text-clause-costly c =
    let j = c.args.judges.now in
    let points = numbers c.as_slice-points.result.now in
    IfErr-weaker c.judge_letters-then-is_text.result _ _ (line_costly j.viable (rules_of j.grammar.now.rules)
    j.grammar.now.judged c.args.line.now j.budget Utf8 points (text_letters c.args.line.now points
    (rw c.as_slice-points.ensures.value (c.in_ok-is_text.ensures.text c.if-is_text.true))))
    (rw c.requires.letters at c.judge_letters-then-is_text.ensures.costly)

pub returns-then-is_ascii-clause-costly : goal.returns-then-is_ascii-clause-costly
returns-then-is_ascii-clause-costly c =
    let j = c.args.judges.now in
    let ascii = when_true _ _ c.if-is_ascii.true c.is_ascii.ensures.cases in
    IfErr-weaker c.judge_letters.result _ _ (line_costly j.viable (rules_of j.grammar.now.rules) j.grammar.now.judged
    c.args.line.now j.budget Utf8 c.args.line.now (text_letters c.args.line.now c.args.line.now
    (ascii_spelled c.args.line.now ascii)))
    (rw (c.requires.letters, map-id c.args.line.now) at c.judge_letters.ensures.costly)
