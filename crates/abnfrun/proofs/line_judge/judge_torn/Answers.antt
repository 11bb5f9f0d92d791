-- The line's longest prefix that is UTF-8 is decoded, and its code points have this answer.
use Rattle.std.proofs.Common.{◌≡◌, arith, length, length-take-le}
use Rattle.std.proofs.lemmas.List.{length-map}
use Rattle.std.proofs.lemmas.Result.{err_from_is_err_and}
use Rattle.abnfread.specs.AbnfViews.{rules_of}
use Rattle.abnfrun.proofs.IsAnswerToLemmas.{decoded_as, line_costly, torn_answer}
use Rattle.abnfrun.proofs.SpellsLengthLemmas.{points_at_most}
use Rattle.abnfrun.proofs.line_judge.judge_torn.Goals as goal
use Rattle.ruletable.specs.Utf8Text.{number, numbers}
use Rattle.ruletable.specs.declared.alphabet.Alphabet.TheVariants.{Utf8}

pub returns-clause-answer : goal.returns-clause-answer
returns-clause-answer c =
    let j = c.args.judges.now in
    let points = numbers c.as_slice-points.result.now in
    let longest = c.utf8_len-len.ensures in
    let spelled = rw (← c.as_slice-points.ensures.value) at
    (decoded_as _ _ _ c.in_ok-_is_text._is_text longest.text c.in_ok-_is_text.ensures.text
    c.in_ok-_is_text.ensures.none) in
    let count : c.len.result ≡ length points = omega (
      arith,
      length-map c.as_slice-points.result.now number,
      c.len.ensures,
      c.as_slice-points.ensures.len,
    ) in
    rw (c.torn_by.ensures, count)
    (torn_answer j.viable (rules_of j.grammar.now.rules) j.grammar.now.judged c.args.line.now c.requires.torn
    c.requires.viable c.utf8_len-len.result points longest spelled
    c.in_ok-said.said (rw c.requires.letters at c.in_ok-said.ensures.answer))

pub judge_letters-requires-clause-within : goal.judge_letters-requires-clause-within
judge_letters-requires-clause-within c =
    let longest = c.utf8_len-len.ensures in
    let spelled = rw (← c.as_slice-points.ensures.value) at
    (decoded_as _ _ _ c.in_ok-_is_text._is_text longest.text c.in_ok-_is_text.ensures.text
    c.in_ok-_is_text.ensures.none) in
    let most = points_at_most spelled in
    let front = length-take-le c.utf8_len-len.result c.args.line.now longest.within in
    let size = length-map c.as_slice-points.result.now number in
    let short = c.requires.within in
    omega (arith, most, front, size, longest.within, short)

pub returns-in_err-said-clause-costly : goal.returns-in_err-said-clause-costly
returns-in_err-said-clause-costly c =
    let j = c.args.judges.now in
    let points = numbers c.as_slice-points.result.now in
    let longest = c.utf8_len-len.ensures in
    let spelled = rw (← c.as_slice-points.ensures.value) at
    (decoded_as _ _ _ c.in_ok-_is_text._is_text longest.text c.in_ok-_is_text.ensures.text
    c.in_ok-_is_text.ensures.none) in
    let none = err_from_is_err_and c.from_residual-in_err-said.result c.from_residual-in_err-said.ensures.1 in
    rw (none.1, none.2) (line_costly j.viable (rules_of j.grammar.now.rules) j.grammar.now.judged c.args.line.now
    j.budget Utf8 points (c.utf8_len-len.result, longest, spelled) _
    (rw c.requires.letters at c.in_err-said.ensures.costly))
