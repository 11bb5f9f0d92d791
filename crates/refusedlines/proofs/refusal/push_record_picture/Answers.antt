use Rattle.std.proofs.Common.{◌++◌, ◌==◌, ◌∙◌, ◌≤◌, ℕ, List, ap, arith}
use Rattle.std.proofs.lemmas.List.{length-take-le, take_rest}
use Rattle.std.specs.List.{position_or_len}
use Rattle.std.proofs.lemmas.Result.{IfOk-weaker}
use Rattle.refusedlines.proofs.RefusalLemmas.{line_shown}
use Rattle.refusedlines.specs.RefusedText.{line_picture}
use Rattle.refusedlines.proofs.refusal.push_record_picture.Goals as goal

pub returns : goal.returns
returns c =
    let bytes = c.args.bytes.now in
    let position = c.args.position in
    let front = c.count_after_lf-before.ensures in
    let whole = length-take-le position bytes c.requires in
    let within : c.count_after_lf-before.result ≤ position = omega (arith, front.within, whole) in
    let rest = c.count_to_lf-after.ensures.count
    ∙ ap (λ (xs : List ℕ). position_or_len (λ b. b == 10) xs) (take_rest bytes position) in
    let line = line_shown bytes position c.count_after_lf-before.result c.count_to_lf-after.result front.before rest
    within in
    IfOk-weaker c.push_line_picture.result _ _
    (λ _ put. put ∙ (λ i. c.args.out.now.items ++ line_picture (line i) (front.before i))) c.push_line_picture.ensures
