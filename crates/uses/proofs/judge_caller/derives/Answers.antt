-- The flat grammar derives the line exactly if the judged rule does, and the line's bytes are its letters.
use Rattle.std.proofs.Common.{Bool, Result, Ok, Err, IfOk, map-id, arith}
use Rattle.ruletable.specs.Letters.{has}
use Rattle.ruletable.specs.declared.alphabet.Alphabet.TheVariants.{Bytes}
use Rattle.uses.proofs.judge_caller.derives.Goals as goal

reported_as : {E : Type 0} (r : Result Bool E) (P Q : Bool → Type 0) → ((b : Bool) → P b → Q b) → IfOk r P → IfOk r Q
reported_as (Ok b) P Q f h = f b h
reported_as (Err e) P Q f h = tt

pub returns : goal.returns
returns c =
    let line = c.args.line.now in
    let letters = rw (map-id line) at c.values_are_letters.ensures in
    let rule = c.in_ok-flat.ensures.derives (has Bytes) line (omega arith) letters in
    reported_as c.judge.result _ _ (λ yes answer.
    let flat = rw (map-id line) at answer in
    (λ is. rule.0 (flat.0 is), λ derives. flat.1 (rule.1 derives)))
    c.judge.ensures.answer
