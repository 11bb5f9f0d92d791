use Rattle.std.proofs.Common.{◌≤◌, Some, None, drop, length, subst, sym, arith}
use Rattle.std.proofs.lemmas.List.{drop-append-le, length-drop}
use Rattle.matchfailure.specs.Farthest.{IsFarthest, NoneFails}
use Rattle.matchfailure.proofs.explain.laws.fails_so_in_input.Goals as goal

pub returns : goal.returns
returns c rules start nodes bodies ranks text after unit k o None ranked gives less none =
    let count = length-drop unit text in
    let within : unit ≤ length text = omega (arith, count, less) in
    let longer = c.same_on_longer.ensures.none rules start nodes bodies ranks (drop unit text) after k o ranked gives
    less none in
    subst (λ w. NoneFails rules nodes bodies w start) (sym (drop-append-le unit text after within)) longer
returns c rules start nodes bodies ranks text after unit k o (Some f) ranked gives less (is, far) =
    let count = length-drop unit text in
    let within : unit ≤ length text = omega (arith, count, less) in
    let longer = c.same_on_longer.ensures.far rules start nodes bodies ranks (drop unit text) after k f.position o
    f.expected ranked gives less far in (
      is,
      subst (λ w. IsFarthest rules nodes bodies w start f.position f.expected)
          (sym (drop-append-le unit text after within)) longer,
    )
