use Rattle.std.proofs.Common.{◌≡◌, ◌∙◌, ◌++◌, ◌∷◌, ◌+◌, [], ℕ, List, Option, None, Vec, Global, ap, append-nil, arith}
use Rattle.std.proofs.Common.{map, sym, take}
use Rattle.std.proofs.lemmas.Bool.Decides.{nat_tests}
use Rattle.std.specs.Prelude.{option_map}
use Rattle.std.specs.List.{cons_option}
use Rattle.std.proofs.lemmas.List.{take_all}
use Rattle.ruletable.specs.Rules.{find_in}
use Rattle.rfcvalues.specs.GroundedNeeds.{word_numbers}
use Rattle.rfcvalues.proofs.GroundedRulesLemmas.{bytes_of, numbers-more}
use Rattle.rfcvalues.proofs.grounded.word_numbers.Goals as goal
use Rattle.rfcvalues.proofs.grounded.word_numbers.Goals.{in-Some+in-Some-checked_add+in_ok-push, in_default}

pub loop-word-preserved : goal.loop-word-preserved
loop-word-preserved c =
    let lists = c.args.lists.now in
    let first = c.args.first in
    let so_far = word_numbers lists first (map bytes_of (take c.loop-word.word-index c.args.words.now)) in
    let more = numbers-more c.args.words.now c.loop-word.word-index c.word-item.result c.loop-word-test.true lists first
    c.word-item.is in
    let found : find_in lists c.word-item.result.items ≡ c.in_ok-id.field-0 =
    ap (find_in lists) (sym c.deref.ensures.value) ∙ sym c.in_ok-id.ensures.found in
    elim c.match-branch-2.branch [
      | in-Some+in-Some-checked_add+in_ok-push w ↦
          let sum : w.in-Some-checked_add.number ≡ first + w.in-Some.id = grind (arith, nat_tests) in
          ap (λ (v : Vec ℕ Global). v.items) w.row-is ∙ w.in_ok-push.ensures.items
          ∙ ap (λ (ns : List ℕ). ns ++ w.in-Some-checked_add.number ∷ []) c.loop-word.invariant
          ∙ ap (λ (n : ℕ). so_far ++ n ∷ []) sum
          ∙ sym (more ∙ ap (λ (o : Option ℕ). so_far ++ cons_option (option_map (λ id. first + id) o) [])
          (found ∙ w.in-Some.is))
      | in_default w ↦
          ap (λ (v : Vec ℕ Global). v.items) w.row-is ∙ c.loop-word.invariant ∙ sym (append-nil so_far)
          ∙ sym (more ∙ ap (λ (o : Option ℕ). so_far ++ cons_option (option_map (λ id. first + id) o) [])
          (found ∙ w.in_default.is))
    ]

pub returns : goal.returns
returns c =
    c.loop-word.invariant
    ∙ ap (λ (ws : List (Vec ℕ Global)). word_numbers c.args.lists.now c.args.first (map bytes_of ws))
    (take_all c.loop-word.word-index c.args.words.now c.loop-word-test.false)
