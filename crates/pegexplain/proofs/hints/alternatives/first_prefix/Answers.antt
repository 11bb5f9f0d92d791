use Rattle.std.proofs.Common.{◌≡◌, ◌≤◌, ◌<◌, ◌+◌, ◌++◌, ◌∷◌, sym, ◌∙◌, ap, arith, take, length, get_or, List, ℕ, []}
use Rattle.std.proofs.Common.{Option}
use Rattle.std.specs.Prelude.{◌||◌, slice_get}
use Rattle.diagnostics.specs.NumberLists.{numbers_for}
use Rattle.std.proofs.lemmas.List.{take_all, take_more}
use Rattle.pegexplain.specs.CodeHints.{alternatives_found, earlier_position, first_at, is_literal}
use Rattle.pegexplain.proofs.HiddenBeforeLemmas.{all_sized, first_of_either, firsts_agree, is_prefix_sized, no_size_yet}
use Rattle.pegexplain.proofs.HiddenBeforeLemmas.{none_passes_at_all, none_prefixes, size_more, size_past}
use Rattle.pegexplain.proofs.hints.alternatives.first_prefix.Goals as goal
use Rattle.pegexplain.proofs.hints.alternatives.first_prefix.Goals.{then-size-whole+in_ok-numbers, else-size-whole}

pub returns-in_default : goal.returns-in_default
returns-in_default c = rw c.in_default.is (sym (none_prefixes (alternatives_found c.args.before.now.all.items)))

pub loop-size-init : goal.loop-size-init
loop-size-init c = sym (none_passes_at_all (is_prefix_sized c.in-Some.whole.now []) (no_size_yet c.in-Some.whole.now)
    (alternatives_found c.args.before.now.all.items))

pub loop-size-preserved : goal.loop-size-preserved
loop-size-preserved c =
    let all = alternatives_found c.args.before.now.all.items in
    let sizes = c.args.before.now.sizes.items in
    let whole = c.in-Some.whole.now in
    let i = c.loop-size.size-index in
    let n = get_or sizes i 0 in
    let same : get_or c.deref-size-items.result.now i 0 ≡ n =
    ap (λ (z : List ℕ). get_or z i 0) c.deref-size-items.ensures.value in
    let lt : i < length sizes =
    (let l = ap length c.deref-size-items.ensures.value in omega (arith, l)) in
    let more : first_at (is_prefix_sized whole (take i sizes ++ n ∷ [])) all
    ≡ first_at (is_prefix_sized whole (take (i + 1) sizes)) all =
    ap (λ (z : List ℕ). first_at (is_prefix_sized whole z) all) (sym (take_more sizes i 0 lt)) in
    elim c.if-size-whole.branch [
      | then-size-whole+in_ok-numbers w ↦
          let le : n ≤ length whole = omega (arith, same, w.if-size-whole.true) in
          let found : w.copied.result ≡ first_at (λ a. is_literal (take n whole) a.literal) all =
          w.copied.ensures ∙ w.first.ensures.value ∙ ap (λ (z : List ℕ). slice_get z 0)
          (w.in_ok-numbers.ensures
          ∙ ap (λ (k : ℕ). numbers_for c.args.before.now.literals (take k whole)) same
          ∙ c.requires.literals (take n whole)) in
          w.found-is ∙ w.earlier_of-found.ensures
          ∙ ap (λ (z : Option ℕ). earlier_position z w.copied.result) c.loop-size.invariant
          ∙ ap (λ (z : Option ℕ). earlier_position (first_at (is_prefix_sized whole (take i sizes)) all) z) found
          ∙ first_of_either (is_prefix_sized whole (take i sizes)) (λ a. is_literal (take n whole) a.literal) all
          ∙ firsts_agree (λ a. is_prefix_sized whole (take i sizes) a || is_literal (take n whole) a.literal)
          (is_prefix_sized whole (take i sizes ++ n ∷ [])) (λ a. size_more whole (take i sizes) n a le) all ∙ more
      | else-size-whole w ↦
          let past : length whole < n = omega (arith, same, w.if-size-whole.false) in
          w.found-is ∙ c.loop-size.invariant
          ∙ firsts_agree (is_prefix_sized whole (take i sizes)) (is_prefix_sized whole (take i sizes ++ n ∷ []))
          (λ a. size_past whole (take i sizes) n a past) all ∙ more
    ]

pub returns : goal.returns
returns c =
    let all = alternatives_found c.args.before.now.all.items in
    let sizes = c.args.before.now.sizes.items in
    let past : length sizes ≤ c.loop-size.size-index =
    (let l = ap length c.deref-size-items.ensures.value in omega (arith, l)) in
    rw c.in-Some.is (c.loop-size.invariant
    ∙ ap (λ (z : List ℕ). first_at (is_prefix_sized c.in-Some.whole.now z) all)
    (take_all c.loop-size.size-index sizes past)
    ∙ all_sized c.in-Some.whole.now sizes all c.requires.sizes)
