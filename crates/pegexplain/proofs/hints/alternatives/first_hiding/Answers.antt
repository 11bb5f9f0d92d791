use Rattle.std.proofs.Common.{◌∙◌}
use Rattle.std.specs.Prelude.{◌||◌, option_map}
use Rattle.pegexplain.specs.CodeHints.{alternatives_found}
use Rattle.pegexplain.specs.HiddenAlternatives.{is_any, is_prefix}
use Rattle.pegexplain.proofs.HiddenBeforeLemmas.{first_of_either, firsts_agree, hides_null_or, hides_or}
use Rattle.pegexplain.proofs.hints.alternatives.first_hiding.Goals as goal

pub returns-then-null : goal.returns-then-null
returns-then-null c =
    let all = alternatives_found c.args.before.now.all.items in
    let whole = option_map (λ b. b.now) c.args.whole in
    rw (c.if-null.true, c.earlier_of-any.ensures, c.requires.sure, c.in_ok-prefix.ensures)
    (first_of_either (λ a. a.sure) (λ a. is_prefix a.literal whole) all
    ∙ firsts_agree (λ a. a.sure || is_prefix a.literal whole) _ (hides_null_or whole) all)

pub returns : goal.returns
returns c =
    let all = alternatives_found c.args.before.now.all.items in
    let whole = option_map (λ b. b.now) c.args.whole in
    rw (
      c.if-null.false,
      c.earlier_of.ensures,
      c.earlier_of-any.ensures,
      c.requires.sure,
      c.requires.dot,
      c.in_ok-prefix.ensures,
      first_of_either (λ a. a.sure) (λ a. is_prefix a.literal whole) all,
    )
    (first_of_either (λ a. a.sure || is_prefix a.literal whole) (λ a. is_any a.e) all
    ∙ firsts_agree (λ a. (a.sure || is_prefix a.literal whole) || is_any a.e) _ (hides_or whole) all)
