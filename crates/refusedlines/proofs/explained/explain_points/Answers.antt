use Rattle.std.proofs.Common.{◌∙◌, ap, arith, length, nat_lt, subst, sym, take}
use Rattle.std.proofs.lemmas.List.{length-map, length-take-le, take-map}
use Rattle.abnfread.specs.AbnfViews.{rules_of}
use Rattle.ruletable.specs.Utf8Text.{Spells, number, numbers}
use Rattle.ruletable.specs.declared.alphabet.Alphabet.TheVariants.{Utf8}
use Rattle.refusedlines.specs.RefusedText.{column_after, refused_at}
use Rattle.refusedlines.specs.Refusals.{octet_count}
use Rattle.refusedlines.proofs.CanFollowLemmas.{letters_front}
use Rattle.refusedlines.proofs.RefusalLemmas.{points_bound, reported_points}
use Rattle.ruletable.specs.Letters.{has}
use Rattle.refusedlines.proofs.explained.explain_points.Goals as goal

pub find_following-requires-clause-within : goal.find_following-requires-clause-within
find_following-requires-clause-within c =
    let e = c.in_ok-first.ensures in
    let bound = points_bound _ _ c.as_slice-points.result.now _ 0 c.as_slice-points.ensures.value e.longest e.spelled in
    let short = c.requires.within in
    omega (arith, bound.1, short)

pub octets_of-position-requires : goal.octets_of-position-requires
octets_of-position-requires c =
    let e = c.in_ok-first.ensures in
    let bound = points_bound _ _ c.as_slice-points.result.now _ c.in_ok-following.following.after
    c.as_slice-points.ensures.value e.longest e.spelled in
    let range = c.ranges.line in
    omega (arith, bound.0, range.0)

pub push_refusal-requires : goal.push_refusal-requires
push_refusal-requires c =
    let e = c.in_ok-first.ensures in
    let bound = points_bound _ _ c.as_slice-points.result.now _ c.in_ok-following.following.after
    c.as_slice-points.ensures.value e.longest e.spelled in
    let position = c.octets_of-position.ensures in
    omega (arith, bound.0, position)

pub returns-clause-reported : goal.returns-clause-reported
returns-clause-reported c =
    let e = c.in_ok-first.ensures in
    let explainer = c.args.explainer.now in
    let grammar = explainer.grammar.now in
    let rules = rules_of grammar.rules in
    let pruned = explainer.pruned.now in
    let left = rules_of pruned.rules in
    let f = c.in_ok-following.following in
    let found = c.in_ok-following.ensures in
    let name = rw (c.rules.ensures.rules, c.judged.ensures.id) at c.rule_name-name.ensures in
    let points = c.as_slice-points.result.now in
    let line = c.args.line.bytes.now in
    let given = rw c.requires.letters at c.requires.pruned in
    let prefixes = c.items_decide.ensures.prefixes (has Utf8) rules left grammar.judged pruned.flat given.left
    given.lowered in
    let bound = points_bound _ _ points _ f.after c.as_slice-points.ensures.value e.longest e.spelled in
    let furthest = found.furthest rules grammar.judged prefixes in
    let size = length-take-le f.after (numbers points) furthest.within in
    let count = length-map points number in
    let within = c.requires.within in
    let texts = rw c.requires.letters at (c.in_ok-parts.ensures (take f.after (numbers points)) f.after
    (omega (arith, size, count, within, bound.1, furthest.within))
    (rw (sym c.requires.letters) at (letters_front (has Utf8) f.after (numbers points) c.values_are_letters.ensures))
    (rw (sym c.deref.ensures.value) at found.awaited)) in
    reported_points c.args.line.unit rules grammar.judged line c.args.line.number f.runs.items f.ends
    c.rule_name-name.result.now c.refused_at-at.result c.octets_of-position.result c.column_after-column.result
    c.args.out.now.items c.push_refusal.new.out.items
    name left _ c.in_ok-push_refusal.ensures
    (numbers points) c.in_ok-first.first.size f.after e.longest
    (subst (λ v. Spells (numbers v) (take c.in_ok-first.first.size line)) (sym c.as_slice-points.ensures.value)
    e.spelled)
    furthest
    (found.following rules grammar.judged prefixes) given.left texts
    (c.refused_at-at.ensures
    ∙ ap (λ v. refused_at f.after v (nat_lt c.in_ok-first.first.size (length line))) (sym (length-map points number)))
    (c.octets_of-position.ensures ∙ ap (λ v. octet_count Utf8 v) (sym (take-map number f.after points)))
    (c.column_after-column.ensures ∙ ap (λ v. column_after v) (sym (take-map number f.after points)))
