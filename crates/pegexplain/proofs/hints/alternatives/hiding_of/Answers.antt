-- The alternative at the first position that hides one says why.
use Rattle.std.proofs.Common.{◌∙◌, Some, ap, sym}
use Rattle.std.specs.Prelude.{option_map}
use Rattle.std.proofs.lemmas.Option.{slice_get-map}
use Rattle.diagnostics.proofs.NumberListsLemmas.{got-none, got-there}
use Rattle.pegread.specs.PegViews.{pattern_of}
use Rattle.pegread.specs.Pattern.{Pattern}
use Rattle.pegexplain.specs.CodeHints.{alternative_found, alternatives_found}
use Rattle.pegexplain.proofs.HiddenBeforeLemmas.{hidden_at_first, hidden_by_none, hidden_of, shown_with, shown_without}
use Rattle.pegexplain.proofs.hints.alternatives.hiding_of.Goals as goal

pub returns-in_default : goal.returns-in_default
returns-in_default c = rw (← c.in_ok-null.ensures, ← c.first_member.ensures, ← c.in_ok-whole.ensures)
    (sym (hidden_by_none (pattern_of c.args.e.now) c.in_ok-null.null
    (option_map (λ b. b.now) c.in_ok-whole.whole) (alternatives_found c.args.before.now.all.items)
    (sym c.in_ok-position.ensures ∙ c.in_default.is)))

pub returns-in_default-get : goal.returns-in_default-get
returns-in_default-get c =
    let items = c.args.before.now.all.items in
    let none = got-none c.deref.result.now c.in-Some.position c.in_default-get.ensures.lookup.0 in
    let at = rw c.deref.ensures.value at none in
    rw (← c.in_ok-null.ensures, ← c.first_member.ensures, ← c.in_ok-whole.ensures)
    (sym (hidden_at_first (pattern_of c.args.e.now) c.in_ok-null.null (option_map (λ b. b.now) c.in_ok-whole.whole)
    (alternatives_found items) c.in-Some.position (sym c.in_ok-position.ensures ∙ c.in-Some.is)
    ∙ ap (hidden_of (pattern_of c.args.e.now) c.in_ok-null.null (option_map (λ b. b.now) c.in_ok-whole.whole))
    (slice_get-map alternative_found items c.in-Some.position ∙ ap (option_map alternative_found) at)))

pub returns-in-Some-why_hidden : goal.returns-in-Some-why_hidden
returns-in-Some-why_hidden c =
    let items = c.args.before.now.all.items in
    let there = got-there c.deref.result.now c.in-Some.position c.in-Some-get.earlier.now
    c.in-Some-get.ensures.lookup.0 c.in-Some-get.ensures.lookup.1 in
    let at = rw c.deref.ensures.value at there in
    rw (← c.in_ok-null.ensures, ← c.first_member.ensures, ← c.in_ok-whole.ensures)
    (ap (λ (later : Pattern). Some (record {
      later = later;
      earlier = pattern_of c.in-Some-get.earlier.now.e.now;
      why = c.in-Some-why_hidden.why;
    })) c.shown_expr.ensures
    ∙ sym (hidden_at_first (pattern_of c.args.e.now) c.in_ok-null.null (option_map (λ b. b.now) c.in_ok-whole.whole)
    (alternatives_found items) c.in-Some.position (sym c.in_ok-position.ensures ∙ c.in-Some.is)
    ∙ ap (hidden_of (pattern_of c.args.e.now) c.in_ok-null.null (option_map (λ b. b.now) c.in_ok-whole.whole))
    (slice_get-map alternative_found items c.in-Some.position ∙ ap (option_map alternative_found) at)
    ∙ shown_with (pattern_of c.args.e.now) c.in_ok-null.null (option_map (λ b. b.now) c.in_ok-whole.whole)
    (alternative_found c.in-Some-get.earlier.now) c.in-Some-why_hidden.why (sym c.in-Some-why_hidden.ensures)))

pub returns-in-None : goal.returns-in-None
returns-in-None c =
    let items = c.args.before.now.all.items in
    let there = got-there c.deref.result.now c.in-Some.position c.in-Some-get.earlier.now
    c.in-Some-get.ensures.lookup.0 c.in-Some-get.ensures.lookup.1 in
    let at = rw c.deref.ensures.value at there in
    rw (← c.in_ok-null.ensures, ← c.first_member.ensures, ← c.in_ok-whole.ensures)
    (sym (hidden_at_first (pattern_of c.args.e.now) c.in_ok-null.null (option_map (λ b. b.now) c.in_ok-whole.whole)
    (alternatives_found items) c.in-Some.position (sym c.in_ok-position.ensures ∙ c.in-Some.is)
    ∙ ap (hidden_of (pattern_of c.args.e.now) c.in_ok-null.null (option_map (λ b. b.now) c.in_ok-whole.whole))
    (slice_get-map alternative_found items c.in-Some.position ∙ ap (option_map alternative_found) at)
    ∙ shown_without (pattern_of c.args.e.now) c.in_ok-null.null (option_map (λ b. b.now) c.in_ok-whole.whole)
    (alternative_found c.in-Some-get.earlier.now) (sym c.in-None.ensures)))
