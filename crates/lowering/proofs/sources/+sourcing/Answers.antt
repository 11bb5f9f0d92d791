-- The sources of each kind of element.
use Rattle.std.proofs.Common.{◌==◌, ◌∙◌, ap, sym}
use Rattle.std.proofs.lemmas.List.{length-map}
use Rattle.abnfread.specs.AbnfViews.{rule_of}
use Rattle.abnfread.proofs.ElementLemmas.{element-Text, element-Values, element-Range, element-Concat, element-Alt}
use Rattle.abnfread.proofs.ElementLemmas.{element-Opt, element-Name}
use Rattle.abnfcheck.proofs.RuleIdLemmas.{id_found}
use Rattle.lowering.proofs.sources.+sourcing.Goals as goal

pub add_sources-returns-in-Text : goal.add_sources-returns-in-Text
add_sources-returns-in-Text t c =
    rw (c.in-Text.is, element-Text)
    (rw (
      c.is_empty.ensures ∙ ap (λ n. n == 0) c.in-Text.text.ok.0,
      c.len.ensures.len,
      sym (length-map c.args.rules.now.rules rule_of),
    ) at c.push_unless.ensures)

pub add_sources-returns-in-Values : goal.add_sources-returns-in-Values
add_sources-returns-in-Values t c =
    rw (c.in-Values.is, element-Values)
    (rw (
      c.is_empty-in-Values.ensures ∙ ap (λ n. n == 0) c.in-Values.values.ok.0,
      c.len-in-Values.ensures.len,
      sym (length-map c.args.rules.now.rules rule_of),
    ) at c.push_unless-in-Values.ensures)

pub add_sources-returns-in-Range : goal.add_sources-returns-in-Range
add_sources-returns-in-Range t c =
    rw (c.in-Range.is, element-Range)
    (rw (c.len-in-Range.ensures.len, sym (length-map c.args.rules.now.rules rule_of)) at
    c.push_unless-in-Range.ensures)

pub add_sources-returns-in-Concat : goal.add_sources-returns-in-Concat
add_sources-returns-in-Concat t c =
    rw (c.in-Concat.is, element-Concat) (rw c.deref.ensures.value at c.add_all_sources.ensures)

pub add_sources-returns-in-Alt : goal.add_sources-returns-in-Alt
add_sources-returns-in-Alt t c =
    rw (c.in-Alt.is, element-Alt) (rw c.deref-in-Alt.ensures.value at c.add_all_sources-in-Alt.ensures)

pub add_sources-returns-in-Opt : goal.add_sources-returns-in-Opt
add_sources-returns-in-Opt t c =
    rw (c.in-Opt.is, element-Opt) (rw c.deref-in-Opt.ensures at c.add_sources-in-Opt.ensures)

pub add_sources-returns-in_ok-found-in-Name : goal.add_sources-returns-in_ok-found-in-Name
add_sources-returns-in_ok-found-in-Name t c =
    rw (c.in-Name.is, element-Name)
    (rw (
      c.unwrap_or.ensures ∙ id_found _ _ _ _ c.requires c.in_ok-found-in-Name.ensures.found c.len-in-Name.ensures.len,
      c.deref-in-Name.ensures.value,
    ) at c.push_unless-in-Name.ensures)
