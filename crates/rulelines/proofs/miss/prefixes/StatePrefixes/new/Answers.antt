use Rattle.std.proofs.Common.{subst}
use Rattle.std.specs.Prelude.{IfSome}
use Rattle.abnfread.specs.AbnfViews.{rules_of}
use Rattle.rulelines.specs.MissSearch.{found_states, IsSearchBegun}
use Rattle.rulelines.proofs.ReportedPrefixesLemmas.{begun_for, prefixes_begun}
use Rattle.rulelines.proofs.miss.prefixes.StatePrefixes.new.Goals as goal

pub invariant_of-result : goal.invariant_of-result
invariant_of-result c = (
  c.in_ok-samples.ensures.ends,
  begun_for c.in_ok-flat.flat (record { alphabet = c.args.set.alphabet; terminator = c.args.set.terminator })
      c.in_ok-samples.samples.items (found_states c.in-Some.search)
      (subst (λ v. IfSome v (λ search. IsSearchBegun c.in_ok-flat.flat (found_states search))) c.in-Some.is
      c.in_ok-search.ensures) c.in_ok-samples.ensures.each c.in_ok-samples.ensures.order,
)

pub returns : goal.returns
returns c =
    let begun = subst (λ v. IfSome v (λ search. IsSearchBegun c.in_ok-flat.flat (found_states search))) c.in-Some.is
    c.in_ok-search.ensures in
    prefixes_begun c.args.set.alphabet c.args.set.terminator c.args.set.limit c.args.set.edges
    (rules_of c.args.grammar.now.rules) c.args.grammar.now.judged c.in_ok-flat.flat (found_states c.in-Some.search)
    (record { prefixes = c.in_ok-flat.ensures.prefixes; most = c.in_ok-flat.ensures.limit }) begun.at_first
