-- All rules are settled.
use Rattle.std.proofs.Common.{◌∙◌, None, ap, replicate, sym}
use Rattle.std.proofs.lemmas.List.{length-map}
use Rattle.abnfread.specs.AbnfViews.{rule_of, rules_of}
use Rattle.coverlines.proofs.KnownWordsLemmas.{nothing_found, settled_shortest}
use Rattle.coverlines.proofs.rule_words.rule_words.Goals as goal

pub loop-improved-init : goal.loop-improved-init
loop-improved-init c = record {
  found = nothing_found c.args.bounds (rules_of c.args.rules.now) c.in_ok-known.known.items
      (c.in_ok-known.ensures ∙ ap (λ n. replicate n None)
      (c.len.ensures.len ∙ sym (length-map c.args.rules.now.rules rule_of)));
  settled = λ is. absurd (cc is);
}

pub returns : goal.returns
returns c = record {
  count = c.loop-improved.invariant.found.count;
  shortest = λ id body at. settled_shortest c.args.bounds (rules_of c.args.rules.now) c.loop-improved.known.items
      c.loop-improved.invariant.found (c.loop-improved.invariant.settled c.loop-improved-test.false) id body at;
}
