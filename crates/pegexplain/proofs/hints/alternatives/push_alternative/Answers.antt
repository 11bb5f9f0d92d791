-- One more alternative is indexed.
use Rattle.std.proofs.Common.{◌≡◌, ◌++◌, ◌∷◌, [], length, sym, ◌∙◌, ap, arith}
use Rattle.std.proofs.lemmas.List.{length-map, map-append}
use Rattle.pegexplain.specs.CodeHints.{alternative_found, alternatives_found, is_literal}
use Rattle.pegexplain.specs.HiddenAlternatives.{is_any}
use Rattle.pegexplain.proofs.HiddenBeforeLemmas.{first_pushed, positions_pushed, sized_pushed}
use Rattle.pegexplain.proofs.hints.alternatives.push_alternative.Goals as goal

pub returns-clause-indexed : goal.returns-clause-indexed
returns-clause-indexed c = λ are.
    let before = c.args.before.now in
    let old = alternatives_found before.all.items in
    let x = alternative_found c.args.alternative in
    let is : alternatives_found c.push.new.self.items ≡ old ++ x ∷ [] =
    ap alternatives_found c.in_ok-push.ensures.items
    ∙ map-append alternative_found before.all.items (c.args.alternative ∷ []) in
    let last : c.len-position.result ≡ length old =
    (let l = length-map before.all.items alternative_found in omega (arith, l, before.all.ok.0)) in
    record {
      sure = rw (is, c.or-before.ensures, c.then_some.ensures, are.sure)
          (sym (first_pushed (λ a. a.sure) old x c.len-position.result last));
      dot = rw (is, c.or-before-2.ensures, c.then_some-2.ensures, c.is_any.ensures, are.dot)
          (sym (first_pushed (λ a. is_any a.e) old x c.len-position.result last));
      exact = c.in_ok-push_literal.ensures.names ∙ are.exact;
      literals = λ bytes. rw (is, c.in_ok-push_literal.ensures.added are.exact bytes, are.literals bytes)
          (sym (positions_pushed (λ a. is_literal bytes a.literal) 0 c.len-position.result old x
          (omega (arith, last))));
      sizes = rw is (sized_pushed before.sizes.items c.push_literal.new.sizes.items old x
          c.in_ok-push_literal.ensures.sizes are.sizes);
    }
