-- The rule that the site names.
use Rattle.std.proofs.Common.{◌∙◌, ◌<◌, length, arith, refl, sym}
use Rattle.abnfcheck.proofs.RuleIdLemmas.{id_found}
use Rattle.coverlines.proofs.RuleContextsLemmas.{found_inside}
use Rattle.coverlines.proofs.WordsLemmas.{known_index}
use Rattle.coverlines.proofs.needed.named_word.Goals as goal

pub returns : goal.returns
returns c =
    let lt = found_inside c.args.words.now.rules.now c.in-Some.name.now c.in-Some-2.id
    (sym c.in_ok-id.ensures.found ∙ c.in-Some-2.is) in
    let n = c.requires.count in
    let inside : c.in-Some-2.id < length c.args.words.now.known.now = omega (arith, lt, n) in
    record {
      name = c.in-Some.name.now;
      list = c.in-Some-known.known;
      element_is = c.in-Some.ensures;
      id_is =
          let at = id_found c.args.words.now.rules.now c.in-Some.name.now c.in_ok-id.field-0
          (length c.args.words.now.rules.now.rules) c.requires.names c.in_ok-id.ensures.found refl in
          rw c.in-Some-2.is at at;
      inside = inside;
      known_is = known_index c.args.words.now.known.now c.in-Some-2.id c.index-words-id.result inside
          c.index-words-id.is ∙ (c.index-words-id.is ∙ c.in-Some-known.is);
      is = rw c.deref.ensures.value at c.in_ok-word.ensures;
    }
