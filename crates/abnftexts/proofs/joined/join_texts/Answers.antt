use Rattle.std.proofs.Common.{map}
use Rattle.abnftexts.specs.JoinedGrammar.{AreTextsJoined}
use Rattle.abnftexts.specs.JoinedViews.{IsGatheredJoined, grammar_joined}
use Rattle.abnftexts.specs.RulesGathered.{named_text, rules_gathered}
use Rattle.abnftexts.proofs.JoinedGrammarLemmas.{ok-more}
use Rattle.abnftexts.proofs.joined.join_texts.Goals as goal

pub returns : goal.returns
returns c =
    let named = map named_text c.args.texts.now in
    let lists = c.args.lists in
    let takes = rw c.deref.ensures.value at c.in_ok-given.ensures in
    ok-more (λ j. IsGatheredJoined (rules_gathered c.in_ok-gathered.gathered) (grammar_joined j))
    (λ j. AreTextsJoined lists named (grammar_joined j)) c.join_gathered.result (λ j h. record {
      given = rules_gathered c.in_ok-given.given;
      gives = takes lists named c.in_ok-shown.ensures;
      gathered = rules_gathered c.in_ok-gathered.gathered;
      names = c.in_ok-gathered.ensures;
      uses = h.0;
      are_uses = h.1;
      is = h.2;
    }) c.join_gathered.ensures
