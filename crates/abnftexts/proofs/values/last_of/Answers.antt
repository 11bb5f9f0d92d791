use Rattle.std.proofs.Common.{◌≡◌, ◌∙◌, ◌+◌, ◌<◌, ℕ, List, ap, drop, get_or, length, sym}
use Rattle.std.proofs.lemmas.List.{drop_all}
use Rattle.abnfblocks.specs.declared.found.RuleSearch.{RuleSearch}
use Rattle.abnftexts.specs.ValueRuns.{last_found}
use Rattle.abnftexts.proofs.RulesTakenLemmas.{one-after}
use Rattle.abnftexts.proofs.values.last_of.Goals as goal

last-next : (others : List RuleSearch) (i : ℕ) (d last : RuleSearch) → i < length others
    → last_found (get_or others i d) (drop (i + 1) others) ≡ last_found last (drop i others)
last-next others i d last lt =
    sym (ap (λ (its : List RuleSearch). last_found last its) (one-after others i d lt))

pub loop-it-preserved : goal.loop-it-preserved
loop-it-preserved c =
    last-next c.args.others.now c.loop-it.it-index _ c.loop-it.last c.loop-it-test.true ∙ c.loop-it.invariant

pub returns : goal.returns
returns c =
    sym (ap (λ (its : List RuleSearch). last_found c.loop-it.last its)
    (drop_all c.loop-it.it-index c.args.others.now c.loop-it-test.false)) ∙ c.loop-it.invariant
