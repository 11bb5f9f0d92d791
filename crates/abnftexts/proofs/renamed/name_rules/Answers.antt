use Rattle.std.proofs.Common.{Bool, List, map, refl, subst, ℕ}
use Rattle.abnftexts.specs.GivenRules.{text_rule}
use Rattle.abnftexts.specs.NamedRules.{ArePositionsNamed}
use Rattle.abnftexts.specs.RulesGathered.{lines_placed}
use Rattle.abnftexts.proofs.NamedRulesLemmas.{names-known}
use Rattle.abnftexts.proofs.renamed.name_rules.Goals as goal

pub returns : goal.returns
returns c =
    let given = c.args.gathered in
    let listed = (let l = c.in_ok-names.ensures in rw c.deref.ensures.value at l) in
    let positions = (let p = c.in_ok-positions.ensures in rw c.deref-2.ensures.value at p) in
    let rules = (let r = c.in_ok-rules.ensures in rw c.deref-3.ensures.value at r) in
    record {
      positions = subst (λ (known : List ℕ → Bool). ArePositionsNamed known (map text_rule given.rules.items)
          (map lines_placed given.positions.items) (map lines_placed c.in_ok-positions.positions.items))
          (names-known given.rules.items c.in_ok-names.names listed) positions;
      rules = rules;
      reported = refl;
      list = refl;
    }
