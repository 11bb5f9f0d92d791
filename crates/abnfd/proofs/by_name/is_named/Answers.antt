-- The table finds the names that it has.
use Rattle.std.proofs.Common.{◌≡◌, ◌∙◌, rules}
use Rattle.std.specs.Prelude.{is_some}
use Rattle.abnfd.proofs.RulesByNameLemmas.{named_found}
use Rattle.ruletable.specs.Rules.{find_in}
use Rattle.abnfd.proofs.by_name.is_named.Goals as goal

pub returns : goal.returns
returns c =
    let found : c.is_some.result ≡ is_some (find_in c.args.names.now c.args.name.now) = search rules in
    found ∙ named_found c.args.names.now c.args.name.now c.requires
