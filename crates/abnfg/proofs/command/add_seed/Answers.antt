-- The seed has its rule.
use Rattle.std.proofs.lemmas.Result.{IfOk-weaker}
use Rattle.abnfg.proofs.ListWordsLemmas.{seed_added}
use Rattle.abnfg.proofs.command.add_seed.Goals as goal

pub returns : goal.returns
returns c =
    let seed = c.in_ok-seed_arg.ensures in
    IfOk-weaker c.arg.result _ _ (λ r added. seed_added c.args.command r c.in_ok-seed_arg.field-0 seed.0 seed.1 added)
    c.arg.ensures
