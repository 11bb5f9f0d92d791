-- The seed comes after the other parameters.
use Rattle.std.proofs.Common.{◌∙◌, [], ◌∷◌, ap, refl}
use Rattle.std.proofs.lemmas.Result.{IfOk-weaker, err_from_is_err_and}
use Rattle.clap.specs.Words.{App}
use Rattle.cli.specs.Command.{with_rules}
use Rattle.abnfg.specs.ListWords.{seed_rule}
use Rattle.abnfg.proofs.ListWordsLemmas.{app_made}
use Rattle.abnfg.proofs.command.abnfg_command.Goals as goal

pub returns-in_err-command : goal.returns-in_err-command
returns-in_err-command c =
    let fault = err_from_is_err_and c.from_residual.result c.from_residual.ensures.1 in
    app_made c.program_command.result c.from_residual.result _ _ (rw c.as_slice.ensures at c.program_command.ensures)
    refl refl (rw fault.1 tt)

pub returns : goal.returns
returns c =
    let own = rw c.as_slice.ensures at c.in_ok-command.ensures in
    app_made c.program_command.result c.add_seed.result _ _ (rw c.as_slice.ensures at c.program_command.ensures)
    refl refl
    (IfOk-weaker c.add_seed.result _ _ (λ r is. is ∙ ap (λ (app : App). with_rules app (seed_rule ∷ [])) own)
    c.add_seed.ensures)
