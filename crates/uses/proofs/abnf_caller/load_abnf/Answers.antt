use Rattle.std.specs.Prelude.{option_copied}
use Rattle.uses.proofs.LoadedAbnfLemmas.{is_loaded}
use Rattle.uses.proofs.abnf_caller.load_abnf.Goals as goal

pub returns-in-Ok-clause-loaded : goal.returns-in-Ok-clause-loaded
returns-in-Ok-clause-loaded c =
    let abnf = c.in_ok-abnf.abnf in
    is_loaded c.args.text.now (option_copied c.args.rule) abnf.rules abnf.core abnf.redefined.items abnf.extended.items
    c.in-Ok.checked.sound c.in_ok-abnf.ensures.found c.in_ok-abnf.ensures.core c.in-Ok.ensures.sound

pub returns-in-Err-clause-fault : goal.returns-in-Err-clause-fault
returns-in-Err-clause-fault c =
    let found = c.in_ok-abnf.ensures.found in
    let reads = found.1 in
    reads.size
