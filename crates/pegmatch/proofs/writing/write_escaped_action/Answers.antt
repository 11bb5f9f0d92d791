use Rattle.std.proofs.Common.{◌≡◌, false, rules}
use Rattle.pegmatch.proofs.FilledEscapedLemmas.{line_fault}
use Rattle.pegmatch.proofs.writing.write_escaped_action.Goals as goal

pub returns-in-Err-clause-bytes : goal.returns-in-Err-clause-bytes
returns-in-Err-clause-bytes g c =
    let cooked : c.args.raw ≡ false = search rules in
    line_fault _ _ c.args.raw c.args.text.now c.trimmed_text.result.now
    c.args.capture.now cooked c.trimmed_text.ensures c.in-Err.ensures.bytes
