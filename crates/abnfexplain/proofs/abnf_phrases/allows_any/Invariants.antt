use Rattle.std.proofs.Common.{◌≡◌, drop}
use Rattle.std.specs.List.{list_any}
use Rattle.abnfexplain.specs.AbnfPositions.{position_allows}
use Rattle.abnfexplain.proofs.abnf_phrases.allows_any.Given as goal

abbrev pub invariant-loop-form : goal.invariant-loop-form
invariant-loop-form l = list_any (position_allows l.position) (drop l.form-index l.forms)
    ≡ list_any (position_allows l.position)
    l.forms
