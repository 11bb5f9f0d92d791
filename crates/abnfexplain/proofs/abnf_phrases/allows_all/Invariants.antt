use Rattle.std.proofs.Common.{◌≡◌, drop}
use Rattle.std.specs.List.{list_all}
use Rattle.abnfexplain.specs.AbnfPositions.{position_allows}
use Rattle.abnfexplain.proofs.abnf_phrases.allows_all.Given as goal

abbrev pub invariant-loop-form : goal.invariant-loop-form
invariant-loop-form l = list_all (position_allows l.position) (drop l.form-index l.forms)
    ≡ list_all (position_allows l.position)
    l.forms
