-- One more empty row.
use Rattle.std.proofs.Common.{◌++◌, ◌∷◌, [], ap, ◌∙◌}
use Rattle.std.specs.Prelude.{replicate}
use Rattle.std.proofs.lemmas.List.{replicate_more}
use Rattle.earley.proofs.row_set.empty_rows.Goals as goal

pub loop-position-preserved : goal.loop-position-preserved
loop-position-preserved c =
    c.in_ok-push.ensures.items ∙ ap (λ v. v ++ c.new.result ∷ []) c.loop-position.invariant
    ∙ ap (λ r. replicate c.loop-position._position [] ++ r ∷ []) c.new.ensures
    ∙ replicate_more c.loop-position._position []
