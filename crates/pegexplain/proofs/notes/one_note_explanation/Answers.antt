use Rattle.diagnostics.proofs.ExplainedNoteLemmas.{explained-one}
use Rattle.pegread.specs.Kinds.{is_end}
use Rattle.pegread.specs.Slices.{White, First}
use Rattle.ruletable.specs.declared.lines.LineRule.TheVariants.{Any}
use Rattle.ruletable.specs.declared.table.NameCase.TheVariants.{Exact}
use Rattle.pegexplain.specs.PegNotes.{sign_of}
use Rattle.pegexplain.proofs.ExplainedLoopLemmas.{peg-explained-one}
use Rattle.pegexplain.proofs.notes.one_note_explanation.Goals as goal

pub returns : goal.returns
returns c = λ text start note a b. peg-explained-one c.one_list.ensures c.one_reading.ensures.definitions
    c.one_way_back.ensures text
    (λ t s n d e. explained-one White First is_end sign_of Any Exact t (c.one_list.ensures t) s n d e) start note a b
