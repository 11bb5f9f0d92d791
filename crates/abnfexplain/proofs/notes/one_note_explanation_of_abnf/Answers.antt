use Rattle.diagnostics.proofs.ExplainedNoteLemmas.{explained-one, form-one, prose-one}
use Rattle.abnfread.specs.AbnfKinds.{ends_list}
use Rattle.abnfread.specs.AbnfSlices.{White, First}
use Rattle.ruletable.specs.declared.lines.LineRule.TheVariants.{Lf}
use Rattle.ruletable.specs.declared.table.NameCase.TheVariants.{Fold}
use Rattle.abnfexplain.specs.AbnfNoteLines.{sign_of}
use Rattle.abnfexplain.proofs.notes.one_note_explanation_of_abnf.Goals as goal

pub returns-clause-lines : goal.returns-clause-lines
returns-clause-lines c = λ text start note a b.
    explained-one White First ends_list sign_of Lf Fold text (c.one_list.ensures text) start note a b

pub returns-clause-prose : goal.returns-clause-prose
returns-clause-prose c = λ text name a b.
    prose-one White First ends_list sign_of Lf Fold text (c.one_list.ensures text) name a b

pub returns-clause-form : goal.returns-clause-form
returns-clause-form c = λ text start name a b.
    form-one White First ends_list sign_of Lf Fold text (c.one_list.ensures text) start name a b
