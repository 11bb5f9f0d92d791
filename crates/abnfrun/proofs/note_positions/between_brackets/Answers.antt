use Rattle.abnfrun.proofs.AbnfExplainedNotesLemmas.{cut_brackets, cut_none, cut_one}
use Rattle.abnfrun.proofs.note_positions.between_brackets.Goals as goal

pub returns-in_default : goal.returns-in_default
returns-in_default c = cut_none c.args.prose.now c.in_default.ensures.cases

pub returns-in-Some-split_last : goal.returns-in-Some-split_last
returns-in-Some-split_last c = cut_brackets c.args.prose.now c.in-Some.rest.now c.in-Some-split_last.name.now
    c.in-Some.field-0-0.now c.in-Some-split_last.field-0-0.now c.in-Some.ensures.cases.0
    c.in-Some-split_last.ensures.cases.0 c.in-Some-split_last.ensures.cases.1

pub returns-in-None : goal.returns-in-None
returns-in-None c = cut_one c.args.prose.now c.in-Some.rest.now c.in-Some.field-0-0.now c.in-Some.ensures.cases.0
    c.in-None.ensures.cases
