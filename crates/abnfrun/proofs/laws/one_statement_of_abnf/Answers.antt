use Rattle.abnfrun.proofs.AbnfExplainedNotesLemmas.{explanation_is_one}
use Rattle.abnfrun.proofs.AbnfTextHintsLemmas.{text_hints_are_one}
use Rattle.abnfrun.proofs.AbnfStatesLemmas.{one_statement, long_is_reported}
use Rattle.abnfrun.proofs.laws.one_statement_of_abnf.Goals as goal

pub returns-clause-definitions : goal.returns-clause-definitions
returns-clause-definitions c = c.one_reading.ensures.definitions

pub returns-clause-no_fault : goal.returns-clause-no_fault
returns-clause-no_fault c = c.one_reading.ensures.no_fault

pub returns-clause-one_fault : goal.returns-clause-one_fault
returns-clause-one_fault c = c.one_reading.ensures.one_fault

pub returns-clause-whole : goal.returns-clause-whole
returns-clause-whole c = one_statement c.one_explanation_of_abnf_faults.ensures
    (explanation_is_one c.one_note_explanation_of_abnf.ensures.lines c.one_note_explanation_of_abnf.ensures.prose
    c.one_note_explanation_of_abnf.ensures.form c.one_reading.ensures.definitions c.one_name_chain.ensures)
    (text_hints_are_one c.one_reading.ensures.definitions c.one_text_of_abnf_hints.ensures)
    c.utf8_is_decided.ensures.one c.furthest_is_found.ensures.one

pub returns-clause-long : goal.returns-clause-long
returns-clause-long c = long_is_reported
