-- The names, the messages and the marks of the text.
use Rattle.std.proofs.Common.{map}
use Rattle.std.specs.Prelude.{None}
use Rattle.abnfd.proofs.CheckedTextLemmas.{grammar_in, is_made, text_is_checked}
use Rattle.abnfd.proofs.OpenedSideLemmas.{opened_is_side}
use Rattle.abnfrun.proofs.AllRulesLemmas.{is_checked}
use Rattle.ruletable.specs.Notes.{said_of}
use Rattle.abnfd.proofs.by_name.checked_rules.Goals as goal

pub returns : goal.returns
returns c = λ text is.
    let read = c.args.abnf in
    let found = c.in_ok-notes.field-0 in
    record {
      grammar = grammar_in found.all.rules found.judged;
      is_side = rw (rw c.as_slice-2.ensures.value at c.in_ok-reported.ensures)
          (opened_is_side c.args.side.now text None (map said_of found.notes.items) found.all.rules found.judged
          (grammar_in found.all.rules found.judged)
          (is_checked text None read.rules read.core found.all.rules read.redefined.items read.extended.items
          (map said_of found.notes.items) found.judged is.0 is.1 c.in_ok-notes.ensures.rules
          c.in_ok-notes.ensures.notes c.in_ok-notes.ensures.judged)
          (is_made found.all.rules found.judged));
      has_checked = text_is_checked text read _ c.redefines-again.result is c.in_ok-names.ensures.case
          c.in_ok-names.ensures.names c.in_ok-notes.ensures.rules
          (rw (c.as_slice.ensures.value, c.len.ensures.len) at c.redefines-again.ensures) c.in_ok-sound.ensures;
    }
