-- A grammar that is compared, and what is reported of it.
use Rattle.std.specs.Prelude.{◌≡◌, ◌≢◌, ℕ, List, ◌++◌, Option, None, Some, MatchOption}
use Rattle.std.specs.List.{flat_map}
use Rattle.abnfcheck.specs.AbnfGrammar.{Grammar}
use Rattle.abnfread.specs.AbnfReading.{IsFaultOf, Reads}
use Rattle.abnfread.specs.AbnfTable.{IsCoreTable, IsTableOf}
use Rattle.abnfread.specs.AbnfViews.{rules_of}
use Rattle.abnfread.specs.Element.{Definition}
use Rattle.abnfread.specs.declared.elem.Elem.{Elem}
use Rattle.abnfread.specs.declared.table.Abnf.{Abnf}
use Rattle.abnfrun.specs.AbnfNoted.{all_rules, judged_of, AreNotesOn, IsRefusedFor}
use Rattle.ruletable.specs.Faults.{fault_text}
use Rattle.ruletable.specs.Notes.{Said, note_text}
use Rattle.ruletable.specs.Rules as table
use Rattle.ruletable.specs.declared.fault.ReadFault.{ReadFault}
use Rattle.ruletable.specs.declared.fault.ReadFault.TheVariants.{Memory}

-- the lines of notes, each after the name of their side
abbrev pub side_notes : List ℕ → List Said → List ℕ
side_notes side notes = flat_map (λ note. side ++ note_text note) notes

-- the grammar has these rules and that judged one, or there is none
abbrev pub IsMadeOf : table.Rules Elem → Option ℕ → Option Grammar → Type 0
IsMadeOf rules None grammar = grammar ≡ None
IsMadeOf rules (Some id) grammar = MatchOption grammar ⊥ (λ g. (g.rules ≡ rules) × (g.judged ≡ id))

-- The text reads, and its notes are reported; they reject it, or the grammar has its rules and the core rules, and is
-- compared by that rule. Or the text has a fault, which is reported.
pub data IsSideOf (side text : List ℕ) (rule : Option (List ℕ)) : List ℕ → Option Grammar → Type 0 where
  has_notes : {definitions : List Definition} {notes : List Said} {grammar : Option Grammar} → Reads text definitions
      → AreNotesOn definitions rule notes
      → MatchOption grammar (IsRefusedFor definitions rule)
      (λ g. (IsRefusedFor definitions rule → ⊥) × (rules_of g.rules ≡ all_rules definitions)
      × (g.judged ≡ judged_of definitions rule))
      → IsSideOf side text rule (side_notes side notes) grammar
  has_fault : {fault : ReadFault} → IsFaultOf text fault → fault ≢ Memory
      → IsSideOf side text rule (side ++ fault_text fault) None

-- the text reads as these rules, and those are the core rules
abbrev pub IsReadText : List ℕ → Abnf → Type 0
IsReadText text abnf = ((definitions : List Definition) × Reads text definitions
    × IsTableOf definitions abnf.rules abnf.redefined.items abnf.extended.items) × IsCoreTable abnf.core
