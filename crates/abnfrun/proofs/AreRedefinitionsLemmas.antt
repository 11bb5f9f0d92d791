-- The notes on the rules that are marked as defined again.
-- Serves: run_abnf (right)
use Rattle.std.proofs.Common.{◌≡◌, ◌↔◌, ◌+◌, List, [], ◌++◌, length, map, sym, ◌∙◌, subst, arith, append-nil}
use Rattle.std.specs.Prelude.{ℕ, Bool, Contains}
use Rattle.std.proofs.lemmas.List.{length-map}
use Rattle.std.proofs.lemmas.Simd.{map-map}
use Rattle.fixpoint.specs.NumberMarks.{IsMarked}
use Rattle.ruletable.specs.Notes.{Said, said}
use Rattle.ruletable.specs.Rules as table
use Rattle.ruletable.specs.Rules.{names_of}
use Rattle.ruletable.specs.declared.note.NoteKind.TheVariants.{Redefined}
use Rattle.fixpoint.specs.IdMarks.{chosen, AreMarks}
use Rattle.abnfread.specs.Element.{Rule}
use Rattle.abnfread.specs.AbnfViews.{rule_of, rules_of}
use Rattle.abnfread.specs.declared.elem.Elem.{Elem}
use Rattle.abnfcheck.specs.AbnfNotes.{Those}
use Rattle.abnfcheck.specs.AbnfUses.{rule_names}
use Rattle.abnfcheck.proofs.AbnfNotesLemmas.{those_chosen}
use Rattle.abnfrun.specs.AbnfNoted.{AreRedefinitions}

pub are_redefined : (rules : table.Rules Elem) (again : List ℕ) (marks : List Bool) (notes : List Said)
    → AreMarks (Contains again) (length rules.rules) marks →
    notes ≡ map (said Redefined) (chosen marks (names_of rules)) → AreRedefinitions (rules_of rules) again notes
are_redefined rules again marks notes m is =
    let long = length-map rules.rules rule_of in
    let names : rule_names (rules_of rules) ++ [] ≡ names_of rules = append-nil (rule_names (rules_of rules))
    ∙ map-map (λ (rule : Rule). rule.name) rule_of rules.rules in
    record {
      names = chosen marks (names_of rules);
      are_those = subst (λ v. Those (Contains again) 0 (rules_of rules) (chosen marks v)) names
          (those_chosen (Contains again) 0 (rules_of rules) [] marks (m.count_is ∙ sym long)
          (λ id lt. let same : id ≡ 0 + id = omega arith in subst (λ v. IsMarked marks id ↔ Contains again v) same
          (m.exact id (omega (arith, lt, long)))));
      all = is;
    }
