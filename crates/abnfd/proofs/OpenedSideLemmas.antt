-- A grammar that was opened is a side with its notes.
-- Serves: abnfd_main
use Rattle.std.proofs.Common.{ℕ, List, ap, ◌∙◌}
use Rattle.std.specs.Prelude.{Some, None, Option}
use Rattle.abnfcheck.specs.AbnfGrammar.{Grammar}
use Rattle.abnfd.specs.ComparedSides.{IsMadeOf, IsSideOf, has_notes, side_notes}
use Rattle.abnfread.specs.AbnfViews.{rules_of}
use Rattle.abnfread.specs.declared.elem.Elem.{Elem}
use Rattle.abnfrun.specs.AbnfLanguage.{IsChecked}
use Rattle.ruletable.specs.Notes.{Said}
use Rattle.ruletable.specs.Rules as table

pub opened_is_side : (side text : List ℕ) (rule : Option (List ℕ)) (notes : List Said) (rules : table.Rules Elem)
    (judged : Option ℕ) (grammar : Option Grammar) → IsChecked text rule notes rules judged
    → IsMadeOf rules judged grammar → IsSideOf side text rule (side_notes side notes) grammar
opened_is_side side text rule notes rules None None is made = has_notes is.reads is.are_notes is.ready
opened_is_side side text rule notes rules None (Some g) is made = absurd (cc made)
opened_is_side side text rule notes rules (Some id) None is made = absurd made
opened_is_side side text rule notes rules (Some id) (Some g) is made = has_notes is.reads is.are_notes
    (is.ready.0, ap rules_of made.0 ∙ is.kept, made.1 ∙ is.ready.1)
