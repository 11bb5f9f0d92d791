-- The names in the members so far.
use Rattle.std.proofs.Common.{◌≡◌, ℕ, List, ◌++◌, take}
use Rattle.ruletable.specs.declared.table.NameCase.TheVariants.{Fold}
use Rattle.fixpoint.specs.NameUses.{IsScanned}
use Rattle.abnfread.specs.AbnfViews.{elements_of}
use Rattle.abnfcheck.specs.AbnfUses.{names_in_all}
use Rattle.abnfcheck.proofs.name_ids.+scan.Given as goal

abbrev pub invariant-add_all_names-loop-member : goal.invariant-add_all_names-loop-member
invariant-add_all_names-loop-member l = record {
  folds : l.names.names ≡ Fold;
  scanned : (known seen uses : List (List ℕ)) → IsScanned Fold known seen uses l.initial.names l.initial.row.items →
      IsScanned Fold known (seen ++ names_in_all (elements_of (take l.member-index l.members)))
      (uses ++ names_in_all (elements_of (take l.member-index l.members))) l.names l.row.items;
}
