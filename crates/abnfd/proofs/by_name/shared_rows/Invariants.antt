-- The lines of the names so far.
use Rattle.std.proofs.Common.{List, ℕ, take}
use Rattle.abnfd.specs.RulesByName.{AreBothChecked, HasRows, named_in}
use Rattle.ruletable.specs.Rules.{names_of}
use Rattle.abnfd.proofs.by_name.shared_rows.Given as goal

abbrev pub invariant-loop-id : goal.invariant-loop-id
invariant-loop-id l = (old new : List ℕ) → AreBothChecked old new l.both → HasRows l.settings.letters old new
    (named_in (names_of l.both.new.names) (take l.id (names_of l.both.old.names))) l.text.items l.most
