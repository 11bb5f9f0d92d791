use Rattle.std.proofs.Common.{◌≡◌, ℕ, ◌||◌, false, List, length, get_or}
use Rattle.pegread.specs.Chars.{Paired}
use Rattle.pegread.specs.Classes.{Ranges, in_ranges, SpellsItems}
use Rattle.pegread.proofs.class.items_set.Given as goal

-- the set so far and the ranges that the rest spells are what the text spells
abbrev pub invariant-loop-item : goal.invariant-loop-item
invariant-loop-item l = record {
  paired : Paired l.rest;
  spells : (xs : List (ℕ × ℕ)) → Ranges l.rest xs → SpellsItems l.text (λ b. get_or l.set b false || in_ranges xs b);
  count : length l.set ≡ 256;
}

abbrev pub decreases-loop-item : goal.decreases-loop-item
decreases-loop-item l = length l.rest
