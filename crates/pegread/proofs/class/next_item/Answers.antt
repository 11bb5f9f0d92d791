-- An item is a character, or two with a `-` between them; a `-` that nothing follows is a character.
use Rattle.std.proofs.Common.{◌≡◌, ℕ, List, [], ◌∷◌, length, ap, arith}
use Rattle.std.proofs.lemmas.Bool.Decides.{nat_tests}
use Rattle.std.proofs.lemmas.List.{nil_from_length}
use Rattle.lexer.specs.SliceEnds.{Lacks}
use Rattle.pegread.specs.Classes.{GoesOn, item_char, item_range}
use Rattle.pegread.proofs.SpellsBytesLemmas.{char-paired, none-paired, paired-after_plain}
use Rattle.pegread.proofs.class.next_item.Goals as goal
use Rattle.pegread.proofs.class.next_item.Goals.{in_default-via-in-Some+else-not-is_empty, in_default-via-in_default}

lacks-ends : (text : List ℕ) → Lacks 45 text → GoesOn text → ⊥
lacks-ends [] lacks goes = goes
lacks-ends (b ∷ []) lacks goes = goes
lacks-ends (b ∷ c ∷ cs) lacks goes = lacks goes

goes-some : (end : List ℕ) → end ≡ [] → GoesOn (45 ∷ end) → ⊥
goes-some [] none goes = goes
goes-some (c ∷ cs) none goes = absurd (cc)

pub returns-in_err-last-in-Some : goal.returns-in_err-last-in-Some
returns-in_err-last-in-Some c =
    let rest = char-paired c.in_ok-first.ensures c.requires in
    let end = paired-after_plain (omega arith) (rw (c.in-Some.ensures) at rest) in
    let none = ap length (none-paired _ c.in_err-last-in-Some.ensures end) in
    absurd (grind (arith, nat_tests, c.if-not-is_empty.ensures, none))

pub returns-in_ok-last-in-Some : goal.returns-in_ok-last-in-Some
returns-in_ok-last-in-Some c = item_range (rw (c.in-Some.ensures) at c.in_ok-first.ensures) c.in_ok-last-in-Some.ensures

pub returns-in_default : goal.returns-in_default
returns-in_default c =
    item_char c.in_ok-first.ensures (elim c.in_default.branch [
      | in_default-via-in-Some+else-not-is_empty w ↦ λ goes.
          goes-some w.in-Some.end.now (nil_from_length _ (grind (arith, nat_tests, w.if-not-is_empty.ensures)))
          (rw w.in-Some.ensures at goes)
      | in_default-via-in_default w ↦ λ goes. lacks-ends c.in_ok-first.rest.now w.in_default.ensures goes
    ])
