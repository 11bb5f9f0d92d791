-- What is kept of the units before.
-- Serves: run_peg (right)
use Rattle.std.proofs.Common.{◌≡◌, ℕ, ◌+◌, ◌≤◌, ◌<◌, ◌++◌, zero, suc, false, List, [], length, take, refl, sym, ◌∙◌, ap}
use Rattle.std.proofs.Common.{subst, arith, length-append, length-take, append_assoc, Some}
use Rattle.std.proofs.Common.{Vec, Global}
use Rattle.std.specs.Prelude.{Result, Ok, Err, IfOk}
use Rattle.ruletable.specs.declared.memory.Memory.{Memory}
use Rattle.matchfailure.specs.NoMatches.{IsNoMatchReported, unit_before}
use Rattle.matchfailure.specs.InputPositions.{position_after}
use Rattle.matchfailure.specs.declared.explain.position.TextPosition.{TextPosition}
use Rattle.pegread.specs.Pattern.{Rule}
use Rattle.pegrun.specs.PastUnits.{EndsAfter, Follows, IsEndingWith}
use Rattle.pegrun.specs.StopsExplained.{UnitBefore, none_before}
use Rattle.pegrun.specs.declared.past.Past.{Past}
use Rattle.toolrun.specs.Input.{Input}
use Rattle.pegrun.specs.PegSettings.{PegSettings}
use Rattle.toolrun.specs.declared.ending.Ending.{Ending}
use Rattle.toolrun.specs.declared.ending.Ending.TheVariants.{Plain, Explained, Unexplained}
use Rattle.toolrun.specs.declared.stop.Stop.TheVariants.{NoMatch}

-- nothing is kept at the front
pub follows_front : (past : Past) → past.at ≡ position_after [] → past.bytes.items ≡ [] → past.next ≡ position_after []
    → Follows past []
follows_front past at bytes next = record {
  next = next;
  front = [];
  at = at;
  room = let l = ap length bytes in omega (arith, l);
  whole = λ kept. sym bytes;
}

pub front_is_first : (rules : List Rule) (start : ℕ) (settings : PegSettings) (input : Input) (past : Past)
    → past.bytes.items ≡ [] → UnitBefore rules start settings input 0
    (unit_before past.at.byte (length past.bytes.items))
front_is_first rules start settings input past bytes = rw bytes none_before

-- the unit that was taken is kept after the bytes before it
pub unit_at_byte : (at : TextPosition) (bytes before items : List ℕ) (n : ℕ) → at ≡ position_after before
    → bytes ≡ take n items → n ≤ length items → 0 < n → unit_before at.byte (length bytes) ≡ Some (length before)
unit_at_byte at bytes before items zero is kept le some = absurd (omega (arith, some))
unit_at_byte at bytes before items (suc n) is kept le some =
    let l : length bytes ≡ suc n = ap length kept ∙ length-take (suc n) items ∙ omega (arith, le) in
    rw (l, is) refl

-- what explains that no unit goes on, or that an allocation failed
pub ends_unmatched : (rules : List Rule) (start : ℕ) (past : Past) (before held : List ℕ) (at : ℕ)
    (why : Result (Vec ℕ Global) Memory) (ending : Ending) →
    IfOk why (λ w. (front : List ℕ) → Follows past front → (past.lost ≡ false)
    × IsNoMatchReported rules start (front ++ held) (unit_before past.at.byte (length past.bytes.items)) (length front)
    w.items) → Follows past before → IsEndingWith (NoMatch at) why ending →
    EndsAfter rules start past before held (NoMatch at) ending
ends_unmatched rules start past before held at why (Plain is) reported follows so = absurd so
ends_unmatched rules start past before held at (Ok why) (Explained first is lines) reported follows (none, same, are) =
    (none, same, rw are (reported before follows))
ends_unmatched rules start past before held at (Err fault) (Explained first is lines) reported follows
    (none, same, are) =
    absurd are
ends_unmatched rules start past before held at why (Unexplained first is) reported follows (none, same) =
    (none, same, tt)

-- what explains it, of the bytes that are kept and those that are held
pub reported_after_kept : (rules : List Rule) (start : ℕ) (past : Past) (held seen : List ℕ) (last : ℕ)
    (result : Result (Vec ℕ Global) Memory) → past.lost ≡ false → seen ≡ past.bytes.items ++ held
    → last ≡ length past.bytes.items →
    IfOk result (λ why. (front : List ℕ) → past.at ≡ position_after front
    → IsNoMatchReported rules start (front ++ seen)
    (unit_before past.at.byte last) (past.at.byte + last) why.items) →
    IfOk result (λ why. (before : List ℕ) → Follows past before → (past.lost ≡ false)
    × IsNoMatchReported rules start (before ++ held) (unit_before past.at.byte (length past.bytes.items))
    (length before)
    why.items)
reported_after_kept rules start past held seen last (Err fault) kept is many reported = tt
reported_after_kept rules start past held seen last (Ok why) kept is many reported = λ before follows.
    let whole : before ≡ follows.front ++ past.bytes.items = follows.whole kept in
    let text : follows.front ++ seen ≡ before ++ held = ap (λ (t : List ℕ). follows.front ++ t) is
    ∙ sym (append_assoc follows.front past.bytes.items held) ∙ ap (λ (t : List ℕ). t ++ held) (sym whole) in
    let here : past.at.byte ≡ length follows.front = ap (λ (a : TextPosition). a.byte) follows.at in
    let size = ap length whole in
    let byte : past.at.byte + last ≡ length before =
    omega (arith, here, many, size, length-append follows.front past.bytes.items) in (
      kept,
      subst (λ (t : List ℕ). IsNoMatchReported rules start t (unit_before past.at.byte (length past.bytes.items))
          (length before) why.items) text
          (subst (λ (n : ℕ). IsNoMatchReported rules start (follows.front ++ seen)
          (unit_before past.at.byte (length past.bytes.items)) n why.items) byte
          (subst (λ (n : ℕ). IsNoMatchReported rules start (follows.front ++ seen) (unit_before past.at.byte n)
          (past.at.byte + last) why.items) many (reported follows.front follows.at))),
    )
