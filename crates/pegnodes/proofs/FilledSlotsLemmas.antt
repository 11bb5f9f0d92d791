-- A template's text, as far as its slots are known.
-- Serves: check_peg
use Rattle.std.proofs.Common.{◌≡◌, ℕ, ◌+◌, ◌<◌, ◌≤◌, false, List, [], ◌∷◌, ◌++◌, length, get_or}
use Rattle.std.proofs.Common.{sym, ap, arith, ◌∙◌, append_assoc}
use Rattle.std.specs.Prelude.{slice_range}
use Rattle.pegnodes.specs.declared.template.Slot.{Slot}
use Rattle.pegnodes.specs.Slots.{put_in, AreSlots, IsMore}
use Rattle.pegnodes.specs.Templates.{is_word, Word, filled_piece, filled}
use Rattle.pegnodes.proofs.FilledRunLemmas.{AreWord, one_more, filled_run, filled_other}
use Rattle.pegnodes.proofs.PutInLemmas.{range_join, empty_range, put_in-further}

byte_range : (t : List ℕ) (i : ℕ) → i < length t → slice_range t i (i + 1) ≡ get_or t i 0 ∷ []
byte_range t i lt = one_more t i i (omega arith) lt ∙ ap (λ v. v ++ get_or t i 0 ∷ []) (empty_range t i)

-- what the slots of a text up to a run make of it, with the text from the run on, is the whole text
abbrev pub AreFilled : List ℕ → ℕ → ℕ → ℕ → List Slot → Type 0
AreFilled t from run to slots = (c : List ℕ) →
    put_in t c from slots run ++ filled (slice_range t run to) c ≡ filled (slice_range t from to) c

module _ (t : List ℕ) (from run i to : ℕ) (le : run ≤ i) (old new : List Slot) (w : AreWord (slice_range t run i))
    (order : AreSlots from old run) (more : IsMore t run i old new) (is : AreFilled t from run to old) where
  pub AreFilled-next : i < to → to ≤ length t → is_word (get_or t i 0) ≡ false → AreFilled t from (i + 1) to new
  AreFilled-next lt within other c =
      let piece = filled_piece c (Word (slice_range t run i)) in
      let rest = slice_range t (i + 1) to in
      let b = get_or t i 0 in
      let byte : slice_range t i (i + 1) ≡ b ∷ [] = byte_range t i (omega arith) in
      let split : slice_range t run to ≡ slice_range t run i ++ b ∷ rest = range_join t run i to le (omega arith)
      ∙ ap (λ v. slice_range t run i ++ v) (range_join t i (i + 1) to (omega arith) (omega arith)
      ∙ ap (λ v. v ++ rest) byte) in
      let there : filled (slice_range t run to) c ≡ piece ++ b ∷ filled rest c =
      ap (λ v. filled v c) split ∙ filled_other c (slice_range t run i) rest b w other in
      let front : put_in t c from new (i + 1) ≡ (put_in t c from old run ++ piece) ++ b ∷ [] =
      put_in-further t c from new i (i + 1) (more.order from order) (omega arith)
      ∙ ap (λ v. put_in t c from new i ++ v) byte ∙ ap (λ v. v ++ b ∷ []) (more.with_run from c order) in
      rw front (simp append_assoc (ap (λ v. put_in t c from old run ++ v) (sym there) ∙ is c))

  pub AreFilled-last : i ≡ to → (c : List ℕ) → filled (slice_range t from to) c ≡ put_in t c from new to
  AreFilled-last end c = rw (← end) (rw (← end) at (sym (is c))
      ∙ ap (λ v. put_in t c from old run ++ v) (filled_run c (slice_range t run i) w)
      ∙ sym (more.with_run from c order))
