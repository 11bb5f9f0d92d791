-- A template that is written slot by slot.
-- Serves: write_event
use Rattle.std.proofs.Common.{◌≡◌, ℕ, ◌+◌, ◌<◌, ◌≤◌, Bool, true, false, List, [], ◌∷◌, ◌++◌, length, get_or, drop}
use Rattle.std.proofs.Common.{Option, Some, Result, refl, sym, ◌∙◌, ap, subst, append_assoc, arith, add-one, drop-cons}
use Rattle.std.specs.Prelude.{slice_range, slice_get}
use Rattle.std.specs.Io.KnownBytes.{Appends}
use Rattle.std.proofs.lemmas.List.{drop_all}
use Rattle.ruletable.specs.Writing.{AppendsPart, Writes}
use Rattle.ruletable.proofs.AppendsLemmas.{Appends-join, AppendsPart-join, AppendsPart-first, Writes-then}
use Rattle.pegnodes.specs.declared.template.Slot.{Slot}
use Rattle.pegnodes.specs.declared.template.Template.{Template}
use Rattle.pegnodes.specs.Nodes.{Shape, Act}
use Rattle.gramcheck.specs.Outcome as event
use Rattle.gramcheck.specs.Outcome.{Event}
use Rattle.pegnodes.specs.Slots.{put_text, put_in, AreSlots, IsCut}
use Rattle.pegnodes.specs.Templates.{printed}
use Rattle.pegnodes.proofs.PutInLemmas.{AreSlots-ordered, AreSlots-earlier, AreSlots-further}
use Rattle.pegmatch.specs.KeptEvents.{StandsFor, opened, closed, acted}
use Rattle.pegmatch.specs.EventPrinting.{event_text}
use Rattle.pegmatch.specs.declared.event.Kept.{Kept}
use Rattle.pegmatch.specs.declared.event.Kept.TheVariants.{Acted}
use Rattle.pegmatch.specs.declared.style.PrintStyle.{PrintStyle}

-- what was written, and what the slots from the next on make of the text from a position on
abbrev pub IsWritten : Option (List ℕ) → Option (List ℕ) → List ℕ → List ℕ → ℕ → List Slot → List Slot → ℕ → ℕ → Type 0
IsWritten old new t c from slots rest at to = (done : List ℕ) × Appends old new done
    × (done ++ put_in t c at rest to ≡ put_in t c from slots to)

module _ (t c : List ℕ) (from : ℕ) (slots : List Slot) (at to k : ℕ) (slot d : Slot) (here : slot ≡ get_or slots k d)
    (lt : k < length slots) where
  next_slot : drop k slots ≡ slot ∷ drop (k + 1) slots
  next_slot = drop-cons slots k d lt ∙ rw (here, add-one k) refl

  pub order_here : AreSlots at (drop k slots) to → AreSlots at (slot ∷ drop (k + 1) slots) to
  order_here order = subst (λ v. AreSlots at v to) next_slot order

  pub order_next : AreSlots at (drop k slots) to → AreSlots slot.to (drop (k + 1) slots) to
  order_next order = let h = order_here order in h.2

  pub slot_begins : AreSlots at (drop k slots) to → at ≤ slot.from
  slot_begins order = let h = order_here order in h.0

  pub slot_ends : AreSlots at (drop k slots) to → slot.from ≤ to
  slot_ends order =
      let h = order_here order in
      let rest : slot.to ≤ to = AreSlots-ordered slot.to (drop (k + 1) slots) to h.2 in
      let order : slot.from ≤ slot.to = h.1 in
      omega arith

  pub written_next : (old mid new : Option (List ℕ)) → IsWritten old mid t c from slots (drop k slots) at to →
      Appends mid new (slice_range t at slot.from ++ put_text c slot.put) →
      IsWritten old new t c from slots (drop (k + 1) slots) slot.to to
  written_next old mid new (done, one, is) two = (
    done ++ (slice_range t at slot.from ++ put_text c slot.put),
    Appends-join old mid new done _ one two,
    simp append_assoc (ap (λ v. done ++ put_in t c at v to) (sym next_slot) ∙ is),
  )

  pub written_fault : (old mid new : Option (List ℕ)) → IsWritten old mid t c from slots (drop k slots) at to →
      AppendsPart mid new (slice_range t at slot.from ++ put_text c slot.put) →
      AppendsPart old new (put_in t c from slots to)
  written_fault old mid new (done, one, is) part =
      let piece = slice_range t at slot.from ++ put_text c slot.put in
      let whole : (done ++ piece) ++ put_in t c slot.to (drop (k + 1) slots) to ≡ put_in t c from slots to =
      simp append_assoc (ap (λ v. done ++ put_in t c at v to) (sym next_slot) ∙ is) in
      subst (λ v. AppendsPart old new v) whole
      (AppendsPart-first old new _ _ (AppendsPart-join old mid new done piece one part))

module _ (t c : List ℕ) (from : ℕ) (slots : List Slot) (at to k : ℕ) (long : length slots ≤ k) where
  no_slot : drop k slots ≡ []
  no_slot = drop_all k slots long

  pub order_last : AreSlots at (drop k slots) to → at ≤ to
  order_last order = AreSlots-ordered at (drop k slots) to order

  pub written_last : {A E : Type 0} (old mid new : Option (List ℕ)) (r : Result A E) →
      IsWritten old mid t c from slots (drop k slots) at to → Writes mid new (slice_range t at to) r →
      Writes old new (put_in t c from slots to) r
  written_last old mid new r (done, one, is) last =
      subst (λ v. Writes old new v r) (ap (λ v. done ++ put_in t c at v to) (sym no_slot) ∙ is)
      (Writes-then old mid new done (slice_range t at to) r one last)

-- what is written of a template that is cut is what its action prints
module _ (t c : List ℕ) (cut : Template) (is : IsCut t cut) where
  pub order_whole : AreSlots 0 cut.slots.items (length t)
  order_whole = AreSlots-earlier 0 cut.from cut.slots.items (length t) (omega arith)
      (AreSlots-further cut.from cut.slots.items cut.to (length t) is.order is.within)

  module _ (old mid new : Option (List ℕ)) (raw : Bool) where
    pub raw_written : {A E : Type 0} (r : Result A E) → raw ≡ true →
        Writes old new (put_in t c 0 cut.slots.items (length t)) r → Writes old new (printed raw t c) r
    raw_written r as_is one = rw as_is (subst (λ v. Writes old new v r) (sym (is.whole c)) one)

    pub action_written : {A E : Type 0} (r : Result A E) → raw ≡ false →
        Appends old mid (put_in t c cut.from cut.slots.items cut.to) → Writes mid new (10 ∷ []) r →
        Writes old new (printed raw t c) r
    action_written r cooked one two = rw cooked (subst (λ v. Writes old new (v ++ 10 ∷ []) r)
        (sym (is.between_blanks c))
        (Writes-then old mid new (put_in t c cut.from cut.slots.items cut.to) (10 ∷ []) r one two))

    pub action_fault : raw ≡ false → AppendsPart old mid (put_in t c cut.from cut.slots.items cut.to) →
        AppendsPart old mid (printed raw t c)
    action_fault cooked part = rw cooked (subst (λ v. AppendsPart old mid (v ++ 10 ∷ [])) (sym (is.between_blanks c))
        (AppendsPart-first old mid (put_in t c cut.from cut.slots.items cut.to) (10 ∷ []) part))

-- what a kept action stands for
pub acts_so : {nodes : List Shape} {kept : Kept} {e : Event} → StandsFor nodes kept e → (n : ℕ) (t : List ℕ)
    → kept ≡ Acted n → slice_get nodes n ≡ Some (Act t) → e ≡ event.Acted t
acts_so opened n t is at = absurd (cc is)
acts_so closed n t is at = absurd (cc is)
acts_so (acted {n = m} {t = u} g) n t is at = let same : u ≡ t = cc (g, at, is) in ap event.Acted same

-- any other prints nothing
pub quiet_event : {nodes : List Shape} {kept : Kept} {e : Event} → StandsFor nodes kept e
    → ((n : ℕ) → kept ≡ Acted n → ⊥) → (style : PrintStyle) (capture : List ℕ) → event_text style e capture ≡ []
quiet_event opened other style capture = refl
quiet_event closed other style capture = refl
quiet_event (acted {n = n} g) other style capture = absurd (other n refl)
