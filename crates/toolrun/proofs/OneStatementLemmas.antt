-- What the tool of a language states for a text, settings and an input is one, unless an allocation fails.
-- Serves: one_statement, one_statement_of_abnf
use Rattle.std.proofs.Common.{◌≡◌, ◌≢◌, ℕ, ◌⊎◌, inl, inr, List, [], refl, sym, ◌∙◌, ap, subst}
use Rattle.ruletable.specs.Notes.{Said}
use Rattle.ruletable.specs.declared.fault.ReadFault.{ReadFault}
use Rattle.ruletable.specs.declared.fault.ReadFault.TheVariants.{Memory}
use Rattle.toolrun.specs.Explained.{Explained}
use Rattle.toolrun.proofs.ExplainedIfLemmas.{if-explained}
use Rattle.toolrun.specs.Reply.{Reply, notes_alone, refusal}
use Rattle.toolrun.specs.declared.settings.Settings.{Settings}
use Rattle.toolrun.specs.declared.settings.Mode.{Mode}
use Rattle.toolrun.specs.declared.settings.Mode.TheVariants.{Run, Check, Print}

-- what explains is one text
pub one-explained : {O : Type 0} (settings : Settings O) (Why : List ℕ → Type 0) →
    ((a b : List ℕ) → Why a → Why b → a ≡ b)
    → (a b : List ℕ) → Explained settings Why a → Explained settings Why b → a ≡ b
one-explained settings Why one a b g h = if-explained settings.explain Why one a b g h

-- Of a text, IsFault says what is wrong with it, Explains what is reported of that, and Reads which definitions it
-- spells.
-- Of definitions, AreNotes and AreAgain say what is noted, IsRefused and IsSound which notes reject them and which do
-- not, Runs what a run of them states, and printed what is written of them. IsReported says what is reported of notes,
-- IsHinted what is with hints after them.
module _ {Definitions : Type 0} (IsFault : ReadFault → Type 0) (Explains : ReadFault → List ℕ → Type 0)
    (Reads : Definitions → Type 0)
    (AreNotes IsRefused IsSound AreAgain : Definitions → List Said → Type 0)
    (IsHinted IsReported : List Said → List ℕ → Type 0) (Runs : Definitions → Reply → Type 0)
    (printed : Definitions → Reply) (mode : Mode) where
  -- what is stated for a text that spells these definitions
  pub data StatesOf (definitions : Definitions) : List ℕ → Reply → Type 0 where
    is_noted : (notes : List Said) (reported : List ℕ) → AreNotes definitions notes → IsHinted notes reported
        → IsRefused definitions notes → mode ≢ Print → StatesOf definitions reported (notes_alone 2)
    is_checked : (notes : List Said) (reported : List ℕ) → AreNotes definitions notes → IsHinted notes reported
        → IsSound definitions notes → mode ≡ Check → StatesOf definitions reported (notes_alone 0)
    is_run : (notes : List Said) (reported : List ℕ) (stated : Reply) → AreNotes definitions notes
        → IsHinted notes reported
        → IsSound definitions notes → mode ≡ Run → Runs definitions stated → StatesOf definitions reported stated
    is_again : (notes : List Said) (reported : List ℕ) → AreAgain definitions notes → IsReported notes reported
        → notes ≢ []
        → mode ≡ Print → StatesOf definitions reported (notes_alone 2)
    is_printed : AreAgain definitions [] → mode ≡ Print → StatesOf definitions [] (printed definitions)

  -- the text has a fault, which is reported, or spells definitions
  pub record IsRefusal (notes : List ℕ) (reply : Reply) : Type 0 where
    pub fault : ReadFault
    pub is_fault : IsFault fault
    pub other : fault ≢ Memory
    pub why : List ℕ
    pub explains : Explains fault why
    pub none : notes ≡ []
    pub reported : reply ≡ refusal fault why

  pub record IsReadFor (notes : List ℕ) (reply : Reply) : Type 0 where
    pub definitions : Definitions
    pub reads : Reads definitions
    pub states : StatesOf definitions notes reply

  abbrev pub Stated : List ℕ → Reply → Type 0
  Stated notes reply = IsRefusal notes reply ⊎ IsReadFor notes reply

  module _ (one_reading : (a b : Definitions) → Reads a → Reads b → a ≡ b)
      (one_fault : (a b : ReadFault) → IsFault a → IsFault b → a ≢ Memory → b ≢ Memory → a ≡ b)
      (one_why : (fault : ReadFault) (a b : List ℕ) → Explains fault a → Explains fault b → a ≡ b)
      (no_fault : (definitions : Definitions) (fault : ReadFault) → Reads definitions → IsFault fault → fault ≡ Memory)
      (one_notes : (definitions : Definitions) (a b : List Said) → AreNotes definitions a → AreNotes definitions b
      → a ≡ b)
      (one_again : (definitions : Definitions) (a b : List Said) → AreAgain definitions a → AreAgain definitions b
      → a ≡ b)
      (one_hinted : (notes : List Said) (a b : List ℕ) → IsHinted notes a → IsHinted notes b → a ≡ b)
      (one_reported : (notes : List Said) (a b : List ℕ) → IsReported notes a → IsReported notes b → a ≡ b)
      (one_verdict : (definitions : Definitions) (notes : List Said) → IsRefused definitions notes
      → IsSound definitions notes → ⊥)
      (one_run : (definitions : Definitions) (a b : Reply) → Runs definitions a → Runs definitions b → a.status ≢ 5
      → b.status ≢ 5 → a ≡ b) where
    module _ (definitions : Definitions) where
      one_text : (a b : List Said) (s t : List ℕ) → AreNotes definitions a → AreNotes definitions b → IsHinted a s
          → IsHinted b t → s ≡ t
      one_text a b s t g h reported other =
          one_hinted b s t (subst (λ (ns : List Said). IsHinted ns s) (one_notes definitions a b g h) reported) other

      -- no list of notes rejects the grammar beside one that does not
      not_both : (a b : List Said) → AreNotes definitions a → AreNotes definitions b → IsRefused definitions a
          → IsSound definitions b → ⊥
      not_both a b g h bad fine =
          one_verdict definitions b (subst (IsRefused definitions) (one_notes definitions a b g h) bad) fine

      one_of : (notes others : List ℕ) (a b : Reply) → StatesOf definitions notes a → StatesOf definitions others b
          → a.status ≢ 5 → b.status ≢ 5 → (notes ≡ others) × (a ≡ b)
      one_of notes others a b (is_noted v s g reported bad mode) (is_noted w t h other bad' mode') m n =
          (one_text v w s t g h reported other, refl)
      one_of notes others a b (is_noted v s g reported bad mode) (is_checked w t h other fine mode') m n =
          absurd (not_both v w g h bad fine)
      one_of notes others a b (is_noted v s g reported bad mode) (is_run w t stated h other fine mode' run) m n =
          absurd (not_both v w g h bad fine)
      one_of notes others a b (is_noted v s g reported bad mode) (is_again w t h other some mode') m n =
          absurd (mode mode')
      one_of notes others a b (is_noted v s g reported bad mode) (is_printed h mode') m n = absurd (mode mode')
      one_of notes others a b (is_checked v s g reported fine mode) (is_noted w t h other bad mode') m n =
          absurd (not_both w v h g bad fine)
      one_of notes others a b (is_checked v s g reported fine mode) (is_checked w t h other fine' mode') m n =
          (one_text v w s t g h reported other, refl)
      one_of notes others a b (is_checked v s g reported fine mode) (is_run w t stated h other fine' mode' run) m n =
          absurd (cc)
      one_of notes others a b (is_checked v s g reported fine mode) (is_again w t h other some mode') m n = absurd (cc)
      one_of notes others a b (is_checked v s g reported fine mode) (is_printed h mode') m n = absurd (cc)
      one_of notes others a b (is_run v s stated g reported fine mode run) (is_noted w t h other bad mode') m n =
          absurd (not_both w v h g bad fine)
      one_of notes others a b (is_run v s stated g reported fine mode run) (is_checked w t h other fine' mode') m n =
          absurd (cc)
      one_of notes others a b (is_run v s stated g reported fine mode run)
          (is_run w t stated' h other fine' mode' run') m n =
          (one_text v w s t g h reported other, one_run definitions a b run run' m n)
      one_of notes others a b (is_run v s stated g reported fine mode run) (is_again w t h other some mode') m n =
          absurd (cc)
      one_of notes others a b (is_run v s stated g reported fine mode run) (is_printed h mode') m n = absurd (cc)
      one_of notes others a b (is_again v s g reported some mode) (is_noted w t h other bad mode') m n =
          absurd (mode' mode)
      one_of notes others a b (is_again v s g reported some mode) (is_checked w t h other fine mode') m n = absurd (cc)
      one_of notes others a b (is_again v s g reported some mode) (is_run w t stated h other fine mode' run) m n =
          absurd (cc)
      one_of notes others a b (is_again v s g reported some mode) (is_again w t h other some' mode') m n = (
        one_reported w s t (subst (λ (ns : List Said). IsReported ns s) (one_again definitions v w g h) reported) other,
        refl,
      )
      one_of notes others a b (is_again v s g reported some mode) (is_printed h mode') m n =
          absurd (some (one_again definitions v [] g h))
      one_of notes others a b (is_printed g mode) (is_noted w t h other bad mode') m n = absurd (mode' mode)
      one_of notes others a b (is_printed g mode) (is_checked w t h other fine mode') m n = absurd (cc)
      one_of notes others a b (is_printed g mode) (is_run w t stated h other fine mode' run) m n = absurd (cc)
      one_of notes others a b (is_printed g mode) (is_again w t h other some mode') m n =
          absurd (some (one_again definitions w [] h g))
      one_of notes others a b (is_printed g mode) (is_printed h mode') m n = (refl, refl)

    -- one list of notes and one reply
    pub one_stated : (notes others : List ℕ) (a b : Reply) → Stated notes a → Stated others b
        → a.status ≢ 5 → b.status ≢ 5 → (notes ≡ others) × (a ≡ b)
    one_stated notes others a b (inl g) (inl h) m n =
        let same : g.fault ≡ h.fault = one_fault g.fault h.fault g.is_fault h.is_fault g.other h.other in
        let why : g.why ≡ h.why =
        one_why h.fault g.why h.why (subst (λ (f : ReadFault). Explains f g.why) same g.explains) h.explains in (
          g.none ∙ sym h.none,
          g.reported ∙ ap (λ f. refusal f g.why) same ∙ ap (refusal h.fault) why ∙ sym h.reported,
        )
    one_stated notes others a b (inl g) (inr h) m n =
        absurd (let other = g.other in other (no_fault h.definitions g.fault h.reads g.is_fault))
    one_stated notes others a b (inr g) (inl h) m n =
        absurd (let other = h.other in other (no_fault g.definitions h.fault g.reads h.is_fault))
    one_stated notes others a b (inr g) (inr h) m n =
        let same : h.definitions ≡ g.definitions = one_reading h.definitions g.definitions h.reads g.reads in
        one_of g.definitions notes others a b g.states
        (subst (λ (ds : Definitions). StatesOf ds others b) same h.states) m n
