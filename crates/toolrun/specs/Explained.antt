-- What explains a message.
use Rattle.std.specs.Prelude.{◌≡◌, ℕ, Bool, true, false, ◌⊎◌, List, []}
use Rattle.ruletable.specs.declared.fault.ReadFault.TheVariants.{TooLong}
use Rattle.toolrun.specs.Reply.{Reply, refusal, unexplained_fault}
use Rattle.toolrun.specs.declared.settings.Settings.{Settings}

-- these settings, but for whether messages are explained
abbrev pub explained_by : {O : Type 0} → Bool → Settings O → Settings O
explained_by asked settings = record {
  mode = settings.mode;
  limit = settings.limit;
  start = settings.start;
  input = settings.input;
  explain = asked;
  options = settings.options;
  in_range = settings.in_range;
}

abbrev pub ExplainedIf : Bool → (List ℕ → Type 0) → List ℕ → Type 0
ExplainedIf true Why why = Why why
ExplainedIf false Why why = why ≡ []

-- the lines that explain, where they are asked for, and else none
abbrev pub Explained : {O : Type 0} → Settings O → (List ℕ → Type 0) → List ℕ → Type 0
Explained settings Why why = ExplainedIf settings.explain Why why

-- The reply to a text that is too long: its message, which is explained if that is asked, where there is memory.
abbrev pub IsLongReply : {O : Type 0} → Settings O → (List ℕ → Type 0) → Reply → Type 0
IsLongReply settings Why reply = ((why : List ℕ) × Explained settings Why why × (reply ≡ refusal TooLong why))
    ⊎ ((settings.explain ≡ true) × (reply ≡ unexplained_fault TooLong))
