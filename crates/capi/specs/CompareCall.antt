-- What a call that compares two grammars leaves.
use Rattle.std.specs.Prelude.{◌≡◌, ◌⊎◌, ℕ, false, List, [], ◌∷◌, ◌++◌, length, Option, Some}
use Rattle.abnfcheck.specs.AbnfGrammar.{Grammar}
use Rattle.abnfrun.specs.AbnfSettings.{AbnfSettings}
use Rattle.capi.specs.Asking.{AbnfMeant, IsInvalid, IsMeant, alphabet_by}
use Rattle.capi.specs.BufferRun.{Filled, IsLaid, IsUntouched, laid}
use Rattle.capi.specs.GrammarsCompared.{AreFoundBetween, IsGrammarOpening, opened_code}
use Rattle.capi.specs.declared.alone.CAlone.{CAlone}
use Rattle.capi.specs.declared.asked.CSettings.{CSettings}
use Rattle.capi.specs.declared.compare_call.CComparison.{CComparison}
use Rattle.ruletable.specs.declared.alphabet.Alphabet.{Alphabet}
use Rattle.rulelines.specs.LineBytes.{line_bytes}
use Rattle.rulelines.specs.declared.alone.Alone.{Alone}
use Rattle.rulelines.specs.declared.alone.Alone.TheVariants.{First, Never, NeverUpTo, Unknown}
use Rattle.rulelines.specs.declared.comparison.Comparison.{Comparison}
use Rattle.toolrun.specs.Status.{code_of}
use Rattle.toolrun.specs.declared.status.Status.{Status}

-- the settings of one side: an empty name is none, and neither a budget nor a seed matters
abbrev pub asked_for : CSettings → List ℕ → CSettings
asked_for asked [] = record asked { named = false; budget = 0; seed = 0 }
asked_for asked (c ∷ name) = record asked { budget = 0; seed = 0 }

-- the bytes of the first line that one rule alone derives, if it is known
abbrev pub first_line_bytes : Alphabet → Alone → List ℕ
first_line_bytes letters (First w) = line_bytes letters w.items
first_line_bytes letters Never = []
first_line_bytes letters (NeverUpTo n) = []
first_line_bytes letters Unknown = []

-- what is known of the lines that one rule alone derives, as C has it
abbrev pub c_alone : Alphabet → Alone → CAlone
c_alone letters (First w) = record { len = length (line_bytes letters w.items); known = 3 }
c_alone letters Never = record { len = 0; known = 1 }
c_alone letters (NeverUpTo n) = record { len = n; known = 2 }
c_alone letters Unknown = record { len = 0; known = 0 }

-- the result of a call that compares nothing: a status alone
abbrev pub c_uncompared : ℕ → CComparison
c_uncompared code = record {
  old_alone = record { len = 0; known = 0 };
  new_alone = record { len = 0; known = 0 };
  err_len = 0;
  old_err_len = 0;
  status = code;
}

-- a buffer for a line before and after
pub record LineRoom : Type 0 where
  pub old : List ℕ
  pub new : List ℕ

-- the buffers of a comparison
pub record CompareRooms : Type 0 where
  pub old_line : LineRoom
  pub new_line : LineRoom
  pub err : Filled

-- nothing was laid into the buffers
pub record AreRoomsUntouched (rooms : CompareRooms) : Type 0 where
  pub old_line : rooms.old_line.new ≡ rooms.old_line.old
  pub new_line : rooms.new_line.new ≡ rooms.new_line.old
  pub err : IsUntouched rooms.err

-- a text was opened with the settings that C asks for, by the rule of a name
pub record IsSideOpened (asked : CSettings) (name text reported : List ℕ) (grammar : Option Grammar) : Type 0 where
  pub settings : AbnfSettings
  pub meant : IsMeant AbnfMeant (asked_for asked name) name settings
  pub opening : IsGrammarOpening text settings reported grammar (opened_code grammar)

-- As much as there is room for was laid into the buffers: of the first line that each rule alone derives, and of the
-- messages on both grammars, the old one's first. The result says the rest.
pub record IsReportLaid (letters : Alphabet) (old_reported new_reported : List ℕ) (found : Comparison) (status : Status)
    (rooms : CompareRooms) (result : CComparison) : Type 0 where
  pub old_line : rooms.old_line.new ≡ laid (first_line_bytes letters found.old_alone) rooms.old_line.old
  pub new_line : rooms.new_line.new ≡ laid (first_line_bytes letters found.new_alone) rooms.new_line.old
  pub err : IsLaid (old_reported ++ new_reported) rooms.err
  pub old_alone : result.old_alone ≡ c_alone letters found.old_alone
  pub new_alone : result.new_alone ≡ c_alone letters found.new_alone
  pub old_err_len : result.old_err_len ≡ length old_reported
  pub status_is : result.status ≡ code_of status

-- Both texts were opened with the settings that C asks for, and their grammars compared, unless one is rejected. Or C
-- asks for no settings, or an allocation failed, and nothing was laid into the buffers.
pub data IsCompareCall (asked : CSettings) (old_name new_name old new : List ℕ) (rooms : CompareRooms)
    (result : CComparison) : Type 0 where
  compares : {letters : Alphabet} {old_reported new_reported : List ℕ} {old_grammar new_grammar : Option Grammar}
      {found : Comparison} {status : Status} → alphabet_by asked.letters ≡ Some letters
      → IsSideOpened asked old_name old old_reported old_grammar
      → IsSideOpened asked new_name new new_reported new_grammar
      → AreFoundBetween letters old_grammar new_grammar found status
      → IsReportLaid letters old_reported new_reported found status rooms result
      → IsCompareCall asked old_name new_name old new rooms result
  not_asked : IsInvalid (asked_for asked old_name) old_name ⊎ IsInvalid (asked_for asked new_name) new_name
      → AreRoomsUntouched rooms → result ≡ c_uncompared 6 → IsCompareCall asked old_name new_name old new rooms result
  no_memory : AreRoomsUntouched rooms → result ≡ c_uncompared 5
      → IsCompareCall asked old_name new_name old new rooms result
