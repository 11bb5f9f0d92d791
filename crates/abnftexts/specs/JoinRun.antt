-- What a run states that joins texts.
use Rattle.std.specs.Prelude.{◌≡◌, ◌≢◌, ℕ, ◌==◌, ◌||◌, Bool, List, Option, [], ◌++◌, length, if◌then◌else◌}
use Rattle.ruletable.specs.declared.fault.ReadFault.{ReadFault}
use Rattle.ruletable.specs.declared.fault.ReadFault.TheVariants as faults
use Rattle.abnfread.specs.AbnfReading.{Reads, IsFaultOf}
use Rattle.abnfread.specs.AbnfTable.{firsts}
use Rattle.abnfread.specs.CoreRules.{core_list}
use Rattle.abnfread.specs.Element.{Definition, body_of}
use Rattle.abnfprint.specs.CanonicalAbnf.{grammar_text}
use Rattle.toolrun.specs.Input.{Input}
use Rattle.toolrun.specs.Plan.{stopped}
use Rattle.toolrun.specs.Reply.{Reply}
use Rattle.toolrun.specs.Status.{code_of}
use Rattle.toolrun.specs.declared.status.Status.{Status}
use Rattle.toolrun.specs.declared.status.Status.TheVariants as status
use Rattle.toolrun.specs.declared.stop.Stop.TheVariants.{NoMemory, Refused}
use Rattle.abnftexts.specs.JoinedGrammar.{AreTextsJoined, GrammarJoined}
use Rattle.rfcforms.specs.declared.lists.written.ListForm.{ListForm}
use Rattle.abnftexts.specs.RuleReports.{AreReports}
use Rattle.abnftexts.specs.RulesGathered.{NamedText}
use Rattle.abnftexts.specs.declared.joined.JoinForm.{JoinForm}
use Rattle.abnftexts.specs.declared.joined.JoinForm.TheVariants.{Plain, Canonical, Listed}

-- the canonical text of a grammar's definitions
abbrev pub canonical_of : List Definition → List ℕ
canonical_of definitions = grammar_text (firsts (body_of core_list) [] definitions)

-- What is written in that form. A grammar that is written reads; one without rules has no text.
pub data IsWrittenAs (j : GrammarJoined) : JoinForm → List ℕ → Type 0 where
  a_list : IsWrittenAs j Listed j.listed
  nothing : {form : JoinForm} → form ≢ Listed → j.grammar ≡ [] → IsWrittenAs j form []
  as_it_is : {definitions : List Definition} → j.grammar ≢ [] → Reads j.grammar definitions
      → IsWrittenAs j Plain j.grammar
  canonical : {definitions : List Definition} → j.grammar ≢ [] → Reads j.grammar definitions
      → IsWrittenAs j Canonical (canonical_of definitions)

-- the form of a grammar that is canonical, or not
abbrev pub grammar_form : Bool → JoinForm
grammar_form is_canonical = if is_canonical then Canonical else Plain

-- A rule that is no ABNF, two definitions of a name, and that there is no rule count alike.
abbrev pub joined_status : GrammarJoined → Status
joined_status j = if j.is_faulty || (length j.grammar == 0) then status.NoMatch else status.Done

abbrev pub text_written : List ℕ → Status → Reply
text_written text status = record { out = text; err = []; status = code_of status; taken = 0 }

-- After the reports on the texts: the text is written, or a grammar that has some rule is too long, and rejected for
-- that. A list is never rejected.
pub data JoinedReply (form : JoinForm) (j : GrammarJoined) : Reply → Type 0 where
  writes : {text : List ℕ} → IsWrittenAs j form text → JoinedReply form j (text_written text (joined_status j))
  too_long : form ≢ Listed → j.grammar ≢ [] → IsFaultOf j.grammar faults.TooLong
      → JoinedReply form j (stopped (Refused faults.TooLong))
  no_memory : JoinedReply form j (stopped NoMemory)

-- The same for a grammar of which it is not known that it has no other fault.
pub data TriedReply (form : JoinForm) (j : GrammarJoined) : Reply → Type 0 where
  tries : {reply : Reply} → JoinedReply form j reply → TriedReply form j reply
  refused : {fault : ReadFault} → form ≢ Listed → j.grammar ≢ [] → IsFaultOf j.grammar fault → fault ≢ faults.Memory
      → TriedReply form j (stopped (Refused fault))

-- What is stated for texts, a form of lists, and a form: the reports on the texts first, with explanations or without,
-- and the reply. There is no input.
pub data JoinStates (texts : List NamedText) (lists : Option ListForm) (form : JoinForm) (explains : Bool)
    (input : Input) : List ℕ → Reply → Type 0 where
  joins : {j : GrammarJoined} {reports : List ℕ} {reply : Reply} → AreTextsJoined lists texts j
      → AreReports explains j.reports reports → JoinedReply form j reply
      → JoinStates texts lists form explains input (reports ++ j.reported) reply
  no_room : JoinStates texts lists form explains input [] (stopped NoMemory)
