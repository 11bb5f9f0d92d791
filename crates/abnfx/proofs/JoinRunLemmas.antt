-- What a run writes, and how it stops.
-- Serves: run_join
use Rattle.std.proofs.Common.{◌≡◌, ◌≢◌, ℕ, Bool, true, false, Option, List, [], ◌∷◌, ◌++◌, length, refl, sym, ap, arith}
use Rattle.std.proofs.Common.{subst}
use Rattle.std.specs.Prelude.{Result, Ok, Err}
use Rattle.std.specs.Io.KnownBytes.{Appends}
use Rattle.ruletable.proofs.AppendsLemmas.{Appends-same}
use Rattle.ruletable.specs.Writing.{AppendsPart}
use Rattle.ruletable.specs.declared.fault.ReadFault.{ReadFault}
use Rattle.ruletable.specs.declared.fault.ReadFault.TheVariants.{Syntax, Depth, CodePredicate, TooLong, Memory}
use Rattle.ruletable.specs.declared.fault.ReadFault.TheVariants.{NumberTooLarge}
use Rattle.ruletable.specs.declared.sink.WriteFault.{WriteFault}
use Rattle.abnfread.specs.AbnfReading.{IsFaultOf, Reads}
use Rattle.abnfread.specs.AbnfTable.{firsts}
use Rattle.abnfread.specs.CoreRules.{core_list}
use Rattle.abnfread.specs.Element.{Definition, Rule, body_of}
use Rattle.abnfprint.specs.CanonicalAbnf.{grammar_text}
use Rattle.toolrun.specs.Input.{Input}
use Rattle.toolrun.specs.Plan.{IsPlan, stopped}
use Rattle.toolrun.specs.Reply.{Reply}
use Rattle.toolrun.specs.Status.{code_of}
use Rattle.toolrun.specs.Stop.{unread}
use Rattle.toolrun.specs.Stopped.{Performs}
use Rattle.toolrun.specs.Stream.{no_input}
use Rattle.toolrun.specs.declared.status.Status.{Status}
use Rattle.toolrun.specs.declared.stop.Stop.{Stop}
use Rattle.toolrun.specs.declared.stop.Stop.TheVariants.{NoMemory, Quiet, Refused}
use Rattle.abnftexts.specs.JoinRun.{IsWrittenAs, JoinStates, JoinedReply, TriedReply, grammar_form, joined_status}
use Rattle.abnftexts.specs.JoinRun.{text_written, too_long, tries}
use Rattle.abnftexts.specs.JoinRun.{as_it_is, canonical, joins, no_room, nothing, refused, writes}
use Rattle.abnftexts.specs.JoinRun as run
use Rattle.rfcforms.specs.declared.lists.written.ListForm.{ListForm}
use Rattle.abnftexts.specs.JoinedGrammar.{AreTextsJoined, GrammarJoined}
use Rattle.abnftexts.specs.RuleReports.{AreReports}
use Rattle.abnftexts.specs.RulesGathered.{NamedText}
use Rattle.abnftexts.specs.declared.joined.JoinForm.{JoinForm}
use Rattle.abnftexts.specs.declared.joined.JoinForm.TheVariants.{Plain, Canonical, Listed}
use Rattle.abnftexts.proofs.SpelledRulesLemmas.{joined-long}

-- it is not out of memory
abbrev pub IsTextFault : ReadFault → Type 0
IsTextFault (Syntax line) = Unit {0}
IsTextFault (Depth line) = Unit {0}
IsTextFault (CodePredicate line) = Unit {0}
IsTextFault TooLong = Unit {0}
IsTextFault Memory = ⊥
IsTextFault (NumberTooLarge line) = Unit {0}

no_memory-reported : (fault : ReadFault) → IsTextFault fault → fault ≡ Memory → ⊥
no_memory-reported fault is e = subst IsTextFault e is

module _ (form : JoinForm) (j : GrammarJoined) where
  abbrev pub DoesJoin : Input → Reply → Type 0
  DoesJoin input reply = TriedReply form j reply

  pub all-written : (text : List ℕ) (status : Status) (s0 s1 : Option (List ℕ)) (was failed : Bool)
      → IsWrittenAs j form text → status ≡ joined_status j → Appends s0 s1 text → failed ≡ was →
      let r : Result Stop WriteFault = Ok (Quiet status) in
      Performs DoesJoin no_input (record { old = s0; new = s1; was = was; failed = failed }) r
  all-written text status s0 s1 was failed is same more flag = record {
    stopped = (
      [],
      text,
      refl,
      more,
      record {
        stated = text_written text (joined_status j);
        states = tries (writes is);
        written = (refl, refl, ap code_of (sym same));
        within = omega arith;
        exact = λ other. refl;
      },
    );
    flag = flag;
  }

  pub part-written : (text : List ℕ) (fault : WriteFault) (s0 s1 : Option (List ℕ)) (was failed : Bool)
      → IsWrittenAs j form text → AppendsPart s0 s1 text → failed ≡ true →
      let r : Result Stop WriteFault = Err fault in
      Performs DoesJoin no_input (record { old = s0; new = s1; was = was; failed = failed }) r
  part-written text fault s0 s1 was failed is part flag = record {
    stopped = (
      [],
      part.0,
      refl,
      part.2,
      record {
        stated = text_written text (joined_status j);
        states = tries (writes is);
        written = part.1;
        within = omega arith;
        exact = tt;
      },
    );
    flag = flag;
  }

  pub stop-stated : (stop : Stop) (s : Option (List ℕ)) (was : Bool) → TriedReply form j (stopped stop) →
      let r : Result Stop WriteFault = Ok stop in
      Performs DoesJoin no_input (record { old = s; new = s; was = was; failed = was }) r
  stop-stated stop s was is = record {
    stopped = (
      [],
      [],
      refl,
      Appends-same s,
      record {
        stated = stopped stop;
        states = is;
        written = (refl, refl, refl);
        within = omega arith;
        exact = λ other. refl;
      },
    );
    flag = refl;
  }

  pub fault-stated : (fault : ReadFault) → form ≢ Listed → j.grammar ≢ [] → IsFaultOf j.grammar fault
      → TriedReply form j (stopped (unread fault))
  fault-stated (Syntax line) no_list some is =
      refused {fault = Syntax line} no_list some is (no_memory-reported (Syntax line) tt)
  fault-stated (Depth line) no_list some is =
      refused {fault = Depth line} no_list some is (no_memory-reported (Depth line) tt)
  fault-stated (CodePredicate line) no_list some is = absurd is
  fault-stated TooLong no_list some is = refused {fault = TooLong} no_list some is (no_memory-reported TooLong tt)
  fault-stated Memory no_list some is = tries run.no_memory
  fault-stated (NumberTooLarge line) no_list some is =
      refused {fault = NumberTooLarge line} no_list some is (no_memory-reported (NumberTooLarge line) tt)

  pub fault-stops : (text : List ℕ) (fault : ReadFault) (stop : Stop) (s : Option (List ℕ)) (was : Bool)
      → form ≢ Listed → j.grammar ≢ [] → text ≡ j.grammar → IsFaultOf text fault → stop ≡ unread fault →
      let r : Result Stop WriteFault = Ok stop in
      Performs DoesJoin no_input (record { old = s; new = s; was = was; failed = was }) r
  fault-stops text fault stop s was no_list some same is e =
      stop-stated stop s was (subst (λ (x : Stop). TriedReply form j (stopped x)) (sym e)
      (fault-stated fault no_list some (subst (λ (t : List ℕ). IsFaultOf t fault) same is)))

  pub nothing-written : (text : List ℕ) → form ≢ Listed → text ≡ j.grammar → length j.grammar ≡ 0
      → IsWrittenAs j form text
  nothing-written [] no_list same e = nothing no_list (sym same)
  nothing-written (b ∷ text) no_list same e = absurd (let n = ap length same in omega (arith, n, e))

-- the form of a grammar is no list
abbrev pub IsGrammarForm : JoinForm → Type 0
IsGrammarForm Plain = Unit {0}
IsGrammarForm Canonical = Unit {0}
IsGrammarForm Listed = ⊥

no_list-form : (form : JoinForm) → IsGrammarForm form → form ≢ Listed
no_list-form form is e = subst IsGrammarForm e is

pub grammar-no_list : (is_canonical : Bool) → grammar_form is_canonical ≢ Listed
grammar-no_list true = no_list-form Canonical tt
grammar-no_list false = no_list-form Plain tt

module _ (j : GrammarJoined) where
  pub plain-written : (read text : List ℕ) (definitions : List Definition) → j.grammar ≢ [] → read ≡ j.grammar
      → Reads read definitions → text ≡ j.grammar → IsWrittenAs j Plain text
  plain-written read text definitions some same reads is =
      subst (λ (t : List ℕ). IsWrittenAs j Plain t) (sym is)
      (as_it_is some (subst (λ (t : List ℕ). Reads t definitions) same reads))

  pub canonical-written : (read : List ℕ) (definitions : List Definition) (rules : List Rule) → j.grammar ≢ []
      → read ≡ j.grammar → Reads read definitions → rules ≡ firsts (body_of core_list) [] definitions
      → IsWrittenAs j Canonical (grammar_text rules)
  canonical-written read definitions rules some same reads is =
      subst (λ (rs : List Rule). IsWrittenAs j Canonical (grammar_text rs)) (sym is)
      (canonical some (subst (λ (t : List ℕ). Reads t definitions) same reads))

module _ (texts : List NamedText) (lists : Option ListForm) (form : JoinForm) (explains : Bool) where
  -- a joined grammar has no fault but its length
  tried-joined : {j : GrammarJoined} {reply : Reply} → AreTextsJoined lists texts j → TriedReply form j reply
      → JoinedReply form j reply
  tried-joined are (tries is) = is
  tried-joined {j = j} are (refused {fault = fault} no_list some f n) =
      let long : fault ≡ TooLong = joined-long fault are some f n in
      subst (λ (w : ReadFault). JoinedReply form j (stopped (Refused w))) (sym long)
      (too_long no_list some (subst (λ (w : ReadFault). IsFaultOf j.grammar w) long f))

  pub joined-planned : (j : GrammarJoined) (reports : List ℕ) → AreTextsJoined lists texts j
      → AreReports explains j.reports reports
      → IsPlan (JoinStates texts lists form explains) (reports ++ j.reported) (DoesJoin form j)
  joined-planned j reports are of = record {
    stated = λ input reply is. joins are of (tried-joined are is);
    some = λ input. (stopped NoMemory, tries run.no_memory);
  }

  abbrev pub StopsEarly : Input → Reply → Type 0
  StopsEarly input reply = reply ≡ stopped NoMemory

  pub early-planned : IsPlan (JoinStates texts lists form explains) [] StopsEarly
  early-planned = record {
    stated = λ input reply is. rw is no_room;
    some = λ input. (stopped NoMemory, refl);
  }
