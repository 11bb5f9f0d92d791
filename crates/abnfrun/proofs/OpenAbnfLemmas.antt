-- The answer to one line is the reply to the input that is that line.
-- Serves: answers_as_a_run, open_abnf
use Rattle.std.proofs.Common.{◌≡◌, ℕ, Bool, true, false, List, [], ◌∷◌, ◌++◌, refl, sym, ap, arith, ◌≤◌, ◌+◌, length}
use Rattle.std.proofs.Common.{drop, ◌∙◌}
use Rattle.std.specs.Prelude.{Some, None, Option}
use Rattle.std.proofs.lemmas.List.{append-nil, drop_all, length-append}
use Rattle.abnfcheck.specs.AbnfGrammar.{Grammar}
use Rattle.abnfrun.specs.AbnfExplainedNotes.{ExplainsAbnfNote}
use Rattle.abnfread.specs.AbnfViews.{rules_of}
use Rattle.abnfread.specs.declared.elem.Elem.{Elem}
use Rattle.abnfrun.specs.AbnfAnswers.{AbnfStates, judges}
use Rattle.abnfrun.specs.AbnfLanguage.{IsChecked}
use Rattle.abnfrun.specs.AbnfNoted.{all_rules, judged_of, rule_given}
use Rattle.abnfrun.specs.AbnfReply.{AnswersFor, CostlyFor, IsAnswerTo, RefusalFor, form_of, judged_size}
use Rattle.abnfrun.specs.OpenAbnf.{IsOpened, ReportsAlone, answer_alone, judged_line, line_alone}
use Rattle.abnfrun.specs.AbnfTextHints.{AreTextHints}
use Rattle.abnfrun.specs.OpenJudge.{OpenJudge}
use Rattle.linejudge.specs.InputLines.{
  GoesBy,
  HasNoEnd,
  StandsAt,
  with_end,
  none,
  one_more,
  at_front,
  next_position,
  is_over,
}
use Rattle.linejudge.specs.InputLines.{kept_line, kept_size, printed_last, printed_line, refused_by, status_after}
use Rattle.linejudge.specs.InputLines.{position_taken}
use Rattle.linejudge.specs.LineRefusals.{LinesReply, ReportsLine, count_unreported, none_reported, one_reported}
use Rattle.linejudge.specs.declared.answers.Answer.{Answer}
use Rattle.linejudge.specs.declared.answers.Answer.TheVariants.{Yes, No, NoAfter}
use Rattle.linejudge.specs.declared.line.LineForm.{LineForm}
use Rattle.linejudge.specs.declared.reached.LinePosition.{LinePosition}
use Rattle.linejudge.proofs.KeptLineLemmas.{kept_short}
use Rattle.linejudge.proofs.LineRunLemmas.{whole_states}
use Rattle.linejudge.proofs.LinesLemmas.{ends_quietly}
use Rattle.ruletable.specs.Notes.{Said}
use Rattle.ruletable.specs.Rules as table
use Rattle.toolrun.specs.Input.{Input}
use Rattle.toolrun.specs.Reply.{Reply}
use Rattle.toolrun.specs.Explained.{ExplainedIf}
use Rattle.toolrun.specs.RunEnd.{more_refused}
use Rattle.toolrun.specs.Status.{code_of}
use Rattle.toolrun.specs.ReportedNotes.{HintedNotes}
use Rattle.toolrun.specs.declared.settings.Mode.TheVariants.{Run}
use Rattle.abnfrun.specs.AbnfSettings.{AbnfSettings}
use Rattle.toolrun.specs.declared.stop.Stop.TheVariants.{Quiet}

-- of one rejected line no more are reported
none_more : (asked : Bool) (said : Answer) → more_refused (count_unreported asked (refused_by said)) ≡ []
none_more true Yes = refl
none_more true No = refl
none_more true (NoAfter n) = refl
none_more false said = refl

-- no lines explain a run that ends quietly
quiet_ends : (asked : Bool) → ExplainedIf asked (λ text. text ≡ []) []
quiet_ends true = refl
quiet_ends false = refl

module _ (Reported : List ℕ → Answer → Type 0) (asked : Bool) (Refusal : List ℕ → ℕ → List ℕ → Type 0)
    (NeedsMore : List ℕ → ℕ → Type 0) (form : LineForm) (line : List ℕ) (said : Answer) (why : List ℕ) where
  abbrev alone : Input
  alone = record { bytes = line ++ form.end ∷ []; fault = false }

  abbrev after : LinePosition
  after = next_position at_front (length line + 1) said

  abbrev judged : List ℕ
  judged = kept_line form line

  abbrev shown : List ℕ
  shown = printed_line form 1 judged said

  abbrev last : List ℕ
  last = printed_last form.name form.printed after

  abbrev reply_of : List ℕ → Reply
  reply_of reported = record {
    out = shown ++ last;
    err = reported;
    status = code_of (status_after (refused_by said));
    taken = length line + 1;
  }

  abbrev reply : Reply
  reply = reply_of why

  one_counted : after.refused ≡ refused_by said
  one_counted = omega arith

  all_is_taken : length (line ++ form.end ∷ []) ≡ length line + 1
  all_is_taken = length-append line (form.end ∷ [])

  nothing_is_left : drop after.position (line ++ form.end ∷ []) ≡ []
  nothing_is_left = drop_all after.position (line ++ form.end ∷ []) (omega (arith, all_is_taken))

  one_line_taken : length line + 1 ≡ position_taken form.limit alone after
  one_line_taken = omega (arith, all_is_taken)

  pub one_line_replies : HasNoEnd form.end line → length judged ≤ kept_size form form.limit → Reported judged said
      → ReportsLine Reported asked Refusal at_front judged said why
      → LinesReply Reported asked Refusal NeedsMore form alone reply
  one_line_replies one within reported reports =
      let short = kept_short form line form.limit within in
      let stands : StandsAt form alone 0 judged (length line + 1) =
      with_end line (record { after = []; cut = refl; one = one; within = short }) in
      let by : GoesBy form alone at_front judged (length line + 1) = record { goes = refl; stands = stands } in
      record {
        plain = reply_of [];
        replies = record {
          point = after;
          before = shown;
          last = last;
          stop = Quiet (status_after after.refused);
          steps = one_more at_front [] judged (length line + 1) said none by reported;
          ends = ends_quietly NeedsMore form alone after (is_over form after) refl (nothing_is_left, refl);
          out = refl;
          err = refl;
          status = ap (λ n. code_of (status_after n)) (sym one_counted);
          taken = one_line_taken;
        };
        before = why;
        reports = record {
          first = why;
          refusals = one_reported at_front [] judged (length line + 1) said why none_reported by reported reports;
          is = rw (one_counted, none_more asked said) (sym (append-nil why));
        };
        why = [];
        explains = quiet_ends asked;
        reported = ap reply_of (sym (append-nil why));
      }

-- a text that was checked, and whose grammar is rejected
pub refused_is_opened : (text : List ℕ) (settings : AbnfSettings) (notes : List Said) (rules : table.Rules Elem)
    (judged : Option ℕ) → IsChecked text (rule_given settings) notes rules judged → judged ≡ None
    → IsOpened text settings notes None
refused_is_opened text settings notes rules id is without = let refused = rw without at is.ready in record {
  definitions = is.definitions;
  reads = is.reads;
  are_notes = is.are_notes;
  ready = refused;
}

-- a text that was checked, and what judges lines by its grammar
pub judge_is_opened : (text : List ℕ) (settings : AbnfSettings) (notes : List Said) (rules : table.Rules Elem)
    (judged : Option ℕ) (id : ℕ) (grammar : Grammar) (judge : OpenJudge)
    → IsChecked text (rule_given settings) notes rules judged → judged ≡ Some id → grammar.rules ≡ rules
    → grammar.judged ≡ id
    → judge ≡ record {
      grammar = grammar;
      letters = settings.options.letters;
      viable = settings.options.viable;
      budget = settings.options.budget;
      limit = judged_size settings settings.limit;
    } → IsOpened text settings notes (Some judge)
judge_is_opened text settings notes rules known id grammar judge is some same at made =
    let ready = rw some at is.ready in
    rw made (record {
      definitions = is.definitions;
      reads = is.reads;
      are_notes = is.are_notes;
      ready = (
        ready.0,
        record {
          rules = ap rules_of same ∙ is.kept;
          judged = at ∙ ready.1;
          letters = refl;
          viable = refl;
          budget = refl;
          limit = refl;
        },
      );
    })

-- the answer of an open grammar to a line is what a run of its text states for that line alone
pub open_states : (text line : List ℕ) (settings : AbnfSettings) (notes : List Said) (reported : List ℕ)
    (judge : OpenJudge)
    (said : Answer) (why : List ℕ) → settings.mode ≡ Run → IsOpened text settings notes (Some judge)
    → HintedNotes settings (ExplainsAbnfNote text) (AreTextHints text settings) notes reported
    → HasNoEnd (form_of settings).end line
    → length (judged_line settings line) ≤ judge.limit
    → IsAnswerTo judge.letters judge.viable (rules_of judge.grammar.rules) judge.grammar.judged
    (judged_line settings line) said → ReportsAlone judge settings (judged_line settings line) said why
    → AbnfStates text settings (line_alone settings line) reported (answer_alone settings line said why)
open_states text line settings notes reported judge said why run is reports one within answers explains =
    let j = is.ready.1 in
    let rules = all_rules is.definitions in
    let judged = judged_of is.definitions (rule_given settings) in
    judges is.definitions notes reported (answer_alone settings line said why) is.reads is.are_notes reports is.ready.0
    run
    (whole_states (AnswersFor rules judged settings) settings.explain (RefusalFor rules judged settings)
    (CostlyFor rules judged settings) (form_of settings) (line_alone settings line) _
    (one_line_replies (AnswersFor rules judged settings) settings.explain (RefusalFor rules judged settings)
    (CostlyFor rules judged settings) (form_of settings) line said why one (rw (← j.limit) within)
    (rw (j.letters, j.viable, j.rules, j.judged) at answers) (rw (j.letters, j.rules, j.judged) at explains)))
