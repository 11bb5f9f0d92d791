-- The lines so far, the step that follows them, and the run of them all.
-- Serves: run_lines, run_abnf (right), one_statement_of_abnf
use Rattle.std.proofs.Common.{◌≡◌, ◌≢◌, ℕ, ◌+◌, ◌≤◌, Bool, true, false, Option, List, [], ◌++◌, length, refl, sym, ap}
use Rattle.std.proofs.Common.{◌∙◌, subst, arith, inl, inr, ◌⊎◌}
use Rattle.std.specs.Prelude.{Result, Ok, Err, ◌&&◌, if◌then◌else◌, not}
use Rattle.std.proofs.lemmas.List.{append-nil}
use Rattle.std.specs.Io.KnownBytes.{Appends, Consumes}
use Rattle.ruletable.specs.Writing.{AppendsPart, Flags}
use Rattle.ruletable.specs.declared.sink.WriteFault.{WriteFault}
use Rattle.ruletable.proofs.AppendsLemmas.{Appends-join, Appends-kept, AppendsPart-join, IsPrefixOf-nil}
use Rattle.ruletable.proofs.AppendsLemmas.{IsPrefixOf-same}
use Rattle.feed.specs.Feed.{IsReportedBy, input_limit}
use Rattle.feed.specs.declared.held.Flow.{Flow}
use Rattle.toolrun.specs.Agrees.{Agrees}
use Rattle.toolrun.specs.Explained.{ExplainedIf}
use Rattle.toolrun.specs.Input.{Input}
use Rattle.toolrun.specs.Reply.{Reply, SameButWhy, cut_reply, explained_reply}
use Rattle.toolrun.specs.RunEnd.{more_refused}
use Rattle.toolrun.specs.RunSteps.{
  Begins,
  EndsReported,
  HasReportedRun,
  Replies,
  cut_short,
  replied_reported,
  unexplained,
}
use Rattle.toolrun.specs.Status.{code_of}
use Rattle.toolrun.specs.Stop.{message_of, status_of}
use Rattle.toolrun.specs.Stopped.{Fulfils}
use Rattle.toolrun.specs.Stream.{Stream, passed}
use Rattle.toolrun.specs.declared.ending.Ending.{Ending}
use Rattle.toolrun.specs.declared.ending.Ending.TheVariants.{Plain, Explained, Unexplained}
use Rattle.toolrun.specs.declared.stop.Stop.{Stop}
use Rattle.toolrun.specs.declared.stop.Stop.TheVariants.{NoMemory}
use Rattle.toolrun.proofs.ExplainedIfLemmas.{if_asked, if_not_asked, not_asked_nothing}
use Rattle.toolrun.proofs.StopsAsLemmas.{run_reported, did_not_report}
use Rattle.linejudge.specs.InputLines.{GoesBy, LinesEnd, Lines, at_front, next_position, printed_line, none, one_more}
use Rattle.linejudge.specs.InputLines.{position_taken, taken_at}
use Rattle.linejudge.specs.LineRefusals.{CutRefusals, EndsAt, LinesReply, LinesStates, LinesTo, NeverLacks, Refusals}
use Rattle.linejudge.specs.LineRefusals.{
  RunPoint,
  ReportsTo,
  ReportedUpTo,
  WhyTo,
  count_unreported,
  is_reported,
}
use Rattle.linejudge.specs.LineRefusals.{none_after, none_reported, one_lacks, one_reported, stop_lines, taken_by}
use Rattle.linejudge.specs.LineSteps.{AddsBy, AddsLines, IsStep, IsReportedEnding, StepText, of_end, of_line}
use Rattle.linejudge.specs.declared.answers.Answer.{Answer}
use Rattle.linejudge.specs.declared.line.LineForm.{LineForm}
use Rattle.linejudge.specs.declared.line_loop.LineStep.TheVariants.{Answers, Stops}
use Rattle.linejudge.specs.declared.reached.LinePosition.{LinePosition}
use Rattle.linejudge.specs.declared.reached.Explanations.{Explanations}
use Rattle.linejudge.proofs.LinesLemmas.{lines_go_on, goes_further}

module _ (Reported : List ℕ → Answer → Type 0) (asked : Bool) (Refusal : List ℕ → ℕ → List ℕ → Type 0)
    (NeedsMore : List ℕ → ℕ → Type 0) (form : LineForm) (input : Input) where
  abbrev Runs : ℕ → Option (List ℕ) → Option (List ℕ) → Result Ending WriteFault → Type 0
  Runs taken a b r = HasReportedRun (LinesTo Reported form input) (EndsAt NeedsMore form input)
      (taken_by form.limit input)
      (ReportsTo Reported asked Refusal form input) (WhyTo asked input) (NeverLacks input) taken a b r

  abbrev EndsSo : RunPoint → List ℕ → Ending → Type 0
  EndsSo point last ending = EndsReported (LinesTo Reported form input) (EndsAt NeedsMore form input)
      (taken_by form.limit input)
      (ReportsTo Reported asked Refusal form input) (WhyTo asked input) (NeverLacks input) point last ending

  -- where it is not asked, no line is explained
  unreported_lines : asked ≡ false → (at : LinePosition) (reported : List ℕ)
      → Refusals Reported asked Refusal form input at reported
      → reported ≡ []
  unreported_lines not at reported none_reported = refl
  unreported_lines not at reported (one_reported before first line n said text lines stands says reports) =
      let nothing : first ≡ [] = unreported_lines not before first lines in
      let none : text ≡ [] = not_asked_nothing (is_reported asked before.refused said) (Refusal line (before.count + 1))
      text (rw not refl) reports in
      rw (nothing, none) refl

  -- .. and no explanation is missing
  nothing_lacks : asked ≡ false → (at : LinePosition) (reported : List ℕ)
      → CutRefusals Reported asked Refusal form input at reported → ⊥
  nothing_lacks not at reported (one_lacks before first line n said lines stands says is) =
      let none : is_reported asked before.refused said ≡ false = rw not refl in absurd (cc)
  nothing_lacks not at reported (none_after before all line n said lines stands says) =
      nothing_lacks not before all lines

  none_reported_by : asked ≡ false → (b : Bool) (at : LinePosition) (reported : List ℕ)
      → ReportedUpTo Reported asked Refusal form input b at reported → reported ≡ []
  none_reported_by not false at reported first = unreported_lines not at reported first
  none_reported_by not true at reported first = absurd (nothing_lacks not at reported first)

  all_unreported : asked ≡ false → (point : RunPoint) (reported : List ℕ)
      → ReportsTo Reported asked Refusal form input point reported
      → reported ≡ []
  all_unreported not point reported reports =
      reports.is ∙ rw (none_reported_by not point.lacks point.at reports.first reports.refusals, not) refl

  -- nothing explains where it is not asked
  nothing_explains : (b : Bool) (Why : List ℕ → Type 0) (why : List ℕ) → b ≡ false → why ≡ [] → ExplainedIf b Why why
  nothing_explains true Why why is empty = absurd (cc)
  nothing_explains false Why why is empty = empty

  -- no lines explain that an allocation failed
  no_lines : (b : Bool) → (if b then [] else stop_lines NoMemory) ≡ []
  no_lines true = refl
  no_lines false = refl

  -- what explains a stop by these lines, where that is asked
  some_lines : (b : Bool) (lines : List ℕ) → (why : List ℕ) × ExplainedIf b (λ t. t ≡ lines) why
  some_lines true lines = (lines, refl)
  some_lines false lines = ([], refl)

  -- the explanations after one more line
  reported_more : (o b : Bool) (at : LinePosition) (line : List ℕ) (n : ℕ) (said : Answer) (old new : List ℕ)
      → ReportedUpTo Reported asked Refusal form input o at old → GoesBy form input at line n → Reported line said
      → AddsBy Reported asked Refusal o b at line said old new
      → ReportedUpTo Reported asked Refusal form input b (next_position at n said) new
  reported_more false false at line n said old new lines stands says adds =
      subst (λ t. Refusals Reported asked Refusal form input (next_position at n said) t) (sym adds.added)
      (one_reported at old line n said adds.text lines stands says adds.is)
  reported_more false true at line n said old new lines stands says (is, same) =
      subst (λ t. CutRefusals Reported asked Refusal form input (next_position at n said) t) (sym same)
      (one_lacks at old line n said lines stands says is)
  reported_more true false at line n said old new lines stands says (lacks, same) = absurd (cc)
  reported_more true true at line n said old new lines stands says (lacks, same) =
      subst (λ t. CutRefusals Reported asked Refusal form input (next_position at n said) t) (sym same)
      (none_after at old line n said lines stands says)

  -- a reply, at a point
  on_point : (b : Bool) (reply : Reply)
      → Replies (Lines Reported form input) (LinesEnd NeedsMore form input) (position_taken form.limit input) reply
      → Replies (LinesTo Reported form input) (EndsAt NeedsMore form input) (taken_by form.limit input) reply
  on_point b reply r = record {
    point = record { at = r.point; lacks = b };
    before = r.before;
    last = r.last;
    stop = r.stop;
    steps = r.steps;
    ends = r.ends;
    out = r.out;
    err = r.err;
    status = r.status;
    taken = r.taken;
  }

  -- .. and without its point
  off_point : (reply : Reply) → Replies (LinesTo Reported form input) (EndsAt NeedsMore form input)
      (taken_by form.limit input) reply
      → Replies (Lines Reported form input) (LinesEnd NeedsMore form input) (position_taken form.limit input) reply
  off_point reply r = record {
    point = r.point.at;
    before = r.before;
    last = r.last;
    stop = r.stop;
    steps = r.steps;
    ends = r.ends;
    out = r.out;
    err = r.err;
    status = r.status;
    taken = r.taken;
  }

  and_true : (b : Bool) → (b && true) ≡ b
  and_true true = refl
  and_true false = refl

  -- a run states its reply where no allocation fails
  pub whole_states : (reply : Reply) → LinesReply Reported asked Refusal NeedsMore form input reply
      → LinesStates Reported asked Refusal NeedsMore form input reply
  unfolding on_point
  whole_states reply r = replied_reported reply (record {
    plain = r.plain;
    replies = on_point false r.plain r.replies;
    before = r.before;
    reports = record {
      first = r.reports.first;
      refusals = r.reports.refusals;
      is = subst (λ (b : Bool). r.before ≡ r.reports.first ++ more_refused (count_unreported b r.replies.point.refused))
          (sym (and_true asked)) r.reports.is;
    };
    why = r.why;
    explains = subst (λ (b : Bool). ExplainedIf b (λ t. t ≡ stop_lines r.replies.stop) r.why)
        (sym (and_true asked)) r.explains;
    reported = r.reported;
  })

  -- where no allocation fails but in an explanation, a run states its reply without explanations, but for these
  pub same_but_why : (reply : Reply) → LinesStates Reported asked Refusal NeedsMore form input reply →
      reply.status ≢ 5 →
      (plain : Reply) × Replies (Lines Reported form input) (LinesEnd NeedsMore form input)
      (position_taken form.limit input) plain
      × SameButWhy asked reply plain
  same_but_why reply (replied_reported r g) ample = (
    g.plain,
    off_point g.plain g.replies,
    record {
      out = ap (λ a. a.out) g.reported;
      status = ap (λ a. a.status) g.reported;
      taken = ap (λ a. a.taken) g.reported;
      err = λ unasked.
          let before = all_unreported unasked g.replies.point g.before g.reports in
          let why : g.why ≡ [] = not_asked_nothing (asked && not g.replies.point.lacks)
          (λ t. t ≡ stop_lines g.replies.stop) g.why (rw unasked refl) g.explains in
          ap (λ a. a.err) g.reported ∙ rw (before, why) (append-nil g.plain.err);
    },
  )
  same_but_why reply (unexplained plain replies reported reports lack) ample = absurd lack
  same_but_why reply (cut_short point out reported all before reports replies front) ample = absurd (ample refl)

  module _ (at : LinePosition) (old mid : Option (List ℕ)) (text : List ℕ) (reported : Explanations)
      (lines : Lines Reported form input at text)
      (refusals : ReportedUpTo Reported asked Refusal form input reported.lacks at reported.text.items)
      (wrote : Appends old mid text)
    where
      abbrev here : RunPoint
      here = record { at = at; lacks = reported.lacks }

      pub one_more_line : (new : Option (List ℕ)) (more : Explanations) (said : Answer) (n : ℕ)
          → IsStep Reported asked Refusal NeedsMore form input at mid new reported more (Ok (Answers said n)) →
          (longer : List ℕ) × Lines Reported form input (next_position at n said) longer
          × ReportedUpTo Reported asked Refusal form input more.lacks (next_position at n said) more.text.items
          × Appends old new longer
      one_more_line new more said n (line, stands, says, adds, writes) = (
        text ++ printed_line form (at.count + 1) line said,
        one_more at text line n said lines stands says,
        reported_more reported.lacks more.lacks at line n said reported.text.items more.text.items refusals stands says
            adds,
        Appends-join old mid new text (printed_line form (at.count + 1) line said) wrote writes,
      )

      -- a batch of lines
      pub more_lines : (next : LinePosition) (new : Option (List ℕ)) (added : List ℕ)
          → AddsLines Reported asked Refusal form input at next added → Appends mid new added →
          (longer : List ℕ) × Lines Reported form input next longer
          × ReportedUpTo Reported asked Refusal form input reported.lacks next reported.text.items
          × Appends old new longer
      more_lines next new added goes writes = (
        text ++ added,
        goes.lines text lines,
        goes.refusals reported.lacks reported.text.items refusals,
        Appends-join old mid new text added wrote writes,
      )

      -- the explanations there, where it is asked
      all_reported : asked ≡ true → (all : List ℕ)
          → all ≡ reported.text.items ++ more_refused (count_unreported (not reported.lacks) at.refused)
          → ReportsTo Reported asked Refusal form input here all
      all_reported is all same = record { first = reported.text.items; refusals = refusals; is = same ∙ rw is refl }

      nothing_reported : asked ≡ false → ReportsTo Reported asked Refusal form input here []
      nothing_reported not = record {
        first = reported.text.items;
        refusals = refusals;
        is = rw (none_reported_by not reported.lacks at reported.text.items refusals, not) refl;
      }

      -- what explains the stop there
      why_there : (stop : Stop) (why : List ℕ) (b : Bool) → asked ≡ true → why ≡ (if b then [] else stop_lines stop)
          → WhyTo asked input (record { at = at; lacks = b }) stop why
      why_there stop why true is same =
          nothing_explains (asked && false) (λ t. t ≡ stop_lines stop) why (rw is refl) same
      why_there stop why false is same = if_asked (asked && true) (λ t. t ≡ stop_lines stop) why (rw is refl) same

      -- how the run ends there
      module _ (stop : Stop) (last : List ℕ)
          (either : ((stop ≡ NoMemory) × (last ≡ [])) ⊎ LinesEnd NeedsMore form input at last stop) where
        ends_plainly : asked ≡ false → EndsSo here last (Plain stop)
        ends_plainly not_asked = (
          nothing_reported not_asked,
          elim either [
            | inl (refused, nothing) ↦ inl (record { refused = refused; nothing = nothing; unexplained = refl })
            | inr ends ↦ inr (
              ends,
              if_not_asked (asked && not reported.lacks) (λ t. t ≡ stop_lines stop) (rw not_asked refl),
            )
          ],
        )

        ends_so : asked ≡ true → (ending : Ending) → IsReportedEnding reported.lacks
            (reported.text.items ++ more_refused (count_unreported (not reported.lacks) at.refused)) stop ending
            → EndsSo here last ending
        ends_so is (Plain it) reported_so = absurd reported_so
        ends_so is (Explained before it why) (all, same, lines_are) = rw same (
          all_reported is _ all,
          elim either [
            | inl (refused, nothing) ↦ inl (record {
              refused = refused;
              nothing = nothing;
              unexplained = lines_are ∙ ap (λ v. if reported.lacks then [] else stop_lines v) refused
                  ∙ no_lines reported.lacks;
            })
            | inr ends ↦ inr (ends, why_there stop why.items reported.lacks is lines_are)
          ],
        )
        ends_so is (Unexplained before it) reported_so = absurd reported_so

        ends_by : (b : Bool) → asked ≡ b → (ending : Ending) → (asked ≡ false → ending ≡ Plain stop)
            → (asked ≡ true → IsReportedEnding reported.lacks
            (reported.text.items ++ more_refused (count_unreported (not reported.lacks) at.refused)) stop ending)
            → EndsSo here last ending
        ends_by true is ending plain reported_so = ends_so is ending (reported_so is)
        ends_by false is ending plain reported_so = rw (plain is) (ends_plainly is)

      pub stops_there : (new : Option (List ℕ)) (more : Explanations) (taken : ℕ) (stop : Stop) (ending : Ending)
          → IsStep Reported asked Refusal NeedsMore form input at mid new reported more (Ok (Stops stop))
          → (asked ≡ false → ending ≡ Plain stop)
          → (asked ≡ true → IsReportedEnding more.lacks
          (more.text.items ++ more_refused (count_unreported (not more.lacks) at.refused)) stop ending)
          → taken ≡ taken_at form.limit input at.position → Runs taken old new (Ok ending)
      stops_there new more taken stop ending (same, either) plain reported_so took =
          let ends : asked ≡ true → IsReportedEnding reported.lacks
          (reported.text.items ++ more_refused (count_unreported (not reported.lacks) at.refused)) stop ending =
          λ is. subst (λ (t : Explanations). IsReportedEnding t.lacks
          (t.text.items ++ more_refused (count_unreported (not t.lacks) at.refused)) stop ending) same
          (reported_so is) in
          elim either [
            | inl (refused, kept) ↦ (
              here,
              text,
              [],
              lines,
              rw append-nil (Appends-kept old mid new text wrote kept),
              took,
              ends_by stop [] (inl (refused, refl)) asked refl ending plain ends,
            )
            | inr (last, is, writes) ↦ (
              here,
              text,
              last,
              lines,
              Appends-join old mid new text last wrote writes,
              took,
              ends_by stop last (inr is) asked refl ending plain ends,
            )
          ]

      -- the output fails in the text of more lines
      module _ (decided : (line : List ℕ) → (said : Answer) × Reported line said) (new : Option (List ℕ)) (taken : ℕ)
          (fault : WriteFault) (took : taken ≤ taken_at form.limit input at.position) where
        fails_at : (next : LinePosition) (b : Bool) (added more : List ℕ) → at.position ≤ next.position
            → Lines Reported form input next (text ++ added)
            → ReportedUpTo Reported asked Refusal form input b next more → AppendsPart mid new added
            → Runs taken old new (Err fault)
        fails_at next b added more le further reported_there part =
            let goes = goes_further Reported NeedsMore form input decided at.position next (text ++ added) le further in
            let all : List ℕ = more ++ more_refused (count_unreported (asked && not b) next.refused) in (
              text ++ added,
              record {
                reply = cut_reply all (text ++ added) goes.reply.taken;
                states = cut_short (record { at = next; lacks = b }) (text ++ added) all goes.reply further
                    (record { first = more; refusals = reported_there; is = refl }) (on_point b goes.reply goes.replies)
                    goes.front;
                front = IsPrefixOf-same (text ++ added);
                taken = omega (arith, took, goes.taken);
              },
              AppendsPart-join old mid new text added wrote part,
            )

        -- the output fails in what is printed last
        fails_last : (last : List ℕ) (stop : Stop) → LinesEnd NeedsMore form input at last stop → AppendsPart mid new
            last
            → Runs taken old new (Err fault)
        fails_last last stop ends part =
            let all : List ℕ = reported.text.items ++ more_refused (count_unreported
            (asked && not reported.lacks) at.refused) in
            let why = some_lines (asked && not reported.lacks) (stop_lines stop) in
            let plain : Reply = record {
              out = text ++ last;
              err = message_of stop;
              status = code_of (status_of stop);
              taken = taken_at form.limit input at.position;
            } in (
              text ++ last,
              record {
                reply = explained_reply all plain why.0;
                states = replied_reported (explained_reply all plain why.0) (record {
                  plain = plain;
                  replies = record {
                    point = here;
                    before = text;
                    last = last;
                    stop = stop;
                    steps = lines;
                    ends = ends;
                    out = refl;
                    err = refl;
                    status = refl;
                    taken = refl;
                  };
                  before = all;
                  reports = record { first = reported.text.items; refusals = refusals; is = refl };
                  why = why.0;
                  explains = why.1;
                  reported = refl;
                });
                front = IsPrefixOf-same (text ++ last);
                taken = took;
              },
              AppendsPart-join old mid new text last wrote part,
            )

        fails_in : (added : List ℕ) (more : Explanations) → StepText Reported asked Refusal NeedsMore form input at
            reported more
            added
            → AppendsPart mid new added → Runs taken old new (Err fault)
        fails_in added more (of_line line n said stands says adds) part =
            fails_at (next_position at n said) more.lacks added more.text.items (omega arith)
            (one_more at text line n said lines stands says)
            (reported_more reported.lacks more.lacks at line n said reported.text.items more.text.items refusals stands
            says adds)
            part
        fails_in added more (of_end last why ends same) part = fails_last last why ends part

        pub fails_there : (more : Explanations) → IsStep Reported asked Refusal NeedsMore form input at mid new
            reported more
            (Err fault)
            → Runs taken old new (Err fault)
        fails_there more (added, texts, part) = fails_in added more texts part

        pub fails_further : (next : LinePosition) (added : List ℕ) → at.position ≤ next.position
            → AddsLines Reported asked Refusal form input at next added → AppendsPart mid new added
            → Runs taken old new (Err fault)
        fails_further next added le goes part =
            fails_at next reported.lacks added reported.text.items le (goes.lines text lines)
            (goes.refusals reported.lacks reported.text.items refusals) part

module _ (Reported : List ℕ → Answer → Type 0) (asked : Bool) (Refusal : List ℕ → ℕ → List ℕ → Type 0)
    (NeedsMore : List ℕ → ℕ → Type 0) (form : LineForm)
    (decided : (line : List ℕ) → (said : Answer) × Reported line said) where
  goes_on : (input : Input) (point : RunPoint) (text : List ℕ) → LinesTo Reported form input point text →
      Begins (LinesTo Reported form input) (EndsAt NeedsMore form input) (taken_by form.limit input)
      (taken_by form.limit input point) text
  goes_on input point text lines =
      let goes = lines_go_on Reported NeedsMore form input decided point.at text lines in
      record {
        reply = goes.reply;
        replies = on_point Reported asked Refusal NeedsMore form input point.lacks goes.reply goes.replies;
        front = goes.front;
        taken = goes.taken;
      }

  -- before the first line
  abbrev first_point : RunPoint
  first_point = record { at = at_front; lacks = false }

  -- nothing is explained before the first line
  nothing_yet : (b : Bool) → asked ≡ b → (input : Input) → ReportsTo Reported asked Refusal form input first_point []
  nothing_yet true is input = record { first = []; refusals = none_reported; is = rw is refl }
  nothing_yet false is input = record { first = []; refusals = none_reported; is = rw is refl }

  -- something is stated for each input
  pub some_states : (input : Input) → (reply : Reply) × LinesStates Reported asked Refusal NeedsMore form input reply
  some_states input =
      let goes = goes_on input first_point [] none in (
        _,
        cut_short first_point [] [] goes.reply none (nothing_yet asked refl input) goes.replies
            (IsPrefixOf-nil goes.reply.out),
      )

  -- the reader is given back as it was after the last line
  pub lines_were_run : {R : Type 0} (remaining : R → Option (List ℕ)) (failed ended : R → Bool) (old now final : R)
      (out : Stream) (left : ℕ) (flow : Flow)
      (r : Result Ending WriteFault) → final ≡ now → IsReportedBy (remaining now) (failed now) (ended now) left flow →
      ((seen : List ℕ) × Consumes (remaining old) (remaining now) seen × (left + length seen ≡ input_limit) ×
      ((input : Input) → Agrees seen flow input → Runs Reported asked Refusal NeedsMore form input
      (length seen) out.old out.new r))
      → Flags out.was out.failed r →
      Fulfils (LinesStates Reported asked Refusal NeedsMore form) (passed remaining failed old final) out r
  lines_were_run remaining failed ended old now final out left flow r is reported run flag =
      run_reported (LinesTo Reported form) (EndsAt NeedsMore form) (taken_by form.limit) goes_on
      (ReportsTo Reported asked Refusal form)
      (WhyTo asked) NeverLacks remaining failed ended old now final out left flow r is reported run flag

  -- an allocation failed before the first line
  pub no_line_was_run : (r0 s0 : Option (List ℕ)) (r_was r_failed o_was : Bool) →
      let r : Result Ending WriteFault = Ok (Plain NoMemory) in
      Fulfils (LinesStates Reported asked Refusal NeedsMore form) (record {
        old = r0;
        new = r0;
        was = r_was;
        failed =
            r_failed;
      })
      (record { old = s0; new = s0; was = o_was; failed = o_was }) r
  no_line_was_run r0 s0 r_was r_failed o_was =
      did_not_report (LinesTo Reported form) (EndsAt NeedsMore form) (taken_by form.limit) goes_on
      (ReportsTo Reported asked Refusal form)
      (WhyTo asked) NeverLacks first_point (λ input. none) (nothing_yet asked refl) r0 s0 r_was r_failed o_was
