-- What was read, and what was written of it.
-- Serves: run_peg (right), run_abnf (right), run_lines
use Rattle.std.proofs.Common.{◌≡◌, ℕ, ◌+◌, Bool, Option, Some, None, List, [], ◌++◌, length, refl, sym, arith, inl, inr}
use Rattle.std.proofs.Common.{ap}
use Rattle.std.specs.Prelude.{Result, Ok, Err, IfSome}
use Rattle.std.proofs.lemmas.List.{append-nil}
use Rattle.std.specs.Io.KnownBytes.{Appends, Consumes}
use Rattle.ruletable.specs.Writing.{Flags}
use Rattle.ruletable.specs.declared.sink.WriteFault.{WriteFault}
use Rattle.ruletable.proofs.AppendsLemmas.{Appends-same, IsProperPrefix-trans, IsPrefixOf-nil}
use Rattle.feed.specs.Feed.{IsReportedBy, input_limit}
use Rattle.feed.specs.declared.held.Flow.{Flow}
use Rattle.toolrun.specs.Agrees.{Agrees}
use Rattle.toolrun.specs.Input.{Input, input_from}
use Rattle.toolrun.specs.Reply.{Reply, cut_reply}
use Rattle.toolrun.specs.RunSteps.{Begins, EndsReported, HasReportedRun, Replies, ReportedStates, replied_reported}
use Rattle.toolrun.specs.RunSteps.{unexplained, cut_short}
use Rattle.toolrun.specs.RunEnd.{ended_status, ended_text, refusals_text, stop_of}
use Rattle.toolrun.specs.Status.{code_of}
use Rattle.toolrun.specs.Stop.{message_of, status_of}
use Rattle.toolrun.specs.Stopped.{EndedAs, Fulfils}
use Rattle.toolrun.specs.Stream.{Stream, passed}
use Rattle.toolrun.specs.declared.ending.Ending.{Ending}
use Rattle.toolrun.specs.declared.ending.Ending.TheVariants.{Plain, Explained, Unexplained}
use Rattle.toolrun.specs.declared.ending.ReportedRefusals.{ReportedRefusals}
use Rattle.toolrun.specs.declared.status.Status.TheVariants as status
use Rattle.toolrun.specs.declared.stop.Stop.{Stop}
use Rattle.toolrun.specs.declared.stop.Stop.TheVariants.{NoMemory}
use Rattle.toolrun.proofs.AgreesLemmas.{agrees_of}

-- A run that ended so. Says is what is known of it on each input of which so much was seen, and what is stated follows.
module _ (Does : Input → Reply → Type 0) (ending : Result Ending WriteFault) (out : Stream) (Says : Input → ℕ → Type 0)
    (states : (input : Input) (taken : List ℕ) → Says input (length taken) → (wrote : List ℕ)
    × Appends out.old out.new wrote × EndedAs (Does input) taken ending wrote) where
  -- the steps were run, on every input that begins with what was seen
  were_run : (old new : Option (List ℕ)) (failed ended : Bool) (left : ℕ) (flow : Flow)
      → IsReportedBy new failed ended left flow →
      ((seen : List ℕ) × Consumes old new seen × (left + length seen ≡ input_limit) ×
      ((input : Input) → Agrees seen flow input → Says input (length seen))) →
      IfSome old (λ xs. (taken wrote : List ℕ) × Consumes old new taken × Appends out.old out.new wrote
      × EndedAs (Does (input_from xs taken failed)) taken ending wrote)
  were_run None new failed ended left flow reported run = tt
  were_run (Some xs) new failed ended left flow reported (seen, gives, count, run) =
      let input : Input = input_from xs seen failed in
      let w = states input seen (run input (agrees_of xs seen new failed ended left flow gives count reported)) in
      (seen, w.0, gives, w.1, w.2)

  -- the reader is given back as it was after the last step
  pub run_fulfils : {R : Type 0} (remaining : R → Option (List ℕ)) (failed ended : R → Bool) (old now final : R)
      (left : ℕ) (flow : Flow) → final ≡ now → IsReportedBy (remaining now) (failed now) (ended now) left flow →
      ((seen : List ℕ) × Consumes (remaining old) (remaining now) seen × (left + length seen ≡ input_limit) ×
      ((input : Input) → Agrees seen flow input → Says input (length seen))) → Flags out.was out.failed ending →
      Fulfils Does (passed remaining failed old final) out ending
  run_fulfils remaining failed ended old now final left flow is reported run flag =
      rw is (record {
        stopped = were_run (remaining old) (remaining now) (failed now) (ended now) left flow reported run;
        flag = flag;
      })

-- A run in steps: what is written before each point, how it ends there, what is taken by then, and that it goes on from
-- each. Its end may be explained: Reports says what is reported of rejected lines on the way, Why what explains how it
-- ends, and MayLack where an allocation may fail in that.
module _ {Point : Type 0} (Before : Input → Point → List ℕ → Type 0) (Ends : Input → Point → List ℕ → Stop → Type 0)
    (taken_at : Input → Point → ℕ)
    (goes_on : (input : Input) (point : Point) (text : List ℕ) → Before input point text →
    Begins (Before input) (Ends input) (taken_at input) (taken_at input point) text)
    (Reports : Input → Point → List ℕ → Type 0) (Why : Input → Point → Stop → List ℕ → Type 0)
    (MayLack : Input → Point → Stop → Type 0) where
  abbrev pub DoesReported : Input → Reply → Type 0
  DoesReported input reply = ReportedStates (Before input) (Ends input) (taken_at input) (Reports input) (Why input)
      (MayLack input) reply

  abbrev RunsReported : Input → ℕ → Option (List ℕ) → Option (List ℕ) → Result Ending WriteFault → Type 0
  RunsReported input taken a b r = HasReportedRun (Before input) (Ends input) (taken_at input) (Reports input)
      (Why input)
      (MayLack input) taken a b r

  -- the reply of all steps to a point
  replies_at : (input : Input) (point : Point) (text last : List ℕ) (stop : Stop) → Before input point text
      → Ends input point last stop → Replies (Before input) (Ends input) (taken_at input) (record {
        out = text ++ last;
        err = message_of stop;
        status = code_of (status_of stop);
        taken = taken_at input point;
      })
  replies_at input point text last stop steps ends = record {
    point = point;
    before = text;
    last = last;
    stop = stop;
    steps = steps;
    ends = ends;
    out = refl;
    err = refl;
    status = refl;
    taken = refl;
  }

  module _ (input : Input) (a b : Option (List ℕ)) (point : Point) (text last : List ℕ) (taken : List ℕ)
      (steps : Before input point text) (wrote : Appends a b (text ++ last))
      (took : length taken ≡ taken_at input point) where
    abbrev IsEndedAs : Ending → Type 0
    IsEndedAs ending =
        let r : Result Ending WriteFault = Ok ending in
        (wrote : List ℕ) × Appends a b wrote × EndedAs (DoesReported input) taken r wrote

    -- an allocation failed there, where this was reported
    cut_there : (ending : Ending) (before : List ℕ) → Reports input point before → last ≡ []
        → stop_of ending ≡ NoMemory → ended_status ending ≡ status.NoMemory
        → ended_text ending ≡ before ++ message_of NoMemory → IsEndedAs ending
    cut_there ending before reports nothing stops status report =
        let goes = goes_on input point text steps in (
          text ++ last,
          wrote,
          record {
            stated = cut_reply before text goes.reply.taken;
            states = cut_short point text before goes.reply steps reports goes.replies goes.front;
            written = (rw (nothing, append-nil) refl, sym report, rw status refl);
            within = omega (arith, took, goes.taken);
            exact = λ other. absurd (other stops);
          },
        )

    -- so it ended, with these lines before its message and after it
    reported_there : (ending : Ending) (stop : Stop) (before why : List ℕ) → Reports input point before
        → Ends input point last stop → Why input point stop why → ended_status ending ≡ status_of stop
        → ended_text ending ≡ before ++ (message_of stop ++ why) → IsEndedAs ending
    unfolding replies_at
    reported_there ending stop before why reports ends explains status report =
        let plain = replies_at input point text last stop steps ends in (
          text ++ last,
          wrote,
          record {
            stated = _;
            states = replied_reported _ (record {
              plain = _;
              replies = plain;
              before = before;
              reports = reports;
              why = why;
              explains = explains;
              reported = refl;
            });
            written = (refl, sym report, rw status refl);
            within = omega (arith, took);
            exact = λ other. took;
          },
        )

    lacks_there : (stop : Stop) (reported : ReportedRefusals) → Reports input point (refusals_text reported)
        → Ends input point last stop → MayLack input point stop → IsEndedAs (Unexplained reported stop)
    unfolding replies_at
    lacks_there stop reported reports ends lack =
        let plain = replies_at input point text last stop steps ends in (
          text ++ last,
          wrote,
          record {
            stated = _;
            states = unexplained _ plain (refusals_text reported) reports lack;
            written = (refl, refl, refl);
            within = omega (arith, took);
            exact = λ other. took;
          },
        )

    -- what a run of all steps says, in one piece
    ends_reported : (ending : Ending) → EndsReported (Before input) (Ends input) (taken_at input) (Reports input)
        (Why input)
        (MayLack input) point last ending → IsEndedAs ending
    ends_reported (Plain stop) (reports, inl cut) =
        cut_there (Plain stop) [] reports cut.nothing cut.refused (ap status_of cut.refused) (ap message_of cut.refused)
    ends_reported (Plain stop) (reports, inr (ends, why)) =
        reported_there (Plain stop) stop [] [] reports ends why refl (sym (append-nil (message_of stop)))
    ends_reported (Explained reported stop lines) (reports, inl cut) =
        cut_there (Explained reported stop lines) (refusals_text reported) reports cut.nothing cut.refused
        (ap status_of cut.refused)
        (rw (cut.refused, cut.unexplained) (ap (λ t. refusals_text reported ++ t) (append-nil (message_of NoMemory))))
    ends_reported (Explained reported stop lines) (reports, inr (ends, why)) =
        reported_there (Explained reported stop lines) stop (refusals_text reported) lines.items reports ends why refl
        refl
    ends_reported (Unexplained reported stop) (reports, ends, lack) = lacks_there stop reported reports ends lack

  run_stops_reported : (input : Input) (a b : Option (List ℕ)) (r : Result Ending WriteFault) (taken : List ℕ)
      → RunsReported input (length taken) a b r →
      (wrote : List ℕ) × Appends a b wrote × EndedAs (DoesReported input) taken r wrote
  run_stops_reported input a b (Ok ending) taken (point, text, last, steps, wrote, took, ended) =
      ends_reported input a b point text last taken steps wrote took ending ended
  run_stops_reported input a b (Err fault) taken (text, begins, part) = (
    part.0,
    part.2,
    record {
      stated = begins.reply;
      states = begins.states;
      written = IsProperPrefix-trans part.0 text begins.reply.out part.1 begins.front;
      within = begins.taken;
      exact = tt;
    },
  )

  pub run_reported : {R : Type 0} (remaining : R → Option (List ℕ)) (failed ended : R → Bool) (old now final : R)
      (out : Stream) (left : ℕ) (flow : Flow)
      (r : Result Ending WriteFault) → final ≡ now → IsReportedBy (remaining now) (failed now) (ended now) left flow →
      ((seen : List ℕ) × Consumes (remaining old) (remaining now) seen × (left + length seen ≡ input_limit) ×
      ((input : Input) → Agrees seen flow input → RunsReported input (length seen) out.old out.new r))
      → Flags out.was out.failed r →
      Fulfils DoesReported (passed remaining failed old final) out r
  run_reported remaining failed ended old now final out left flow r is reported run flag =
      run_fulfils DoesReported r out (λ input taken. RunsReported input taken out.old out.new r)
      (λ input. run_stops_reported input out.old out.new r) remaining failed ended old now final left flow is reported
      run
      flag

  -- an allocation failed before anything was read
  reported_nothing : (first : Point) → ((input : Input) → Before input first [])
      → ((input : Input) → Reports input first []) → (old a : Option (List ℕ)) (failed : Bool) →
      let r : Result Ending WriteFault = Ok (Plain NoMemory) in
      IfSome old (λ xs. (taken wrote : List ℕ) × Consumes old old taken × Appends a a wrote
      × EndedAs (DoesReported (input_from xs taken failed)) taken r wrote)
  reported_nothing first start reports None a failed = tt
  reported_nothing first start reports (Some xs) a failed =
      let input : Input = input_from xs [] failed in
      let goes = goes_on input first [] (start input) in (
        [],
        [],
        refl,
        Appends-same a,
        record {
          stated = cut_reply [] [] goes.reply.taken;
          states = cut_short first [] [] goes.reply (start input) (reports input) goes.replies
              (IsPrefixOf-nil goes.reply.out);
          written = (refl, refl, refl);
          within = omega arith;
          exact = λ other. absurd (other refl);
        },
      )

  pub did_not_report : (first : Point) → ((input : Input) → Before input first [])
      → ((input : Input) → Reports input first []) → (r0 s0 : Option (List ℕ)) (r_was r_failed o_was : Bool) →
      let r : Result Ending WriteFault = Ok (Plain NoMemory) in
      Fulfils DoesReported (record { old = r0; new = r0; was = r_was; failed = r_failed })
      (record { old = s0; new = s0; was = o_was; failed = o_was }) r
  did_not_report first start reports r0 s0 r_was r_failed o_was =
      record { stopped = reported_nothing first start reports r0 s0 r_failed; flag = refl }
