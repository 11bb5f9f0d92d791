-- A run and its end were right.
-- Serves: run_tool, run_join (right), end_unready, tool_main, run_plan, run_opened
use Rattle.std.proofs.Common.{◌≡◌, ℕ, Bool, true, false, Option, Some, None, List, [], ◌++◌, refl, sym, ◌∙◌, ap}
use Rattle.std.proofs.Common.{◌≢◌, ◌≤◌, ◌⊎◌, inl, inr, arith, append_assoc, length, length-append}
use Rattle.std.specs.Prelude.{max, Result, Ok, Err, IfSome}
use Rattle.std.specs.Result.{is_err}
use Rattle.std.specs.Io.KnownBytes.{Appends, Keeps, Consumes}
use Rattle.ruletable.specs.Writing.{Flags, Writes, AppendsPart, IsPrefixOf, IsProperPrefix}
use Rattle.ruletable.specs.declared.sink.WriteFault.{WriteFault}
use Rattle.ruletable.proofs.AppendsLemmas.{Appends-join, Appends-kept, Appends-none, Appends-same, IsPrefixOf-same}
use Rattle.ruletable.proofs.AppendsLemmas.{IsPrefixOf-nil, IsPrefixOf-join}
use Rattle.toolrun.specs.Delivery.{Delivers, Observed, greatest_met}
use Rattle.toolrun.specs.Input.{Input, input_from}
use Rattle.toolrun.specs.Reply.{Reply}
use Rattle.toolrun.specs.Status.{code_of}
use Rattle.toolrun.specs.Stop.{message_of, status_of, write_error}
use Rattle.toolrun.specs.RunEnd.{ended_status, ended_text, stop_of}
use Rattle.toolrun.specs.Finish.{Concludes, Finishes}
use Rattle.toolrun.specs.Plan.{Follows, IsPlan, IsPlanned, IsReportedAnd, after_notes, does_of, in_reply, met_before}
use Rattle.toolrun.specs.Plan.{stopped, reported_after}
use Rattle.toolrun.specs.Right.{IsRight, RunIsRight}
use Rattle.toolrun.specs.Stopped.{EndedAs, Fulfils}
use Rattle.toolrun.specs.Stream.{Stream}
use Rattle.toolrun.proofs.DeliversLemmas.{begins_nothing, reported-after}
use Rattle.toolrun.proofs.FinishLemmas.{met_by_err, met_of_none}
use Rattle.toolrun.specs.declared.ending.Ending.{Ending}
use Rattle.toolrun.specs.declared.ending.Ending.TheVariants.{Plain, Explained, Unexplained}
use Rattle.toolrun.specs.declared.status.Status.TheVariants as status
use Rattle.toolrun.specs.declared.stop.Stop.{Stop}
use Rattle.toolrun.specs.declared.stop.Stop.TheVariants.{NoMemory}

-- a run that stops at once reads nothing and writes nothing
nothing_done : (stop : Stop) (r0 s0 : Option (List ℕ)) →
    let r : Result Ending WriteFault = Ok (Plain stop) in
    IfSome r0 (λ given. (taken wrote : List ℕ) × Consumes r0 r0 taken × Appends s0 s0 wrote
    × EndedAs (λ reply. reply ≡ stopped stop) taken r wrote)
nothing_done stop None s0 = tt
nothing_done stop (Some given) s0 = (
  [],
  [],
  refl,
  Appends-same s0,
  record {
    stated = stopped stop;
    states = refl;
    written = (refl, refl, refl);
    within = omega arith;
    exact = λ is. refl;
  },
)

pub stops_at_once : (stop : Stop) (r0 s0 : Option (List ℕ)) (r_was r_failed o_was : Bool) →
    let r : Result Ending WriteFault = Ok (Plain stop) in
    Fulfils (λ input reply. reply ≡ stopped stop) (record { old = r0; new = r0; was = r_was; failed = r_failed })
    (record { old = s0; new = s0; was = o_was; failed = o_was }) r
stops_at_once stop r0 s0 r_was r_failed o_was = record { stopped = nothing_done stop r0 s0; flag = refl }

-- a run that stops since an allocation fails ends so
refused_status : (end : Ending) → stop_of end ≡ NoMemory → ended_status end ≡ status.NoMemory
refused_status (Plain stop) is = ap status_of is
refused_status (Explained reported stop why) is = ap status_of is
refused_status (Unexplained reported stop) is = ap status_of is

-- what is written first is notes, or stands in the reply
module _ (States : Input → List ℕ → Reply → Type 0) (given : List ℕ) (run : Observed) where
  folds_right : (notes : List ℕ) (stated : Reply) →
      Follows States (input_from given run.taken run.read_failed) notes stated → Delivers notes stated run
      → IsPrefixOf notes run.err → length run.taken ≤ stated.taken →
      (run.out_failed ≡ false → run.err_failed ≡ false → run.status ≢ 5 → length run.taken ≡ stated.taken)
      → IsRight States given run
  folds_right notes stated (after_notes states) d begun within exact = record {
    notes = notes;
    stated = stated;
    states = states;
    delivers = d;
    within = within;
    exact = exact;
  }
  folds_right notes stated (in_reply none states) d begun within exact =
      let silent : run.out ≡ stated.out = begins_nothing run.out stated.out d.part none ∙ sym none in
      record {
        notes = [];
        stated = reported_after notes stated;
        states = states;
        delivers = record {
          part = d.part;
          out = λ out_ok stands. silent;
          silent = λ isnt. absurd (isnt (IsPrefixOf-nil run.err));
          unread = λ isnt. absurd (isnt (IsPrefixOf-nil run.err));
          reported = d.reported;
          broken = λ out_bad other. absurd (other silent);
          unflushed = d.unflushed;
          status = λ stands same. d.status begun same;
          cut = d.cut;
          unnoted = λ isnt. absurd (isnt (IsPrefixOf-nil run.err));
        };
        within = within;
        exact = exact;
      }

module _ (States : Input → List ℕ → Reply → Type 0) (notes : List ℕ) (Does : Input → Reply → Type 0)
    (stated : (input : Input) (reply : Reply) → Does input reply → Follows States input notes reply) where
  -- the ending and what is done then, together, after the notes
  is_right : (given taken wrote reported : List ℕ) (read_failed out_was out_failed err_failed : Bool)
      (end : Result Ending WriteFault) (code : ℕ) →
      EndedAs (Does (input_from given taken read_failed)) taken end wrote →
      Flags false out_was end → (out_was ≡ true → out_failed ≡ true)
      → Concludes end out_failed err_failed reported code →
      IsRight States given
      (record {
        taken = taken;
        read_failed = read_failed;
        out = wrote;
        out_failed = out_failed;
        err = notes ++ reported;
        err_failed = err_failed;
        status = code;
      })
  is_right given taken wrote reported read_failed out_was out_failed err_failed (Ok end) code s flag stays f =
      folds_right States given _ notes s.stated (stated (input_from given taken read_failed) s.stated s.states)
      (record {
        part = rw s.written.0 (IsPrefixOf-same s.stated.out);
        out = λ out_ok stands. s.written.0;
        silent = λ isnt. absurd (isnt (reported, refl));
        unread = λ isnt. absurd (isnt (reported, refl));
        reported = λ out_ok. rw s.written.1 (reported-after notes (ended_text end) reported err_failed
            (f.reported out_ok));
        broken = λ out_bad other. absurd (other s.written.0);
        unflushed = λ out_bad whole. rw (s.written.1, append_assoc notes (ended_text end) write_error)
            (reported-after notes (ended_text end ++ write_error) reported err_failed (f.fault out_bad));
        status = λ stands whole. rw s.written.2 f.status;
        cut = λ other. absurd (other s.written.0);
        unnoted = λ isnt. absurd (isnt (reported, refl));
      })
      (reported, refl) s.within
      (λ out_ok err_ok other. s.exact (λ is. other
      (met_of_none code (code_of (ended_status end)) out_failed err_failed out_ok err_ok f.status
      ∙ ap code_of (refused_status end is))))
  is_right given taken wrote reported read_failed out_was out_failed err_failed (Err fault) code s flag stays f =
      let bad : out_failed ≡ true = stays flag in
      folds_right States given _ notes s.stated (stated (input_from given taken read_failed) s.stated s.states)
      (record {
        part = s.written.0;
        out = λ out_ok stands. absurd (cc);
        silent = λ isnt. absurd (isnt (reported, refl));
        unread = λ isnt. absurd (isnt (reported, refl));
        reported = λ out_ok. absurd (cc);
        broken = λ out_bad other. reported-after notes write_error reported err_failed (f.fault bad);
        unflushed = λ out_bad whole. absurd (let same = ap length whole in omega (arith, s.written.1, same));
        status = λ stands whole. absurd (let same = ap length whole in omega (arith, s.written.1, same));
        cut = λ other. f.status ∙ ap (λ b. greatest_met 4 b err_failed) bad;
        unnoted = λ isnt. absurd (isnt (reported, refl));
      })
      (reported, refl) s.within (λ out_ok err_ok other. absurd (cc))

  run_of : (old new s0 s1 s2 e0 e1 e2 : Option (List ℕ)) (read_failed out_was out_failed err_failed : Bool)
      (end : Result Ending WriteFault) (code : ℕ) →
      IfSome old (λ given. (taken wrote : List ℕ) × Consumes old new taken × Appends s0 s1 wrote
      × EndedAs (Does (input_from given taken read_failed)) taken end wrote) →
      Appends e0 e1 notes → Flags false out_was end → Keeps s1 s2 → (out_was ≡ true → out_failed ≡ true) →
      ((reported : List ℕ) × Appends e1 e2 reported × Concludes end out_failed err_failed reported code) →
      RunIsRight States (record { old = old; new = new; was = false; failed = read_failed })
      (record { old = s0; new = s2; was = false; failed = out_failed })
      (record { old = e0; new = e2; was = false; failed = err_failed }) code
  run_of None new s0 s1 s2 e0 e1 e2 read_failed out_was out_failed err_failed end code w front flag kept stays f = tt
  run_of (Some given) new s0 s1 s2 e0 e1 e2 read_failed out_was out_failed err_failed end code w front flag kept stays
      f = (
        w.0,
        w.1,
        notes ++ f.0,
        w.2,
        Appends-kept s0 s1 s2 w.1 w.3 kept,
        Appends-join e0 e1 e2 notes f.0 front f.1,
        is_right given w.0 w.1 f.0 read_failed out_was out_failed err_failed end code w.4 flag stays f.2,
      )

  -- the notes were written, the task was performed, and the run was ended
  pub run_is_right : (reader mid out err : Stream) (e : Option (List ℕ)) (end : Result Ending WriteFault) (code : ℕ) →
      Fulfils Does reader mid end → mid.was ≡ false → mid.old ≡ out.old → Appends err.old e notes
      → Keeps mid.new out.new → (mid.failed ≡ true → out.failed ≡ true) →
      ((reported : List ℕ) × Appends e err.new reported × Concludes end out.failed err.failed reported code)
      → RunIsRight States reader out err code
  run_is_right reader mid out err e end code p fresh same front kept stays f =
      run_of reader.old reader.new out.old mid.new out.new err.old e err.new reader.failed mid.failed out.failed
      err.failed end code
      (rw same at p.stopped) front (rw fresh at p.flag) kept stays f

-- a reply that nothing was done for
record IsLeft (States : Input → List ℕ → Reply → Type 0) (notes : List ℕ) (input : Input) (code : ℕ) : Type 0 where
  stated : Reply
  states : States input notes stated
  cut : [] ≢ stated.out → code ≡ 4
  unnoted : (code ≡ 4) ⊎ ((stop : Stop) × (stated ≡ stopped stop) × (code ≡ max stated.status 4))

module _ (States : Input → List ℕ → Reply → Type 0) (notes : List ℕ) (code : ℕ) where
  -- the error output failed in the notes
  left_right : (given part : List ℕ) (read_failed out_failed err_failed : Bool) → IsProperPrefix part notes
      → err_failed ≡ true → IsLeft States notes (input_from given [] read_failed) code
      → IsRight States given (record {
        taken = [];
        read_failed = read_failed;
        out = [];
        out_failed = out_failed;
        err = part;
        err_failed = err_failed;
        status = code;
      })
  left_right given part read_failed out_failed err_failed begun failed left =
      let stated = left.stated in
      let never : IsPrefixOf notes part → ⊥ =
      λ stands. let all = ap length stands.1 in omega (arith, begun.1, all, length-append notes stands.0) in
      record {
        notes = notes;
        stated = stated;
        states = left.states;
        delivers = record {
          part = IsPrefixOf-nil stated.out;
          out = λ out_ok stands. absurd (never stands);
          silent = λ isnt. refl;
          unread = λ isnt. refl;
          reported = λ out_ok. (IsPrefixOf-join part notes stated.err begun.0, λ err_ok. absurd (cc));
          broken = λ out_bad other. (IsPrefixOf-join part notes write_error begun.0, λ err_ok. absurd (cc));
          unflushed = λ out_bad whole. (
            IsPrefixOf-join part (notes ++ stated.err) write_error
                (IsPrefixOf-join part notes stated.err begun.0),
            λ err_ok. absurd (cc),
          );
          status = λ stands whole. absurd (never stands);
          cut = left.cut;
          unnoted = λ isnt. left.unnoted;
        };
        within = omega arith;
        exact = λ out_ok err_ok other. absurd (cc);
      }

-- the error output failed in a text that stands in the reply of a run that stops at once
reply_right : (States : Input → List ℕ → Reply → Type 0) (first : List ℕ) (stop : Stop) (code : ℕ)
    (given part : List ℕ) (read_failed out_failed err_failed : Bool) → IsProperPrefix part first
    → err_failed ≡ true → code ≡ max (code_of (status_of stop)) 4
    → States (input_from given [] read_failed) [] (reported_after first (stopped stop))
    → IsRight States given (record {
      taken = [];
      read_failed = read_failed;
      out = [];
      out_failed = out_failed;
      err = part;
      err_failed = err_failed;
      status = code;
    })
reply_right States first stop code given part read_failed out_failed err_failed begun failed is states = record {
  notes = [];
  stated = reported_after first (stopped stop);
  states = states;
  delivers = record {
    part = IsPrefixOf-nil [];
    out = λ out_ok stands. refl;
    silent = λ isnt. refl;
    unread = λ isnt. refl;
    reported = λ out_ok. (IsPrefixOf-join part first (message_of stop) begun.0, λ err_ok. absurd (cc));
    broken = λ out_bad other. absurd (other refl);
    unflushed = λ out_bad whole. (
      IsPrefixOf-join part (first ++ message_of stop) write_error
          (IsPrefixOf-join part first (message_of stop) begun.0),
      λ err_ok. absurd (cc),
    );
    status = λ stands whole. met_by_err (code_of (status_of stop)) code out_failed err_failed (sym failed) is;
    cut = λ other. absurd (other refl);
    unnoted = λ isnt. absurd (isnt (IsPrefixOf-nil part));
  };
  within = omega arith;
  exact = λ out_ok err_ok other. absurd (cc);
}

-- what is done after notes is stated, and something is
module _ {States : Input → List ℕ → Reply → Type 0} {notes : List ℕ} {Does : Input → Reply → Type 0}
    (plan : IsPlan States notes Does) where
  pub notes_stated : (input : Input) (reply : Reply) → Does input reply → Follows States input notes reply
  notes_stated input reply does = after_notes (plan.stated input reply does)

  pub notes_some : (input : Input) → (reply : Reply) × States input notes reply
  notes_some input = let one = plan.some input in (one.0, plan.stated input one.0 one.1)

module _ (States : Input → List ℕ → Reply → Type 0) (first : List ℕ) where
  -- what was written first was cut, whatever the input is
  cut_of : (old s0 s2 e0 e1 e2 : Option (List ℕ)) (read_failed out_failed err_failed : Bool) (code : ℕ) →
      AppendsPart e0 e1 first → Keeps s0 s2 → Keeps e1 e2
      → ((given part : List ℕ) → IsProperPrefix part first → IsRight States given (record {
        taken = [];
        read_failed = read_failed;
        out = [];
        out_failed = out_failed;
        err = part;
        err_failed = err_failed;
        status = code;
      })) →
      RunIsRight States (record { old = old; new = old; was = false; failed = read_failed })
      (record { old = s0; new = s2; was = false; failed = out_failed })
      (record { old = e0; new = e2; was = false; failed = err_failed }) code
  cut_of None s0 s2 e0 e1 e2 read_failed out_failed err_failed code part out err right = tt
  cut_of (Some given) s0 s2 e0 e1 e2 read_failed out_failed err_failed code part out err right = (
    [],
    [],
    part.0,
    refl,
    Appends-none s0 s2 out,
    Appends-kept e0 e1 e2 part.0 part.2 err,
    right given part.0 part.1,
  )

  cut_right : (reader out err : Stream) (e : Option (List ℕ)) (code : ℕ) → reader.new ≡ reader.old →
      AppendsPart err.old e first → Keeps out.old out.new → Keeps e err.new
      → ((given part : List ℕ) → IsProperPrefix part first → IsRight States given (record {
        taken = [];
        read_failed = reader.failed;
        out = [];
        out_failed = out.failed;
        err = part;
        err_failed = err.failed;
        status = code;
      })) → RunIsRight States reader out err code
  cut_right reader out err e code same part kept stays right =
      rw same (cut_of reader.old out.old out.new err.old e err.new reader.failed out.failed err.failed code part kept
      stays right)

  -- the notes of a run that might do something were cut
  pub cut_short : ((input : Input) → (reply : Reply) × States input first reply) → (reader out err : Stream)
      (e : Option (List ℕ)) (code : ℕ) → reader.new ≡ reader.old →
      AppendsPart err.old e first → Keeps out.old out.new → Keeps e err.new → err.failed ≡ true → code ≡ 4
      → RunIsRight States reader out err code
  cut_short some reader out err e code same part kept stays failed is =
      cut_right reader out err e code same part kept stays
      (λ given text begun. left_right States first code given text reader.failed out.failed err.failed begun failed
      (let one = some (input_from given [] reader.failed) in
      record { stated = one.0; states = one.1; cut = λ other. is; unnoted = inl is }))

  module _ {T : Type 0} (Does : T → Input → Reply → Type 0) where
    stop_cut : (stop : Stop) (given part : List ℕ) (read_failed out_failed err_failed : Bool) (code : ℕ)
        → Follows States (input_from given [] read_failed) first (stopped stop) → IsProperPrefix part first
        → err_failed ≡ true → code ≡ max (code_of (status_of stop)) 4 → IsRight States given (record {
          taken = [];
          read_failed = read_failed;
          out = [];
          out_failed = out_failed;
          err = part;
          err_failed = err_failed;
          status = code;
        })
    stop_cut stop given part read_failed out_failed err_failed code (after_notes states) begun failed is =
        left_right States first code given part read_failed out_failed err_failed begun failed (record {
          stated = stopped stop;
          states = states;
          cut = λ other. absurd (other refl);
          unnoted = inr (stop, refl, is);
        })
    stop_cut stop given part read_failed out_failed err_failed code (in_reply none states) begun failed is =
        reply_right States first stop code given part read_failed out_failed err_failed begun failed is states

    -- what a plan writes first was cut
    pub plan_cut : (task : Result T Stop) → IsPlanned States first Does task → (reader out err : Stream)
        (e : Option (List ℕ)) (code : ℕ) → reader.new ≡ reader.old →
        AppendsPart err.old e first → Keeps out.old out.new → Keeps e err.new → err.failed ≡ true
        → code ≡ max (code_of (met_before task)) 4 → RunIsRight States reader out err code
    plan_cut (Ok task) plan reader out err e code same part kept stays failed is =
        cut_short (notes_some plan) reader out err e code same part kept stays failed is
    plan_cut (Err stop) plan reader out err e code same part kept stays failed is =
        cut_right reader out err e code same part kept stays
        (λ given text begun. stop_cut stop given text reader.failed out.failed err.failed code
        (plan (input_from given [] reader.failed)) begun failed is)

    -- what is done of a plan is stated after what it writes first
    pub plan_stated : (task : Result T Stop) → IsPlanned States first Does task → (input : Input) (reply : Reply)
        → does_of Does task input reply → Follows States input first reply
    plan_stated (Ok task) plan = notes_stated plan
    plan_stated (Err stop) plan = λ input reply is. rw is (plan input)

    pub plan_some : (task : Result T Stop) → IsPlanned States first Does task → (input : Input)
        → (reply : Reply) × does_of Does task input reply
    plan_some (Ok task) plan = plan.some
    plan_some (Err stop) plan = λ input. (stopped stop, refl)

-- a text is written on the error output, and then the run stops
module _ (reported : List ℕ) (stop : Stop) (r0 : Option (List ℕ)) (r_was r_failed : Bool) (out err : Stream)
    (e : Option (List ℕ)) (code : ℕ) (kept : Keeps out.old out.new) where
  abbrev Stops : Type 0
  Stops = RunIsRight (IsReportedAnd reported stop)
      (record { old = r0; new = r0; was = r_was; failed = r_failed }) out err
      code

  pub reported_stops : Appends err.old e reported
      → ((more : List ℕ) × Appends e err.new more × Finishes (Ok stop) out.failed err.failed more code) → Stops
  reported_stops front ends =
      run_is_right (IsReportedAnd reported stop) reported (λ input reply. reply ≡ stopped stop)
      (λ input reply is. after_notes (refl, is)) (record { old = r0; new = r0; was = r_was; failed = r_failed })
      (record { old = out.old; new = out.old; was = false; failed = false }) out err e (Ok (Plain stop)) code
      (stops_at_once stop r0 out.old r_was r_failed false) refl refl front kept (λ bad. absurd (cc)) ends

  pub reported_cut : AppendsPart err.old e reported → Keeps e err.new → err.failed ≡ true → code ≡ 4 → Stops
  reported_cut front stays failed is =
      cut_short (IsReportedAnd reported stop) reported (λ input. (stopped stop, (refl, refl)))
      (record { old = r0; new = r0; was = r_was; failed = r_failed }) out err e code refl front
      kept stays failed is

-- a run that is right by one statement is right by another that it implies
module _ (S T : Input → List ℕ → Reply → Type 0)
    (implies : (input : Input) (notes : List ℕ) (reply : Reply) → S input notes reply → T input notes reply) where
  right_as : (given : List ℕ) (run : Observed) → IsRight S given run → IsRight T given run
  right_as given run right = record {
    notes = right.notes;
    stated = right.stated;
    states = implies _ _ _ right.states;
    delivers = right.delivers;
    within = right.within;
    exact = right.exact;
  }

  comes_from : (old new : Option (List ℕ)) (was failed : Bool) (out err : Stream) (code : ℕ) →
      RunIsRight S (record { old = old; new = new; was = was; failed = failed }) out err code →
      RunIsRight T (record { old = old; new = new; was = was; failed = failed }) out err code
  comes_from None new was failed out err code is = tt
  comes_from (Some given) new was failed out err code (taken, wrote, reported, gives, writes, reports, right) =
      (taken, wrote, reported, gives, writes, reports, right_as given _ right)

  pub comes_as : (reader out err : Stream) (code : ℕ) → RunIsRight S reader out err code
      → RunIsRight T reader out err code
  comes_as reader out err code is = comes_from reader.old reader.new reader.was reader.failed out err code is

-- whether a write failed
module _ {A E : Type 0} (a b : Option (List ℕ)) (text : List ℕ) where
  pub wrote-all : (r : Result A E) → is_err r ≡ false → Writes a b text r → Appends a b text
  wrote-all (Ok x) e w = w
  wrote-all (Err x) e w = absurd (cc)

  pub wrote-part : (r : Result A E) → is_err r ≡ true → Writes a b text r → AppendsPart a b text
  wrote-part (Ok x) e w = absurd (cc)
  wrote-part (Err x) e w = w
