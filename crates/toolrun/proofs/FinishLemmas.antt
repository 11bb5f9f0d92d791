-- What the steps at the end of a run report together.
-- Serves: finish, conclude
use Rattle.std.proofs.Common.{◌≡◌, ℕ, Option, List, [], ◌++◌, refl, sym, ◌∙◌, ap, true, false, Bool}
use Rattle.std.specs.Prelude.{max, Result, Ok, Err}
use Rattle.std.proofs.lemmas.List.{append-nil}
use Rattle.std.specs.Io.KnownBytes.{Appends, Keeps}
use Rattle.ruletable.specs.Writing.{Flags}
use Rattle.ruletable.specs.Writing.{IsPrefixOf, Writes}
use Rattle.ruletable.specs.declared.sink.WriteFault.{WriteFault}
use Rattle.ruletable.proofs.AppendsLemmas.{Appends-join, Appends-kept, IsPrefixOf-same, IsPrefixOf-join}
use Rattle.ruletable.proofs.AppendsLemmas.{IsPrefixOf-after}
use Rattle.toolrun.specs.RunEnd.{ended_status, ended_text}
use Rattle.toolrun.specs.declared.ending.Ending.{Ending}
use Rattle.toolrun.specs.Stop.{write_error}
use Rattle.toolrun.specs.Delivery.{IsReported, Reports, greatest_met}
use Rattle.toolrun.specs.Flush.{Flushes}
use Rattle.toolrun.specs.Finish.{reported_of, ending_of, Concludes}
use Rattle.toolrun.specs.Status.{code_of}

-- what a write that may fail has taken
record First (e0 e1 : Option (List ℕ)) (failed : Bool) (text : List ℕ) : Type 0 where
  reported : List ℕ
  taken : Appends e0 e1 reported
  whole : failed ≡ false → reported ≡ text
  part : IsPrefixOf reported text

first_reported : {A E : Type 0} (e0 e1 : Option (List ℕ)) (failed : Bool) (text : List ℕ) (r : Result A E)
    → Writes e0 e1 text r
    → Flags false failed r → First e0 e1 failed text
first_reported e0 e1 failed text (Ok x) w f =
    record { reported = text; taken = w; whole = λ _. refl; part = IsPrefixOf-same text }
first_reported e0 e1 failed text (Err x) w f = record {
  reported = w.0;
  taken = w.2;
  whole = λ isnt. absurd (cc);
  part =
      w.1.0;
}

not_true : (b c : Bool) → (b ≡ true → c ≡ true) → c ≡ false → b ≡ false
not_true true c h isnt = let e : c ≡ true = h refl in absurd (cc)
not_true false c h isnt = refl

module _ (out_was out_now err_reported err_flushed err_now : Bool) (e0 e1 : Option (List ℕ)) (more : List ℕ) (code : ℕ)
    (flushes : Flushes out_was out_now err_reported err_flushed more)
    (stays : err_flushed ≡ true → err_now ≡ true) where
  reported_clean : err_now ≡ false → err_reported ≡ false
  reported_clean isnt = not_true err_reported err_now (λ e. stays (flushes.err_stays e)) isnt

  -- where the output's flush failed: all of the text was reported before, or the error output had failed
  reported_before : (text : List ℕ) (bad : out_now ≡ true) → out_was ≡ false → (f : First e0 e1 err_reported text)
      → (b : Bool)
      → err_reported ≡ b → IsReported err_now (f.reported ++ more) (text ++ write_error)
  reported_before text bad was f true e = (
    rw (flushes.silent e, append-nil) (IsPrefixOf-join f.reported text write_error f.part),
    λ err_ok. let fine : err_reported ≡ false = reported_clean err_ok in absurd (cc),
  )
  reported_before text bad was f false e = (
    rw (f.whole e) (IsPrefixOf-after text more write_error flushes.part),
    λ err_ok. rw (f.whole e) (ap (λ w. text ++ w) (flushes.whole was bad (not_true err_flushed err_now stays err_ok))),
  )

  -- after a stop
  reports_stop : (text : List ℕ) (stated : ℕ) → out_was ≡ false → (f : First e0 e1 err_reported text) →
      code ≡ greatest_met stated out_now err_now → Reports text stated out_now err_now (f.reported ++ more) code
  reports_stop text stated was f met = record {
    reported = λ out_ok. rw (flushes.quiet (out_ok ∙ sym was), append-nil)
        (f.part, λ err_ok. f.whole (reported_clean err_ok));
    fault = λ out_bad. reported_before text out_bad was f err_reported refl;
    status = met;
  }

  -- after a fault of the output
  reports_fault : (stated : ℕ) → out_was ≡ true → (f : First e0 e1 err_reported write_error) →
      code ≡ greatest_met stated out_now err_now → Reports [] stated out_now err_now (f.reported ++ more) code
  reports_fault stated was f met =
      let bad : out_now ≡ true = flushes.out_stays was in
      record {
        reported = λ out_ok. absurd (cc);
        fault = λ out_bad. rw (flushes.quiet (bad ∙ sym was), append-nil)
            (f.part, λ err_ok. f.whole (reported_clean err_ok));
        status = met;
      }

pub finish_reports : {A E : Type 0} (ending : Result Ending WriteFault)
    {out_was out_now err_reported err_flushed err_now : Bool} (e0 e1 e2 e3 : Option (List ℕ))
    (r : Result A E) (code : ℕ) →
    Flags false out_was ending → Writes e0 e1 (reported_of ending) r → Flags false err_reported r →
    ((more : List ℕ) × Appends e1 e2 more × Flushes out_was out_now err_reported err_flushed more) →
    Keeps e2 e3 → (err_flushed ≡ true → err_now ≡ true) →
    code ≡ greatest_met (code_of (ending_of ending)) out_now err_now →
    (reported : List ℕ) × Appends e0 e3 reported × Concludes ending out_now err_now reported code
finish_reports (Ok ending) {out_was} {out_now} {err_reported} {err_flushed} {err_now} e0 e1 e2 e3 r code
    was w flag m kept stays met =
    let f = first_reported e0 e1 err_reported (ended_text ending) r w flag in (
      f.reported ++ m.0,
      Appends-kept e0 e2 e3 (f.reported ++ m.0) (Appends-join e0 e1 e2 f.reported m.0 f.taken m.1) kept,
      reports_stop out_was out_now err_reported err_flushed err_now e0 e1 m.0 code m.2 stays (ended_text ending)
          (code_of (ended_status ending)) was f met,
    )
finish_reports (Err fault) {out_was} {out_now} {err_reported} {err_flushed} {err_now} e0 e1 e2 e3 r code
    was w flag m kept stays met =
    let f = first_reported e0 e1 err_reported write_error r w flag in (
      f.reported ++ m.0,
      Appends-kept e0 e2 e3 (f.reported ++ m.0) (Appends-join e0 e1 e2 f.reported m.0 f.taken m.1) kept,
      reports_fault out_was out_now err_reported err_flushed err_now e0 e1 m.0 code m.2 stays
          _ was f met,
    )

-- the status met where a writer failed, and where none did
pub met_by_out : (stated code : ℕ) (out_failed err_failed : Bool) → true ≡ out_failed → code ≡ max stated 4
    → code ≡ greatest_met stated out_failed err_failed
met_by_out stated code true err_failed bad is = is
met_by_out stated code false err_failed bad is = absurd (cc)

pub met_by_err : (stated code : ℕ) (out_failed err_failed : Bool) → true ≡ err_failed → code ≡ max stated 4
    → code ≡ greatest_met stated out_failed err_failed
met_by_err stated code true err_failed bad is = is
met_by_err stated code false true bad is = is
met_by_err stated code false false bad is = absurd (cc)

pub met_by_none : (stated code : ℕ) (out_failed err_failed : Bool) → false ≡ out_failed → false ≡ err_failed
    → code ≡ stated → code ≡ greatest_met stated out_failed err_failed
met_by_none stated code true err_failed out_ok err_ok is = absurd (cc)
met_by_none stated code false true out_ok err_ok is = absurd (cc)
met_by_none stated code false false out_ok err_ok is = is

pub met_of_none : (code stated : ℕ) (out_failed err_failed : Bool) → out_failed ≡ false → err_failed ≡ false
    → code ≡ greatest_met stated out_failed err_failed → code ≡ stated
met_of_none code stated true err_failed out_ok err_ok is = absurd (cc)
met_of_none code stated false true out_ok err_ok is = absurd (cc)
met_of_none code stated false false out_ok err_ok is = is
