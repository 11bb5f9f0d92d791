-- One window after others.
-- Serves: peg_windows
use Rattle.std.proofs.Common.{◌≡◌, ℕ, List, [], ◌∷◌, ◌++◌, refl, sym, ◌∙◌, ap, arith, ◌<◌, length, take}
use Rattle.std.proofs.Common.{append_assoc, map, slice_index_or, slice_set, ◌+◌, inl, inr}
use Rattle.std.proofs.lemmas.List.{append-nil, take_more, take_more_set}
use Rattle.std.specs.List.{flat_map}
use Rattle.capi.specs.WindowRuns.{AreWindowRuns, HaveRun, IsWindowRun, WindowRun, more, none, outside}
use Rattle.capi.specs.WindowRuns.{window_bytes, ran, result_of}
use Rattle.capi.specs.WindowsRun.{IsRunAfter, StandsWhole, goes_on}
use Rattle.capi.specs.declared.result.CResult.{CResult}
use Rattle.capi.specs.declared.windows.CWindow.{CWindow}
use Rattle.memoryrun.specs.PlannedRun.{IsPlannedRun}
use Rattle.ruletable.proofs.AppendsLemmas.{IsPrefixOf-nil}
use Rattle.toolrun.specs.Input.{Input, bounded}
use Rattle.toolrun.proofs.DeliversLemmas.{delivers_after}
use Rattle.toolrun.specs.Plan.{Follows, after_notes, in_reply, reported_after}
use Rattle.toolrun.specs.Reply.{Reply}

module _ (Ran : List ℕ → WindowRun → Type 0) (input : List ℕ) where
  flat_of : (f : WindowRun → List ℕ) (runs : List WindowRun) (run : WindowRun)
      → flat_map f (runs ++ run ∷ []) ≡ flat_map f runs ++ f run
  flat_of f [] run = append-nil (f run)
  flat_of f (r ∷ runs) run =
      ap (λ w. f r ++ w) (flat_of f runs run) ∙ sym (append_assoc (f r) (flat_map f runs) (f run))

  map_of : (runs : List WindowRun) (run : WindowRun)
      → map result_of (runs ++ run ∷ []) ≡ map result_of runs ++ result_of run ∷ []
  map_of [] run = refl
  map_of (r ∷ runs) run = ap (λ w. result_of r ∷ w) (map_of runs run)

  -- one more window
  pub one_more : (windows : List CWindow) (out err out' err' : List ℕ) (results : List CResult) (window : CWindow)
      (run : WindowRun) → HaveRun Ran input windows out err results → IsWindowRun Ran input window run
      → out' ≡ out ++ run.out → err' ≡ err ++ run.err
      → HaveRun Ran input (windows ++ window ∷ []) out' err' (results ++ result_of run ∷ [])
  one_more windows out err out' err' results window run h w o e = record {
    runs = h.runs ++ run ∷ [];
    are_runs = more windows h.runs window run h.are_runs w;
    out_is = o ∙ ap (λ x. x ++ run.out) h.out_is ∙ sym (flat_of (λ r. r.out) h.runs run);
    err_is = e ∙ ap (λ x. x ++ run.err) h.err_is ∙ sym (flat_of (λ r. r.err) h.runs run);
    results_are = ap (λ x. x ++ result_of run ∷ []) h.results_are ∙ sym (map_of h.runs run);
  }

  pub one_more_at : (windows : List CWindow) (n : ℕ) (d : CWindow) (out err out' err' : List ℕ) (results : List CResult)
      (result : CResult) (run : WindowRun) → n < length windows → length results ≡ length windows
      → HaveRun Ran input (take n windows) out err (take n results)
      → IsWindowRun Ran input (slice_index_or windows n d) run
      → out' ≡ out ++ run.out → err' ≡ err ++ run.err → result ≡ result_of run
      → HaveRun Ran input (take (n + 1) windows) out' err' (take (n + 1) (slice_set results n result))
  one_more_at windows n d out err out' err' results result run lt count h w o e is =
      rw (take_more windows n d lt, take_more_set results n result (omega (arith, lt, count)), is)
      (one_more (take n windows) out err out' err' (take n results) (slice_index_or windows n d) run h w o e)

  pub no_window : HaveRun Ran input [] [] [] []
  no_window = record { runs = []; are_runs = none; out_is = refl; err_is = refl; results_are = refl }

module _ (Ran Seen : List ℕ → WindowRun → Type 0) (input : List ℕ)
    (reports : (bytes : List ℕ) (run : WindowRun) → Ran bytes run → Seen bytes run) where
  one_reported : (window : CWindow) (run : WindowRun) → IsWindowRun Ran input window run
      → IsWindowRun Seen input window run
  one_reported window run (ran within r) = ran within (reports (window_bytes input window) run r)
  one_reported window run (outside beyond is) = outside beyond is

  all_reported : (windows : List CWindow) (runs : List WindowRun) → AreWindowRuns Ran input windows runs
      → AreWindowRuns Seen input windows runs
  all_reported windows runs none = none
  all_reported windows runs (more before first window run are w) =
      more before first window run (all_reported before first are) (one_reported window run w)

  -- the runs seen in another way
  pub runs_reported : (windows : List CWindow) (out err : List ℕ) (results : List CResult)
      → HaveRun Ran input windows out err results → HaveRun Seen input windows out err results
  runs_reported windows out err results h = record {
    runs = h.runs;
    are_runs = all_reported windows h.runs h.are_runs;
    out_is = h.out_is;
    err_is = h.err_is;
    results_are = h.results_are;
  }

-- a planned run delivers its reply after the first messages
pub after_as : (States : Input → List ℕ → Reply → Type 0) (first notes bytes : List ℕ) (run : WindowRun)
    (plain whole : Reply) (Does : Input → Reply → Type 0) (p : IsPlannedRun Does bytes run.out run.err run.code)
    → whole.out ≡ plain.out → whole.status ≡ plain.status → first ++ plain.err ≡ notes ++ whole.err
    → StandsWhole first notes whole → p.stated ≡ plain → States (bounded bytes) notes whole
    → IsRunAfter States first bytes run
after_as States first notes bytes run plain whole Does p out status err stands is states =
    goes_on (record {
      notes = notes;
      stated = whole;
      states = states;
      out_failed = p.out_failed;
      err_failed = p.err_failed;
      delivers = delivers_after first notes plain whole _ out status err stands
          (rw (p.states.0, is) at p.delivers);
    }) stands

-- a planned run is one after the first messages
pub planned_is_after : (States : Input → List ℕ → Reply → Type 0) (first : List ℕ) (Does : Input → Reply → Type 0)
    → ((input : Input) (reply : Reply) → Does input reply → Follows States input first reply) → (bytes : List ℕ)
    (run : WindowRun) → IsPlannedRun Does bytes run.out run.err run.code → IsRunAfter States first bytes run
planned_is_after States first Does stated bytes run p = by (stated (bounded bytes) p.stated p.states.1)
  where
    by : Follows States (bounded bytes) first p.stated → IsRunAfter States first bytes run
    by (after_notes s) = after_as States first first bytes run p.stated p.stated Does p refl refl refl (inl refl)
        refl s
    by (in_reply empty s) = after_as States first [] bytes run p.stated (reported_after first p.stated) Does p refl refl
        refl (inr (IsPrefixOf-nil first, empty)) refl s
