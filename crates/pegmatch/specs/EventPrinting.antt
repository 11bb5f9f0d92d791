-- What an event prints, and the capture after it.
use Rattle.std.specs.Prelude.{◌≡◌, ℕ, ◌≤◌, List, [], ◌++◌, length, slice_range, Option, Some, None, IfSome}
use Rattle.gramcheck.specs.Rising.{Rise}
use Rattle.gramcheck.specs.Outcome as event
use Rattle.gramcheck.specs.Outcome.{Event}
use Rattle.pegmatch.specs.TemplateEscapes.{printed_by}
use Rattle.pegmatch.specs.Text.{text_after, text_of}
use Rattle.pegmatch.specs.declared.event.Kept.{Kept}
use Rattle.pegmatch.specs.declared.event.Kept.TheVariants.{Opened, Closed, Acted}
use Rattle.pegmatch.specs.declared.style.PrintStyle.{PrintStyle}
use Rattle.pegmatch.specs.declared.writing.Capture.{Capture}

-- what an event prints: of an action its template with the capture put in
abbrev pub event_text : PrintStyle → Event → List ℕ → List ℕ
event_text style (event.Opened p) capture = []
event_text style (event.Closed p) capture = []
event_text style (event.Acted t) capture = printed_by style t capture

abbrev pub closed_at : Capture → ℕ → Option ℕ → Capture
closed_at capture q None = capture
closed_at capture q (Some p) = record { start = Some p; from = p; to = q }

-- the capture after an event: from where one was opened last to where it is closed
abbrev pub capture_by : Capture → Kept → Capture
capture_by capture (Opened p) = record { start = Some p; from = capture.from; to = capture.to }
capture_by capture (Closed q) = closed_at capture q capture.start
capture_by capture (Acted n) = capture

-- what was written so far, and what the events still to come print, make up the whole text
pub record IsPrinted (style : PrintStyle) (x : List ℕ) (all later : List Event) (capture : Capture)
    (done : List ℕ) : Type 0 where
  pub low : ℕ
  pub begun : IfSome capture.start (λ p. p ≤ low)
  pub order : capture.from ≤ capture.to
  pub within : capture.to ≤ length x
  pub rise : Rise low (length x) later
  pub text : done ++ text_after style x later capture.start (slice_range x capture.from capture.to)
      ≡ text_of style x all
