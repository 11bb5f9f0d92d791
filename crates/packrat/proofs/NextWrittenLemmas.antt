-- Kept events that are written one by one, of which the first is next, or is passed since it prints nothing.
-- Serves: EventLog::replay
use Rattle.std.proofs.Common.{◌≡◌, ℕ, ◌<◌, List, [], ◌∷◌, length, Option, subst, arith, ◌++◌, Some, None}
use Rattle.std.proofs.Common.{length-append, refl, ap, ◌∙◌}
use Rattle.std.specs.Prelude.{slice_range}
use Rattle.std.specs.Io.KnownBytes.{Appends}
use Rattle.ruletable.specs.Writing.{AppendsPart}
use Rattle.pegnodes.specs.Nodes.{Shape}
use Rattle.gramcheck.specs.Outcome.{Event}
use Rattle.pegmatch.specs.EventPrinting.{event_text, capture_by}
use Rattle.pegmatch.specs.Text.{text_of}
use Rattle.pegmatch.specs.declared.event.Kept.{Kept}
use Rattle.pegmatch.specs.declared.writing.Capture.{Capture}
use Rattle.pegmatch.proofs.IsPrintedLemmas.{HaveWritten, FirstStands, next_event, written_next, written_part}
use Rattle.pegmatch.proofs.IsPrintedLemmas.{written_all}
use Rattle.pegmatch.specs.declared.style.PrintStyle.{PrintStyle}
use Rattle.ruletable.proofs.AppendsLemmas.{Appends-same}
use Rattle.packrat.specs.declared.events.link.Link.{Link}
use Rattle.packrat.specs.declared.events.walk.ReplayWalk.{ReplayWalk}
use Rattle.packrat.specs.WaitingHeads.{kept_at_all}
use Rattle.packrat.specs.QuietJoins.{AreSilent, IsNextEvent}

module _ (style : PrintStyle) (nodes : List Shape) (x : List ℕ) (all : List Event) (kept : List Kept)
    (old : Option (List ℕ)) where
  -- none is left
  pub none_next : (new : Option (List ℕ)) (capture : Capture) → kept ≡ []
      → HaveWritten style nodes x all kept 0 old new capture → Appends old new (text_of style x all)
  none_next new capture none h =
      let empty = subst (λ v. HaveWritten style nodes x all v 0 old new capture) none h in
      written_all style nodes x all [] old 0 new capture (omega arith) empty

  module _ (event : Kept) (rest : List Kept) (is : kept ≡ event ∷ rest) (mid : Option (List ℕ)) (capture : Capture)
      (h : HaveWritten style nodes x all kept 0 old mid capture) where
    pub front_written : HaveWritten style nodes x all (event ∷ rest) 0 old mid capture
    front_written = subst (λ v. HaveWritten style nodes x all v 0 old mid capture) is h

    some_left : 0 < length (event ∷ rest)
    some_left = omega arith

    pub first_next : FirstStands nodes event rest front_written.later
    first_next = next_event style nodes x all (event ∷ rest) old 0 event some_left mid capture front_written

    pub next_written : (new : Option (List ℕ)) → Appends mid new
        (event_text style first_next.event (slice_range x capture.from capture.to)) →
        HaveWritten style nodes x all rest 0 old new (capture_by capture event)
    unfolding first_next
    next_written new one =
        let then = written_next style nodes x all (event ∷ rest) old 0 event some_left mid capture front_written new one
        in
        record { later = then.later; left = then.left; written = then.written }

    pub next_part : (new : Option (List ℕ)) → AppendsPart mid new
        (event_text style first_next.event (slice_range x capture.from capture.to)) →
        AppendsPart old new (text_of style x all)
    unfolding first_next
    next_part new part =
        written_part style nodes x all (event ∷ rest) old 0 event some_left mid capture front_written new part

module _ (style : PrintStyle) (nodes : List Shape) (x : List ℕ) (all : List Event) (old mid : Option (List ℕ)) where
  -- silent events write nothing
  pub silent_written : (passed : List Kept) (kept rest : List Kept) (before after : Capture) → kept ≡ passed ++ rest
      → AreSilent style nodes x before passed after → HaveWritten style nodes x all kept 0 old mid before
      → HaveWritten style nodes x all rest 0 old mid after
  silent_written [] kept rest before after is silent h =
      let here = subst (λ v. HaveWritten style nodes x all v 0 old mid before) is h in
      subst (λ v. HaveWritten style nodes x all rest 0 old mid v) silent here
  silent_written (k ∷ ks) kept rest before after is silent h =
      let n = first_next style nodes x all kept old k (ks ++ rest) is mid before h in
      let text = silent.0 n.event n.stands in
      let none : Appends mid mid (event_text style n.event (slice_range x before.from before.to)) =
      rw text (Appends-same mid) in
      silent_written ks (ks ++ rest) rest (capture_by before k) after refl silent.1
      (next_written style nodes x all kept old k (ks ++ rest) is mid before h mid none)

module _ (style : PrintStyle) (nodes : List Shape) (x : List ℕ) (links : List Link) (before after : ReplayWalk) where
  -- the next event
  module _ (event : Kept) (h : IsNextEvent style nodes x links before after (Some event)) where
    event_left : kept_at_all links (h.0 ∷ after.waiting.heads) ≡ event ∷ kept_at_all links after.waiting.heads
    event_left = ap (λ v. v ++ kept_at_all links after.waiting.heads) h.1

    pub event_fewer : length (kept_at_all links after.waiting.heads)
        < length (kept_at_all links before.waiting.heads)
    event_fewer =
        let all = ap length (h.2.kept ∙ ap (λ v. h.2.passed ++ v) event_left) in
        let parts = length-append h.2.passed (event ∷ kept_at_all links after.waiting.heads) in
        omega (arith, all, parts)

    pub event_written : (all : List Event) (old mid : Option (List ℕ))
        → HaveWritten style nodes x all (kept_at_all links before.waiting.heads) 0 old mid before.capture
        → HaveWritten style nodes x all (event ∷ kept_at_all links after.waiting.heads) 0 old mid after.capture
    event_written all old mid w =
        subst (λ v. HaveWritten style nodes x all v 0 old mid after.capture) event_left
        (silent_written style nodes x all old mid h.2.passed _ _ before.capture after.capture h.2.kept h.2.silent w)

  -- no event is next
  pub end_written : IsNextEvent style nodes x links before after None → (all : List Event) (old mid : Option (List ℕ))
      → HaveWritten style nodes x all (kept_at_all links before.waiting.heads) 0 old mid before.capture
      → HaveWritten style nodes x all [] 0 old mid after.capture
  end_written h all old mid w =
      silent_written style nodes x all old mid h.1.passed _ [] before.capture after.capture h.1.kept h.1.silent w
