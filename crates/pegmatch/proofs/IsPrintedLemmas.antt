-- What is printed event by event.
-- Serves: Packrat::replay of packrat
use Rattle.std.proofs.Common.{◌≡◌, ℕ, ◌+◌, ◌<◌, ◌≤◌, List, [], ◌∷◌, ◌++◌, length, get_or, drop, Option, Some}
use Rattle.std.proofs.Common.{None, refl, sym, ◌∙◌, ap, subst, arith, append_assoc, append-nil, add-one, drop-cons}
use Rattle.std.specs.Prelude.{slice_range, slice_get}
use Rattle.std.specs.Io.KnownBytes.{Appends}
use Rattle.std.proofs.lemmas.Grind.{common_steps}
use Rattle.ruletable.specs.Writing.{AppendsPart}
use Rattle.ruletable.proofs.AppendsLemmas.{Appends-join, Appends-same, AppendsPart-join, AppendsPart-first}
use Rattle.pegnodes.specs.Nodes.{Shape, Act}
use Rattle.gramcheck.specs.Outcome as event
use Rattle.gramcheck.specs.Outcome.{Event}
use Rattle.gramcheck.specs.Rising.{Rise}
use Rattle.gramcheck.proofs.RiseLemmas.{Rise-le}
use Rattle.pegmatch.specs.KeptEvents.{StandsFor, opened, closed, acted, StandFor, no_event, one_event}
use Rattle.pegmatch.specs.EventPrinting.{event_text, closed_at, capture_by, IsPrinted}
use Rattle.pegmatch.specs.Text.{text_after, text_of}
use Rattle.pegmatch.specs.declared.event.Kept.{Kept}
use Rattle.pegmatch.specs.declared.writing.Capture.{Capture}
use Rattle.pegmatch.specs.declared.style.PrintStyle.{PrintStyle}
use Rattle.pegmatch.specs.TemplateEscapes.{printed_by}

module _ (style : PrintStyle) (x : List ℕ) (all later : List Event) where
  closing_prints : (capture : Capture) (q : ℕ) (done : List ℕ) (s : Option ℕ) → capture.start ≡ s
      → IsPrinted style x all (event.Closed q ∷ later) capture done
      → IsPrinted style x all later (closed_at capture q s) (done ++ [])
  closing_prints capture q done None is p =
      let text = subst (λ v. done ++ text_after style x (event.Closed q ∷ later) v
      (slice_range x capture.from capture.to) ≡ text_of style x all) is p.text in
      record {
        low = q;
        begun = rw is tt;
        order = p.order;
        within = p.within;
        rise = p.rise.1;
        text = rw is (ap (λ v. v ++ text_after style x later None (slice_range x capture.from capture.to))
            (append-nil done) ∙ text);
      }
  closing_prints capture q done (Some from) is p =
      let text = subst (λ v. done ++ text_after style x (event.Closed q ∷ later) v
      (slice_range x capture.from capture.to) ≡ text_of style x all) is p.text in
      let begun : from ≤ p.low = rw is at p.begun in
      let after : from ≤ q = omega (arith, begun, p.rise.0) in
      record {
        low = q;
        begun = after;
        order = after;
        within = Rise-le q (length x) later p.rise.1;
        rise = p.rise.1;
        text = ap (λ v. v ++ text_after style x later (Some from) (slice_range x from q)) (append-nil done) ∙ text;
      }

  -- an event is printed
  pub after_event : (nodes : List Shape) {kept : Kept} {e : Event} (capture : Capture) (done : List ℕ)
      → StandsFor nodes kept e → IsPrinted style x all (e ∷ later) capture done →
      IsPrinted style x all later (capture_by capture kept)
      (done ++ event_text style e (slice_range x capture.from capture.to))
  after_event nodes capture done (opened {p = p}) h =
      record {
        low = p;
        begun = omega arith;
        order = h.order;
        within = h.within;
        rise = h.rise.1;
        text = ap (λ v. v ++ text_after style x later (Some p) (slice_range x capture.from capture.to))
            (append-nil done) ∙ h.text;
      }
  after_event nodes capture done (closed {p = q}) h = closing_prints capture q done capture.start refl h
  after_event nodes capture done (acted {t = t} g) h =
      record {
        low = h.low;
        begun = h.begun;
        order = h.order;
        within = h.within;
        rise = h.rise;
        text = append_assoc done (printed_by style t (slice_range x capture.from capture.to))
            (text_after style x later capture.start (slice_range x capture.from capture.to)) ∙ h.text;
      }

-- of all events some were printed, and the others, `later`, are still to come
pub record HasPrinted (style : PrintStyle) (x : List ℕ) (all later : List Event) (old new : Option (List ℕ))
    (capture : Capture) : Type 0 where
  pub done : List ℕ
  pub appends : Appends old new done
  pub printed : IsPrinted style x all later capture done

module _ (style : PrintStyle) (x : List ℕ) (all : List Event) (old : Option (List ℕ)) where
  pub printed_start : Rise 0 (length x) all → HasPrinted style x all all old old
      (record { start = None; from = 0; to = 0 })
  printed_start r = record {
    done = [];
    appends = Appends-same old;
    printed = record { low = 0; begun = tt; order = omega arith; within = omega arith; rise = r; text = refl };
  }

  module _ (nodes : List Shape) (mid new : Option (List ℕ)) (capture : Capture) (kept : Kept) (e : Event)
      (later : List Event) (s : StandsFor nodes kept e)
      (h : HasPrinted style x all (e ∷ later) old mid capture) where
    next_printed : IsPrinted style x all later (capture_by capture kept)
        (h.done ++ event_text style e (slice_range x capture.from capture.to))
    next_printed = after_event style x all later nodes capture h.done s h.printed

    pub printed_next : Appends mid new (event_text style e (slice_range x capture.from capture.to))
        → HasPrinted style x all later old new (capture_by capture kept)
    printed_next one = record {
      done = h.done ++ event_text style e (slice_range x capture.from capture.to);
      appends = Appends-join old mid new h.done _ h.appends one;
      printed = next_printed;
    }

    pub printed_part : AppendsPart mid new (event_text style e (slice_range x capture.from capture.to))
        → AppendsPart old new (text_of style x all)
    printed_part part =
        let both = AppendsPart-join old mid new h.done _ h.appends part in
        subst (λ v. AppendsPart old new v) next_printed.text (AppendsPart-first old new _ _ both)

  pub printed_all : (new : Option (List ℕ)) (capture : Capture) (later : List Event) → later ≡ []
      → HasPrinted style x all later old new capture →
      Appends old new (text_of style x all)
  printed_all new capture later none h =
      let text = subst (λ v. h.done ++ text_after style x v capture.start (slice_range x capture.from capture.to)
      ≡ text_of style x all) none h.printed.text in
      subst (λ v. Appends old new v) (sym (append-nil h.done) ∙ text) h.appends

-- of kept events some were printed, and the others stand from index i on
pub record HaveWritten (style : PrintStyle) (nodes : List Shape) (x : List ℕ) (all : List Event) (kept : List Kept)
    (i : ℕ) (old new : Option (List ℕ)) (capture : Capture) : Type 0 where
  pub later : List Event
  pub left : StandFor nodes (drop i kept) later
  pub written : HasPrinted style x all later old new capture

-- the first kept event and what it stands for
pub record FirstStands (nodes : List Shape) (k : Kept) (rest : List Kept) (events : List Event) : Type 0 where
  pub event : Event
  pub others : List Event
  pub is : events ≡ event ∷ others
  pub stands : StandsFor nodes k event
  pub stand : StandFor nodes rest others

first_stands : (nodes : List Shape) {kept : List Kept} {events : List Event} → StandFor nodes kept events
    → (k : Kept) (rest : List Kept) → kept ≡ k ∷ rest →
    FirstStands nodes k rest events
first_stands nodes no_event k rest is = absurd (cc is)
first_stands nodes (one_event {k = l} {e = e} {kept = ls} {events = es} h s) k rest is =
    let same : l ≡ k = cc is in
    let others : ls ≡ rest = cc is in
    record {
      event = e;
      others = es;
      is = refl;
      stands = subst (λ v. StandsFor nodes v e) same h;
      stand = subst (λ v. StandFor nodes v es) others s;
    }

none_stand : (nodes : List Shape) {kept : List Kept} {events : List Event} → StandFor nodes kept events → kept ≡ []
    → events ≡ []
none_stand nodes no_event is = refl
none_stand nodes (one_event h s) is = absurd (cc is)

-- what a kept event says of the event that it stands for
abbrev Stood : List Shape → Kept → Event → Type 0
Stood nodes (Kept.Opened p) e = e ≡ event.Opened p
Stood nodes (Kept.Closed p) e = e ≡ event.Closed p
Stood nodes (Kept.Acted n) e = (t : List ℕ) × (slice_get nodes n ≡ Some (Act t)) × (e ≡ event.Acted t)

has_stood : {nodes : List Shape} {k : Kept} {e : Event} → StandsFor nodes k e → Stood nodes k e
has_stood opened = refl
has_stood closed = refl
has_stood (acted g) = (_, g, refl)

same_stands : {nodes : List Shape} {k : Kept} {e c : Event} → StandsFor nodes k e → StandsFor nodes k c → e ≡ c
same_stands opened s = sym (has_stood s)
same_stands closed s = sym (has_stood s)
same_stands (acted {t = t} g) s =
    let h = has_stood s in
    let template : t ≡ h.0 = cc (g, h.1) in
    ap event.Acted template ∙ sym h.2

-- kept events stand for no other events
pub same_events : (nodes : List Shape) {kept : List Kept} {events other : List Event} → StandFor nodes kept events
    → StandFor nodes kept other → events ≡ other
same_events nodes no_event s = sym (none_stand nodes s refl)
same_events nodes (one_event {k = k} {e = e} {kept = ks} {events = es} h r) s =
    let f = first_stands nodes s k ks refl in
    ap (λ v. v ∷ es) (same_stands h f.stands) ∙ ap (λ v. f.event ∷ v) (same_events nodes r f.stand) ∙ sym f.is

module _ (style : PrintStyle) (nodes : List Shape) (x : List ℕ) (all : List Event) (kept : List Kept)
    (old : Option (List ℕ)) where
  pub written_start : StandFor nodes kept all → Rise 0 (length x) all → HaveWritten style nodes x all kept 0 old old
      (record { start = None; from = 0; to = 0 })
  written_start s r = record { later = all; left = s; written = printed_start style x all old r }

  pub written_all : (i : ℕ) (new : Option (List ℕ)) (capture : Capture) → length kept ≤ i
      → HaveWritten style nodes x all kept i old new capture → Appends old new (text_of style x all)
  written_all i new capture long h =
      let empty : drop i kept ≡ [] = grind (arith, common_steps) in
      printed_all style x all old new capture h.later (none_stand nodes h.left empty) h.written

  module _ (i : ℕ) (d : Kept) (lt : i < length kept) (mid : Option (List ℕ)) (capture : Capture)
      (h : HaveWritten style nodes x all kept i old mid capture) where
    pub next_event : FirstStands nodes (get_or kept i d) (drop (i + 1) kept) h.later
    next_event = first_stands nodes h.left (get_or kept i d) (drop (i + 1) kept)
        (rw (drop-cons kept i d, add-one i) refl)

    printed_here : HasPrinted style x all (next_event.event ∷ next_event.others) old mid capture
    printed_here = subst (λ v. HasPrinted style x all v old mid capture) next_event.is h.written

    pub written_next : (new : Option (List ℕ)) → Appends mid new
        (event_text style next_event.event (slice_range x capture.from capture.to)) →
        HaveWritten style nodes x all kept (i + 1) old new (capture_by capture (get_or kept i d))
    written_next new one = record {
      later = next_event.others;
      left = next_event.stand;
      written = printed_next style x all old nodes mid new capture (get_or kept i d) next_event.event next_event.others
          next_event.stands printed_here one;
    }

    pub written_part : (new : Option (List ℕ)) → AppendsPart mid new
        (event_text style next_event.event (slice_range x capture.from capture.to))
        → AppendsPart old new (text_of style x all)
    written_part new part = printed_part style x all old nodes mid new capture (get_or kept i d) next_event.event
        next_event.others next_event.stands printed_here part
