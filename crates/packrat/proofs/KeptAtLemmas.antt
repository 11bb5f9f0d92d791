-- What the heads of a log keep, and the links that they lead to.
-- Serves: EventLog::mark, EventLog::join, EventLog::replay
use Rattle.std.proofs.Common.{◌≡◌, ℕ, suc, ◌+◌, ◌≤◌, Bool, true, false, ◌==◌, List, [], ◌∷◌, length, Result, Ok, Err}
use Rattle.std.proofs.Common.{IfOk, OnOk, OnErr, refl, sym, ◌∙◌, subst, arith, ◌⊎◌, inl, inr, zero, ◌<◌}
use Rattle.std.proofs.Common.{if◌then◌else◌, ◌++◌, reverse, slice_get, Some, ap, append_assoc, append-nil}
use Rattle.std.proofs.lemmas.Bool.{eqb-true, eq-eqb}
use Rattle.pegmatch.specs.declared.event.Kept.{Kept}
use Rattle.packrat.specs.declared.events.link.Link.{Link}
use Rattle.packrat.specs.EventLog.{events_of, kept_at, AreGrown, IsBefore, AreOrdered}
use Rattle.std.proofs.lemmas.List.{reverse-append, length-reverse, reverse-reverse}
use Rattle.packrat.specs.declared.events.link.Link.TheVariants.{Opened, Closed, Acted, Join}
use Rattle.packrat.specs.WaitingHeads.{kept_at_all, AreWaiting}

pub not_equal : (a b : ℕ) → (a ≡ b → ⊥) → (a == b) ≡ false
not_equal a b other = by (a == b) refl
  where
    by : (v : Bool) → (a == b) ≡ v → v ≡ false
    by true is = absurd (other (eqb-true a b is))
    by false is = refl

-- the head 0 has no events
pub none_kept : (links : List Link) → kept_at links 0 ≡ []
unfolding kept_at
none_kept [] = refl
none_kept (link ∷ older) = rw (not_equal 0 (suc (length older)) (λ e. cc e)) (none_kept older)

-- a link more, of which the head is not
pub kept_before : (link : Link) (older : List Link) (head : ℕ) → head ≤ length older
    → kept_at (link ∷ older) head ≡ kept_at older head
unfolding kept_at
kept_before link older head low = rw (not_equal head (suc (length older)) (λ e. absurd (omega (arith, e)))) refl

-- the last link
pub kept_last : (link : Link) (older : List Link) (head : ℕ) → head ≡ suc (length older)
    → kept_at (link ∷ older) head ≡ events_of (kept_at older) link
unfolding kept_at
kept_last link older head is = rw (eq-eqb head (suc (length older)) is) refl

-- one link more
pub grown_by : (link : Link) (older : List Link) → AreGrown older (link ∷ older)
grown_by link older head low = (omega arith, kept_before link older head low)

pub grown_same : (links : List Link) → AreGrown links links
grown_same links head low = (low, refl)

module _ {E : Type 0} (link : Link) (old new : List Link) where
  pub added_grows : (r : Result ℕ E) → OnOk r (new ≡ link ∷ old) → OnErr r (new ≡ old) → AreGrown old new
  added_grows (Ok head) is none = subst (AreGrown old) (sym is) (grown_by link old)
  added_grows (Err e) is none = subst (AreGrown old) (sym none) (grown_same old)

  pub added_keeps : (r : Result ℕ E) (events : List Kept) → OnOk r (new ≡ link ∷ old)
      → IfOk r (λ head. head ≡ length old + 1) → events_of (kept_at old) link ≡ events →
      IfOk r (λ head. kept_at new head ≡ events)
  added_keeps (Ok head) events is at same =
      let last : head ≡ suc (length old) = omega (arith, at) in
      subst (λ v. kept_at v head ≡ events) (sym is) (kept_last link old head last ∙ same)
  added_keeps (Err e) events is at same = tt

-- how many links a walk over the events of a link or a head goes through, and one for each head that has none
abbrev pub steps_of : (ℕ → ℕ) → Link → ℕ
steps_of steps (Opened position) = 1
steps_of steps (Closed position) = 1
steps_of steps (Acted node) = 1
steps_of steps (Join first second) = suc (steps first + steps second)

unfoldable pub steps_at : List Link → ℕ → ℕ
steps_at [] head = 1
steps_at (link ∷ older) head =
    if head == suc (length older) then steps_of (steps_at older) link else steps_at older head

abbrev pub steps_at_all : List Link → List ℕ → ℕ
steps_at_all links [] = 0
steps_at_all links (head ∷ heads) = steps_at links head + steps_at_all links heads

none_steps : (links : List Link) → steps_at links 0 ≡ 1
unfolding steps_at
none_steps [] = refl
none_steps (link ∷ older) = rw (not_equal 0 (suc (length older)) (λ e. cc e)) (none_steps older)

steps_before : (link : Link) (older : List Link) (head : ℕ) → head ≤ length older
    → steps_at (link ∷ older) head ≡ steps_at older head
unfolding steps_at
steps_before link older head low = rw (not_equal head (suc (length older)) (λ e. absurd (omega (arith, e)))) refl

steps_last : (link : Link) (older : List Link) (head : ℕ) → head ≡ suc (length older)
    → steps_at (link ∷ older) head ≡ steps_of (steps_at older) link
unfolding steps_at
steps_last link older head is = rw (eq-eqb head (suc (length older)) is) refl

-- What a link keeps depends on the heads that it joins alone.
same_events : (f g : ℕ → List Kept) (head : ℕ) (link : Link) → IsBefore head link
    → ((h : ℕ) → h < head → f h ≡ g h) → events_of f link ≡ events_of g link
same_events f g head (Opened position) b same = refl
same_events f g head (Closed position) b same = refl
same_events f g head (Acted node) b same = refl
same_events f g head (Join first second) b same =
    let one = same first b.0 in
    let two = same second b.1 in
    rw (one, two) refl

same_steps : (f g : ℕ → ℕ) (head : ℕ) (link : Link) → IsBefore head link
    → ((h : ℕ) → h < head → f h ≡ g h) → steps_of f link ≡ steps_of g link
same_steps f g head (Opened position) b same = refl
same_steps f g head (Closed position) b same = refl
same_steps f g head (Acted node) b same = refl
same_steps f g head (Join first second) b same =
    let one = same first b.0 in
    let two = same second b.1 in
    rw (one, two) refl

in_front_or_last : {A : Type 0} (xs : List A) (y z : A) (i : ℕ) → slice_get (xs ++ y ∷ []) i ≡ Some z
    → (slice_get xs i ≡ Some z) ⊎ ((i ≡ length xs) × (y ≡ z))
in_front_or_last [] y z zero h = inr (refl, cc h)
in_front_or_last [] y z (suc i) h = absurd (cc h)
in_front_or_last (x ∷ xs) y z zero h = inl h
in_front_or_last (x ∷ xs) y z (suc i) h = elim (in_front_or_last xs y z i h) [
  | inl a ↦ inl a
  | inr b ↦ inr (ap suc b.0, b.1)
]

-- what a link says of its head
pub record IsLinkOf (links : List Link) (head : ℕ) (link : Link) : Type 0 where
  pub within : head ≤ length links
  pub before : IsBefore head link
  pub kept : kept_at links head ≡ events_of (kept_at links) link
  pub steps : steps_at links head ≡ steps_of (steps_at links) link

one_more_link : (last link : Link) (older : List Link) (head : ℕ) → IsLinkOf older head link
    → IsLinkOf (last ∷ older) head link
one_more_link last link older head h =
    let low : head ≤ length older = h.within in
    record {
      within = omega arith;
      before = h.before;
      kept = kept_before last older head low ∙ h.kept ∙ same_events (kept_at older) (kept_at (last ∷ older)) head link
          h.before (λ k lt. sym (kept_before last older k (omega arith)));
      steps = steps_before last older head low ∙ h.steps ∙ same_steps (steps_at older) (steps_at (last ∷ older)) head
          link h.before (λ k lt. sym (steps_before last older k (omega arith)));
    }

last_link : (link : Link) (older : List Link) (head : ℕ) → IsBefore (suc (length older)) link
    → head ≡ suc (length older) → IsLinkOf (link ∷ older) head link
last_link link older head b is =
    let before : IsBefore head link = subst (λ v. IsBefore v link) (sym is) b in
    record {
      within = omega (arith, is);
      before = before;
      kept = kept_last link older head is ∙ same_events (kept_at older) (kept_at (link ∷ older)) head link before
          (λ k lt. sym (kept_before link older k (omega arith)));
      steps = steps_last link older head is ∙ same_steps (steps_at older) (steps_at (link ∷ older)) head link before
          (λ k lt. sym (steps_before link older k (omega arith)));
    }

pub link_of_head : (links : List Link) (i : ℕ) (link : Link) → AreOrdered links
    → slice_get (reverse links) i ≡ Some link → IsLinkOf links (suc i) link
link_of_head [] i link o at = absurd (cc at)
link_of_head (last ∷ older) i link o at =
    elim (in_front_or_last (reverse older) last link i (rw (reverse-append (last ∷ []) older) at at)) [
      | inl a ↦ one_more_link last link older (suc i) (link_of_head older i link o.1 a)
      | inr b ↦
          let is : suc i ≡ suc (length older) = ap suc (b.0 ∙ length-reverse older) in
          subst (λ v. IsLinkOf (last ∷ older) (suc i) v) b.1 (last_link last older (suc i) o.0 is)
    ]

-- there is room for all that wait
pub waiting_fit : (count low : ℕ) (heads : List ℕ) → AreWaiting count low heads → low + length heads ≤ count
waiting_fit count low [] w = omega (arith, w)
waiting_fit count low (head ∷ heads) w =
    let rest = waiting_fit count w.0 heads w.3 in
    let above = w.1 in
    omega (arith, rest, above)

waiting_lower : (count low lower : ℕ) (heads : List ℕ) → lower ≤ low → AreWaiting count low heads
    → AreWaiting count lower heads
waiting_lower count low lower [] le w = omega (arith, le, w)
waiting_lower count low lower (head ∷ heads) le w = let above = w.1 in (w.0, omega (arith, le, above), w.2, w.3)

module _ (count top : ℕ) (heads : List ℕ) (w : AreWaiting count 0 (top ∷ heads)) where
  -- the head that is next
  pub waiting_next : AreWaiting count 0 heads
  waiting_next = waiting_lower count w.0 0 heads (omega arith) w.3

  -- a join gives way to the heads that it joins
  pub waiting_join : (first second : ℕ) → first < top → second < top → AreWaiting count 0 (first ∷ second ∷ heads)
  waiting_join first second one two =
      let above = w.2 in
      (top, omega (arith, one), one, (w.0, above, omega (arith, two, above), w.3))

  pub waiting_within : top < count
  waiting_within =
      let above = w.2 in
      let fit = waiting_fit count w.0 heads w.3 in
      omega (arith, above, fit)

pub at_head : (items : List Link) (head : ℕ) (found link : Link) → AreOrdered (reverse items) → found ≡ link
    → (i : ℕ) × (head ≡ i + 1) × (slice_get items i ≡ Some found) → IsLinkOf (reverse items) head link
at_head items head found link o same h =
    let is : suc h.0 ≡ head = omega (arith, h.1) in
    let at : slice_get (reverse (reverse items)) h.0 ≡ Some link = rw (reverse-reverse items) (h.2 ∙ ap Some same) in
    subst (λ v. IsLinkOf (reverse items) v link) is (link_of_head (reverse items) h.0 link o at)

module _ (links : List Link) (top : ℕ) (heads : List ℕ) (all : List Kept)
    (is : kept_at_all links (top ∷ heads) ≡ all) where
  -- the next head has no events
  pub none_reported : top ≡ 0 → (others : List ℕ) → heads ≡ others → kept_at_all links others ≡ all
  none_reported zero_head others same =
      ap (kept_at_all links) (sym same)
      ∙ ap (λ v. v ++ kept_at_all links heads) (sym (none_kept links) ∙ ap (kept_at links) (sym zero_head)) ∙ is

  module _ (link : Link) (h : IsLinkOf links top link) where
    -- it is one event
    pub one_reported : (event : Kept) → events_of (kept_at links) link ≡ event ∷ [] → all
        ≡ event ∷ kept_at_all links heads
    one_reported event same = sym is ∙ ap (λ v. v ++ kept_at_all links heads) (h.kept ∙ same)

  -- it is a join
  pub join_reported : (first second : ℕ) → IsLinkOf links top (Join first second) → (others : List ℕ)
      → others ≡ second ∷ heads → kept_at links first ++ kept_at_all links others ≡ all
  join_reported first second h others same =
      ap (λ v. kept_at links first ++ kept_at_all links v) same
      ∙ sym (append_assoc (kept_at links first) (kept_at links second) (kept_at_all links heads))
      ∙ ap (λ v. v ++ kept_at_all links heads) (sym h.kept) ∙ is

module _ (links : List Link) (top : ℕ) (heads : List ℕ) where
  pub none_fewer : top ≡ 0 → (head : ℕ) (others : List ℕ) → heads ≡ head ∷ others
      → steps_at_all links (head ∷ others) < steps_at_all links (top ∷ heads)
  none_fewer zero_head head others same =
      let one : steps_at links top ≡ 1 = ap (steps_at links) zero_head ∙ none_steps links in
      let rest : steps_at_all links heads ≡ steps_at_all links (head ∷ others) = ap (steps_at_all links) same in
      omega (arith, one, rest)

  pub join_fewer : (first second : ℕ) → IsLinkOf links top (Join first second) → (others : List ℕ)
      → others ≡ second ∷ heads → steps_at links first + steps_at_all links others < steps_at_all links (top ∷ heads)
  join_fewer first second h others same =
      let one = h.steps in
      let rest : steps_at_all links others ≡ steps_at_all links (second ∷ heads) = ap (steps_at_all links) same in
      omega (arith, one, rest)

-- each head is a step
some_step : (steps : ℕ → ℕ) (link : Link) → 0 < steps_of steps link
some_step steps (Opened position) = omega arith
some_step steps (Closed position) = omega arith
some_step steps (Acted node) = omega arith
some_step steps (Join first second) = omega arith

some_of_two : (v : Bool) (a b : ℕ) → 0 < a → 0 < b → 0 < (if v then a else b)
some_of_two true a b h s = h
some_of_two false a b h s = s

some_steps : (links : List Link) (head : ℕ) → 0 < steps_at links head
unfolding steps_at
some_steps [] head = omega arith
some_steps (link ∷ older) head =
    some_of_two (head == suc (length older)) (steps_of (steps_at older) link) (steps_at older head)
    (some_step (steps_at older) link) (some_steps older head)

pub head_fewer : (links : List Link) (top : ℕ) (heads : List ℕ)
    → steps_at_all links heads < steps_at_all links (top ∷ heads)
head_fewer links top heads = omega (arith, some_steps links top)

-- the events of one head that waits
pub one_waits : (items held links : List Link) (head : ℕ) (heads : List ℕ) → reverse items ≡ links → held ≡ items
    → heads ≡ head ∷ [] → kept_at_all (reverse held) heads ≡ kept_at links head
one_waits items held links head heads is same one =
    ap (λ v. kept_at_all (reverse v) heads) same ∙ ap (kept_at_all (reverse items)) one
    ∙ append-nil (kept_at (reverse items) head) ∙ ap (λ v. kept_at v head) is
