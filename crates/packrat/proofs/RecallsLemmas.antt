-- What a replay knows of joins while it goes on.
-- Serves: EventLog::replay
use Rattle.std.proofs.Common.{◌≡◌, inl, inr, ℕ, ◌≤◌, List, [], ◌∷◌, ◌++◌, length, reverse, Some, None, refl, sym, ◌∙◌}
use Rattle.std.proofs.Common.{ap, subst, arith, append_assoc, append-nil}
use Rattle.std.specs.Prelude.{nat_eq}
use Rattle.std.specs.HashMap.{get}
use Rattle.std.proofs.lemmas.List.{reverse-append}
use Rattle.pegnodes.specs.Nodes.{Shape}
use Rattle.pegmatch.specs.EventPrinting.{capture_by}
use Rattle.pegmatch.specs.declared.event.Kept.{Kept}
use Rattle.pegmatch.specs.declared.writing.Capture.{Capture}
use Rattle.pegmatch.specs.declared.style.PrintStyle.{PrintStyle}
use Rattle.packrat.specs.declared.events.link.Link.{Link}
use Rattle.packrat.specs.declared.events.walk.Passage.{Passage}
use Rattle.packrat.specs.declared.events.walk.QuietJoin.{QuietJoin}
use Rattle.packrat.specs.declared.events.walk.ReplayWalk.{ReplayWalk}
use Rattle.packrat.specs.EventLog.{kept_at}
use Rattle.packrat.specs.WaitingHeads.{kept_at_all, WaitingView}
use Rattle.packrat.specs.QuietJoins.{AreSilent, IsStarted, AreStarted, Recalls, AddsJoin, IsPassedTo, PassesEvent}
use Rattle.packrat.proofs.KeptAtLemmas.{none_kept}

-- the events of more heads
kept_of_both : (links : List Link) (hs js : List ℕ) → kept_at_all links (hs ++ js)
    ≡ kept_at_all links hs ++ kept_at_all links js
kept_of_both links [] js = refl
kept_of_both links (h ∷ hs) js =
    ap (λ v. kept_at links h ++ v) (kept_of_both links hs js)
    ∙ sym (append_assoc (kept_at links h) (kept_at_all links hs) (kept_at_all links js))

module _ (style : PrintStyle) (nodes : List Shape) (x : List ℕ) where
  -- silent events after silent events
  pub both_silent : (ks ls : List Kept) (a b c : Capture) → AreSilent style nodes x a ks b
      → AreSilent style nodes x b ls c → AreSilent style nodes x a (ks ++ ls) c
  both_silent [] ls a b c h s = subst (λ v. AreSilent style nodes x v ls c) (sym h) s
  both_silent (k ∷ ks) ls a b c h s = (h.0, both_silent ks ls (capture_by a k) b c h.1 s)

  module _ (links : List Link) where
    -- more heads may have waited before it
    more_started : (heads : List ℕ) (capture : Capture) (most more : ℕ) (joins : List QuietJoin) → most ≤ more
        → AreStarted style nodes x links heads capture most joins
        → AreStarted style nodes x links heads capture more joins
    more_started heads capture most more [] le s = tt
    more_started heads capture most more (join ∷ joins) le s = let low = s.0 in (omega (arith, low, le), s.1, s.2)

    module _ (head : ℕ) (rest hs : List ℕ) (ks : List Kept) (before after : Capture)
        (kept : kept_at links head ≡ ks ++ kept_at_all links hs) (silent : AreSilent style nodes x before ks after)
      where
        -- a head gives way to what is left of it
        started_on : (join : QuietJoin) → join.below ≤ length rest
            → IsStarted style nodes x links (head ∷ rest) before join →
            IsStarted style nodes x links (hs ++ rest) after join
        started_on join low h = by h.above h.parts h.kept
          where
            by : (above : List ℕ) → head ∷ rest ≡ above ++ h.beneath
                → kept_at links join.head ≡ h.passed ++ kept_at_all links above →
                IsStarted style nodes x links (hs ++ rest) after join
            by [] parts all =
                let count = h.count in
                let more = ap length parts in
                absurd (omega (arith, more, count, low))
            by (a ∷ above) parts all =
                let first : head ≡ a = cc parts in
                let others : rest ≡ above ++ h.beneath = cc parts in
                record {
                  above = hs ++ above;
                  beneath = h.beneath;
                  parts = ap (λ v. hs ++ v) others ∙ sym (append_assoc hs above h.beneath);
                  count = h.count;
                  passed = h.passed ++ ks;
                  kept = all ∙ ap (λ v. h.passed ++ (kept_at links v ++ kept_at_all links above)) (sym first)
                      ∙ ap (λ v. h.passed ++ (v ++ kept_at_all links above)) kept
                      ∙ ap (λ v. h.passed ++ v) (append_assoc ks (kept_at_all links hs) (kept_at_all links above))
                      ∙ ap (λ v. h.passed ++ (ks ++ v)) (sym (kept_of_both links hs above))
                      ∙ sym (append_assoc h.passed ks (kept_at_all links (hs ++ above)));
                  silent = both_silent h.passed ks join.before before after h.silent silent;
                }

        all_started_on : (joins : List QuietJoin) (most : ℕ) → most ≤ length rest
            → AreStarted style nodes x links (head ∷ rest) before most joins
            → AreStarted style nodes x links (hs ++ rest) after most joins
        all_started_on [] most le s = tt
        all_started_on (join ∷ joins) most le s =
            let low = s.0 in (
              low,
              started_on join (omega (arith, low, le)) s.1,
              all_started_on joins join.below (omega (arith, low, le)) s.2,
            )

        pub recalls_on : (old new : ReplayWalk) (most : ℕ) → most ≤ length rest → old.capture ≡ before
            → new.capture ≡ after → new.joins.items ≡ old.joins.items → new.passages.entries ≡ old.passages.entries
            → Recalls style nodes x links (head ∷ rest) most old
            → Recalls style nodes x links (hs ++ rest) most new
        recalls_on old new most le at to joins passages r = record {
          joins =
              let old_joins = subst (λ v. AreStarted style nodes x links (head ∷ rest) v most (reverse old.joins.items))
              at r.joins in
              let new_joins = all_started_on (reverse old.joins.items) most le old_joins in
              rw (joins, to) new_joins;
          passages = λ h p is. r.passages h p (rw passages at is);
        }

    -- a head gives way
    pub passed_on : (old mid new : ReplayWalk) (head : ℕ) (rest hs : List ℕ) (ks : List Kept)
        → kept_at links head ≡ ks ++ kept_at_all links hs → AreSilent style nodes x mid.capture ks new.capture
        → new.joins.items ≡ mid.joins.items → new.passages.entries ≡ mid.passages.entries
        → IsPassedTo style nodes x links old (head ∷ rest) (length rest) mid
        → IsPassedTo style nodes x links old (hs ++ rest) (length rest) new
    passed_on old mid new head rest hs ks kept silent joins passages p = record {
      passed = p.passed ++ ks;
      silent = both_silent p.passed ks old.capture mid.capture new.capture p.silent silent;
      kept = p.kept ∙ ap (λ v. p.passed ++ (v ++ kept_at_all links rest)) kept
          ∙ ap (λ v. p.passed ++ v) (append_assoc ks (kept_at_all links hs) (kept_at_all links rest))
          ∙ ap (λ v. p.passed ++ (ks ++ v)) (sym (kept_of_both links hs rest))
          ∙ sym (append_assoc p.passed ks (kept_at_all links (hs ++ rest)));
      recalls = recalls_on head rest hs ks mid.capture new.capture kept silent mid new (length rest) (omega arith) refl
          refl joins passages p.recalls;
    }

    -- a join begins: its two heads wait
    pub recalls_begun : (old new : ReplayWalk) (head first second : ℕ) (rest : List ℕ)
        → kept_at links head ≡ kept_at links first ++ kept_at links second
        → AddsJoin (record { head = head; before = old.capture; below = length rest }) old new
        → Recalls style nodes x links (first ∷ second ∷ rest) (length rest) old
        → Recalls style nodes x links (first ∷ second ∷ rest) (length (first ∷ second ∷ rest)) new
    recalls_begun old new head first second rest kept adds r = record {
      joins = rw adds.capture (elim adds.joins [
        | inl is ↦ rw (is, reverse-append old.joins.items) (omega arith, begun, r.joins)
        | inr is ↦ rw is (more_started _ old.capture (length rest) _ (reverse old.joins.items) (omega arith) r.joins)
      ]);
      passages = λ h p is. r.passages h p (rw adds.passages at is);
    }
      where
        begun : IsStarted style nodes x links (first ∷ second ∷ rest) old.capture
            (record { head = head; before = old.capture; below = length rest })
        begun = record {
          above = first ∷ second ∷ [];
          beneath = rest;
          parts = refl;
          count = refl;
          passed = [];
          kept = kept ∙ ap (λ v. kept_at links first ++ v) (sym (append-nil (kept_at links second)));
          silent = refl;
        }

    -- no join is under way
    pub recalls_none : (heads : List ℕ) (most : ℕ) (new : ReplayWalk) → new.joins.items ≡ []
        → ((head : ℕ) (p : Passage) → get nat_eq new.passages head ≡ Some p →
        AreSilent style nodes x p.before (kept_at links head) p.after) → Recalls style nodes x links heads most new
    recalls_none heads most new none passages = record { joins = rw none tt; passages = passages }

    -- nothing is known of joins
    pub recalls_fresh : (heads : List ℕ) (most : ℕ) (new : ReplayWalk) → new.joins.items ≡ []
        → ((head : ℕ) → get nat_eq new.passages head ≡ None) → Recalls style nodes x links heads most new
    recalls_fresh heads most new none fresh =
        recalls_none heads most new none (λ head p found. absurd (cc (fresh head, found)))

    -- a head without events
    pub passed_none : (old mid : ReplayWalk) (head : ℕ) (rest : List ℕ) → head ≡ 0
        → IsPassedTo style nodes x links old (head ∷ rest) (length rest) mid
        → IsPassedTo style nodes x links old rest (length rest) mid
    passed_none old mid head rest none p =
        passed_on old mid mid head rest [] [] (ap (kept_at links) none ∙ none_kept links) refl refl refl p

    module _ (old mid new : ReplayWalk) where
      -- a head was taken
      pub passed_head : (head : ℕ) → mid.waiting.heads ≡ head ∷ new.waiting.heads → new.capture ≡ mid.capture
          → (Recalls style nodes x links mid.waiting.heads (length mid.waiting.heads) mid →
          Recalls style nodes x links mid.waiting.heads (length new.waiting.heads) new)
          → IsPassedTo style nodes x links old mid.waiting.heads (length mid.waiting.heads) mid
          → IsPassedTo style nodes x links old (head ∷ new.waiting.heads) (length new.waiting.heads) new
      passed_head head is same on p =
          let Fact : List ℕ → Type 0 = λ v. IsPassedTo style nodes x links old v (length new.waiting.heads) new in
          subst Fact is (record {
            passed = p.passed;
            silent = rw same p.silent;
            kept = p.kept;
            recalls = on p.recalls;
          })

      -- a join that printed nothing from this capture before
      pub passed_known : (head : ℕ) (rest : List ℕ) (after : Capture)
          → get nat_eq mid.passages head ≡ Some (record { before = mid.capture; after = after })
          → new.capture ≡ after → new.joins.items ≡ mid.joins.items → new.passages.entries ≡ mid.passages.entries
          → IsPassedTo style nodes x links old (head ∷ rest) (length rest) mid
          → IsPassedTo style nodes x links old rest (length rest) new
      passed_known head rest after known to joins passages p =
          passed_on old mid new head rest [] (kept_at links head) (sym (append-nil (kept_at links head)))
          (rw to (p.recalls.passages head (record { before = mid.capture; after = after }) known)) joins passages p

      -- a join of which nothing is known
      pub passed_begun : (head first second : ℕ)
          → kept_at links head ≡ kept_at links first ++ kept_at links second
          → AddsJoin (record { head = head; before = mid.capture; below = length mid.waiting.heads }) mid new
          → new.waiting.heads ≡ first ∷ second ∷ mid.waiting.heads
          → IsPassedTo style nodes x links old (head ∷ mid.waiting.heads) (length mid.waiting.heads) mid
          → IsPassedTo style nodes x links old new.waiting.heads (length new.waiting.heads) new
      passed_begun head first second kept adds is p =
          let two : kept_at links head ≡ kept_at links first ++ (kept_at links second ++ []) =
          kept ∙ ap (λ v. kept_at links first ++ v) (sym (append-nil (kept_at links second))) in
          let q = passed_on old mid mid head mid.waiting.heads (first ∷ second ∷ []) [] two refl refl refl p in
          let Fact : List ℕ → Type 0 = λ v. IsPassedTo style nodes x links old v (length v) new in
          subst Fact (sym is) (record {
            passed = q.passed;
            silent = rw adds.capture q.silent;
            kept = q.kept;
            recalls = recalls_begun mid new head first second mid.waiting.heads kept adds q.recalls;
          })

    -- an event that was written, or prints nothing
    pub recalls_passed : (old new : ReplayWalk) (head : ℕ) (event : Kept) → kept_at links head ≡ event ∷ []
        → PassesEvent style nodes x event old new
        → Recalls style nodes x links (head ∷ old.waiting.heads) (length old.waiting.heads) old
        → Recalls style nodes x links new.waiting.heads (length new.waiting.heads) new
    recalls_passed old new head event kept h r =
        let Fact : List ℕ → Type 0 = λ v. Recalls style nodes x links v (length v) new in
        let same : old.waiting.heads ≡ new.waiting.heads = ap (λ (v : WaitingView). v.heads) (sym h.waiting) in
        subst Fact same (elim h.joins [
          | inl none ↦ recalls_none old.waiting.heads (length old.waiting.heads) new none
              (λ k p found. r.passages k p (rw h.passages at found))
          | inr both ↦
              recalls_on head old.waiting.heads [] (event ∷ []) old.capture new.capture kept (both.1, sym h.capture)
              old new (length old.waiting.heads) (omega arith) refl refl both.0 (rw h.passages refl) r
        ])
