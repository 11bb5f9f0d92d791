-- What explains a stop, or why nothing does.
-- Serves: run_peg (right), one_statement, explanations_change_no_answer
use Rattle.std.proofs.Common.{◌≡◌, ◌≢◌, ℕ, ◌⊎◌, inl, inr, Bool, true, false, List, [], refl, ◌∙◌, ap}
use Rattle.std.proofs.lemmas.List.{append-nil}
use Rattle.pegread.specs.Pattern.{Rule}
use Rattle.pegrun.specs.PegReply.{PlainReplies, RunStates}
use Rattle.pegrun.specs.StopsExplained.{HasLines, StopLines}
use Rattle.toolrun.proofs.ExplainedIfLemmas.{if_asked, if_not_asked, not_asked_nothing}
use Rattle.toolrun.specs.Input.{Input}
use Rattle.toolrun.specs.Reply.{Reply, SameButWhy, explained_reply}
use Rattle.toolrun.specs.RunSteps.{cut_short, replied_reported, unexplained}
use Rattle.toolrun.specs.Stop.{not_explained}
use Rattle.pegrun.specs.PegSettings.{PegSettings}
use Rattle.toolrun.specs.declared.stop.Stop.{Stop}
use Rattle.toolrun.specs.declared.stop.Stop.TheVariants.{Quiet, NoMatch, LongUnit, LongLine, Broken, NoMemory, Refused}
use Rattle.toolrun.specs.declared.stop.Stop.TheVariants.{CostlyUnit, CostlyLine, Unreadable}

lines_or_none : (stop : Stop) → HasLines stop ⊎ (HasLines stop → ⊥)
lines_or_none (Quiet status) = inr (λ has. has)
lines_or_none (NoMatch at) = inl tt
lines_or_none (LongUnit at limit) = inl tt
lines_or_none (CostlyUnit at budget) = inr (λ has. has)
lines_or_none (LongLine line limit) = inr (λ has. has)
lines_or_none (CostlyLine line budget) = inr (λ has. has)
lines_or_none Broken = inr (λ has. has)
lines_or_none NoMemory = inr (λ has. has)
lines_or_none (Refused fault) = inr (λ has. has)
lines_or_none Unreadable = inr (λ has. has)

module _ (rules : List Rule) (start : ℕ) (settings : PegSettings) (input : Input) where
  -- a stop that no lines explain
  pub no_lines : (s : ℕ) (stop : Stop) → (HasLines stop → ⊥) → StopLines rules start settings input s stop []
  no_lines s (Quiet status) without = refl
  no_lines s (NoMatch at) without = absurd (without tt)
  no_lines s (LongUnit at limit) without = absurd (without tt)
  no_lines s (CostlyUnit at budget) without = refl
  no_lines s (LongLine line limit) without = refl
  no_lines s (CostlyLine line budget) without = refl
  no_lines s Broken without = refl
  no_lines s NoMemory without = refl
  no_lines s (Refused fault) without = refl
  no_lines s Unreadable without = refl

  reported_if : (asked : Bool) → settings.explain ≡ asked → (reply : Reply)
      → PlainReplies rules start settings input reply
      → (stated : Reply) × RunStates rules start settings input stated × (stated.out ≡ reply.out)
      × (stated.taken ≡ reply.taken)
  reported_if false plain reply r = (
    explained_reply [] reply [],
    replied_reported _ (record {
      plain = reply;
      replies = r;
      before = [];
      reports = refl;
      why = [];
      explains = if_not_asked settings.explain (StopLines rules start settings input r.point r.stop) plain;
      reported = refl;
    }),
    refl,
    refl,
  )
  reported_if true asked reply r = elim (lines_or_none r.stop) [
    | inl has ↦ (explained_reply [] reply not_explained, unexplained reply r [] refl (asked, has), refl, refl)
    | inr without ↦ (
      explained_reply [] reply [],
      replied_reported _ (record {
        plain = reply;
        replies = r;
        before = [];
        reports = refl;
        why = [];
        explains = if_asked settings.explain (StopLines rules start settings input r.point r.stop) [] asked
            (no_lines r.point r.stop without);
        reported = refl;
      }),
      refl,
      refl,
    )
  ]

  -- where no allocation fails but in an explanation, a run states its reply without explanations, but for these
  pub same_but_why : (reply : Reply) → RunStates rules start settings input reply → reply.status ≢ 5
      → (plain : Reply) × PlainReplies rules start settings input plain × SameButWhy settings.explain reply plain
  same_but_why reply (replied_reported r g) ample = (
    g.plain,
    g.replies,
    record {
      out = ap (λ a. a.out) g.reported;
      status = ap (λ a. a.status) g.reported;
      taken = ap (λ a. a.taken) g.reported;
      err = λ unasked.
          let before : g.before ≡ [] = g.reports in
          let why : g.why ≡ [] = not_asked_nothing settings.explain
          (StopLines rules start settings input g.replies.point g.replies.stop) g.why unasked g.explains in
          ap (λ a. a.err) g.reported ∙ rw (before, why) (append-nil g.plain.err);
    },
  )
  same_but_why reply (unexplained plain replies reported reports lack) ample =
      let asked = lack.0 in (
        plain,
        replies,
        record { out = refl; status = refl; taken = refl; err = λ unasked. absurd (cc) },
      )
  same_but_why reply (cut_short point out reported whole before reports replies front) ample = absurd (ample refl)

-- each reply without explanations is that of something stated
pub some_reported : (rules : List Rule) (start : ℕ) (settings : PegSettings) (input : Input) (reply : Reply)
    → PlainReplies rules start settings input reply
    → (stated : Reply) × RunStates rules start settings input stated × (stated.out ≡ reply.out)
    × (stated.taken ≡ reply.taken)
some_reported rules start settings input reply r = reported_if rules start settings input settings.explain refl reply r
