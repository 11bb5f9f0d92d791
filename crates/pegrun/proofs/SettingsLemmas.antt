-- What a run of a grammar states without explanations depends on the limit and options of the settings alone.
-- Serves: explanations_change_no_answer, peg_run
use Rattle.std.proofs.Common.{◌≡◌, ℕ, List, refl, sym, ◌∙◌, inl, inr}
use Rattle.pegread.specs.Pattern.{Rule}
use Rattle.gramcheck.specs.Outcome.{Outcome}
use Rattle.pegrun.specs.PegReply.{PlainReplies}
use Rattle.pegrun.specs.Units.{Ends, GivesAt, IsSettled, IsUnit, MayRun, Units, broken, costly, empty_at_end}
use Rattle.pegrun.specs.Units.{empty_before_end, finished, runs_at_lines}
use Rattle.pegrun.specs.Units.{no_match, no_unit, none, one_more, over_at_end, over_before_end, overlong, taken_at}
use Rattle.pegrun.specs.PegSettings.{PegSettings}
use Rattle.toolrun.specs.Input.{Input}
use Rattle.toolrun.specs.Reply.{Reply}
use Rattle.toolrun.specs.declared.stop.Stop.{Stop}

module _ (rules : List Rule) (start : ℕ) (a b : PegSettings) (input : Input) (limit : b.limit ≡ a.limit)
    (style : b.options.style ≡ a.options.style) (whole : b.options.whole ≡ a.options.whole)
    (budget : b.options.budget ≡ a.options.budget) (lines : b.options.line_buffered ≡ a.options.line_buffered) where
  pub taken_by : (s : ℕ) → taken_at a input s ≡ taken_at b input s
  taken_by s = rw limit refl

  settled_by : (s : ℕ) → IsSettled rules start a input s → IsSettled rules start b input s
  settled_by s is = record { some = is.some; o = is.o; looked = is.looked; gives = is.gives; within = is.within }

  settled_back : (s : ℕ) → IsSettled rules start b input s → IsSettled rules start a input s
  settled_back s is = record { some = is.some; o = is.o; looked = is.looked; gives = is.gives; within = is.within }

  runs_by : runs_at_lines b ≡ runs_at_lines a
  runs_by = rw (whole, lines) refl

  may_by : (s : ℕ) → MayRun rules start a input s → MayRun rules start b input s
  may_by s may fault = elim (may fault) [
    | inl le ↦ inl (rw limit le)
    | inr is ↦ inr (runs_by ∙ is.0, settled_by s is.1)
  ]

  gives_by : (s : ℕ) (o : Outcome) → GivesAt rules start a input s o → GivesAt rules start b input s o
  gives_by s o g = record {
    goes = rw whole g.goes;
    may_run = may_by s g.may_run;
    looked = g.looked;
    gives = g.gives;
    within = rw limit g.within;
  }

  pub unit_by : (s k : ℕ) (text : List ℕ) → IsUnit rules start a input s k text → IsUnit rules start b input s k text
  unit_by s k text u = record {
    events = u.events;
    gives = gives_by s _ u.gives;
    prints = rw style u.prints;
    within = rw budget u.within;
  }

  pub units_by : (s : ℕ) (text : List ℕ) → Units rules start a input s text → Units rules start b input s text
  units_by s text none = none
  units_by s text (one_more at k before last us u lt) =
      one_more at k before last (units_by at before us) (unit_by at k last u) lt

  pub ends_by : (s : ℕ) (last : List ℕ) (stop : Stop) → Ends rules start a input s last stop
      → Ends rules start b input s last stop
  ends_by s last stop (broken fault lt never) =
      broken fault (rw limit lt) (λ runs is. never (sym runs_by ∙ runs) (settled_back s is))
  ends_by s last stop (overlong o looked goes may gives lt) =
      rw (sym limit) (overlong o looked (rw whole goes) (may_by s may) gives (rw limit lt))
  ends_by s last stop (costly k most events gives is lt) =
      costly k most events (gives_by s _ gives) (budget ∙ is) (rw style lt)
  ends_by s last stop (no_match gives lt) = no_match (gives_by s _ gives) lt
  ends_by s last stop (finished w gives is) = finished (rw whole w) (gives_by s _ gives) is
  ends_by s last stop (no_unit w gives is) = no_unit (rw whole w) (gives_by s _ gives) is
  ends_by s last stop (empty_before_end text u lt) = empty_before_end text (unit_by s 0 text u) lt
  ends_by s last stop (empty_at_end text u is) = empty_at_end text (unit_by s 0 text u) is
  ends_by s last stop (over_before_end over may lt) =
      over_before_end (rw whole over) (may_by s may) lt
  ends_by s last stop (over_at_end over may is) = over_at_end (rw whole over) (may_by s may) is

  unfoldable pub plain_by : (reply : Reply) → PlainReplies rules start a input reply
      → PlainReplies rules start b input reply
  plain_by reply r = record {
    point = r.point;
    before = r.before;
    last = r.last;
    stop = r.stop;
    steps = units_by r.point r.before r.steps;
    ends = ends_by r.point r.last r.stop r.ends;
    out = r.out;
    err = r.err;
    status = r.status;
    taken = r.taken ∙ taken_by r.point;
  }
