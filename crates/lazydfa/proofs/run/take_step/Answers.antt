use Rattle.std.proofs.Common.{◌≡◌, ◌+◌, ◌++◌, ◌∷◌, [], length, subst, refl, sym, ℕ, List}
use Rattle.std.specs.Prelude.{IfSome, false}
use Rattle.lazydfa.specs.StackSuffixes.{below_of}
use Rattle.lazydfa.specs.Memos.{IsOver, IsSettled, RunsOver, RunsAt}
use Rattle.lazydfa.specs.Transitions.{IsTaken}
use Rattle.lazydfa.proofs.IsAtLemmas.{step_to, step_push, step_reached, push_reached, push_runs, pushed_suffix}
use Rattle.lazydfa.proofs.IsAtLemmas.{step_dead}
use Rattle.lazydfa.proofs.IsOverLemmas.{over_kept, over_pushed, plain_below, settled_kept}
use Rattle.lazydfa.proofs.IsOverLemmas.{settled_running}
use Rattle.lazydfa.proofs.IsTrackLemmas.{step_taken, transition_taken}
use Rattle.lazydfa.proofs.run.take_step.Goals as goal

pub returns-in-Some-clause-taken : goal.returns-in-Some-clause-taken
returns-in-Some-clause-taken c = λ x j letter is class at.
    transition_taken c.args.tables.now c.requires.targets c.args.samples.now c.args.memo.now c.requires.memo x
    c.args.row j letter c.args.class c.in-Some.next false (λ bare. absurd (cc bare)) at is class
    (subst (λ v. IsTaken v (length c.args.samples.now) false (c.args.row + c.args.class) c.in-Some.next)
    c.deref.ensures.value
    (subst (λ v. IfSome v (IsTaken c.deref.result.now (length c.args.samples.now) false
    (c.args.row + c.args.class))) c.in-Some.is c.next_row.ensures))

pub returns-in-Some-2-clause-taken : goal.returns-in-Some-2-clause-taken
returns-in-Some-2-clause-taken c = λ x j letter is class at.
    step_taken c.args.tables.now c.args.samples.now c.settle.new.memo x c.in-Some-2.settled c.args.row j
    c.step_to.result c.step_to.ensures
    (subst (λ v. IfSome v (λ t. (x : List ℕ) (j : ℕ) → RunsOver c.args.tables.now c.cell_of.new.memo c.in-To.t x j
    → RunsAt c.args.tables.now c.settle.new.memo t x j)) c.in-Some-2.is c.in_ok-settled-in-To.ensures.settled x (j + 1)
    (subst (λ v. IsOver c.args.tables.now c.cell_of.new.memo.cache.conts.items.items
    c.cell_of.new.memo.cache.states.items v.items c.in-To.t x (j + 1)) (sym c.in_ok-t.ensures.suffixes)
    (over_kept c.args.tables.now c.args.memo.now.cache.conts.items.items
    c.cell_of.new.memo.cache.conts.items.items
    c.args.memo.now.cache.states.items c.cell_of.new.memo.cache.states.items c.in_ok-t.ensures.grows.conts
    c.in_ok-t.ensures.grows.states c.requires.memo.cached.within c.args.memo.now.suffixes.items c.in-To.t x (j + 1)
    (step_to c.args.tables.now c.requires.targets x c.args.memo.now.cache.conts.items.items
    c.cell_of.new.memo.cache.conts.items.items c.args.memo.now.cache.states.items
    c.cell_of.new.memo.cache.states.items
    c.in_ok-t.ensures.grows.conts c.in_ok-t.ensures.grows.states at.state j letter c.args.class
    (below_of c.args.memo.now.cache.conts.items.items c.args.memo.now.suffixes.items) at.runs.over.at
    (plain_below c.args.memo.now.cache.conts.items.items c.args.memo.now.suffixes.items at.runs.over.at.state.ended
    at.runs.plain)
    c.args.samples.now c.args.memo.now.cache.cells.items c.requires.memo.cached is class c.in_ok-t.field-0
    (λ d sample. c.in_ok-t.ensures.is at.state d at.row sample) c.in-To.t c.in-To.is) at.runs.over.suffixes_are)))
    (step_reached c.args.tables.now c.requires.targets x c.args.memo.now.cache.conts.items.items
    c.cell_of.new.memo.cache.conts.items.items c.args.memo.now.cache.states.items
    c.cell_of.new.memo.cache.states.items
    c.in_ok-t.ensures.grows.conts c.in_ok-t.ensures.grows.states at.state j letter c.args.class
    (below_of c.args.memo.now.cache.conts.items.items c.args.memo.now.suffixes.items) at.runs.over.at
    (plain_below c.args.memo.now.cache.conts.items.items c.args.memo.now.suffixes.items at.runs.over.at.state.ended
    at.runs.plain)
    c.args.samples.now c.args.memo.now.cache.cells.items c.requires.memo.cached is class c.in_ok-t.field-0
    (λ d sample. c.in_ok-t.ensures.is at.state d at.row sample) c.in-To.t c.in-To.is)

pub returns-in_ok-push-in-Push-clause-memo : goal.returns-in_ok-push-in-Push-clause-memo
returns-in_ok-push-in-Push-clause-memo c = record {
  cached = c.in_ok-t.ensures.memo.cached;
  resumes = c.in_ok-t.ensures.memo.resumes;
  transitions = c.in_ok-t.ensures.memo.transitions;
  leads = c.in_ok-t.ensures.memo.leads;
}

pub returns-in_ok-push-in-Push-clause-taken : goal.returns-in_ok-push-in-Push-clause-taken
returns-in_ok-push-in-Push-clause-taken c = λ x j letter is class at.
    step_taken c.args.tables.now c.args.samples.now (record c.cell_of.new.memo { suffixes = c.push.new.self }) x
    c.in-Push.t c.args.row j c.step_to-in-Push.result c.step_to-in-Push.ensures
    (settled_running c.args.tables.now c.cell_of.new.memo.cache.conts.items.items
    c.cell_of.new.memo.cache.states.items
    c.push.new.self.items c.in-Push.t x (j + 1) false
    (λ got there. sym (push_runs c.args.tables.now c.requires.targets x c.args.memo.now.cache.conts.items.items
    c.cell_of.new.memo.cache.conts.items.items c.args.memo.now.cache.states.items
    c.cell_of.new.memo.cache.states.items
    c.in_ok-t.ensures.grows.conts c.in_ok-t.ensures.grows.states at.state j letter c.args.class
    (below_of c.args.memo.now.cache.conts.items.items c.args.memo.now.suffixes.items) at.runs.over.at
    (plain_below c.args.memo.now.cache.conts.items.items c.args.memo.now.suffixes.items at.runs.over.at.state.ended
    at.runs.plain)
    c.args.samples.now c.args.memo.now.cache.cells.items c.requires.memo.cached is class c.in_ok-t.field-0
    (λ d sample. c.in_ok-t.ensures.is at.state d at.row sample) c.in-Push.t c.in-Push.suffix c.in-Push.is got there))
    refl
    (over_pushed c.args.tables.now c.args.memo.now.cache.conts.items.items
    c.cell_of.new.memo.cache.conts.items.items
    c.cell_of.new.memo.cache.states.items c.in_ok-t.ensures.grows.conts c.args.memo.now.suffixes.items
    c.push.new.self.items c.in-Push.suffix c.in-Push.t x
    (j + 1) (subst (λ v. c.push.new.self.items ≡ v.items ++ c.in-Push.suffix ∷ []) c.in_ok-t.ensures.suffixes
    c.in_ok-push-in-Push.ensures.items) at.runs.over.suffixes_are
    (pushed_suffix c.args.tables.now c.requires.targets x c.args.memo.now.cache.conts.items.items
    c.cell_of.new.memo.cache.conts.items.items c.args.memo.now.cache.states.items
    c.cell_of.new.memo.cache.states.items
    c.in_ok-t.ensures.grows.conts c.in_ok-t.ensures.grows.states at.state j letter c.args.class
    (below_of c.args.memo.now.cache.conts.items.items c.args.memo.now.suffixes.items) at.runs.over.at
    (plain_below c.args.memo.now.cache.conts.items.items c.args.memo.now.suffixes.items at.runs.over.at.state.ended
    at.runs.plain)
    c.args.samples.now c.args.memo.now.cache.cells.items c.requires.memo.cached is class c.in_ok-t.field-0
    (λ d sample. c.in_ok-t.ensures.is at.state d at.row sample) c.in-Push.t c.in-Push.suffix c.in-Push.is)
    (step_push c.args.tables.now c.requires.targets x c.args.memo.now.cache.conts.items.items
    c.cell_of.new.memo.cache.conts.items.items c.args.memo.now.cache.states.items
    c.cell_of.new.memo.cache.states.items
    c.in_ok-t.ensures.grows.conts c.in_ok-t.ensures.grows.states at.state j letter c.args.class
    (below_of c.args.memo.now.cache.conts.items.items c.args.memo.now.suffixes.items) at.runs.over.at
    (plain_below c.args.memo.now.cache.conts.items.items c.args.memo.now.suffixes.items at.runs.over.at.state.ended
    at.runs.plain)
    c.args.samples.now c.args.memo.now.cache.cells.items c.requires.memo.cached is class c.in_ok-t.field-0
    (λ d sample. c.in_ok-t.ensures.is at.state d at.row sample) c.in-Push.t c.in-Push.suffix c.in-Push.is)))
    (push_reached c.args.tables.now c.requires.targets x c.args.memo.now.cache.conts.items.items
    c.cell_of.new.memo.cache.conts.items.items c.args.memo.now.cache.states.items
    c.cell_of.new.memo.cache.states.items
    c.in_ok-t.ensures.grows.conts c.in_ok-t.ensures.grows.states at.state j letter c.args.class
    (below_of c.args.memo.now.cache.conts.items.items c.args.memo.now.suffixes.items) at.runs.over.at
    (plain_below c.args.memo.now.cache.conts.items.items c.args.memo.now.suffixes.items at.runs.over.at.state.ended
    at.runs.plain)
    c.args.samples.now c.args.memo.now.cache.cells.items c.requires.memo.cached is class c.in_ok-t.field-0
    (λ d sample. c.in_ok-t.ensures.is at.state d at.row sample) c.in-Push.t c.in-Push.suffix c.in-Push.is)

pub returns-in-Dead-clause-taken : goal.returns-in-Dead-clause-taken
returns-in-Dead-clause-taken c = λ x j letter is class at. (
  record {
    state = at.state;
    row = at.row;
    runs = subst (λ v. IsSettled c.args.tables.now c.cell_of.new.memo.cache.conts.items.items
        c.cell_of.new.memo.cache.states.items v.items at.state x j) (sym c.in_ok-t.ensures.suffixes)
        (settled_kept c.args.tables.now c.args.memo.now.cache.conts.items.items
        c.cell_of.new.memo.cache.conts.items.items
        c.args.memo.now.cache.states.items c.cell_of.new.memo.cache.states.items c.in_ok-t.ensures.grows.conts
        c.in_ok-t.ensures.grows.states c.requires.memo.cached.within c.args.memo.now.suffixes.items at.state x j
        at.runs);
    reached = at.reached;
  },
  step_dead c.args.tables.now c.requires.targets x c.args.memo.now.cache.conts.items.items
      c.cell_of.new.memo.cache.conts.items.items c.args.memo.now.cache.states.items
      c.cell_of.new.memo.cache.states.items
      c.in_ok-t.ensures.grows.conts c.in_ok-t.ensures.grows.states at.state j letter c.args.class
      (below_of c.args.memo.now.cache.conts.items.items c.args.memo.now.suffixes.items) at.runs.over.at
      (plain_below c.args.memo.now.cache.conts.items.items c.args.memo.now.suffixes.items at.runs.over.at.state.ended
      at.runs.plain)
      c.args.samples.now c.args.memo.now.cache.cells.items c.requires.memo.cached is class c.in_ok-t.field-0
      (λ d sample. c.in_ok-t.ensures.is at.state d at.row sample) c.in-Dead.is,
)
