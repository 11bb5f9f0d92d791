use Rattle.std.proofs.Common.{◌+◌, ◌/◌, length, refl, subst}
use Rattle.lazydfa.specs.Cached.{IsCell}
use Rattle.lazydfa.proofs.AreTransitionsLemmas.{transitions_noted}
use Rattle.lazydfa.proofs.IsTrackLemmas.{row_state}
use Rattle.lazydfa.proofs.run.fill_at.Goals as goal

pub returns-in_default-clause-is : goal.returns-in_default-clause-is
returns-in_default-clause-is c = λ s d position sample.
    subst (λ v. IsCell c.args.tables.now d c.fill.new.memo.cache.conts.items.items c.fill.new.memo.cache.states.items v
    c.in_ok-cell.cell)
    (row_state s c.args.row (length c.args.samples.now + 1) (length c.args.samples.now) refl position)
    (c.in_ok-cell.ensures.is d sample)

pub returns-clause-memo : goal.returns-clause-memo
returns-clause-memo c =
    let memo = c.in_ok-cell.ensures.memo in
    record {
      cached = memo.cached;
      resumes = memo.resumes;
      transitions = transitions_noted c.args.tables.now c.args.samples.now c.fill.new.memo.cache.conts.items.items
          c.fill.new.memo.cache.states.items (c.args.row / (length c.args.samples.now + 1)) c.args.class c.in-To.t
          (λ d sample. subst (λ v. IsCell c.args.tables.now d c.fill.new.memo.cache.conts.items.items
          c.fill.new.memo.cache.states.items (c.args.row / (length c.args.samples.now + 1)) v) c.in-To.is
          (c.in_ok-cell.ensures.is d sample))
          c.fill.new.memo.transitions.items c.note_transition.new.transitions.items
          c.in_ok-note_transition.ensures memo.transitions;
      leads = memo.leads;
    }

pub returns-clause-is : goal.returns-clause-is
returns-clause-is c = λ s d position sample.
    subst (λ v. IsCell c.args.tables.now d c.fill.new.memo.cache.conts.items.items c.fill.new.memo.cache.states.items s
    v) c.in-To.is
    (subst (λ v. IsCell c.args.tables.now d c.fill.new.memo.cache.conts.items.items c.fill.new.memo.cache.states.items v
    c.in_ok-cell.cell)
    (row_state s c.args.row (length c.args.samples.now + 1) (length c.args.samples.now) refl position)
    (c.in_ok-cell.ensures.is d sample))
