use Rattle.std.proofs.lemmas.Option.{slice_get-get_or}
use Rattle.std.proofs.Common.{◌-◌, refl}
use Rattle.lazydfa.proofs.IsClosureLemmas.{contains_at}
use Rattle.lazydfa.proofs.IsPrunedLemmas.{entry_within}
use Rattle.lazydfa.proofs.prune.is_dominated.Goals as goal

pub dominates-requires-clause-over : goal.dominates-requires-clause-over
dominates-requires-clause-over c =
    c.requires.within _ (contains_at c.args.kept.now (c.loop.entry - 1) _
    (slice_get-get_or c.args.kept.now (c.loop.entry - 1) 0
    (entry_within c.loop.entry _ c.if-entry-eq0.false c.if-entry-kept.false)))

pub returns-then-dominates : goal.returns-then-dominates
returns-then-dominates c = λ _. (
  _,
  contains_at c.args.kept.now (c.loop.entry - 1) _
      (slice_get-get_or c.args.kept.now (c.loop.entry - 1) 0
      (entry_within c.loop.entry _ c.if-entry-eq0.false c.if-entry-kept.false)),
  c.if-dominates.ensures refl,
)
