use Rattle.pegexplain.proofs.NeverTakenLemmas.{hidden-never, hidden-reported, reported-hidden}
use Rattle.pegexplain.proofs.hints.laws.never_taken.Goals as goal

pub returns-clause-reports : goal.returns-clause-reports
returns-clause-reports c = λ rules sure null is_sure is_null before after e hidden. (
  hidden-reported rules sure null is_sure is_null e before after hidden,
  reported-hidden rules sure null is_sure is_null e before after hidden,
)

pub returns-clause-never : goal.returns-clause-never
returns-clause-never c = λ rules x alternatives k p hidden. hidden-never rules x alternatives k p hidden
