use Rattle.std.proofs.Common.{arith, ap, sym, ◌∙◌, length, slice_get}
use Rattle.std.proofs.lemmas.Option.{slice_get-get_or}
use Rattle.memo.specs.TaskLinks.{bucket_of}
use Rattle.memo.proofs.TaskLinksLemmas.{sought_start, cell_of_position}
use Rattle.memo.proofs.index.walk.Goals as goal

pub loop-at-init : goal.loop-at-init
loop-at-init c =
    sought_start _ _ _ _ _ (λ d s. ap (bucket_of (length c.args.heads.now)) s.0)
    (c.requires.linked.heads _ _ (ap (slice_get c.args.heads.now) (sym c.bucket.ensures.value)
    ∙ slice_get-get_or c.args.heads.now c.bucket.result 0 c.bucket.ensures.within))

pub returns-clause-none : goal.returns-clause-none
returns-clause-none c i e p at h =
    let m = cell_of_position c.args.cells.now (record { number = c.args.number; entry = i }) p in
    c.loop-at.invariant.after m.0 m.1 (omega arith) m.2
    (ap (λ v. v.number) m.3, e, ap (λ v. slice_get c.args.entries.now v.entry) m.3 ∙ at, h)
