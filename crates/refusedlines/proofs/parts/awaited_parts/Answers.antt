use Rattle.std.proofs.Common.{Bool, ◌&&◌, List, sym, ap, subst, slice_get}
use Rattle.std.proofs.lemmas.Result.{IfOk-weaker}
use Rattle.abnfread.specs.AbnfViews.{rules_of}
use Rattle.ruletable.specs.Letters.{has}
use Rattle.refusedlines.specs.RefusedParts.{AreReportedParts, IsPartReported, ShownPart, parts_from}
use Rattle.refusedlines.specs.SoughtParts.{is_marked_at}
use Rattle.refusedlines.proofs.ReportedPartsLemmas.{are_reported}
use Rattle.refusedlines.proofs.parts.awaited_parts.Goals as goal

pub returns : goal.returns
returns c = IfOk-weaker c.parts.result _ _
    (λ parts shown alphabet grammar judged x n pruned lowered marks count short letters awaited.
    let rules = rules_of c.args.rules.now in
    let flat = c.args.flat.now in
    subst (λ (v : List ShownPart). AreReportedParts (IsPartReported alphabet rules judged x n) (parts_from 0 rules) v)
    (sym shown)
    (are_reported alphabet rules judged flat x n lowered short letters
    (record {
      awaited = λ rule top s k site.
          c.items_decide.ensures.awaited (has alphabet) rules judged flat x lowered short letters rule top s n k site;
      element = λ rule k site body part.
          c.items_decide.ensures.element (has alphabet) rules judged x n rule k site body part;
      starts = c.items_decide.ensures.starts (has alphabet) rules judged flat lowered;
    })
    c.args.more.now count (marks (has alphabet) grammar pruned) c.args.dots.now awaited _
    (λ s k. ap (λ (v : Bool). v && is_marked_at c.args.more.now (slice_get flat.nodes s))
    (c.in_ok-set.ensures s k)))) c.parts.ensures
