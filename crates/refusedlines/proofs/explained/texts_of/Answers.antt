use Rattle.std.proofs.Common.{◌∙◌, Bool, List, ap, length, map, subst, sym}
use Rattle.std.proofs.lemmas.Result.{IfOk-weaker}
use Rattle.abnfread.specs.AbnfViews.{rules_of}
use Rattle.lowering.specs.MoreMarks.{AreMoreMarks}
use Rattle.refusedlines.specs.PartTexts.{ArePartTexts}
use Rattle.refusedlines.specs.ShownParts.{awaited_part}
use Rattle.refusedlines.specs.declared.parts.AwaitedPart.{AwaitedPart}
use Rattle.refusedlines.proofs.explained.texts_of.Goals as goal

pub part_texts-requires : goal.part_texts-requires
part_texts-requires c = c.requires.folds

pub returns : goal.returns
returns c =
    let e = c.args.explainer.now in
    let pruned = e.pruned.now in
    IfOk-weaker c.part_texts.result _ _
    (λ once found x n short letters awaited. record {
      parts = map awaited_part c.in_ok-parts.parts.items;
      reported = c.in_ok-parts.ensures e.letters (rules_of e.grammar.now.rules) e.grammar.now.judged x n
          c.requires.left c.requires.lowered
          (subst (λ (more : List Bool). AreMoreMarks (rules_of pruned.rules) more) (sym c.deref.ensures.value)
          c.requires.marks) (ap length c.deref.ensures.value ∙ c.requires.count) short letters awaited;
      texts = found.0;
      listed = subst (λ (ps : List AwaitedPart). ArePartTexts e.letters (rules_of pruned.rules) (map awaited_part ps)
          found.0) c.deref-2.ensures.value found.1;
      is = found.2;
    })
    c.part_texts.ensures
