use Rattle.std.proofs.Common.{List, map, subst}
use Rattle.std.proofs.lemmas.List.{take_all}
use Rattle.abnfread.specs.AbnfViews.{rules_of}
use Rattle.refusedlines.proofs.PartTextsLemmas.{first_texts_more, first_texts_none}
use Rattle.refusedlines.specs.PartTexts.{ArePartTexts}
use Rattle.refusedlines.specs.ShownParts.{awaited_part}
use Rattle.refusedlines.specs.declared.parts.AwaitedPart.{AwaitedPart}
use Rattle.refusedlines.proofs.part_texts.part_texts.Goals as goal

pub loop-part-init : goal.loop-part-init
loop-part-init c =
    first_texts_none c.args.alphabet (rules_of c.args.rules.now) c.new-once.result c.new-once.ensures.names
    c.new-once.ensures.rules

pub loop-part-preserved : goal.loop-part-preserved
loop-part-preserved c =
    first_texts_more c.args.alphabet (rules_of c.args.rules.now) c.args.parts.now c.loop-part.part-index
    c.part-item.result c.loop-part.once c.define.new.self
    (record { name = c.deref.result.now; body = tt; span = record { start = 0; end = 0 } }) _
    c.in_ok-text.text.items c.loop-part-test.true c.part-item.is c.loop-part.invariant c.in_ok-text.ensures
    c.deref.ensures.value c.in_ok-define.ensures.defines

pub returns : goal.returns
returns c =
    let texts = c.loop-part.invariant in
    let all = take_all c.loop-part.part-index c.args.parts.now c.loop-part-test.false in (
      texts.texts,
      subst (λ (ps : List AwaitedPart). ArePartTexts c.args.alphabet (rules_of c.args.rules.now) (map awaited_part ps)
          texts.texts) all texts.listed,
      texts.is,
    )
