use Rattle.std.proofs.Common.{◌≡◌, arith, length}
use Rattle.std.proofs.lemmas.Bool.Decides.{nat_tests}
use Rattle.abnfblocks.proofs.XmlLineLemmas.{no-part, part-more}
use Rattle.abnfblocks.proofs.rfctext.xml_text.shown_lines.Goals as goal

pub loop-rest-preserved : goal.loop-rest-preserved
loop-rest-preserved c = part-more c.loop-rest.rest.now c.cut_part-parts.result.rest.now
    c.cut_part-parts.result.first.now c.loop-rest.out.items c.push_part.new.out.items _ c.cut_part-parts.ensures.parts
    c.in_ok-push_part.ensures c.loop-rest.invariant

pub returns : goal.returns
returns c =
    let none : length c.loop-rest.rest.now ≡ 0 = grind (arith, nat_tests) in
    no-part c.loop-rest.rest.now c.loop-rest.out.items _ none c.loop-rest.invariant
