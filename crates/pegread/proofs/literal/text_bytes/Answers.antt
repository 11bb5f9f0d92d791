use Rattle.pegread.specs.Chars.{more_chars}
use Rattle.pegread.proofs.SpellsBytesLemmas.{char-paired, none-paired, chars-pushed, chars-ended}
use Rattle.pegread.proofs.literal.text_bytes.Goals as goal

pub loop-byte-preserved : goal.loop-byte-preserved
loop-byte-preserved c = record {
  paired = char-paired c.in-Some.ensures c.loop-byte.invariant.paired;
  chars = λ bs h. chars-pushed _ _ bs _ c.in_ok-push.ensures.items
      (c.loop-byte.invariant.chars _ (more_chars c.in-Some.ensures h));
}

pub returns : goal.returns
returns c = chars-ended _ (none-paired _ c.in_default.ensures c.loop-byte.invariant.paired) c.loop-byte.invariant.chars
