use Rattle.std.proofs.Common.{◌≡◌, ◌+◌, length}
use Rattle.rfcforms.specs.XmlTags.{tag_length}
use Rattle.rfcforms.proofs.xml.tag.tag_size.Given as goal

abbrev pub invariant-loop-first : goal.invariant-loop-first
invariant-loop-first l = record {
  size : l.size + length l.rest ≡ length l.text;
  same : l.size + tag_length l.quote l.rest ≡ tag_length 0 l.text;
}

abbrev pub decreases-loop-first : goal.decreases-loop-first
decreases-loop-first l = length l.rest
