use Rattle.std.proofs.Common.{◌≡◌, ◌+◌, ◌++◌, map, length, drop}
use Rattle.diagnostics.specs.PhraseLists.{listed}
use Rattle.diagnostics.proofs.picture.phrase_list.push_phrases.Given as goal

-- what is left is the rest of the list
abbrev pub invariant-loop-phrase : goal.invariant-loop-phrase
invariant-loop-phrase l = record {
  count : l.left + l.phrase-index ≡ length l.phrases;
  text : l.out.items ++ listed (map (λ p. p.now) (drop l.phrase-index l.phrases)) ≡ l.fn.out.items
      ++ listed (map (λ p. p.now) l.phrases);
}
