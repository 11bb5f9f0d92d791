use Rattle.std.proofs.Common.{◌≡◌, ◌∙◌, ◌++◌, ◌∷◌, [], ℕ, List, Vec, Global, ap, map, sym, take}
use Rattle.std.proofs.lemmas.List.{map-append}
use Rattle.lexer.specs.TokenLists.{tok_of}
use Rattle.rfcvalues.specs.RuleSketches.{names_among}
use Rattle.rfcvalues.proofs.RuleSketchLemmas.{all-words, word-named, word-unnamed}
use Rattle.rfcvalues.proofs.words.names_among.Goals as goal
use Rattle.rfcvalues.proofs.words.names_among.Goals.{then-is_name+in_ok-name+in_ok-push, else-is_name}

abbrev bytes_of : Vec ℕ Global → List ℕ
bytes_of name = name.items

pub loop-word-preserved : goal.loop-word-preserved
loop-word-preserved c = elim c.if-is_name.branch [
  | then-is_name+in_ok-name+in_ok-push w ↦
      let so_far = names_among (map tok_of (take c.loop-word.word-index c.args.words.now)) in
      ap (λ (v : Vec (Vec ℕ Global) Global). map bytes_of v.items) w.names-is
      ∙ ap (map bytes_of) w.in_ok-push.ensures.items
      ∙ map-append bytes_of c.loop-word.names.items (w.in_ok-name.name ∷ [])
      ∙ ap (λ (ns : List (List ℕ)). ns ++ w.in_ok-name.name.items ∷ []) c.loop-word.invariant
      ∙ ap (λ (z : List ℕ). so_far ++ z ∷ []) w.in_ok-name.ensures.items
      ∙ sym (word-named c.args.words.now c.loop-word.word-index _ c.loop-word-test.true
      (sym c.is_name.ensures ∙ w.if-is_name.true))
  | else-is_name w ↦
      ap (λ (v : Vec (Vec ℕ Global) Global). map bytes_of v.items) w.names-is ∙ c.loop-word.invariant
      ∙ sym (word-unnamed c.args.words.now c.loop-word.word-index _ c.loop-word-test.true
      (sym c.is_name.ensures ∙ w.if-is_name.false))
]

pub returns : goal.returns
returns c = all-words c.args.words.now c.loop-word.word-index _ c.loop-word-test.false c.loop-word.invariant
