-- The canonical text, on examples whose texts are known.
use Rattle.std.proofs.Common.{◌≡◌, ◌==◌, ◌||◌, ◌&&◌, nat_le, nat_lt, not, [], ◌∷◌, refl, codes}
use Rattle.ruletable.specs.Runs.{runs_after}
use Rattle.pegprint.specs.Canon.{text_of, definition_text}
use Rattle.pegread.specs.Escapes.{written}
use Rattle.pegread.specs.Pattern.{Pattern, Any, Bytes, Set, Name, Seq, Choice, Star, Plus, Opt, And, Not, Act, Open}
use Rattle.pegread.specs.Pattern.{Close, Patterns, none, more}

abbrev a : Pattern
a = Bytes (codes "a")

abbrev b : Pattern
b = Bytes (codes "b")

abbrev c : Pattern
c = Name (codes "c")

abbrev x : Pattern
x = Act (codes "x")

abbrev empty : Pattern
empty = Seq none

abbrev two : Pattern → Pattern → Patterns
two e f = more e (more f none)

module _ where
  sequence-in_sequence : text_of (Seq (two (Seq (two a b)) c)) ≡ codes "(\"a\" \"b\") c"
  unfolding written
  sequence-in_sequence = refl

  star-of_star : text_of (Star (Star c)) ≡ codes "(c*)*"
  star-of_star = refl

  star-denied : text_of (Not (Star c)) ≡ codes "!c*"
  star-denied = refl

  denied-star : text_of (Star (Not c)) ≡ codes "(!c)*"
  denied-star = refl

  denied-twice : text_of (Not (Not c)) ≡ codes "!(!c)"
  denied-twice = refl

  plus-option : text_of (Opt (Plus c)) ≡ codes "(c+)?"
  plus-option = refl

  act-asserted : text_of (And x) ≡ codes "&({x})"
  act-asserted = refl

  option-asserted : text_of (And (Opt x)) ≡ codes "&({x}?)"
  option-asserted = refl

  options-asserted : text_of (And (Opt (Opt x))) ≡ codes "&({x}?)?"
  options-asserted = refl

  act-denied : text_of (Not x) ≡ codes "!{x}"
  act-denied = refl

  capture-text : text_of (Seq (more Open (more Any (more Close (more x none))))) ≡ codes "< . > {x}"
  capture-text = refl

  choice-member : text_of (Seq (two (Choice (two c Any)) c)) ≡ codes "(c / .) c"
  choice-member = refl

  choice-alternative : text_of (Choice (two (Choice (two c Any)) (Seq (two c c)))) ≡ codes "(c / .) / c c"
  choice-alternative = refl

  empty-last : text_of (Choice (two a empty)) ≡ codes "\"a\" / "
  unfolding written
  empty-last = refl

  empty-operands : text_of (Seq (two (Not (Not a)) (Choice (two empty empty)))) ≡ codes "!(!\"a\") ( / )"
  unfolding written
  empty-operands = refl

  empty-member : text_of (Seq (two empty (Star empty))) ≡ codes "() ()*"
  empty-member = refl

  empty-body : definition_text (codes "S") empty ≡ codes "S <- \n"
  empty-body = refl

  choice-repeated : text_of (Star (Choice (two (Seq (two a b)) empty))) ≡ codes "(\"a\" \"b\" / )*"
  unfolding written
  choice-repeated = refl

  escapes-text : text_of (Bytes (0 ∷ 34 ∷ 10 ∷ 92 ∷ 39 ∷ 127 ∷ 200 ∷ 93 ∷ []))
      ≡ codes "\"\\000\\\"\\n\\\\'\\177\\310]\""
  unfolding written
  escapes-text = refl

  all-but-a : text_of (Set (λ n. nat_lt n 256 && not (n == 97))) ≡ codes "[^a]"
  unfolding written runs_after
  all-but-a = refl

  run-of-two : text_of (Set (λ n. (n == 97) || (n == 98))) ≡ codes "[ab]"
  unfolding written runs_after
  run-of-two = refl

  run-of-three : text_of (Set (λ n. nat_le 98 n && nat_le n 100)) ≡ codes "[b-d]"
  unfolding written runs_after
  run-of-three = refl

  marks-escaped : text_of (Set (λ n. (nat_le 43 n && nat_le n 45) || (nat_le 91 n && nat_le n 94)))
      ≡ codes "[+-\\055\\[-\\136]"
  unfolding written runs_after
  marks-escaped = refl

  empty-sets : text_of (Seq (two (Set (λ n. nat_lt n 0)) (Set (λ n. nat_lt n 256)))) ≡ codes "[] [^]"
  unfolding written runs_after
  empty-sets = refl
