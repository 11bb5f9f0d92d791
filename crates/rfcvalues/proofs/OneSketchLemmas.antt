-- A rule has one sketch, and rules have one list of values.
-- Serves: one_joining of abnftexts
use Rattle.std.proofs.Common.{◌≡◌, ◌↔◌, ℕ, zero, suc, ◌<◌, Bool, true, false, List, [], ◌∷◌, length, slice_get, Some}
use Rattle.std.proofs.Common.{refl}
use Rattle.std.proofs.Common.{sym, ap, ◌∙◌, arith, subst, true≢false}
use Rattle.lexer.specs.TokenLists.{Tok, start_of}
use Rattle.abnfread.specs.MarkedTokens.{AreTokens}
use Rattle.abnfread.specs.declared.kind.AbnfKind.{AbnfKind}
use Rattle.abnfexplain.proofs.AbnfWhyLemmas.{one-fault-token}
use Rattle.std.specs.Prelude.{slice_index_or}
use Rattle.rfcvalues.specs.AssignedValues.{AreValueMarks, IsValue}
use Rattle.rfcvalues.specs.RuleSketches.{AreRuleTokens, IsSketch, RuleSeen, SketchedRule, sketch_of, to_its_end}
use Rattle.rfcvalues.specs.RuleSketches.{to_its_fault, tokens_before, too_long, with_no_fault, wrong_byte}
use Rattle.rfcvalues.specs.declared.words.WordsEnd.{WordsEnd}
use Rattle.rfcvalues.specs.declared.words.WordsEnd.TheVariants.{Wrong}

module _ (one_tokens : (text : List ℕ) (a b : List (Tok AbnfKind)) → AreTokens text a → AreTokens text b → a ≡ b) where
  tokens-same : {rule : RuleSeen} {e f : WordsEnd} {t u : List (Tok AbnfKind)} → AreRuleTokens rule e t
      → AreRuleTokens rule f u → (e ≡ f) × (t ≡ u)
  tokens-same {rule} (to_its_end r x) (to_its_end s y) =
      (refl, ap (tokens_before (length rule.text)) (one_tokens rule.text _ _ x y))
  tokens-same (to_its_end r x) (to_its_fault s l d y) = absurd (true≢false (sym r ∙ s))
  tokens-same (to_its_end r x) (with_no_fault s l d y) = absurd (true≢false (sym r ∙ s))
  tokens-same (to_its_end r x) (too_long s l) = absurd (true≢false (sym r ∙ s))
  tokens-same (to_its_fault s l d x) (to_its_end r y) = absurd (true≢false (sym r ∙ s))
  tokens-same {rule} (to_its_fault {ts} {x = p} r l d x) (to_its_fault {ts = us} {x = q} s k e y) =
      let same = one-fault-token rule.text p q d e in (
        ap (λ (z : Tok AbnfKind). Wrong (wrong_byte z)) same,
        ap (tokens_before (start_of p)) (one_tokens rule.text ts us x y)
            ∙ ap (λ (z : Tok AbnfKind). tokens_before (start_of z) us) same,
      )
  tokens-same (to_its_fault r l d x) (with_no_fault s k none y) =
      absurd (none d.all d.are_tokens d.number d.decides)
  tokens-same (to_its_fault r l d x) (too_long s k) = absurd (omega (arith, l, k))
  tokens-same (with_no_fault s l d x) (to_its_end r y) = absurd (true≢false (sym r ∙ s))
  tokens-same (with_no_fault r l none x) (to_its_fault s k d y) =
      absurd (none d.all d.are_tokens d.number d.decides)
  tokens-same {rule} (with_no_fault r l none x) (with_no_fault s k others y) =
      (refl, ap (tokens_before (length rule.text)) (one_tokens rule.text _ _ x y))
  tokens-same (with_no_fault r l none x) (too_long s k) = absurd (omega (arith, l, k))
  tokens-same (too_long s l) (to_its_end r y) = absurd (true≢false (sym r ∙ s))
  tokens-same (too_long r l) (to_its_fault s k d y) = absurd (omega (arith, l, k))
  tokens-same (too_long r l) (with_no_fault s k none y) = absurd (omega (arith, l, k))
  tokens-same (too_long r l) (too_long s k) = (refl, refl)

  pub sketch-same : {rule : RuleSeen} {a b : SketchedRule} → IsSketch rule a → IsSketch rule b → a ≡ b
  sketch-same {rule} x y =
      let same = tokens-same x.are_tokens y.are_tokens in
      x.is ∙ ap (λ (e : WordsEnd). sketch_of rule e x.tokens) same.0
      ∙ ap (λ (ts : List (Tok AbnfKind)). sketch_of rule y.end ts) same.1 ∙ sym y.is

abbrev IsMarked : List Bool → ℕ → Type 0
IsMarked marks n = slice_index_or marks n false ≡ true

-- two lists of marks that say the same are one
bools-same : (a b : List Bool) → length a ≡ length b
    → ((n : ℕ) → n < length a → IsMarked a n ↔ IsMarked b n) → a ≡ b
bools-same [] [] e h = refl
bools-same [] (y ∷ b) e h = absurd (omega (arith, e))
bools-same (x ∷ a) [] e h = absurd (omega (arith, e))
bools-same (x ∷ a) (y ∷ b) e h =
    let low : 0 < length (x ∷ a) = omega arith in
    let rest : a ≡ b = bools-same a b (omega (arith, e)) (λ n lt. h (suc n) (omega (arith, lt))) in
    ap (λ (z : Bool). z ∷ a) (by x y (h 0 low)) ∙ ap (λ (zs : List Bool). y ∷ zs) rest
  where
    by : (x y : Bool) → (x ≡ true) ↔ (y ≡ true) → x ≡ y
    by true y h = sym (h.0 refl)
    by false true h = h.1 refl
    by false false h = refl

get-some : {A : Type 0} (xs : List A) (n : ℕ) → n < length xs → (x : A) × (slice_get xs n ≡ Some x)
get-some [] n lt = absurd (omega (arith, lt))
get-some (x ∷ xs) zero lt = (x, refl)
get-some (x ∷ xs) (suc n) lt = get-some xs n (omega (arith, lt))

pub marks-same : (rules : List SketchedRule) (a b : List Bool) → AreValueMarks rules a → AreValueMarks rules b → a ≡ b
marks-same rules a b x y =
    bools-same a b (x.count ∙ sym y.count) (λ n lt.
    let got = get-some rules n (let size = x.count in omega (arith, size, lt)) in
    let one = x.values n got.0 got.1 in
    let other = y.values n got.0 got.1 in
    (λ marked. other.1 (one.0 marked), λ marked. one.1 (other.0 marked)))
