-- Whether a number goes on does not depend on the number.
-- Serves: read_abnf
use Rattle.std.proofs.Common.{◌≡◌, ℕ, Bool, true, false, Option, Some, None, List, [], ◌∷◌, refl}
use Rattle.abnfread.specs.AbnfMachine.{Config, start, named, body, done, fresh, awaits, read, step}
use Rattle.abnfread.specs.AbnfReader.{sample, is_there}
use Rattle.abnfread.specs.AbnfWords.{word, Said, Repeat, Values, Range}

-- the machine takes the word where it takes a number of that kind
abbrev IsLike : Config → Bool → Bool → Said → Bool → Type 0
IsLike c g f s r = is_there (step c (word g f s)) ≡ is_there (step c (word g f (sample r)))

repeat-like : (a : ℕ) (b : Option ℕ) (c : Config) (g f : Bool) → IsLike c g f (Repeat a b) true
repeat-like a b start g true = refl
repeat-like a b (named ds x p) g true = refl
repeat-like a b (body i o bs es fresh) g true = refl
repeat-like a b (body i o bs es (awaits x y)) g true = refl
repeat-like a b (body i [] bs es read) g true = refl
repeat-like a b (body i (l ∷ o) bs es read) g true = refl
repeat-like a b (done ds) g true = refl
repeat-like a b start g false = refl
repeat-like a b (named ds x p) g false = refl
repeat-like a b (body i o bs es fresh) g false = refl
repeat-like a b (body i o bs es (awaits x y)) true false = refl
repeat-like a b (body i o bs es (awaits x y)) false false = refl
repeat-like a b (body i o bs es read) true false = refl
repeat-like a b (body i o bs es read) false false = refl
repeat-like a b (done ds) g false = refl

values-like : (vs : List ℕ) (c : Config) (g f : Bool) → IsLike c g f (Values vs) false
values-like vs start g true = refl
values-like vs (named ds x p) g true = refl
values-like vs (body i o bs es fresh) g true = refl
values-like vs (body i o bs es (awaits x y)) g true = refl
values-like vs (body i [] bs es read) g true = refl
values-like vs (body i (l ∷ o) bs es read) g true = refl
values-like vs (done ds) g true = refl
values-like vs start g false = refl
values-like vs (named ds x p) g false = refl
values-like vs (body i o bs es fresh) g false = refl
values-like vs (body i o bs es (awaits x y)) true false = refl
values-like vs (body i o bs es (awaits x y)) false false = refl
values-like vs (body i o bs es read) true false = refl
values-like vs (body i o bs es read) false false = refl
values-like vs (done ds) g false = refl

range-like : (a b : ℕ) (c : Config) (g f : Bool) → IsLike c g f (Range a b) false
range-like a b start g true = refl
range-like a b (named ds x p) g true = refl
range-like a b (body i o bs es fresh) g true = refl
range-like a b (body i o bs es (awaits x y)) g true = refl
range-like a b (body i [] bs es read) g true = refl
range-like a b (body i (l ∷ o) bs es read) g true = refl
range-like a b (done ds) g true = refl
range-like a b start g false = refl
range-like a b (named ds x p) g false = refl
range-like a b (body i o bs es fresh) g false = refl
range-like a b (body i o bs es (awaits x y)) true false = refl
range-like a b (body i o bs es (awaits x y)) false false = refl
range-like a b (body i o bs es read) true false = refl
range-like a b (body i o bs es read) false false = refl
range-like a b (done ds) g false = refl

-- numbers, and whether they are repeats
pub data Number : Bool → Said → Type 0 where
  repeat : {a : ℕ} {b : Option ℕ} → Number true (Repeat a b)
  values : {vs : List ℕ} → Number false (Values vs)
  range : {a b : ℕ} → Number false (Range a b)

pub number-like : {r : Bool} {s : Said} (c : Config) (g f : Bool) → Number r s → is_there (step c (word g f s))
    ≡ is_there (step c (word g f (sample r)))
number-like c g f (repeat {a} {b}) = repeat-like a b c g f
number-like c g f (values {vs}) = values-like vs c g f
number-like c g f (range {a} {b}) = range-like a b c g f

pub there-some : (x : Option Config) → is_there x ≡ true → (d : Config) × (x ≡ Some d)
there-some None e = absurd (let k = e in cc)
there-some (Some d) e = (d, refl)

pub there-none : (x : Option Config) → is_there x ≡ false → x ≡ None
there-none None e = refl
there-none (Some d) e = absurd (let k = e in cc)
