-- What tokens of the code say of a rule, as the tokens of its text.
-- Serves: rule_sketch
use Rattle.std.proofs.Common.{◌≡◌, ℕ, ◌-◌, ◌+◌, get_or, ◌||◌, Bool, true, false, List, [], ◌∷◌, ◌++◌, length, take}
use Rattle.std.proofs.Common.{drop, map, refl, sym}
use Rattle.std.proofs.Common.{ap, ◌∙◌, ◌<◌, ◌≤◌, arith, inl, inr, nat_lt, if◌then◌else◌, append-nil}
use Rattle.std.specs.List.{filter, list_any}
use Rattle.std.proofs.lemmas.Bool.{cases_Bool}
use Rattle.std.proofs.lemmas.Bool.Decides.{nat_tests}
use Rattle.std.proofs.lemmas.List.{drop-map, length-map, map-append, take-map, take_all, take_more}
use Rattle.lexer.specs.TokenLists.{Tok, kind_of, slice_of, start_of, tok_of}
use Rattle.lexer.specs.declared.token_iter.Token.{Token}
use Rattle.abnfread.specs.declared.kind.AbnfKind.{AbnfKind}
use Rattle.rfcvalues.specs.RuleSketches.{end_marks, has_count, has_mark, is_adding, is_marking, is_name_kind}
use Rattle.rfcvalues.specs.RuleSketches.{is_starred}
use Rattle.rfcvalues.specs.RuleSketches.{SketchedRule, names_among, tokens_before, words_after}
use Rattle.rfcvalues.specs.declared.words.WordsEnd.{WordsEnd}

abbrev pub CodeToken : Type 0
CodeToken = Token AbnfKind

pub any-map : {A B : Type 0} (p : B → Bool) (f : A → B) (xs : List A)
    → list_any (λ x. p (f x)) xs ≡ list_any p (map f xs)
any-map p f [] = refl
any-map p f (x ∷ xs) = ap (λ (b : Bool). p (f x) || b) (any-map p f xs)

-- the words are those after the name and the sign
pub after-words : (tokens words : List CodeToken) → words ≡ drop 2 tokens
    → map tok_of words ≡ words_after (map tok_of tokens)
after-words tokens words e = ap (map tok_of) e ∙ sym (drop-map tok_of 2 tokens)

pub any-toks : (p : Tok AbnfKind → Bool) (ts : List CodeToken)
    → list_any (λ x. p (tok_of x)) ts ≡ list_any p (map tok_of ts)
any-toks p [] = refl
any-toks p (x ∷ ts) = ap (λ (b : Bool). p (tok_of x) || b) (any-toks p ts)

pub ltb-yes : (a b : ℕ) → a < b → nat_lt a b ≡ true
ltb-yes a b h = grind (arith, nat_tests)

pub ltb-no : (a b : ℕ) → b ≤ a → nat_lt a b ≡ false
ltb-no a b h = grind (arith, nat_tests)

filter-snoc : {A : Type 0} (p : A → Bool) (xs : List A) (x : A)
    → filter p (xs ++ x ∷ []) ≡ filter p xs ++ (if p x then x ∷ [] else [])
filter-snoc p [] x = elim (cases_Bool (p x)) [ inl e ↦ rw e refl | inr e ↦ rw e refl ]
filter-snoc p (y ∷ xs) x = elim (cases_Bool (p y)) [
  | inl e ↦ rw e (ap (λ (ys : List _). y ∷ ys) (filter-snoc p xs x))
  | inr e ↦ rw e (filter-snoc p xs x)
]

-- a token that begins before the position is one more, and another is none
pub tokens-more : (n : ℕ) (ts : List (Tok AbnfKind)) (x : Tok AbnfKind) → nat_lt (start_of x) n ≡ true
    → tokens_before n (ts ++ x ∷ []) ≡ tokens_before n ts ++ x ∷ []
tokens-more n ts x e =
    filter-snoc (λ y. nat_lt (start_of y) n) ts x
    ∙ ap (λ (b : Bool). tokens_before n ts ++ (if b then x ∷ [] else [])) e

pub tokens-same : (n : ℕ) (ts : List (Tok AbnfKind)) (x : Tok AbnfKind) → nat_lt (start_of x) n ≡ false
    → tokens_before n (ts ++ x ∷ []) ≡ tokens_before n ts
tokens-same n ts x e =
    filter-snoc (λ y. nat_lt (start_of y) n) ts x
    ∙ ap (λ (b : Bool). tokens_before n ts ++ (if b then x ∷ [] else [])) e ∙ append-nil (tokens_before n ts)

-- a name among the words is one more, and another word is none
pub names-more : (ts : List (Tok AbnfKind)) (x : Tok AbnfKind) → is_name_kind (kind_of x) ≡ true
    → names_among (ts ++ x ∷ []) ≡ names_among ts ++ slice_of x ∷ []
names-more ts x e =
    ap (map slice_of) (filter-snoc (λ y. is_name_kind (kind_of y)) ts x
    ∙ ap (λ (b : Bool). filter (λ y. is_name_kind (kind_of y)) ts ++ (if b then x ∷ [] else [])) e)
    ∙ map-append slice_of (filter (λ y. is_name_kind (kind_of y)) ts) (x ∷ [])

pub names-same : (ts : List (Tok AbnfKind)) (x : Tok AbnfKind) → is_name_kind (kind_of x) ≡ false
    → names_among (ts ++ x ∷ []) ≡ names_among ts
names-same ts x e =
    ap (map slice_of) (filter-snoc (λ y. is_name_kind (kind_of y)) ts x
    ∙ ap (λ (b : Bool). filter (λ y. is_name_kind (kind_of y)) ts ++ (if b then x ∷ [] else [])) e
    ∙ append-nil (filter (λ y. is_name_kind (kind_of y)) ts))

-- what the code finds among the tokens
module _ (has_list : Bool) (end : WordsEnd) (tokens front words counted : List CodeToken) where
  adding-is : front ≡ take 2 tokens → list_any (λ x. is_adding x.kind) front
      ≡ list_any (λ x. is_adding (kind_of x)) (take 2 (map tok_of tokens))
  adding-is e =
      ap (λ (xs : List CodeToken). list_any (λ x. is_adding x.kind) xs) e
      ∙ any-toks (λ x. is_adding (kind_of x)) (take 2 tokens)
      ∙ ap (λ (xs : List (Tok AbnfKind)). list_any (λ x. is_adding (kind_of x)) xs) (sym (take-map tok_of 2 tokens))

  words-are : words ≡ drop 2 tokens → map tok_of words ≡ words_after (map tok_of tokens)
  words-are e = ap (map tok_of) e ∙ sym (drop-map tok_of 2 tokens)

  marking-is : words ≡ drop 2 tokens → list_any (λ x. is_marking x.kind) words
      ≡ list_any (λ x. is_marking (kind_of x)) (words_after (map tok_of tokens))
  marking-is e =
      any-toks (λ x. is_marking (kind_of x)) words
      ∙ ap (λ (xs : List (Tok AbnfKind)). list_any (λ x. is_marking (kind_of x)) xs) (words-are e)

  count-is : words ≡ drop 2 tokens → counted ≡ take (length words - 1) words
      → list_any (λ x. is_starred (tok_of x)) counted ≡ has_count (words_after (map tok_of tokens))
  count-is e f =
      let size : length words ≡ length (map tok_of words) = sym (length-map words tok_of) in
      any-toks is_starred counted
      ∙ ap (λ (xs : List CodeToken). list_any is_starred (map tok_of xs)) f
      ∙ ap (λ (xs : List (Tok AbnfKind)). list_any is_starred xs) (sym (take-map tok_of (length words - 1) words))
      ∙ ap (λ (n : ℕ). list_any is_starred (take (n - 1) (map tok_of words))) size
      ∙ ap has_count (words-are e)

  or-second : (a b c d : Bool) → b ≡ true → (a || b || c || d) ≡ true
  or-second true b c d e = refl
  or-second false b c d e = rw e refl

  or-third : (a b c d : Bool) → c ≡ true → (a || b || c || d) ≡ true
  or-third true b c d e = refl
  or-third false true c d e = refl
  or-third false false c d e = rw e refl

  pub mark-adding : (b : Bool) → b ≡ list_any (λ x. is_adding x.kind) front → front ≡ take 2 tokens → b ≡ true
      → true ≡ has_mark has_list end (map tok_of tokens)
  mark-adding b is e t = (let yes = sym (adding-is e) ∙ sym is ∙ t in rw yes refl)

  pub mark-marking : (b : Bool) → b ≡ list_any (λ x. is_marking x.kind) words → words ≡ drop 2 tokens → b ≡ true
      → true ≡ has_mark has_list end (map tok_of tokens)
  mark-marking b is e t =
      let ts = map tok_of tokens in
      sym (or-second (list_any (λ x. is_adding (kind_of x)) (take 2 ts))
      (list_any (λ x. is_marking (kind_of x)) (words_after ts)) (has_count (words_after ts))
      (end_marks has_list end (words_after ts)) (sym (marking-is e) ∙ sym is ∙ t))

  pub mark-count : (b : Bool) → b ≡ list_any (λ x. is_starred (tok_of x)) counted → words ≡ drop 2 tokens
      → counted ≡ take (length words - 1) words → b ≡ true → true ≡ has_mark has_list end (map tok_of tokens)
  mark-count b is e f t =
      let ts = map tok_of tokens in
      sym (or-third (list_any (λ x. is_adding (kind_of x)) (take 2 ts))
      (list_any (λ x. is_marking (kind_of x)) (words_after ts)) (has_count (words_after ts))
      (end_marks has_list end (words_after ts)) (sym (count-is e f) ∙ sym is ∙ t))

  pub mark-end : (a b c d : Bool) → a ≡ list_any (λ x. is_adding x.kind) front → front ≡ take 2 tokens
      → b ≡ list_any (λ x. is_marking x.kind) words → c ≡ list_any (λ x. is_starred (tok_of x)) counted
      → words ≡ drop 2 tokens → counted ≡ take (length words - 1) words → d ≡ end_marks has_list end (map tok_of words)
      → a ≡ false → b ≡ false → c ≡ false → d ≡ has_mark has_list end (map tok_of tokens)
  mark-end a b c d is front_is is' is'' e f ends x y z =
      let adding = sym (adding-is front_is) ∙ sym is ∙ x in
      let marking = sym (marking-is e) ∙ sym is' ∙ y in
      let count = sym (count-is e f) ∙ sym is'' ∙ z in
      rw (adding, marking, count) (ends ∙ ap (end_marks has_list end) (words-are e))

-- one word more
module _ (words : List CodeToken) (i : ℕ) (d : CodeToken) (lt : i < length words) where
  next-word : map tok_of (take (i + 1) words) ≡ map tok_of (take i words) ++ tok_of (get_or words i d) ∷ []
  next-word = ap (map tok_of) (take_more words i d lt) ∙ map-append tok_of (take i words) (get_or words i d ∷ [])

  pub word-named : is_name_kind (get_or words i d).kind ≡ true → names_among (map tok_of (take (i + 1) words))
      ≡ names_among (map tok_of (take i words)) ++ (get_or words i d).slice.now ∷ []
  word-named e = ap names_among next-word ∙ names-more (map tok_of (take i words)) (tok_of (get_or words i d)) e

  pub word-unnamed : is_name_kind (get_or words i d).kind ≡ false → names_among (map tok_of (take (i + 1) words))
      ≡ names_among (map tok_of (take i words))
  word-unnamed e = ap names_among next-word ∙ names-same (map tok_of (take i words)) (tok_of (get_or words i d)) e

-- all of them
pub all-words : (words : List CodeToken) (i : ℕ) (names : List (List ℕ)) → length words ≤ i
    → names ≡ names_among (map tok_of (take i words)) → names ≡ names_among (map tok_of words)
all-words words i names le e = e ∙ ap (λ (xs : List CodeToken). names_among (map tok_of xs)) (take_all i words le)

abbrev sketch_with : List ℕ → List (List ℕ) → Bool → Bool → Bool → Bool → Bool → SketchedRule
sketch_with name uses marked statement compact reads hex = record {
  name = name;
  uses = uses;
  is_marked = marked;
  is_statement = statement;
  is_compact = compact;
  reads = reads;
  has_hex = hex;
}

pub sketch-same : (n m : List ℕ) (u v : List (List ℕ)) (a b c d e f reads h i : Bool) → n ≡ m → u ≡ v → a ≡ b → c ≡ d
    → e ≡ f → h ≡ i → sketch_with n u a c e reads h ≡ sketch_with m v b d f reads i
sketch-same n m u v a b c d e f reads h i p q r s t w = rw (p, q, r, s, t, w) refl
