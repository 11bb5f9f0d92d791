-- The definitions of the tokens so far.
-- Serves: heads_of
use Rattle.std.proofs.Common.{◌≡◌, ℕ, ◌≤◌, Bool, All, Option, Some, None, List, [], ◌∷◌, ◌++◌, length, suc, map, refl}
use Rattle.std.proofs.Common.{sym, ap, ◌∙◌, append_assoc, append-nil, arith}
use Rattle.std.specs.Prelude.{option_map}
use Rattle.ruletable.specs.Lines.{line_at}
use Rattle.ruletable.specs.declared.lines.LineRule.{LineRule}
use Rattle.lexer.specs.Pieces.{AreInOrder, LiesIn}
use Rattle.lexer.specs.TokenLists.{AreTokens, Tok, kind_of, slice_of, start_of}
use Rattle.diagnostics.specs.DefinitionHeads.{AreDefinitions, DefinedAt, SignAt, begun_by, definition_of}
use Rattle.diagnostics.specs.DefinitionHeads.{definitions_in}
use Rattle.diagnostics.specs.DefinitionHeads.{sign_at}
use Rattle.diagnostics.specs.Openings.{BeginsHead, opens}
use Rattle.diagnostics.specs.declared.noteplaces.sign.Sign.{Sign}

-- the token before the others, if there is one, and the others
abbrev pub joined : {K : Type 0} → Option (Tok K) → List (Tok K) → List (Tok K)
joined None ts = ts
joined (Some t) ts = t ∷ ts

pub All-tail : {A : Type 0} (P : A → Type 0) (x : A) (xs : List A) → All P (x ∷ xs) → All P xs
All-tail P x xs h = λ k d lt. h (suc k) d (omega (arith, lt))

pub All-head : {A : Type 0} (P : A → Type 0) (x : A) (xs : List A) → All P (x ∷ xs) → P x
All-head P x xs h = h 0 x (omega arith)

pub line-zero : (rule : LineRule) (t : List ℕ) → 1 ≡ line_at rule t 0
line-zero rule [] = refl
line-zero rule (b ∷ bs) = refl

module _ {K : Type 0} (White : List ℕ → List ℕ → Type 0) (First : K → List ℕ → List ℕ → Type 0) (is_end : K → Bool)
    (sign_of : K → Sign) (rule : LineRule) (text : List ℕ) where
  abbrev pub among : List (Tok K) → List DefinedAt
  among ts = definitions_in rule text (map (sign_at sign_of) ts)

  -- the definitions so far and those that are left are the text's, and the line of a position before these is known
  pub record HasTaken (left : List (Tok K) → Type 0) (before : Option SignAt) (at line : ℕ) (found : List DefinedAt)
      : Type 0 where
    pub rest : List (Tok K)
    pub are_left : left rest
    pub last : Option (Tok K)
    pub last_is : option_map (sign_at sign_of) last ≡ before
    pub tokens : List (Tok K)
    pub are_tokens : AreTokens White First is_end (length text) text tokens
    pub whole : found ++ among (joined last rest) ≡ among tokens
    pub lie : All (LiesIn text) (joined last rest)
    pub order : AreInOrder at (joined last rest)
    pub line_is : line ≡ line_at rule text at

  pub none-taken : (left : List (Tok K) → Type 0) (all : List (Tok K)) → left all
      → AreTokens White First is_end (length text) text all → All (LiesIn text) all → AreInOrder 0 all
      → HasTaken left None 0 1 []
  none-taken left all l h lie order = record {
    rest = all;
    are_left = l;
    last = None;
    last_is = refl;
    tokens = all;
    are_tokens = h;
    whole = refl;
    lie = lie;
    order = order;
    line_is = line-zero rule text;
  }

  -- one token more
  module _ (at : ℕ) (found : List DefinedAt) (t : Tok K) (others : List (Tok K)) where
    -- what is known after a token that begins no definition with the one before
    none-joined : (last : Option (Tok K)) → opens (option_map (sign_at sign_of) last) (sign_at sign_of t) ≡ None
        → found ++ among (joined last (t ∷ others)) ≡ found ++ among (t ∷ others)
    none-joined None none = refl
    none-joined (Some u) none = ap (λ o. found ++ (definition_of o (slice_of u) (line_at rule text (start_of u))
        (start_of u)
        ++ among (t ∷ others))) none

    lie-joined : (last : Option (Tok K)) → All (LiesIn text) (joined last (t ∷ others))
        → All (LiesIn text) (t ∷ others)
    lie-joined None h = h
    lie-joined (Some u) h = All-tail (LiesIn text) u (t ∷ others) h

    order-joined : (last : Option (Tok K)) → All (LiesIn text) (joined last (t ∷ others))
        → AreInOrder at (joined last (t ∷ others)) → AreInOrder at (t ∷ others)
    order-joined None lie h = h
    order-joined (Some u) lie h =
        let here = All-head (LiesIn text) u (t ∷ others) lie in
        let rises = here.rises in
        let first = h.0 in
        let then = h.1.0 in
        (omega (arith, rises, first, then), h.1.1)

  module _ {left : List (Tok K) → Type 0} {before : Option SignAt} {at line : ℕ} {found : List DefinedAt}
      (h : HasTaken left before at line found) (next : List (Tok K) → Type 0) (t : Tok K) (others : List (Tok K))
      (given : h.rest ≡ t ∷ others) (are : next others) where
    whole-given : found ++ among (joined h.last (t ∷ others)) ≡ among h.tokens
    whole-given = (let w = h.whole in rw given at w)

    lie-given : All (LiesIn text) (joined h.last (t ∷ others))
    lie-given = (let w = h.lie in rw given at w)

    order-given : AreInOrder at (joined h.last (t ∷ others))
    order-given = (let w = h.order in rw given at w)

    -- a token that begins no definition with the one before
    pub token-taken : opens before (sign_at sign_of t) ≡ None
        → HasTaken next (Some (sign_at sign_of t)) at line found
    token-taken none = record {
      rest = others;
      are_left = are;
      last = Some t;
      last_is = refl;
      tokens = h.tokens;
      are_tokens = h.are_tokens;
      whole = sym (none-joined at found t others h.last (ap (λ b. opens b (sign_at sign_of t)) h.last_is ∙ none))
          ∙ whole-given;
      lie = lie-joined at found t others h.last lie-given;
      order = order-joined at found t others h.last lie-given order-given;
      line_is = h.line_is;
    }

    -- a token that begins one
    module _ (name : List ℕ) (start : ℕ) (adds : Bool) (o : BeginsHead before (sign_at sign_of t) name start adds) where
      record IsNamed : Type 0 where
        word : Tok K
        there : h.last ≡ Some word
        opened : begun_by (sign_of (kind_of word)) (sign_of (kind_of t)) ≡ Some adds
        name_is : name ≡ slice_of word
        start_is : start ≡ start_of word

      is-named : (last : Option (Tok K)) → h.last ≡ last → option_map (sign_at sign_of) last ≡ before → IsNamed
      is-named None e b = (let f : None ≡ Some o.name_token = b ∙ o.there in cc)
      is-named (Some word) e b =
          let same : sign_at sign_of word ≡ o.name_token = (let f : Some (sign_at sign_of word) ≡ Some o.name_token =
          b ∙ o.there in cc) in
          record {
            word = word;
            there = e;
            opened = ap (λ (s : SignAt). begun_by s.sign (sign_of (kind_of t))) same ∙ o.opened;
            name_is = o.name_is ∙ sym (ap (λ (s : SignAt). s.slice) same);
            start_is = o.start_is ∙ sym (ap (λ (s : SignAt). s.start) same);
          }

      named-so : IsNamed
      named-so = is-named h.last refl h.last_is

      -- where its name stands
      pub opens-after : (at ≤ start) × (start ≤ length text)
      opens-after =
          let n = named-so in
          let lie : All (LiesIn text) (n.word ∷ t ∷ others) = (let w = lie-given in let e = n.there in rw e at w) in
          let order : AreInOrder at (n.word ∷ t ∷ others) = (let w = order-given in let e = n.there in rw e at w) in
          let here = All-head (LiesIn text) n.word (t ∷ others) lie in
          let rises = here.rises in
          let within = here.within in
          let first = order.0 in
          let e = n.start_is in
          (omega (arith, e, first), omega (arith, e, rises, within))

      pub head-taken : (to : ℕ) → to ≡ line_at rule text start → HasTaken next (Some (sign_at sign_of t)) start to
          (found ++ record { name = name; line = to; adds = adds; start = start } ∷ [])
      head-taken to e =
          let n = named-so in
          let lie : All (LiesIn text) (n.word ∷ t ∷ others) = (let w = lie-given in let e = n.there in rw e at w) in
          let order : AreInOrder at (n.word ∷ t ∷ others) = (let w = order-given in let e = n.there in rw e at w) in
          let whole : found ++ among (n.word ∷ t ∷ others) ≡ among h.tokens =
          (let w = whole-given in let e = n.there in rw e at w) in
          let here = All-head (LiesIn text) n.word (t ∷ others) lie in
          let rises = here.rises in
          let then = order.1.0 in
          let s = n.start_is in
          let line : to ≡ line_at rule text (start_of n.word) = e ∙ ap (line_at rule text) s in
          record {
            rest = others;
            are_left = are;
            last = Some t;
            last_is = refl;
            tokens = h.tokens;
            are_tokens = h.are_tokens;
            whole = append_assoc found (record { name = name; line = to; adds = adds; start = start } ∷ [])
                (among (t ∷ others))
                ∙ ap (λ (z : List ℕ). found ++ record { name = z; line = to; adds = adds; start = start }
                ∷ among (t ∷ others)) n.name_is
                ∙ ap (λ (k : ℕ). found ++ record { name = slice_of n.word; line = k; adds = adds; start = start }
                ∷ among (t ∷ others)) line
                ∙ ap (λ (k : ℕ). found ++ record {
                  name = slice_of n.word;
                  line = line_at rule text (start_of n.word);
                  adds = adds;
                  start = k;
                }
                ∷ among (t ∷ others)) s
                ∙ sym (ap (λ a. found ++ (definition_of a (slice_of n.word) (line_at rule text (start_of n.word))
                (start_of n.word) ++ among (t ∷ others))) n.opened) ∙ whole;
            lie = All-tail (LiesIn text) n.word (t ∷ others) lie;
            order = (omega (arith, s, rises, then), order.1.1);
            line_is = e;
          }

  -- no token more
  last-one : (last : Option (Tok K)) → among (joined last []) ≡ []
  last-one None = refl
  last-one (Some t) = refl

  pub all-taken : {left : List (Tok K) → Type 0} {before : Option SignAt} {at line : ℕ} {found : List DefinedAt}
      (h : HasTaken left before at line found) → h.rest ≡ []
      → AreDefinitions White First is_end sign_of rule text found
  all-taken {found = found} h none = record {
    tokens = h.tokens;
    are_tokens = h.are_tokens;
    all = sym (append-nil found) ∙ ap (λ ds. found ++ ds) (sym (last-one h.last))
        ∙ (let w = h.whole in rw none at w);
  }
