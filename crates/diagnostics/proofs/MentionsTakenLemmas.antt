-- What the tokens so far mention.
-- Serves: positions_of
use Rattle.std.proofs.Common.{◌≡◌, ℕ, ◌≤◌, Bool, All, Option, Some, None, List, [], ◌∷◌, ◌++◌, length, map, refl}
use Rattle.std.proofs.Common.{sym, ap, subst, ◌∙◌, append_assoc, append-nil, arith}
use Rattle.std.specs.Prelude.{option_map}
use Rattle.ruletable.specs.Lines.{line_at}
use Rattle.ruletable.specs.declared.lines.LineRule.{LineRule}
use Rattle.lexer.specs.Pieces.{AreInOrder, LiesIn}
use Rattle.lexer.specs.TokenLists.{AreTokens, Tok, kind_of, start_of}
use Rattle.diagnostics.specs.BodyMentions.{AreMentions, MentionedAt, body_after, mention_of, mention_unless}
use Rattle.diagnostics.specs.BodyMentions.{mentions_in}
use Rattle.diagnostics.specs.DefinitionHeads.{SignAt, begun_by, sign_at}
use Rattle.diagnostics.specs.Openings.{BeginsHead, opens}
use Rattle.diagnostics.specs.declared.noteplaces.sign.Sign.{Sign}
use Rattle.diagnostics.proofs.HeadsTakenLemmas.{joined, All-head, All-tail, line-zero}

module _ {K : Type 0} (White : List ℕ → List ℕ → Type 0) (First : K → List ℕ → List ℕ → Type 0) (is_end : K → Bool)
    (sign_of : K → Sign) (rule : LineRule) (text : List ℕ) where
  abbrev pub among : Option ℕ → List (Tok K) → List MentionedAt
  among within ts = mentions_in rule text within (map (sign_at sign_of) ts)

  -- what the tokens so far mention and what those that are left do is all, and the line of a position before them is
  -- known
  pub record HasMentioned (left : List (Tok K) → Type 0) (before : Option SignAt) (within : Option ℕ) (at line : ℕ)
      (found : List MentionedAt) : Type 0 where
    pub rest : List (Tok K)
    pub are_left : left rest
    pub last : Option (Tok K)
    pub last_is : option_map (sign_at sign_of) last ≡ before
    pub tokens : List (Tok K)
    pub are_tokens : AreTokens White First is_end (length text) text tokens
    pub whole : found ++ among within (joined last rest) ≡ among None tokens
    pub lie : All (LiesIn text) (joined last rest)
    pub order : AreInOrder at (joined last rest)
    pub line_is : line ≡ line_at rule text at

  pub none-mentioned : (left : List (Tok K) → Type 0) (all : List (Tok K)) → left all
      → AreTokens White First is_end (length text) text all → All (LiesIn text) all → AreInOrder 0 all
      → HasMentioned left None None 0 1 []
  none-mentioned left all l h lie order = record {
    rest = all;
    are_left = l;
    last = None;
    last_is = refl;
    tokens = all;
    are_tokens = h;
    whole = refl;
    lie = lie;
    order = order;
    line_is = line-zero rule text;
  }

  module _ {left : List (Tok K) → Type 0} {before : Option SignAt} {within : Option ℕ} {at line : ℕ}
      {found : List MentionedAt} (h : HasMentioned left before within at line found) (next : List (Tok K) → Type 0)
      (t : Tok K) (others : List (Tok K)) (given : h.rest ≡ t ∷ others) (are : next others) where
    -- the first token
    first-joined : (last : Option (Tok K)) → h.last ≡ last → option_map (sign_at sign_of) last ≡ None
        → last ≡ None
    first-joined None e b = refl
    first-joined (Some u) e b = cc

    pub first-mentioned : before ≡ None → HasMentioned next (Some (sign_at sign_of t)) within at line found
    first-mentioned none =
        let last : h.last ≡ None = first-joined h.last refl (h.last_is ∙ none) in
        record {
          rest = others;
          are_left = are;
          last = Some t;
          last_is = refl;
          tokens = h.tokens;
          are_tokens = h.are_tokens;
          whole = (let w = h.whole in rw (last, given) at w);
          lie = (let w = h.lie in rw (last, given) at w);
          order = (let w = h.order in rw (last, given) at w);
          line_is = h.line_is;
        }

    -- a token after another
    module _ (s : SignAt) (some : before ≡ Some s) where
      record IsLast : Type 0 where
        word : Tok K
        there : h.last ≡ Some word
        same : sign_at sign_of word ≡ s

      is-last : (last : Option (Tok K)) → h.last ≡ last → option_map (sign_at sign_of) last ≡ before → IsLast
      is-last None e b = (let f : None ≡ Some s = b ∙ some in cc)
      is-last (Some word) e b = record {
        word = word;
        there = e;
        same = (let f : Some (sign_at sign_of word) ≡ Some s = b ∙ some in cc);
      }

      last-so : IsLast
      last-so = is-last h.last refl h.last_is

      lie-so : (word : Tok K) → h.last ≡ Some word → All (LiesIn text) (word ∷ t ∷ others)
      lie-so word e = (let w = h.lie in rw (given, e) at w)

      order-so : (word : Tok K) → h.last ≡ Some word → AreInOrder at (word ∷ t ∷ others)
      order-so word e = (let w = h.order in rw (given, e) at w)

      whole-so : (word : Tok K) → h.last ≡ Some word → found ++ among within (word ∷ t ∷ others) ≡ among None h.tokens
      whole-so word e = (let w = h.whole in rw (e, given) at w)

      -- where it stands
      pub last-after : (at ≤ s.start) × (s.start ≤ length text)
      last-after =
          let l = last-so in
          let here = All-head (LiesIn text) l.word (t ∷ others) (lie-so l.word l.there) in
          let rises = here.rises in
          let end = here.within in
          let order = order-so l.word l.there in
          let first = order.0 in
          let e : start_of l.word ≡ s.start = ap (λ (x : SignAt). x.start) l.same in
          (omega (arith, e, first), omega (arith, e, rises, end))

      pub next-mentioned : (to : ℕ) (more : List MentionedAt) (inside : Option ℕ) → to ≡ line_at rule text s.start
          → more ≡ mention_unless text (begun_by s.sign (sign_of (kind_of t))) within to s
          → inside ≡ body_after (begun_by s.sign (sign_of (kind_of t))) within s
          → HasMentioned next (Some (sign_at sign_of t)) inside s.start to (found ++ more)
      next-mentioned to more inside e m i =
          let l = last-so in
          let lie = lie-so l.word l.there in
          let order = order-so l.word l.there in
          let here = All-head (LiesIn text) l.word (t ∷ others) lie in
          let rises = here.rises in
          let then = order.1.0 in
          let start : start_of l.word ≡ s.start = ap (λ (x : SignAt). x.start) l.same in
          record {
            rest = others;
            are_left = are;
            last = Some t;
            last_is = refl;
            tokens = h.tokens;
            are_tokens = h.are_tokens;
            whole = ap (λ (b : Option ℕ). (found ++ more) ++ among b (t ∷ others)) i
                ∙ append_assoc found more _ ∙ ap (λ (x : List MentionedAt). found ++ (x
                ++ among (body_after (begun_by s.sign (sign_of (kind_of t))) within s) (t ∷ others))) m
                ∙ ap (λ (n : ℕ). found ++ (mention_unless text (begun_by s.sign (sign_of (kind_of t))) within n s
                ++ among (body_after (begun_by s.sign (sign_of (kind_of t))) within s) (t ∷ others))) e
                ∙ sym (ap (λ (x : SignAt). found ++ mentions_in rule text within
                (x ∷ map (sign_at sign_of) (t ∷ others))) l.same) ∙ whole-so l.word l.there;
            lie = All-tail (LiesIn text) l.word (t ∷ others) lie;
            order = (omega (arith, start, rises, then), order.1.1);
            line_is = e;
          }

      -- with the token it begins no definition, and it may be a mention
      pub token-mentioned : (to : ℕ) (more : List MentionedAt) → opens before (sign_at sign_of t) ≡ None
          → to ≡ line_at rule text s.start → more ≡ mention_of text within to s
          → HasMentioned next (Some (sign_at sign_of t)) within s.start to (found ++ more)
      token-mentioned to more none e m =
          let begun : begun_by s.sign (sign_of (kind_of t)) ≡ None =
          sym (ap (λ b. opens b (sign_at sign_of t)) some) ∙ none in
          next-mentioned to more within e (m ∙ sym (ap (λ b. mention_unless text b within to s) begun))
          (sym (ap (λ b. body_after b within s) begun))

      -- with the token it begins a definition
      pub name-mentioned : (name : List ℕ) (start : ℕ) (adds : Bool) (to : ℕ)
          → BeginsHead before (sign_at sign_of t) name start adds → to ≡ line_at rule text s.start
          → HasMentioned next (Some (sign_at sign_of t)) (Some start) s.start to found
      name-mentioned name start adds to o e =
          let same : o.name_token ≡ s = (let f : Some o.name_token ≡ Some s = sym o.there ∙ some in cc) in
          let begun : begun_by s.sign (sign_of (kind_of t)) ≡ Some adds =
          sym (ap (λ (x : SignAt). begun_by x.sign (sign_of (kind_of t))) same) ∙ o.opened in
          let position : start ≡ s.start = o.start_is ∙ ap (λ (x : SignAt). x.start) same in
          subst (λ ms. HasMentioned next (Some (sign_at sign_of t)) (Some start) s.start to ms) (append-nil found)
          (next-mentioned to [] (Some start) e (sym (ap (λ b. mention_unless text b within to s) begun))
          (ap Some position ∙ sym (ap (λ b. body_after b within s) begun)))

  last-none : (within : Option ℕ) (last : Option (Tok K)) → among within (joined last []) ≡ []
  last-none within None = refl
  last-none within (Some t) = refl

  pub all-mentioned : {left : List (Tok K) → Type 0} {before : Option SignAt} {within : Option ℕ} {at line : ℕ}
      {found : List MentionedAt} (h : HasMentioned left before within at line found) → h.rest ≡ []
      → AreMentions White First is_end sign_of rule text found
  all-mentioned {within = within} {found = found} h none = record {
    tokens = h.tokens;
    are_tokens = h.are_tokens;
    all = sym (append-nil found) ∙ ap (λ ds. found ++ ds) (sym (last-none within h.last))
        ∙ (let w = h.whole in rw none at w);
  }
