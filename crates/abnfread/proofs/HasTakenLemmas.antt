-- The invariant of the reader's loop, and the fault where it stops.
-- Serves: read_abnf
use Rattle.std.proofs.Common.{◌≡◌, ℕ, ◌<◌, ◌≤◌, ◌==◌, not, Bool, true, false, Option, Some, None, List, [], ◌∷◌, ◌++◌}
use Rattle.std.proofs.Common.{length, map, take, drop, slice_get, refl, sym, ap, ◌∙◌, subst, append_assoc, append-nil}
use Rattle.std.proofs.Common.{length-append, arith, Result, Ok, Err}
use Rattle.std.proofs.Math.Seq.{get_or-append_seam}
use Rattle.std.proofs.lemmas.List.{take-append-drop}
use Rattle.std.proofs.lemmas.Option.{slice_get-get_or}
use Rattle.ruletable.specs.Lines.{line_at}
use Rattle.ruletable.specs.declared.lines.LineRule.TheVariants.{Lf}
use Rattle.ruletable.specs.declared.span.Span.{Span}
use Rattle.lexer.specs.TokenLists as lexed
use Rattle.lexer.specs.declared.token_iter.Token.{Token}
use Rattle.lexer.specs.TokenLists.{Tok, tok, start_of, last_one, one_more}
use Rattle.lexer.specs.Viability.{say_none, say_more}
use Rattle.lexer.specs.declared.limits.TheConstants.{MAX_GRAMMAR, MAX_OPEN}
use Rattle.lexer.proofs.ViabilityLemmas as lemmas
use Rattle.lexer.proofs.ViabilityLemmas.{Split, run_of, run-append, run-snoc, say-snoc, say-split}
use Rattle.abnfread.specs.declared.kind.AbnfKind.{AbnfKind}
use Rattle.abnfread.specs.declared.kind.AbnfKind.TheVariants.{End}
use Rattle.abnfread.specs.declared.marks.MarkedToken.{MarkedToken}
use Rattle.abnfread.specs.declared.number.NumberFault.{NumberFault}
use Rattle.abnfread.specs.declared.reader.Reader.{Reader}
use Rattle.abnfread.specs.declared.reader.ReaderStop.{ReaderStop}
use Rattle.abnfread.specs.declared.reader.ReaderStop.TheVariants as stops
use Rattle.abnfread.specs.declared.words.Said.{Said as CodeSaid}
use Rattle.abnfread.specs.AbnfKinds.{ends_list, is_repeat}
use Rattle.abnfread.specs.AbnfMachine.{Config, start, named, body, done, ended, finish, fresh, awaits, read, step, run}
use Rattle.abnfread.specs.AbnfMachine.{levels_in}
use Rattle.abnfread.specs.AbnfReader.{said_of, Steps, Takes, Refuses, sample, is_there}
use Rattle.abnfread.specs.AbnfReading.{Reads, IsDecidedAt, is_bracket, IsSyntax, IsTooDeep, IsTooLarge}
use Rattle.abnfread.specs.AbnfSays.{SaysKind, says_name, says_lparen, says_lbrack, Says, says, says_end, SayAll, Viable}
use Rattle.abnfread.specs.AbnfSays.{IsSmall, AreSmall, IsShallow, AreWithin, IsOver}
use Rattle.abnfread.specs.AbnfSlices.{White, First}
use Rattle.abnfread.specs.AbnfSpelling.{Grammar}
use Rattle.abnfread.specs.AbnfWords as words
use Rattle.abnfread.specs.AbnfWords.{Said, Word, word}
use Rattle.abnfread.specs.Element.{Definition}
use Rattle.abnfread.specs.MarkedTokens.{Marked, marked, marked_of, tok_of, is_first, marks, margin, AreTokens}
use Rattle.abnfread.specs.MarkedTokens.{AreMarked}
use Rattle.abnfread.proofs.AbnfSpellingLemmas.{runs-grammar}
use Rattle.abnfread.proofs.AbnfViabilityLemmas.{runs-begins, stops-begins}
use Rattle.abnfread.proofs.NumberStepLemmas.{number-like, there-some, there-none}
use Rattle.abnfread.proofs.OpenBracketLemmas.{step-opens, shallow-next, deeper-next, shallow-front, levels-within}
use Rattle.abnfread.proofs.OpenBracketLemmas.{opens-bracket}
use Rattle.abnfread.proofs.SaysKindLemmas.{one-word, large-number}

-- The tokens so far lead from the text to those that are left, and the machine took what those so far say.
pub record HasTaken (text : List ℕ) (left : List Marked → Type 0) (c : Config) (ms : List Marked) : Type 0 where
  -- whatever is left, the text has the tokens so far before it
  pub before : (rest : List Marked) → left rest → AreMarked text (ms ++ rest)
  -- a list of the text's tokens is those so far and one that is left
  pub after : (all : List Marked) → AreMarked text all → (rest : List Marked) × left rest × (all ≡ ms ++ rest)
  pub words : List Word
  pub say : SayAll ms words
  pub reached : run start words ≡ Some c
  pub shallow : IsShallow MAX_OPEN 0 words
  pub small : AreSmall words

small-front : (ws us : List Word) → AreSmall (ws ++ us) → AreSmall ws
small-front [] us h = tt
small-front (word g f s ∷ ws) us h = (h.0, small-front ws us h.1)

small-snoc : (ws : List Word) (g f : Bool) (s : Said) → AreSmall ws → IsSmall s → AreSmall (ws ++ word g f s ∷ [])
small-snoc [] g f s h k = (k, tt)
small-snoc (word a b t ∷ ws) g f s h k = (h.0, small-snoc ws g f s h.1 k)

small-last : (ws : List Word) (g f : Bool) (s : Said) → AreSmall (ws ++ word g f s ∷ []) → IsSmall s
small-last [] g f s h = h.0
small-last (word a b t ∷ ws) g f s h = small-last ws g f s h.1

within-front : (ms us : List Marked) → AreWithin (ms ++ us) → AreWithin ms
within-front ms us h =
    let s = say-split Says ms us h.say in
    record {
      words = s.front;
      say = s.first;
      shallow = shallow-front MAX_OPEN 0 s.front s.back (let e = s.whole in let k = h.shallow in rw e at k);
      small = small-front s.front s.back (let e = s.whole in let k = h.small in rw e at k);
    }

pub within-take : (i : ℕ) (ms : List Marked) → AreWithin ms → AreWithin (take i ms)
within-take i ms h = within-front (take i ms) (drop i ms) (rw (take-append-drop i ms) h)

-- before the first token
pub none-taken : (text : List ℕ) (left : List Marked → Type 0) (c : Config)
    → ((ts : List (Tok AbnfKind)) → AreTokens text ts → left (marks text (margin text ts) 0 ts))
    → ((ms : List Marked) → left ms → AreMarked text ms) → c ≡ start → HasTaken text left c []
none-taken text left c are all e = record {
  before = all;
  after = λ ms h. (ms, subst left (sym h.same) (are h.tokens h.are_tokens), refl);
  words = [];
  say = say_none;
  reached = ap Some (sym e);
  shallow = omega arith;
  small = tt;
}

get-seam : (ms : List Marked) (m : Marked) (us : List Marked) → slice_get (ms ++ m ∷ us) (length ms) ≡ Some m
get-seam ms m us = slice_get-get_or (ms ++ m ∷ us) (length ms) m (omega (arith, length-append ms (m ∷ us)))
    ∙ ap Some (get_or-append_seam ms m us m)

number-no_bracket : {k : AbnfKind} {z : List ℕ} {p : Span} {s : Said} (g f : Bool) → SaysKind k z p s → (IsSmall s → ⊥)
    → is_bracket (marked (tok k z p) g f) ≡ false
number-no_bracket g f says_name h = refl
number-no_bracket g f says_end h = refl
number-no_bracket g f says_lparen h = absurd (h tt)
number-no_bracket g f says_lbrack h = absurd (h tt)
number-no_bracket g f _ h = refl

-- one token is taken from those that are left
module _ {text : List ℕ} {left : List Marked → Type 0} {c : Config} {ms : List Marked} (h : HasTaken text left c ms)
    (here : Marked) (next : List Marked → Type 0)
    (first : (us : List Marked) → left us → (others : List Marked) × (us ≡ here ∷ others) × next others) where
  after-one : (all : List Marked) → AreMarked text all → (others : List Marked) × next others
      × (all ≡ ms ++ here ∷ others)
  after-one all are =
      let l = h.after all are in
      let o = first l.0 l.1 in
      (o.0, o.2, l.2 ∙ ap (λ (us : List Marked). ms ++ us) o.1)

  -- where the text has tokens, it is one of them
  pub one-there : (ts : List (Tok AbnfKind)) × AreTokens text ts → (others : List Marked)
      × AreMarked text (ms ++ here ∷ others)
  one-there ts =
      let all = marks text (margin text ts.0) 0 ts.0 in
      let are : AreMarked text all = record { tokens = ts.0; are_tokens = ts.1; same = refl } in
      let o = after-one all are in
      (o.0, subst (AreMarked text) o.2 are)

  pub one-taken : ((others : List Marked) → next others → left (here ∷ others)) → (d : Config) (a b : Bool) (s : Said)
      → Says here (word a b s) → IsSmall s → step c (word a b s) ≡ Some d → levels_in d ≤ MAX_OPEN
      → HasTaken text next d (ms ++ here ∷ [])
  one-taken back d a b s say small steps le = record {
    before = λ others are. rw (append_assoc ms (here ∷ []) others) (h.before (here ∷ others) (back others are));
    after = λ all are. let o = after-one all are in (o.0, o.1, o.2 ∙ sym (append_assoc ms (here ∷ []) o.0));
    words = h.words ++ word a b s ∷ [];
    say = say-snoc Says h.say say;
    reached = run-snoc step h.words (word a b s) start c h.reached ∙ steps;
    shallow = shallow-next h.words (word a b s) c d h.reached steps MAX_OPEN h.shallow le;
    small = small-snoc h.words a b s h.small small;
  }

-- a token of the text that was not taken
module _ {text : List ℕ} {left : List Marked → Type 0} {c : Config} {ms : List Marked} (h : HasTaken text left c ms)
    (k : AbnfKind) (z : List ℕ) (p : Span) (g f : Bool) (others : List Marked)
    (whole : AreMarked text (ms ++ marked (tok k z p) g f ∷ others)) where
  abbrev here : Marked
  here = marked (tok k z p) g f

  within-here : AreWithin ms
  within-here = record { words = h.words; say = h.say; shallow = h.shallow; small = h.small }

  -- the words of one token more
  next-words : (w : Word) (vs : List Word) → Says here w → SayAll (ms ++ here ∷ []) vs → vs ≡ h.words ++ w ∷ []
  next-words w vs say all = lemmas.one-words Says one-word all (say-snoc Says h.say say)

  module _ (line : ℕ) (size : length text ≤ MAX_GRAMMAR) (there : line ≡ line_at Lf text (start_of (tok_of here))) where
    is_decided : (D : List Marked → ℕ → Marked → Type 0) → D (ms ++ here ∷ others) (length ms) here
        → IsDecidedAt text line D
    is_decided D d = record {
      size = size;
      all = ms ++ here ∷ others;
      are_tokens = whole;
      number = length ms;
      token = here;
      there = get-seam ms here others;
      decides = d;
      line_is = there;
    }

    pub hopeless-there : ((w : Word) → Says here w → step c w ≡ None) → IsDecidedAt text line IsSyntax
    hopeless-there stops = is_decided IsSyntax
        (lemmas.hopeless-at Viable AreWithin ms here others
        (lemmas.viable-run Says Grammar step start runs-begins stops-begins one-word c h.say h.reached) within-here
        (lemmas.not-viable Says Grammar step start runs-begins stops-begins one-word c h.say h.reached here stops))

    over-there : (d : Config) (w : Word) → Says here w → step c w ≡ Some d → (AreWithin (ms ++ here ∷ []) → ⊥)
        → IsOver (ms ++ here ∷ others) (length ms)
    over-there d w say steps over =
        lemmas.over-at Viable AreWithin ms here others
        (lemmas.viable-next Says Grammar step start runs-begins stops-begins one-word c h.say h.reached here w d say
        steps) within-here over

    pub too-deep : (d : Config) (a b : Bool) (s : Said) → SaysKind k z p s → Says here (word a b s)
        → step c (word a b s) ≡ Some d → MAX_OPEN < levels_in d → IsDecidedAt text line IsTooDeep
    too-deep d a b s said say steps lt = is_decided IsTooDeep (
      over-there d (word a b s) say steps (λ v. deeper-next h.words (word a b s) c d h.reached steps MAX_OPEN lt
          (let e = next-words (word a b s) v.words say v.say in let y = v.shallow in rw e at y)),
      opens-bracket g f MAX_OPEN (levels_in c) said (levels-within h.words c MAX_OPEN h.reached h.shallow)
          (let e = step-opens c d a b s steps in rw e at lt),
    )

    pub too-large : (a b : Bool) (s : Said) (d : Config) → SaysKind k z p s → Says here (word a b s) → (IsSmall s → ⊥)
        → step c (word a b s) ≡ Some d → IsDecidedAt text line IsTooLarge
    too-large a b s d said say large steps = is_decided IsTooLarge (
      over-there d (word a b s) say steps (λ v. large
          (small-last h.words a b s (let e = next-words (word a b s) v.words say v.say in let y = v.small in
          rw e at y))),
      number-no_bracket g f said large,
    )

-- what the word of a token is
pub says-kind : {k : AbnfKind} {z : List ℕ} {p : Span} {g f a b : Bool} {s : Said}
    → Says (marked (tok k z p) g f) (word a b s) → SaysKind k z p s
says-kind (says h) = h

-- the text's tokens end in `End`, which is the first of no line that begins a rule
record EndsList (ms : List Marked) : Type 0 where
  front : List Marked
  slice : List ℕ
  span : Span
  gap : Bool
  whole : ms ≡ front ++ marked (tok End slice span) gap false ∷ []

end-kind : (k : AbnfKind) → ends_list k ≡ true → k ≡ End
end-kind End e = refl
end-kind _ e = cc

ends-one : (text : List ℕ) (m : Option ℕ) (n : ℕ) (k : AbnfKind) (z : List ℕ) (p : Span) → k ≡ End
    → EndsList (marks text m n (tok k z p ∷ []))
ends-one text m n k z p e = rw e (record { front = []; slice = z; span = p; gap = _; whole = refl })

marks-end : (text : List ℕ) (m : Option ℕ) {total : ℕ} {t : List ℕ} {ts : List (Tok AbnfKind)} (n : ℕ)
    → lexed.AreTokens White First ends_list total t ts → EndsList (marks text m n ts)
marks-end text m n (last_one {x = tok k z p} h e) = ends-one text m n k z p (end-kind k e)
marks-end text m n (one_more {x} h e more) =
    let r = marks-end text m (lexed.end_of x) more in
    let first = marked x (not (start_of x == n)) (is_first text m x) in
    record {
      front = first ∷ r.front;
      slice = r.slice;
      span = r.span;
      gap = r.gap;
      whole = ap (λ (ys : List Marked). first ∷ ys) r.whole;
    }

end-done : (c d : Config) (g : Bool) → step c (word g false words.End) ≡ Some d → (ds : List Definition) × (d ≡ done ds)
end-done start d g h = absurd (none-some h)
  where
    none-some : {x : Config} → None ≡ Some x → ⊥
    none-some e = cc
end-done (named ds n p) d g h = absurd (let k = h in cc)
end-done (body i o bs es fresh) d g h = absurd (let k = h in cc)
end-done (body i o bs es (awaits a b)) d true h = absurd (let k = h in cc)
end-done (body i o bs es (awaits a b)) d false h = absurd (let k = h in cc)
end-done (body i [] bs es read) d g h = (
  ended i (finish bs es),
  let same : d ≡ done (ended i (finish bs es)) = cc in same,
)
end-done (body i (l ∷ o) bs es read) d g h = absurd (let k = h in cc)
end-done (done ds) d g h = absurd (let k = h in cc)

run-end : (x : Option Config) (c : Config) (g : Bool) → run_of step x (word g false words.End ∷ []) ≡ Some c
    → (ds : List Definition) × (c ≡ done ds)
run-end None c g e = absurd (let k = e in cc)
run-end (Some d) c g e = end-done d c g (sym (run-snoc step [] (word g false words.End) d d refl) ∙ e)

only-end : {z : List ℕ} {p : Span} {g : Bool} {ws : List Word} → SayAll (marked (tok End z p) g false ∷ []) ws
    → ws ≡ word g false words.End ∷ []
only-end (say_more (says says_end) say_none) = refl

-- no token is left
module _ {text : List ℕ} {left : List Marked → Type 0} {c : Config} {ms : List Marked} (h : HasTaken text left c ms)
    (none : left []) where
  every-marked : AreMarked text ms
  every-marked = (let a = h.before [] none in simp append-nil at a)

  pub all-done : (ds : List Definition) × (c ≡ done ds)
  all-done =
      let e = marks-end text (margin text every-marked.tokens) 0 every-marked.are_tokens in
      let last : ms ≡ e.front ++ marked (tok End e.slice e.span) e.gap false ∷ [] = every-marked.same ∙ e.whole in
      let s = say-split Says e.front (marked (tok End e.slice e.span) e.gap false ∷ [])
      (let y = h.say in rw last at y) in
      said-end s (sym (run-append step s.front s.back start) ∙ ap (run start) (sym s.whole) ∙ h.reached)
    where
      said-end : {fs : List Marked} {z : List ℕ} {p : Span} {g : Bool} {ws : List Word}
          (s : Split Says fs (marked (tok End z p) g false ∷ []) ws) → run_of step (run start s.front) s.back ≡ Some c
          → (ds : List Definition) × (c ≡ done ds)
      said-end {g = g} s e = run-end (run start s.front) c g (let q = only-end s.rest in rw q at e)

  pub all-read : (ds : List Definition) → c ≡ done ds → length text ≤ MAX_GRAMMAR → Reads text ds
  all-read ds e size = record {
    size = size;
    tokens = ms;
    are_tokens = every-marked;
    words = h.words;
    say = h.say;
    grammar = runs-grammar ds h.words (h.reached ∙ ap Some e);
    shallow = h.shallow;
    small = h.small;
  }

-- the token without its marks
abbrev pub plain_of : MarkedToken → Token AbnfKind
plain_of t = t.token

marks-tokens : (text : List ℕ) (m : Option ℕ) (n : ℕ) (ts : List (Tok AbnfKind)) → map tok_of (marks text m n ts) ≡ ts
marks-tokens text m n [] = refl
marks-tokens text m n (t ∷ ts) = ap (λ (ys : List (Tok AbnfKind)). t ∷ ys) (marks-tokens text m (lexed.end_of t) ts)

plain-tokens : (ts : List MarkedToken) → map tok_of (map marked_of ts) ≡ map lexed.tok_of (map plain_of ts)
plain-tokens [] = refl
plain-tokens (t ∷ ts) = ap (λ (ys : List (Tok AbnfKind)). lexed.tok_of t.token ∷ ys) (plain-tokens ts)

-- where no token is left, those so far are the text's
pub all-kept : {text : List ℕ} {left : List Marked → Type 0} {c : Config} (ts : List MarkedToken)
    → HasTaken text left c (map marked_of ts) → left [] → AreTokens text (map lexed.tok_of (map plain_of ts))
all-kept {text = text} ts h none =
    let all = every-marked h none in
    let same = sym (marks-tokens text (margin text all.tokens) 0 all.tokens)
    ∙ (ap (λ (ms : List Marked). map tok_of ms) (sym all.same) ∙ plain-tokens ts) in
    rw (sym same) all.are_tokens

-- what the reader does with the one thing that a token says
pub taken-said : {A : Type 0} (c : Config) (k : AbnfKind) (z : List ℕ) (p : Span) (g f : Bool) (w : CodeSaid) (s : Said)
    (r : Result A ReaderStop) (reader : Reader) → SaysKind k z p s → (said_of w ≡ s) × IsSmall s →
    Steps (step c (word g f (said_of w))) r reader → Takes c (marked (tok k z p) g f) r reader
taken-said c k z p g f w s (Ok u) reader h e steps =
    (g, f, s, says h, e.1, ap (λ (x : Said). step c (word g f x)) (sym e.0) ∙ steps)
taken-said c k z p g f w s (Err stops.Hopeless) reader h e steps =
    λ v y. ap (step c) (one-word (marked (tok k z p) g f) v (word g f s) y (says h))
    ∙ ap (λ (x : Said). step c (word g f x)) (sym e.0) ∙ steps
taken-said c k z p g f w s (Err stops.TooLarge) reader h e steps = absurd steps
taken-said c k z p g f w s (Err stops.Memory) reader h e steps = tt

-- a number over its limit, where a number goes on or not
module _ (c : Config) (k : AbnfKind) (z : List ℕ) (p : Span) (g f : Bool) (s : Said) (h : SaysKind k z p s)
    (large : IsSmall s → ⊥) where
  pub large-taken : is_there (step c (word g f (sample (is_repeat k)))) ≡ true
      → Refuses c (marked (tok k z p) g f) stops.TooLarge
  large-taken e =
      let d = there-some (step c (word g f s)) (number-like c g f (large-number h large) ∙ e) in
      (g, f, s, d.0, says h, large, d.1)

  pub large-hopeless : is_there (step c (word g f (sample (is_repeat k)))) ≡ false
      → Refuses c (marked (tok k z p) g f) stops.Hopeless
  large-hopeless e = λ v y. ap (step c) (one-word (marked (tok k z p) g f) v (word g f s) y (says h))
      ∙ there-none (step c (word g f s)) (number-like c g f (large-number h large) ∙ e)

-- a token that says a word is not bad
pub some-not_bad : {k b : AbnfKind} {r : Result (Option CodeSaid) NumberFault} {w : CodeSaid} → (k ≡ b → r ≡ Ok None)
    → r ≡ Ok (Some w) → k ≡ b → ⊥
some-not_bad f e q = let n = sym e ∙ f q in cc

pub fault-not_bad : {k b : AbnfKind} {r : Result (Option CodeSaid) NumberFault} {e : NumberFault}
    → (k ≡ b → r ≡ Ok None) → r ≡ Err e → k ≡ b → ⊥
fault-not_bad f e q = let n = sym e ∙ f q in cc

pub none-said : (c : Config) (k : AbnfKind) (z : List ℕ) (p : Span) (g f : Bool) → ((s : Said) → SaysKind k z p s → ⊥)
    → Refuses c (marked (tok k z p) g f) stops.Hopeless
none-said c k z p g f h w (says y) = absurd (h _ y)
