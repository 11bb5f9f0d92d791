-- What the reader's loop has come to, and what it says where it stops.
-- Serves: read_peg
use Rattle.std.proofs.Common.{◌≡◌, ℕ, zero, suc, ◌+◌, ◌<◌, ◌≤◌, Bool, true, false, cond, Option, Some, None, List, []}
use Rattle.std.proofs.Common.{◌∷◌, ◌++◌, length, map, slice_get, refl, sym, ap, ◌∙◌}
use Rattle.std.proofs.Common.{length-append, arith, Result, Ok, Err}
use Rattle.std.proofs.Math.Seq.{get_or-append_seam}
use Rattle.std.proofs.lemmas.Option.{slice_get-get_or, slice_get-map}
use Rattle.ruletable.specs.declared.span.Span.{Span}
use Rattle.ruletable.specs.declared.fault.ReadFault.TheVariants.{Syntax, CodePredicate}
use Rattle.ruletable.specs.Lines.{line_at}
use Rattle.ruletable.specs.declared.lines.LineRule.TheVariants.{Any}
use Rattle.std.specs.Option.{option_map}
use Rattle.lexer.specs.declared.limits.TheConstants.{MAX_GRAMMAR, MAX_OPEN}
use Rattle.pegread.specs.declared.kind.Kind.{Kind}
use Rattle.pegread.specs.declared.kind.Kind.TheVariants.{Literal, Class, Amp, Action, End}
use Rattle.pegread.specs.declared.reader.ReaderStop.{ReaderStop}
use Rattle.pegread.specs.declared.reader.ReaderStop.TheVariants as stops
use Rattle.pegread.specs.declared.reader.Reader.{Reader}
use Rattle.pegread.specs.Steps.{Steps, Takes}
use Rattle.pegread.specs.Literals.{IsLiteral}
use Rattle.pegread.specs.Classes.{IsClass}
use Rattle.pegread.specs.Marks.{IsCut}
use Rattle.pegread.specs.Actions.{IsBraced}
use Rattle.lexer.proofs.ViabilityLemmas.{run_of, run-append, run-snoc, say-snoc, Split, say-split}
use Rattle.lexer.specs.declared.token_iter.Token.{Token}
use Rattle.lexer.specs.TokenLists as lexed
use Rattle.lexer.proofs.TokenListLemmas as lists
use Rattle.lexer.specs.declared.token_iter.TokenIter.{TokenIter}
use Rattle.pegread.specs.Kinds.{is_end}
use Rattle.pegread.specs.Limits.{IsShallow}
use Rattle.pegread.specs.Machine.{Config, start, done, step, run, levels_in}
use Rattle.pegread.specs.Pattern.{Rule}
use Rattle.pegread.specs.Slices.{White, First}
use Rattle.pegread.specs.Predicates.{is_predicate, hopeless_fault, last_kind}
use Rattle.pegread.specs.Reading.{Reads, IsCodePredicate, IsHopeless, IsTooDeep, IsDecidedAt, IsFaultOf}
use Rattle.lexer.specs.TokenLists.{tok, tok_of, kind_of, start_of, last_one, one_more, IsAtStart}
use Rattle.pegread.specs.Tokens.{Tok, Next, AreTokens}
use Rattle.pegread.specs.Words as words
use Rattle.lexer.specs.Viability.{say_none, say_more}
use Rattle.pegread.specs.Words.{Word, Says, says_end, SayAll}
use Rattle.pegread.proofs.GrammarViabilityLemmas.{end-done, hopeless-next, too_deep-next}
use Rattle.pegread.proofs.SaysLemmas.{one-word}
use Rattle.pegread.proofs.IsShallowLemmas.{shallow-none, shallow-next}
use Rattle.pegread.proofs.GrammarSpellingLemmas.{runs-grammar}

abbrev pub LeadsTo : List ℕ → List Tok → TokenIter Kind → Type 0
LeadsTo = lexed.LeadsTo White First is_end

abbrev pub GivesFirst : TokenIter Kind → Option (Token Kind) → TokenIter Kind → Type 0
GivesFirst = lexed.GivesFirst White First is_end

-- the tokens ts lead from the text to what the iterator has left, and the machine took what they say
pub record HasTaken (text : List ℕ) (left : TokenIter Kind) (c : Config) (before : Option Kind)
    (ts : List Tok) : Type 0 where
  pub leads : LeadsTo text ts left
  pub words : List Word
  pub say : SayAll ts words
  pub reached : run start words ≡ Some c
  pub shallow : IsShallow MAX_OPEN 0 ts
  pub last : before ≡ last_kind ts

last-snoc : (ts : List Tok) (t : Tok) → last_kind (ts ++ t ∷ []) ≡ Some (kind_of t)
last-snoc [] t = refl
last-snoc (u ∷ []) t = refl
last-snoc (u ∷ v ∷ ts) t = last-snoc (v ∷ ts) t

predicate-kinds : (b : Option Kind) (k : Kind) → is_predicate b k ≡ true → (b ≡ Some Amp) × (k ≡ Action)
predicate-kinds None k e = cc
predicate-kinds (Some Amp) Action e = (refl, refl)
predicate-kinds (Some Amp) _ e = cc
predicate-kinds (Some _) k e = cc

predicate-not : (b : Option Kind) (k : Kind) → b ≡ Some Amp → k ≡ Action → is_predicate b k ≡ false → ⊥
predicate-not b k amp action e = let f = rw (amp, action) at e in cc

get-seam : (ts : List Tok) (t : Tok) (us : List Tok) → slice_get (ts ++ t ∷ us) (length ts) ≡ Some t
get-seam ts t us = slice_get-get_or (ts ++ t ∷ us) (length ts) t (omega (arith, length-append ts (t ∷ us)))
    ∙ ap Some (get_or-append_seam ts t us t)

kind-there : (ts : List Tok) (t : Tok) (us : List Tok) → slice_get (map kind_of (ts ++ t ∷ us)) (length ts)
    ≡ Some (kind_of t)
kind-there ts t us = slice_get-map kind_of (ts ++ t ∷ us) (length ts) ∙ ap (option_map kind_of) (get-seam ts t us)

-- where the last token stands
last-position : (ts us : List Tok) (k : Kind) → last_kind ts ≡ Some k → (position : ℕ) × (length ts ≡ suc position)
    × (slice_get (map kind_of (ts ++ us)) position ≡ Some k)
last-position [] us k e = cc
last-position (t ∷ []) us k e = (0, refl, e)
last-position (t ∷ u ∷ ts) us k e = let p = last-position (u ∷ ts) us k e in (suc p.0, ap suc p.1, p.2)

position-last : (ts us : List Tok) (k : Kind) (position : ℕ) → length ts ≡ position + 1
    → slice_get (map kind_of (ts ++ us)) position ≡ Some k → last_kind ts ≡ Some k
position-last [] us k position e h = absurd (omega (arith, e))
position-last (t ∷ []) us k zero e h = h
position-last (t ∷ []) us k (suc position) e h = absurd (omega (arith, e))
position-last (t ∷ u ∷ ts) us k zero e h = absurd (omega (arith, e))
position-last (t ∷ u ∷ ts) us k (suc position) e h = position-last (u ∷ ts) us k position (omega (arith, e)) h

-- the word of an end
only-end : {z : List ℕ} {p : Span} {ws : List Word} → SayAll (tok End z p ∷ []) ws → ws ≡ words.End ∷ []
only-end (say_more says_end say_none) = refl

-- before the first token
pub none-taken : {text : List ℕ} (left : TokenIter Kind) (c : Config) → IsAtStart left text → c ≡ start
    → HasTaken text left c None []
none-taken left c fresh e = record {
  leads = lists.leads-first White First is_end left fresh;
  words = [];
  say = say_none;
  reached = ap Some (sym e);
  shallow = shallow-none MAX_OPEN;
  last = refl;
}

module _ {text : List ℕ} {left : TokenIter Kind} {c : Config} {before : Option Kind} {ts : List Tok}
    (h : HasTaken text left c before ts) where
  -- one token more
  pub one-taken : (next : TokenIter Kind) (x : Token Kind) (d : Config) → GivesFirst left (Some x) next → (w : Word)
      → Says (tok_of x) w → step c w ≡ Some d → levels_in d ≤ MAX_OPEN
      → HasTaken text next d (Some x.kind) (ts ++ tok_of x ∷ [])
  one-taken next x d gives w says steps le = record {
    leads = lists.leads-snoc White First is_end left next h.leads x gives;
    words = h.words ++ w ∷ [];
    say = say-snoc Says h.say says;
    reached = run-snoc step h.words w start c h.reached ∙ steps;
    shallow = shallow-next c d h.say h.reached says steps MAX_OPEN h.shallow le;
    last = sym (last-snoc ts (tok_of x));
  }

-- the text has a list of tokens, in which t follows those so far
module _ {text : List ℕ} {left : TokenIter Kind} {c : Config} {before : Option Kind} {ts : List Tok}
    (h : HasTaken text left c before ts) (t : Tok) (others : List Tok)
    (tokens-whole : AreTokens (length text) text (ts ++ t ∷ others)) where
  module _ (line : ℕ) (within : length text ≤ MAX_GRAMMAR) (there : line ≡ line_at Any text (start_of t)) where
    fault-decided : (D : List Tok → ℕ → Type 0) → D (ts ++ t ∷ others) (length ts) → IsDecidedAt text line D
    fault-decided D k = record {
      within = within;
      all = ts ++ t ∷ others;
      are_tokens = tokens-whole;
      number = length ts;
      token = t;
      there = get-seam ts t others;
      decides = k;
      line_is = there;
    }

    pub too-deep : (d : Config) (w : Word) → Says t w → step c w ≡ Some d → MAX_OPEN < levels_in d
        → IsDecidedAt text line IsTooDeep
    too-deep d w says steps lt = fault-decided IsTooDeep
        (too_deep-next c h.say h.reached h.shallow t others d w says steps lt)

    module _ (stops : (w : Word) → Says t w → step c w ≡ None) where
      is-here : IsHopeless (ts ++ t ∷ others) (length ts)
      is-here = hopeless-next c h.say h.reached h.shallow t others stops

      is-predicate : is_predicate before (kind_of t) ≡ true → IsCodePredicate (ts ++ t ∷ others) (length ts)
      is-predicate e = after-amp (predicate-kinds before (kind_of t) e)
        where
          after-amp : (before ≡ Some Amp) × (kind_of t ≡ Action) → IsCodePredicate (ts ++ t ∷ others) (length ts)
          after-amp (amp, action) =
              let p = last-position ts (t ∷ others) Amp (sym h.last ∙ amp) in
              record {
                position = p.0;
                next = omega (arith, p.1);
                amp = p.2;
                action = kind-there ts t others ∙ ap Some action;
              }

      no-predicate : is_predicate before (kind_of t) ≡ false → IsCodePredicate (ts ++ t ∷ others) (length ts) → ⊥
      no-predicate e p =
          let action : Some (kind_of t) ≡ Some Action = sym (kind-there ts t others) ∙ p.action in
          let amp : last_kind ts ≡ Some Amp = position-last ts (t ∷ others) Amp p.position p.next p.amp in
          let kind : kind_of t ≡ Action = cc in
          predicate-not before (kind_of t) (h.last ∙ amp) kind e

      by-kinds : (b : Bool) → is_predicate before (kind_of t) ≡ b
          → IsFaultOf text (cond b (CodePredicate line) (Syntax line))
      by-kinds true e = fault-decided (λ us i. IsHopeless us i × IsCodePredicate us i) (is-here, is-predicate e)
      by-kinds false e = fault-decided (λ us i. IsHopeless us i × (IsCodePredicate us i → ⊥)) (is-here, no-predicate e)

      pub hopeless-there : IsFaultOf text (hopeless_fault before (kind_of t) line)
      hopeless-there = by-kinds (is_predicate before (kind_of t)) refl

end-kind : (k : Kind) → is_end k ≡ true → k ≡ End
end-kind End e = refl
end-kind _ e = cc

-- the tokens of a text end in `End`
tokens-end : {total : ℕ} {t : List ℕ} {ts : List Tok} → AreTokens total t ts → (front : List Tok) × (z : List ℕ)
    × (p : Span) × (ts ≡ front ++ tok End z p ∷ [])
tokens-end (last_one {x = tok k z p} n e) = ([], z, p, ap (λ (k : Kind). tok k z p ∷ []) (end-kind k e))
tokens-end (one_more {x} n e more) = let h = tokens-end more in (x ∷ h.0, h.1, h.2, ap (λ (y : List Tok). x ∷ y) h.3)

run-end : (x : Option Config) (c : Config) → run_of step x (words.End ∷ []) ≡ Some c → (rules : List Rule)
    × (c ≡ done rules)
run-end None c e = cc
run-end (Some d) c e = end-done d c (sym (run-snoc step [] words.End d d refl) ∙ e)

-- no token is left
module _ {text : List ℕ} {left next : TokenIter Kind} {c : Config} {before : Option Kind} {ts : List Tok}
    (h : HasTaken text left c before ts) (none : GivesFirst left None next) where
  tokens-every : AreTokens (length text) text ts
  tokens-every = lists.leads-end White First is_end left next h.leads none

  pub all-done : (rules : List Rule) × (c ≡ done rules)
  all-done =
      let e = tokens-end tokens-every in
      let s = say-split Says e.0 (tok End e.1 e.2 ∷ []) (rw e.3 at h.say) in
      said-end s (sym (run-append step s.front s.back start) ∙ ap (run start) (sym s.whole) ∙ h.reached)
    where
      said-end : {fs : List Tok} {z : List ℕ} {p : Span} {ws : List Word} (s : Split Says fs (tok End z p ∷ []) ws)
          → run_of step (run start s.front) s.back ≡ Some c → (rules : List Rule) × (c ≡ done rules)
      said-end s e = run-end (run start s.front) c (rw (only-end s.rest) at e)

  pub all-read : (rules : List Rule) → c ≡ done rules → length text ≤ MAX_GRAMMAR → Reads text rules
  all-read rules e within = record {
    within = within;
    tokens = ts;
    are_tokens = tokens-every;
    words = h.words;
    say = h.say;
    grammar = runs-grammar rules h.words (h.reached ∙ ap Some e);
    shallow = h.shallow;
  }

-- a token of the text is cut as its kind says
module _ (literal : (total : ℕ) (t r z : List ℕ) (p : Span) → Next total t (tok Literal z p) r → IsLiteral z)
    (class : (total : ℕ) (t r z : List ℕ) (p : Span) → Next total t (tok Class z p) r → IsClass z)
    (action : (total : ℕ) (t r z : List ℕ) (p : Span) → Next total t (tok Action z p) r → IsBraced z) where
  cut-kind : (total : ℕ) (t r z : List ℕ) (k : Kind) (p : Span) → Next total t (tok k z p) r → IsCut k z
  cut-kind total t r z Literal p n = literal total t r z p n
  cut-kind total t r z Class p n = class total t r z p n
  cut-kind total t r z Action p n = action total t r z p n
  cut-kind total t r z _ p n = tt

  pub cut-of : (total : ℕ) (t r : List ℕ) (x : Token Kind) → Next total t (tok_of x) r → IsCut x.kind x.slice.now
  cut-of total t r x n = cut-kind total t r x.slice.now x.kind x.span n

-- the machine's step for the one word of a token is the token's
pub taken-word : {A : Type 0} (c : Config) (t : Tok) (w : Word) (a : Result A ReaderStop) (r : Reader) → Says t w
    → Steps (step c w) a r → Takes c t a r
taken-word c t w (Ok u) r says s = (w, says, s)
taken-word c t w (Err stops.Hopeless) r says s = λ v h. ap (step c) (one-word t v w h says) ∙ s
taken-word c t w (Err stops.Memory) r says s = tt
