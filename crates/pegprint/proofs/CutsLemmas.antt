-- The tokens that a canonical text is made of, each before what follows it, and the words that they say.
-- Serves: is_read_back
use Rattle.std.proofs.Common.{◌≡◌, ℕ, ◌+◌, ◌-◌, ◌≤◌, Bool, true, false, List, [], ◌∷◌, ◌++◌, length, refl, ap, arith}
use Rattle.std.proofs.Common.{inr, length-append, sym, ◌∙◌, subst, append_assoc, codes}
use Rattle.ruletable.specs.declared.span.Span.{Span}
use Rattle.pegread.specs.declared.kind.Kind.{Kind}
use Rattle.pegread.specs.Kinds.{is_end}
use Rattle.pegread.specs.Literals.{SpellsBytes}
use Rattle.pegread.specs.Classes.{SpellsSet}
use Rattle.lexer.specs.SliceEnds.{no_more, piece, at_end}
use Rattle.pegread.specs.Slices.{starts_name, is_blank, Names, Closes, Body, White, blank, NoDash, First, end_cap}
use Rattle.pegread.specs.Slices.{slash, amp, bang, quest, star, plus, lparen, rparen, dot}
use Rattle.lexer.specs.TokenLists.{tok, last_one, one_more}
use Rattle.pegread.specs.Tokens.{Tok, AreTokens}
use Rattle.lexer.specs.Viability.{say_none, say_more}
use Rattle.pegread.specs.Words.{Word, Says, says_name, says_arrow, says_begin, says_literal, says_class, says_action}
use Rattle.pegread.specs.Words.{says_end, SayAll, says_end_cap, says_slash, says_amp, says_bang, says_quest, says_star}
use Rattle.pegread.specs.Words.{says_plus, says_dot, says_lparen, says_rparen}
use Rattle.pegread.proofs.FirstByteLemmas.{first-literal, first-class, first-action, first-arrow, first-begin}
use Rattle.pegread.proofs.FirstByteLemmas.{first-ident, first-sign}
use Rattle.pegread.proofs.SliceLemmas.{NoMore, names-longest, names-before, body-before, white-shorter}
use Rattle.pegprint.proofs.SameWordsLemmas.{SameWord, same_word, same_name, SameWords, same_none, same_more}
use Rattle.std.specs.List.{flat_map}
use Rattle.pegprint.specs.declared.position.Context.TheVariants.{Alternative, Member, OfPrefix, OfAmp, OfSuffix}
use Rattle.pegprint.specs.Brackets.{wraps, around}
use Rattle.pegprint.specs.Canon.{text_of, joined, more_joined, grammar_text}
use Rattle.pegread.specs.Escapes.{escaped, class_text}
use Rattle.pegread.specs.Formed.{IsFormed, AreFormed, AreFormedRules, IsByteSet}
use Rattle.pegread.specs.Names.{IsName}
use Rattle.pegread.specs.Pattern.{Pattern, Any, Bytes, Set, Name, Seq, Choice, Opt, And, Not, Act, Open, Close}
use Rattle.pegread.specs.Pattern.{Patterns, none, more, Rule}
use Rattle.pegprint.proofs.ClassTextLemmas.{class-inside, set-spelled}
use Rattle.pegread.proofs.GrammarViabilityLemmas.{nowhere}
use Rattle.pegprint.proofs.ListedRulesLemmas.{within, listed, listed_members, listed_alternatives, listed_more}
use Rattle.pegprint.proofs.ListedRulesLemmas.{listed_rules}
use Rattle.pegprint.proofs.ByteShapeLemmas.{bytes-spelled, closes-bytes}
use Rattle.pegread.specs.declared.kind.Kind.TheVariants as kinds
use Rattle.pegread.specs.Words as words
use Rattle.pegread.specs.Names as names
use Rattle.pegread.specs.Pattern as e

-- a token of that kind and slice says the word, but for its span
pub record SaysLike (k : Kind) (z : List ℕ) (p : Span) (w : Word) : Type 0 where
  pub word : Word
  pub same : SameWord w word
  pub says : Says (tok k z p) word

-- the text's tokens say these words, but for their spans
pub data Cuts : List ℕ → List Word → Type 0 where
  nothing : {t : List ℕ} → White t [] → Cuts t (words.End ∷ [])
  next : {k : Kind} {t m r s : List ℕ} {w : Word} {ws : List Word} → White t m → First k m r → m ≡ s ++ r
      → is_end k ≡ false → ((p : Span) → SaysLike k s p w) → Cuts r ws → Cuts t (w ∷ ws)

-- the tokens with their positions, and the words that they say
pub record Placed (total : ℕ) (t : List ℕ) (ws : List Word) : Type 0 where
  pub tokens : List Tok
  pub are_tokens : AreTokens total t tokens
  pub words : List Word
  pub say : SayAll tokens words
  pub same : SameWords ws words

pub cuts-placed : {t : List ℕ} {ws : List Word} (total : ℕ) → length t ≤ total → Cuts t ws → Placed total t ws
cuts-placed total le (nothing w) =
    let span : Span = record { start = total; end = total } in
    record {
      tokens = tok kinds.End [] span ∷ [];
      are_tokens = last_one (record {
        token = [];
        white = w;
        first = at_end;
        cut = refl;
        position = omega arith;
        size = omega arith;
      }) refl;
      words = words.End ∷ [];
      say = say_more says_end say_none;
      same = same_more same_word same_none;
    }
cuts-placed total le (next {k} {t} {m} {r} {s} w f e h y c) =
    let a = white-shorter w in
    let b = ap length e in
    let span : Span = record { start = total - length m; end = total - length m + length s } in
    let here = y span in
    let rest = cuts-placed total (omega (arith, length-append s r)) c in
    record {
      tokens = tok k s span ∷ rest.tokens;
      are_tokens = one_more (record { token = m; white = w; first = f; cut = e; position = omega arith; size = refl }) h
          rest.are_tokens;
      words = here.word ∷ rest.words;
      say = say_more here.says rest.say;
      same = same_more here.same rest.same;
    }

pub cuts-blanked : {b : ℕ} {t : List ℕ} {ws : List Word} → is_blank b ≡ true → Cuts t ws → Cuts (b ∷ t) ws
cuts-blanked h (nothing w) = nothing (piece (blank h) w)
cuts-blanked h (next w f e k y c) = next (piece (blank h) w) f e k y c

-- a word that has no span
pub says-plainly : {k : Kind} {z : List ℕ} {w : Word} → ((p : Span) → Says (tok k z p) w) → (p : Span)
    → SaysLike k z p w
says-plainly f p = record { word = _; same = same_word; says = f p }

-- a token of one byte
pub cuts-lone : {k : Kind} {b : ℕ} {r : List ℕ} {w : Word} {ws : List Word} → First k (b ∷ r) r → is_end k ≡ false
    → ((p : Span) → Says (tok k (b ∷ []) p) w) → Cuts r ws → Cuts (b ∷ r) (w ∷ ws)
cuts-lone f e y c = next no_more f refl e (says-plainly y) c

pub cuts-named : (b : ℕ) (bs r : List ℕ) (q : Span) {ws : List Word} → starts_name b ≡ true → Names bs [] → NoMore r
    → Cuts r ws → Cuts ((b ∷ bs) ++ r) (words.Ident (b ∷ bs) q ∷ ws)
cuts-named b bs r q h n f c =
    let all = names-before r n in
    next no_more (first-ident refl h all (λ s x. names-longest all f x)) refl refl
    (λ p. record { word = words.Ident (b ∷ bs) p; same = same_name; says = says_name }) c

pub cuts-begun : {r : List ℕ} {ws : List Word} → NoDash r → Cuts r ws → Cuts (60 ∷ r) (words.Begin ∷ ws)
cuts-begun d c = next {s = 60 ∷ []} no_more (first-begin d) refl refl (says-plainly (λ p. says_begin)) c

pub cuts-pointed : {r : List ℕ} {ws : List Word} → Cuts r ws → Cuts (60 ∷ 45 ∷ r) (words.Arrow ∷ ws)
cuts-pointed c = next {s = 60 ∷ 45 ∷ []} no_more (first-arrow refl) refl refl (says-plainly (λ p. says_arrow)) c

-- s is a literal's inside and its closing mark
pub cuts-quoted : (s r bs : List ℕ) {ws : List Word} → SpellsBytes (34 ∷ s) bs → Closes 34 (s ++ r) r → Cuts r ws
    → Cuts ((34 ∷ s) ++ r) (words.Literal bs ∷ ws)
cuts-quoted s r bs y h c = next no_more (first-literal (inr (omega arith, refl)) h) refl refl
    (says-plainly (λ p. says_literal y)) c

pub cuts-classed : (s r : List ℕ) (f : ℕ → Bool) {ws : List Word} → SpellsSet (91 ∷ s) f → Closes 93 (s ++ r) r
    → Cuts r ws
    → Cuts ((91 ∷ s) ++ r) (words.Class f ∷ ws)
cuts-classed s r f y h c = next no_more (first-class refl h) refl refl (says-plainly (λ p. says_class y)) c

pub cuts-acted : (t r : List ℕ) {ws : List Word} → Body (t ++ 125 ∷ []) [] → Cuts r ws
    → Cuts ((123 ∷ (t ++ 125 ∷ [])) ++ r) (words.Action t ∷ ws)
cuts-acted t r h c =
    next no_more (first-action refl (body-before r h)) refl refl (says-plainly (λ p. says_action refl)) c

-- no name and no `<` goes on with it
pub record Follows (r : List ℕ) : Type 0 where
  pub no_more : NoMore r
  pub no_dash : NoDash r

-- before whatever follows, the text adds the words
pub record Adds (s : List ℕ) (f : List Word → List Word) : Type 0 where
  pub adds : (r : List ℕ) (ws : List Word) → Follows r → Cuts r ws → Cuts (s ++ r) (f ws)

-- one byte adds one word
abbrev AddsOne : ℕ → Word → Type 0
AddsOne b w = (r : List ℕ) (ws : List Word) → Cuts r ws → Cuts (b ∷ r) (w ∷ ws)

adds-around : {s : List ℕ} {f : List Word → List Word} (b : Bool) → Adds s f → Adds (around b s) (within b f)
adds-around {s} {f} true a = record {
  adds = λ r ws w c. cuts-lone (first-sign refl refl (λ t. lparen) _) refl (λ p. says_lparen)
      (subst (λ (x : List ℕ). Cuts x (f (words.RParen ∷ ws))) (sym (append_assoc s (41 ∷ []) r))
      (a.adds (41 ∷ r) _ (record { no_more = refl; no_dash = omega arith })
      (cuts-lone (first-sign refl refl (λ t. rparen) _) refl (λ p. says_rparen) c)));
}
adds-around false a = a

adds-suffix : {s : List ℕ} {f : List Word → List Word} (b : ℕ) (w : Word) → ((r : List ℕ) → Follows (b ∷ r))
    → AddsOne b w → Adds s f → Adds (s ++ b ∷ []) (λ ws. f (w ∷ ws))
adds-suffix b w n l a = record { adds = λ r ws h c. rw append_assoc (a.adds (b ∷ r) _ (n r) (l r ws c)) }

adds-prefix : {s : List ℕ} {f : List Word → List Word} (b : ℕ) (w : Word) → AddsOne b w → Adds s f
    → Adds (b ∷ s) (λ ws. w ∷ f ws)
adds-prefix b w l a = record { adds = λ r ws h c. l (_ ++ r) _ (a.adds r ws h c) }

-- one text after another
adds-both : {s u : List ℕ} {f g : List Word → List Word} → ((r : List ℕ) → Follows r → Follows (u ++ r)) → Adds s f
    → Adds u g → Adds (s ++ u) (λ ws. f (g ws))
adds-both {s} {u} {f} {g} n a b = record {
  adds = λ r ws w c. rw append_assoc (a.adds (u ++ r) (g ws) (n r w)
      (b.adds r ws w c));
}

adds-nothing : Adds [] (λ ws. ws)
adds-nothing = record { adds = λ r ws w c. c }

adds-name : (n : List ℕ) (q : Span) → IsName n → Adds n (λ ws. words.Ident n q ∷ ws)
adds-name _ q (names.named {b} {bs} h k) = record { adds = λ r ws w c. cuts-named b bs r q h k w.no_more c }

follows-members : (es : Patterns) (r : List ℕ) → Follows r → Follows (more_joined Member (codes " ") es ++ r)
follows-members none r w = w
follows-members (more x es) r w = record { no_more = refl; no_dash = omega arith }

follows-alternatives : (es : Patterns) (r : List ℕ) → Follows r
    → Follows (more_joined Alternative (codes " / ") es ++ r)
follows-alternatives none r w = w
follows-alternatives (more x es) r w = record { no_more = refl; no_dash = omega arith }

adds-blank : {s : List ℕ} {f : List Word → List Word} → Adds s f → Adds (32 ∷ s) f
adds-blank a = record { adds = λ r ws w c. cuts-blanked refl (a.adds r ws w c) }

adds-set : (f : ℕ → Bool) → IsByteSet f → Adds (class_text f) (λ ws. words.Class f ∷ ws)
adds-set f h =
    let i = class-inside f in
    let spelled : SpellsSet (91 ∷ i.inside) f = subst (λ (x : List ℕ). SpellsSet x f) i.whole (set-spelled f h) in
    subst (λ (x : List ℕ). Adds x (λ ws. words.Class f ∷ ws)) (sym i.whole)
    (record { adds = λ r ws w c. cuts-classed i.inside r f spelled (i.closes r) c })

one-slash : AddsOne 47 words.Slash
one-slash r ws c = cuts-lone (first-sign refl refl (λ t. slash) r) refl (λ p. says_slash) c

one-quest : AddsOne 63 words.Quest
one-quest r ws c = cuts-lone (first-sign refl refl (λ t. quest) r) refl (λ p. says_quest) c

one-star : AddsOne 42 words.Star
one-star r ws c = cuts-lone (first-sign refl refl (λ t. star) r) refl (λ p. says_star) c

one-plus : AddsOne 43 words.Plus
one-plus r ws c = cuts-lone (first-sign refl refl (λ t. plus) r) refl (λ p. says_plus) c

one-amp : AddsOne 38 words.Amp
one-amp r ws c = cuts-lone (first-sign refl refl (λ t. amp) r) refl (λ p. says_amp) c

one-bang : AddsOne 33 words.Bang
one-bang r ws c = cuts-lone (first-sign refl refl (λ t. bang) r) refl (λ p. says_bang) c

mutual
  adds-pattern : (x : Pattern) → IsFormed x → Adds (text_of x) (listed x)
  adds-pattern (Name n) h = adds-name n nowhere h
  adds-pattern (Bytes bs) h = record {
    adds = λ r ws w c. cuts-quoted (flat_map escaped bs ++ 34
        ∷ []) r bs (bytes-spelled bs h) (closes-bytes bs r h) c;
  }
  adds-pattern (Set f) h = adds-set f h
  adds-pattern Any h =
      record { adds = λ r ws w c. cuts-lone (first-sign refl refl (λ t. dot) r) refl (λ p. says_dot) c }
  adds-pattern (Act t) h = record { adds = λ r ws w c. cuts-acted t r h c }
  adds-pattern Open h = record { adds = λ r ws w c. cuts-begun w.no_dash c }
  adds-pattern Close h =
      record { adds = λ r ws w c. cuts-lone (first-sign refl refl (λ t. end_cap) r) refl (λ p. says_end_cap) c }
  adds-pattern (Opt x) h = adds-suffix 63 words.Quest (λ r. record { no_more = refl; no_dash = omega arith }) one-quest
      (adds-around (wraps OfSuffix x) (adds-pattern x h))
  adds-pattern (e.Star x) h = adds-suffix 42 words.Star (λ r. record { no_more = refl; no_dash = omega arith }) one-star
      (adds-around (wraps OfSuffix x) (adds-pattern x h))
  adds-pattern (e.Plus x) h = adds-suffix 43 words.Plus (λ r. record { no_more = refl; no_dash = omega arith }) one-plus
      (adds-around (wraps OfSuffix x) (adds-pattern x h))
  adds-pattern (And x) h = adds-prefix 38 words.Amp one-amp (adds-around (wraps OfAmp x) (adds-pattern x h))
  adds-pattern (Not x) h = adds-prefix 33 words.Bang one-bang (adds-around (wraps OfPrefix x) (adds-pattern x h))
  adds-pattern (Seq es) h = adds-members es h.1
  adds-pattern (Choice es) h = adds-alternatives es h.1

  adds-members : (es : Patterns) → AreFormed es → Adds (joined Member (codes " ") es) (listed_members es)
  adds-members none h = adds-nothing
  adds-members (more x es) h = adds-both (follows-members es) (adds-around (wraps Member x) (adds-pattern x h.0))
      (adds-more_members es h.1)

  adds-more_members : (es : Patterns) → AreFormed es → Adds (more_joined Member (codes " ") es) (listed_members es)
  adds-more_members none h = adds-nothing
  adds-more_members (more x es) h = adds-blank (adds-both (follows-members es)
      (adds-around (wraps Member x) (adds-pattern x h.0)) (adds-more_members es h.1))

  adds-alternatives : (es : Patterns) → AreFormed es → Adds (joined Alternative (codes " / ") es)
      (listed_alternatives es)
  adds-alternatives none h = adds-nothing
  adds-alternatives (more x es) h =
      adds-both (follows-alternatives es) (adds-around (wraps Alternative x) (adds-pattern x h.0))
      (adds-more_alternatives es h.1)

  adds-more_alternatives : (es : Patterns) → AreFormed es → Adds (more_joined Alternative (codes " / ") es)
      (listed_more es)
  adds-more_alternatives none h = adds-nothing
  adds-more_alternatives (more x es) h = adds-blank
      (adds-prefix 47 words.Slash one-slash (adds-blank
      (adds-both (follows-alternatives es) (adds-around (wraps Alternative x) (adds-pattern x h.0))
      (adds-more_alternatives es h.1))))

adds-rule : (n : List ℕ) (q : Span) (x : Pattern) → IsName n → IsFormed x → (r : List ℕ) (ws : List Word) → Cuts r ws
    → Cuts ((n ++ (codes " <- " ++ (text_of x ++ 10 ∷ []))) ++ r) (words.Ident n q ∷ words.Arrow ∷ listed x ws)
adds-rule n q x h k r ws c =
    let body =
    (adds-pattern x k).adds (10 ∷ r) ws (record { no_more = refl; no_dash = omega arith }) (cuts-blanked refl c) in
    let front = (adds-name n q h).adds (codes " <- " ++ (text_of x ++ (10 ∷ r))) (words.Arrow ∷ listed x ws)
    (record { no_more = refl; no_dash = omega arith }) (cuts-blanked refl (cuts-pointed (cuts-blanked refl body))) in
    subst (λ (y : List ℕ). Cuts y (words.Ident n q ∷ words.Arrow ∷ listed x ws))
    (sym (append_assoc n (codes " <- " ++ (text_of x ++ 10 ∷ [])) r ∙ ap (λ (y : List ℕ). n ++ (codes " <- " ++ y))
    (append_assoc (text_of x) (10 ∷ []) r))) front

pub cuts-rules : (rules : List Rule) → AreFormedRules rules → Cuts (grammar_text rules) (listed_rules rules)
cuts-rules [] h = nothing no_more
cuts-rules (rule ∷ rules) h = adds-rule rule.name rule.span rule.body h.0 h.1 (grammar_text rules) (listed_rules rules)
    (cuts-rules rules h.2)
