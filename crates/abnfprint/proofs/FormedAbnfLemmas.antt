-- What a text reads as is formed, and nests no deeper than its limit.
-- Serves: print_abnf, is_abnf_read_back
use Rattle.std.proofs.Common.{◌≡◌, ℕ, suc, ◌+◌, ◌≤◌, max, Bool, true, false, Option, List, [], ◌∷◌, ◌++◌, sym, ap, ◌∙◌}
use Rattle.std.proofs.Common.{subst, arith, append_assoc}
use Rattle.std.proofs.lemmas.List.{append_cancel_right}
use Rattle.ruletable.specs.declared.span.Span.{Span}
use Rattle.lexer.specs.SliceEnds.{found}
use Rattle.lexer.specs.TokenLists as lexing
use Rattle.lexer.specs.TokenLists.{Tok, tok, last_one, one_more}
use Rattle.lexer.specs.Viability.{say_none, say_more}
use Rattle.lexer.specs.declared.limits.TheConstants.{MAX_OPEN}
use Rattle.abnfread.specs.declared.kind.AbnfKind.{AbnfKind}
use Rattle.abnfread.specs.declared.kind.AbnfKind.TheVariants as kinds
use Rattle.abnfread.specs.AbnfKinds.{ends_list}
use Rattle.abnfread.specs.AbnfReading.{Reads}
use Rattle.abnfread.specs.AbnfSays.{SaysKind, says_name, says_text, says_cased, says_num, says_prose, says}
use Rattle.abnfread.specs.AbnfSays.{SayAll, AreSmall, open_after, IsShallow}
use Rattle.abnfread.specs.AbnfSlices.{White, First, Run, is_quotable, is_prose, Stands, name, text, cased, prose}
use Rattle.abnfread.specs.AbnfSpelling as spelling
use Rattle.abnfread.specs.AbnfSpelling.{concatenation, alternation, OneElement, values, range, parens, brackets}
use Rattle.abnfread.specs.AbnfSpelling.{Repetition, once, repeated, Parts, one, further, Alternatives, only, others}
use Rattle.abnfread.specs.AbnfSpelling.{Alternation, alternatives, Grammar, last_rule, more_rules}
use Rattle.abnfread.specs.AbnfWords as words
use Rattle.abnfread.specs.AbnfWords.{Said, Word, word}
use Rattle.abnfread.specs.Element.{Element, Elements, Text, Values, Range, Concat, Alt, Rep, Opt, Name, Prose, none}
use Rattle.abnfread.specs.Element.{more, Definition}
use Rattle.abnfread.specs.MarkedTokens.{Marked, margin, marks}
use Rattle.abnfread.specs.Numerals.{says_values, last_number, more_numbers, Listed}
use Rattle.abnfread.proofs.NumeralLemmas.{run-part, heads-equal, tails-equal}
use Rattle.abnfprint.specs.CanonicalAbnf.{wraps}
use Rattle.abnfprint.specs.declared.position.Context.{Context}
use Rattle.abnfprint.specs.declared.position.Context.TheVariants.{Alternative, Member, Repeated}
use Rattle.abnfprint.specs.FormedAbnf.{IsName, named, IsFormed, AreFormed, IsSome}
use Rattle.abnfprint.proofs.AbnfSpelledLemmas.{IsFull}

-- what a word is known to say
abbrev pub IsProper : Said → Type 0
IsProper (words.Name n p) = IsName n
IsProper (words.Text c t) = Run is_quotable t []
IsProper (words.Values vs) = IsSome vs
IsProper (words.Prose t) = Run is_prose t []
IsProper s = Unit {0}

abbrev pub AreProper : List Word → Type 0
AreProper [] = Unit {0}
AreProper (word g f s ∷ ws) = IsProper s × AreProper ws

name-slice : {t r z : List ℕ} → Stands kinds.Name t r → t ≡ z ++ r → IsName z
name-slice {r = r} {z} (name {b} a h) e =
    let q = run-part h in
    subst IsName (append_cancel_right (b ∷ q.0) z r (ap (λ (x : List ℕ). b ∷ x) (sym q.1) ∙ e)) (named a q.2)

-- what stands between two marks
run-between : {f : ℕ → Bool} (c : ℕ) (bs t r : List ℕ) → Run f bs (c ∷ r) → bs ≡ (t ++ c ∷ []) ++ r → Run f t []
run-between {f} c bs t r h e =
    let q = run-part h in
    let same : q.0 ++ (c ∷ r) ≡ t ++ (c ∷ r) = sym q.1 ∙ e ∙ append_assoc t (c ∷ []) r in
    subst (λ (x : List ℕ). Run f x []) (append_cancel_right q.0 t (c ∷ r) same) q.2

-- a text in quotes, with a sign of its case before it or none
data QuotedSo : List ℕ → List ℕ → Type 0 where
  bare : {bs r : List ℕ} → Run is_quotable bs (34 ∷ r) → QuotedSo (34 ∷ bs) r
  signed : {c : ℕ} {bs r : List ℕ} → Run is_quotable bs (34 ∷ r) → QuotedSo (37 ∷ c ∷ 34 ∷ bs) r

quoted-so : {t r : List ℕ} → Stands kinds.Text t r → QuotedSo t r
quoted-so (text h) = bare h
quoted-so (cased i h) = signed h

text-inside : {t r : List ℕ} (s : List ℕ) → QuotedSo t r → t ≡ 34 ∷ ((s ++ 34 ∷ []) ++ r) → Run is_quotable s []
text-inside {r = r} s (bare {bs} h) e = run-between 34 bs s r h (tails-equal e)
text-inside s (signed h) e = absurd (let k = heads-equal e in omega arith)

cased-inside : {t r : List ℕ} (s : List ℕ) (d : ℕ) → QuotedSo t r → t ≡ 37 ∷ d ∷ 34 ∷ ((s ++ 34 ∷ []) ++ r)
    → Run is_quotable s []
cased-inside s d (bare h) e = absurd (let k = heads-equal e in omega arith)
cased-inside {r = r} s d (signed {bs = bs} h) e = run-between 34 bs s r h (tails-equal (tails-equal (tails-equal e)))

text-slice : {t r z : List ℕ} (s : List ℕ) → Stands kinds.Text t r → t ≡ z ++ r → z ≡ 34 ∷ (s ++ 34 ∷ [])
    → Run is_quotable s []
text-slice {r = r} s h e q = text-inside s (quoted-so h) (e ∙ ap (λ (x : List ℕ). x ++ r) q)

cased-slice : {t r z : List ℕ} (s : List ℕ) (d : ℕ) → Stands kinds.Text t r → t ≡ z ++ r → z ≡ 37 ∷ d ∷ 34
    ∷ (s ++ 34 ∷ []) → Run is_quotable s []
cased-slice {r = r} s d h e q = cased-inside s d (quoted-so h) (e ∙ ap (λ (x : List ℕ). x ++ r) q)

prose-slice : {t r z s : List ℕ} → Stands kinds.Prose t r → t ≡ z ++ r → z ≡ 60 ∷ (s ++ 62 ∷ []) → Run is_prose s []
prose-slice {r =
    r} {s = s} (prose {bs} h) e q = run-between 62 bs s r h (tails-equal (e ∙ ap (λ (x : List ℕ). x ++ r) q))

some-listed : {base : ℕ} {t vs : List ℕ} → Listed base t vs → IsSome vs
some-listed (last_number d) = tt
some-listed (more_numbers e d h) = tt

says-proper : {k : AbnfKind} {z t r : List ℕ} {p : Span} {s : Said} → SaysKind k z p s → First k t r → t ≡ z ++ r
    → IsProper s
says-proper says_name (found h) e = name-slice h.stands e
says-proper (says_text {t = t} q) (found h) e = text-slice t h.stands e q
says-proper (says_cased {t = t} {c = c} i q) (found h) e = cased-slice t c h.stands e q
says-proper (says_num (says_values t l)) f e = some-listed l
says-proper (says_prose q) (found h) e = prose-slice h.stands e q
says-proper y f e = tt

tokens-proper : {total : ℕ} {t : List ℕ} {ts : List (Tok AbnfKind)} (src : List ℕ) (m : Option ℕ) (n : ℕ)
    {ws : List Word} → lexing.AreTokens White First ends_list total t ts → SayAll (marks src m n ts) ws → AreProper ws
tokens-proper src m n (last_one {x = tok k z p} h e) (say_more (says y) say_none) = (says-proper y h.first h.cut, tt)
tokens-proper src m n (one_more {x = tok k z p} h e l) (say_more (says y) ys) =
    (says-proper y h.first h.cut, tokens-proper src m p.end l ys)

abbrev pub lift : Bool → ℕ → ℕ
lift true n = suc n
lift false n = n

-- how deeply the canonical words nest
abbrev mutual
  pub nest : Element → ℕ
  nest (Text c t) = 0
  nest (Values vs) = 0
  nest (Range a b) = 0
  nest (Concat xs) = nest_all Member xs
  nest (Alt xs) = nest_all Alternative xs
  nest (Rep a b x) = lift (wraps Repeated x) (nest x)
  nest (Opt x) = suc (nest x)
  nest (Name n) = 0
  nest (Prose t) = 0

  pub nest_all : Context → Elements → ℕ
  nest_all p none = 0
  nest_all p (more x xs) = max (lift (wraps p x) (nest x)) (nest_all p xs)

abbrev pub nest_at : Context → Element → ℕ
nest_at p x = lift (wraps p x) (nest x)

lift-le : (b : Bool) (n : ℕ) → lift b n ≤ suc n
lift-le true n = omega arith
lift-le false n = omega arith

le-lift : (b : Bool) (n : ℕ) → n ≤ lift b n
le-lift true n = omega arith
le-lift false n = omega arith

alternative-member : (x : Element) → nest_at Alternative x ≤ nest_at Member x
alternative-member (Concat xs) = omega arith
alternative-member x = omega arith

member-repeated : (x : Element) → nest_at Member x ≤ nest_at Repeated x
member-repeated (Rep a b x) = omega arith
member-repeated x = omega arith

concatenation-nest : (xs : Elements) → nest_at Alternative (concatenation xs) ≤ nest_all Member xs
concatenation-nest none = omega arith
concatenation-nest (more x none) = let h = alternative-member x in omega arith
concatenation-nest (more x (more y xs)) = omega arith

pub alternation-nest : (xs : Elements) → nest (alternation xs) ≤ nest_all Alternative xs
alternation-nest none = omega arith
alternation-nest (more x none) = let h = le-lift (wraps Alternative x) (nest x) in omega arith
alternation-nest (more x (more y xs)) = omega arith

concatenation-formed : (xs : Elements) → IsFull xs → AreFormed xs → IsFormed (concatenation xs)
concatenation-formed none h w = absurd h
concatenation-formed (more x none) h w = w.0
concatenation-formed (more x (more y xs)) h w = (tt, w)

pub alternation-formed : (xs : Elements) → IsFull xs → AreFormed xs → IsFormed (alternation xs)
alternation-formed none h w = absurd h
alternation-formed (more x none) h w = w.0
alternation-formed (more x (more y xs)) h w = (tt, w)

-- with d brackets open before the words, at most m are open anywhere in them, and they say what may be said
record Pass (m d : ℕ) (ws : List Word) : Type 0 where
  shallow : IsShallow m d ws
  small : AreSmall ws
  proper : AreProper ws

pass-after : {m d : ℕ} {g f : Bool} {s : Said} {ws : List Word} → Pass m d (word g f s ∷ ws)
    → Pass m (open_after s d) ws
pass-after p = record { shallow = p.shallow.1; small = p.small.1; proper = p.proper.1 }

-- what passing words spell is formed and nests so deep, and they leave passing words
record Gives (m d n : ℕ) (Formed : Type 0) (r : List Word) : Type 0 where
  formed : Formed
  low : d + n ≤ m
  rest : Pass m d r

full-parts : {s r : List Word} {xs : Elements} → Parts s r xs → IsFull xs
full-parts (one h) = tt
full-parts (further h g k) = tt

full-alternatives : {s r : List Word} {xs : Elements} → Alternatives s r xs → IsFull xs
full-alternatives (only h) = tt
full-alternatives (others h k) = tt

mutual
  element-gives : {s r : List Word} {x : Element} → OneElement s r x → (m d : ℕ) → Pass m d s
      → Gives m d (nest_at Repeated x) (IsFormed x) r
  element-gives spelling.name m d w = record {
    formed = w.proper.0;
    low = (let l = w.shallow.0 in omega arith);
    rest = pass-after w;
  }
  element-gives spelling.text m d w = record {
    formed = w.proper.0;
    low = (let l = w.shallow.0 in omega arith);
    rest = pass-after w;
  }
  element-gives values m d w = record {
    formed = (w.proper.0, w.small.0);
    low = (let l = w.shallow.0 in omega arith);
    rest = pass-after w;
  }
  element-gives range m d w =
      record { formed = w.small.0; low = (let l = w.shallow.0 in omega arith); rest = pass-after w }
  element-gives spelling.prose m d w = record {
    formed = w.proper.0;
    low = (let l = w.shallow.0 in omega arith);
    rest = pass-after w;
  }
  element-gives (parens {x = x} h) m d w =
      let g = alternation-gives h m (suc d) (pass-after w) in
      let l = lift-le (wraps Repeated x) (nest x) in
      let k = g.low in
      record { formed = g.formed; low = omega arith; rest = pass-after g.rest }
  element-gives (brackets {x = x} h) m d w =
      let g = alternation-gives h m (suc d) (pass-after w) in
      let k = g.low in
      record { formed = g.formed; low = omega arith; rest = pass-after g.rest }

  repetition-gives : {s r : List Word} {x : Element} → Repetition s r x → (m d : ℕ) → Pass m d s
      → Gives m d (nest_at Member x) (IsFormed x) r
  repetition-gives (once {x = x} h) m d w =
      let g = element-gives h m d w in
      let l = member-repeated x in
      let k = g.low in
      record { formed = g.formed; low = omega arith; rest = g.rest }
  repetition-gives (repeated n h) m d w = let g = element-gives h m d (pass-after w) in
      record { formed = (w.small.0, g.formed); low = g.low; rest = g.rest }

  parts-give : {s r : List Word} {xs : Elements} → Parts s r xs → (m d : ℕ) → Pass m d s
      → Gives m d (nest_all Member xs) (AreFormed xs) r
  parts-give (one h) m d w = let g = repetition-gives h m d w in let k = g.low in
      record { formed = (g.formed, tt); low = omega arith; rest = g.rest }
  parts-give (further h p k) m d w =
      let g = repetition-gives h m d w in
      let i = parts-give k m d g.rest in
      let a = g.low in
      let b = i.low in
      record { formed = (g.formed, i.formed); low = omega arith; rest = i.rest }

  alternatives-give : {s r : List Word} {xs : Elements} → Alternatives s r xs → (m d : ℕ) → Pass m d s
      → Gives m d (nest_all Alternative xs) (AreFormed xs) r
  alternatives-give (only {xs = xs} h) m d w =
      let i = parts-give h m d w in
      let l = concatenation-nest xs in
      let a = i.low in
      record { formed = (concatenation-formed xs (full-parts h) i.formed, tt); low = omega arith; rest = i.rest }
  alternatives-give (others {xs = xs} h k) m d w =
      let i = parts-give h m d w in
      let l = concatenation-nest xs in
      let j = alternatives-give k m d (pass-after i.rest) in
      let a = i.low in
      let b = j.low in
      record { formed = (concatenation-formed xs (full-parts h) i.formed, j.formed); low = omega arith; rest = j.rest }

  alternation-gives : {s r : List Word} {x : Element} → Alternation s r x → (m d : ℕ) → Pass m d s
      → Gives m d (nest x) (IsFormed x) r
  alternation-gives (alternatives {ys = xs} h) m d w =
      let i = alternatives-give h m d w in
      let l = alternation-nest xs in
      let a = i.low in
      record { formed = alternation-formed xs (full-alternatives h) i.formed; low = omega arith; rest = i.rest }

-- formed, and not too deep
pub record IsFit (x : Element) : Type 0 where
  pub formed : IsFormed x
  pub low : nest x ≤ MAX_OPEN

abbrev pub AreFit : List Definition → Type 0
AreFit [] = Unit {0}
AreFit (d ∷ ds) = IsName d.name × IsFit d.body × AreFit ds

alternation-fit : {s r : List Word} {x : Element} → Alternation s r x → Pass MAX_OPEN 0 s → IsFit x × Pass MAX_OPEN 0 r
alternation-fit h w = let g = alternation-gives h MAX_OPEN 0 w in let l = g.low in
    (record { formed = g.formed; low = omega arith }, g.rest)

grammar-fit : {ws : List Word} {ds : List Definition} → Grammar ws ds → Pass MAX_OPEN 0 ws → AreFit ds
grammar-fit (last_rule spelling.defines h) w =
    let g = alternation-fit h (pass-after (pass-after w)) in (w.proper.0, g.0, tt)
grammar-fit (last_rule spelling.extends h) w =
    let g = alternation-fit h (pass-after (pass-after w)) in (w.proper.0, g.0, tt)
grammar-fit (more_rules spelling.defines h k) w = let g = alternation-fit h (pass-after (pass-after w)) in
    (w.proper.0, g.0, grammar-fit k g.1)
grammar-fit (more_rules spelling.extends h k) w = let g = alternation-fit h (pass-after (pass-after w)) in
    (w.proper.0, g.0, grammar-fit k g.1)

pub some-definitions : {ws : List Word} {ds : List Definition} → Grammar ws ds → IsSome ds
some-definitions (last_rule a h) = tt
some-definitions (more_rules a h k) = tt

-- the definitions that a text reads as
pub reads-fit : {source : List ℕ} {ds : List Definition} → Reads source ds → AreFit ds
reads-fit {source} {ds} h =
    let t = h.are_tokens in
    let say : SayAll (marks source (margin source t.tokens) 0 t.tokens) h.words =
    subst (λ (ms : List Marked). SayAll ms h.words) t.same h.say in
    grammar-fit h.grammar
    (record {
      shallow = h.shallow;
      small = h.small;
      proper = tokens-proper source (margin source t.tokens) 0 t.are_tokens say;
    })
