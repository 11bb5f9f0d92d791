-- The machine's levels are the brackets that the tokens open, and where at most so many are open anywhere in a list.
-- Serves: read_peg
use Rattle.std.proofs.Common.{◌≡◌, ℕ, zero, suc, Option, Some, None, List, [], ◌∷◌, refl, ◌∙◌, ap, ◌≤◌, ◌<◌, ◌++◌, take}
use Rattle.std.proofs.Common.{drop, arith}
use Rattle.ruletable.specs.declared.span.Span.{Span}
use Rattle.pegread.specs.Pattern.{Pattern, Name, Patterns}
use Rattle.lexer.specs.TokenLists.{kind_of, tok}
use Rattle.pegread.specs.Tokens.{Tok}
use Rattle.lexer.specs.Viability.{say_none, say_more}
use Rattle.pegread.specs.Words.{Word, Ident, Arrow, Begin, EndCap, Slash, Amp, Bang, Quest, Star, Plus, Dot, LParen}
use Rattle.pegread.specs.Words.{RParen, Literal, Class, Action, End, Says, says_name, says_arrow, says_begin}
use Rattle.pegread.specs.Words.{says_end_cap, says_slash, says_amp, says_bang, says_quest, says_star, says_plus}
use Rattle.pegread.specs.Words.{says_dot, says_lparen, says_rparen, says_literal, says_class, says_action, says_end}
use Rattle.pegread.specs.Words.{SayAll}
use Rattle.pegread.specs.Machine.{snoc, apply, Mark, no_mark, not_mark, and_mark, fresh, read, read_name, Level, level}
use Rattle.pegread.specs.Machine.{Head, Config, start, named, body, done, fresh_step, read_step, name_step, step, run}
use Rattle.pegread.specs.Machine.{levels, levels_in}
use Rattle.pegread.specs.Limits.{open_after, IsShallow}
use Rattle.std.proofs.lemmas.List.{take-append-drop}
use Rattle.lexer.proofs.ViabilityLemmas.{run-snoc, say-snoc}

-- the brackets that are open after a word
abbrev pub after_word : Word → ℕ → ℕ
after_word LParen d = suc d
after_word RParen zero = zero
after_word RParen (suc d) = d
after_word _ d = d

abbrev LevelsOf : Option Config → ℕ → Type 0
LevelsOf None n = Unit {0}
LevelsOf (Some d) n = levels_in d ≡ n

fresh-levels : (h : Head) (o : List Level) (bs es : Patterns) (m : Mark) (w : Word)
    → LevelsOf (fresh_step h o bs es m w) (after_word w (levels o))
fresh-levels h o bs es m (Ident n p) = refl
fresh-levels h o bs es m (Literal z) = refl
fresh-levels h o bs es m (Class f) = refl
fresh-levels h o bs es m Dot = refl
fresh-levels h o bs es m Begin = refl
fresh-levels h o bs es m EndCap = refl
fresh-levels h o bs es m LParen = refl
fresh-levels h o bs es and_mark (Action t) = tt
fresh-levels h o bs es _ (Action t) = refl
fresh-levels h o bs es no_mark Bang = refl
fresh-levels h o bs es _ Bang = tt
fresh-levels h o bs es no_mark Amp = refl
fresh-levels h o bs es _ Amp = tt
fresh-levels h o bs es no_mark Slash = refl
fresh-levels h o bs es _ Slash = tt
fresh-levels h [] bs es no_mark RParen = tt
fresh-levels h (level b f m ∷ o) bs es no_mark RParen = refl
fresh-levels h o bs es not_mark RParen = tt
fresh-levels h o bs es and_mark RParen = tt
fresh-levels h [] bs es no_mark End = refl
fresh-levels h (l ∷ o) bs es no_mark End = tt
fresh-levels h o bs es not_mark End = tt
fresh-levels h o bs es and_mark End = tt
fresh-levels h o bs es m _ = tt

read-levels : (h : Head) (o : List Level) (bs es : Patterns) (m : Mark) (x : Pattern) (w : Word)
    → LevelsOf (read_step h o bs es m x w) (after_word w (levels o))
read-levels h o bs es m x Quest = refl
read-levels h o bs es m x Star = refl
read-levels h o bs es m x Plus = refl
read-levels h o bs es m x w = fresh-levels h o bs (snoc es (apply m x)) no_mark w

name-levels : (h : Head) (o : List Level) (bs es : Patterns) (m : Mark) (n : List ℕ) (p : Span) (w : Word)
    → LevelsOf (name_step h o bs es m n p w) (after_word w (levels o))
name-levels h [] bs es no_mark n p Arrow = refl
name-levels h [] bs es not_mark n p Arrow = tt
name-levels h [] bs es and_mark n p Arrow = tt
name-levels h (l ∷ o) bs es m n p Arrow = tt
name-levels h o bs es m n p w = read-levels h o bs es m (Name n) w

step-levels : (c : Config) (w : Word) → LevelsOf (step c w) (after_word w (levels_in c))
step-levels start (Ident n p) = refl
step-levels start _ = tt
step-levels (named n p) Arrow = refl
step-levels (named n p) _ = tt
step-levels (body h o bs es m fresh) w = fresh-levels h o bs es m w
step-levels (body h o bs es m (read x)) w = read-levels h o bs es m x w
step-levels (body h o bs es m (read_name n p)) w = name-levels h o bs es m n p w
step-levels (done rules) w = tt

pub word-opens : {t : Tok} {w : Word} (d : ℕ) → Says t w → after_word w d ≡ open_after (kind_of t) d
word-opens d says_name = refl
word-opens d says_arrow = refl
word-opens d says_begin = refl
word-opens d says_end_cap = refl
word-opens d says_slash = refl
word-opens d says_amp = refl
word-opens d says_bang = refl
word-opens d says_quest = refl
word-opens d says_star = refl
word-opens d says_plus = refl
word-opens d says_dot = refl
word-opens d says_lparen = refl
word-opens zero says_rparen = refl
word-opens (suc d) says_rparen = refl
word-opens d (says_literal h) = refl
word-opens d (says_class h) = refl
word-opens d (says_action h) = refl
word-opens d says_end = refl

-- the brackets that are open after a list, of those that were before
abbrev pub open_count : ℕ → List Tok → ℕ
open_count d [] = d
open_count d (t ∷ ts) = open_count (open_after (kind_of t) d) ts

step-opens : {t : Tok} {w : Word} (c d : Config) → Says t w → step c w ≡ Some d
    → levels_in d ≡ open_after (kind_of t) (levels_in c)
step-opens {t} {w} c d s h = (let l = step-levels c w in let k : LevelsOf (Some d) (after_word w (levels_in c)) =
    rw h at l in k) ∙ word-opens (levels_in c) s

levels-onwards : (ts : List Tok) (ws : List Word) (n : ℕ) (d : Config)
    → ((c : Config) → run c ws ≡ Some d → levels_in d ≡ open_count (levels_in c) ts) → (x : Option Config)
    → ((c : Config) → x ≡ Some c → levels_in c ≡ n) → (elim x [ None ↦ None | Some c ↦ run c ws ]) ≡ Some d
    → levels_in d ≡ open_count n ts
levels-onwards ts ws n d f None l h = cc
levels-onwards ts ws n d f (Some c) l h = f c h ∙ ap (λ (m : ℕ). open_count m ts) (l c refl)

-- after a run as many levels stand open as brackets
pub run-levels : {ts : List Tok} {ws : List Word} (c d : Config) → SayAll ts ws → run c ws ≡ Some d
    → levels_in d ≡ open_count (levels_in c) ts
run-levels c d say_none h = ap levels_in (let same : d ≡ c = cc in same)
run-levels c d (say_more {t} {w} {ts} {ws} s all) h =
    levels-onwards ts ws (open_after (kind_of t) (levels_in c)) d (λ e r. run-levels e d all r) (step c w)
    (λ e r. step-opens c e s r) h

pub shallow-none : (m : ℕ) → IsShallow m 0 []
shallow-none m = omega arith

shallow-within : (m d : ℕ) (ts : List Tok) → IsShallow m d ts → open_count d ts ≤ m
shallow-within m d [] h = h
shallow-within m d (tok k z p ∷ ts) h = shallow-within m (open_after k d) ts h.1

-- a shorter prefix
pub shallow-front : (m d : ℕ) (ts us : List Tok) → IsShallow m d (ts ++ us) → IsShallow m d ts
shallow-front m d [] [] h = h
shallow-front m d [] (tok k z p ∷ us) h = h.0
shallow-front m d (tok k z p ∷ ts) us h = (h.0, shallow-front m (open_after k d) ts us h.1)

pub shallow-take : (m d i : ℕ) (ts : List Tok) → IsShallow m d ts → IsShallow m d (take i ts)
shallow-take m d i ts h = shallow-front m d (take i ts) (drop i ts) (rw (take-append-drop i ts) h)

shallow-snoc : (m d : ℕ) (ts : List Tok) (t : Tok) → IsShallow m d ts → open_count d (ts ++ t ∷ []) ≤ m
    → IsShallow m d (ts ++ t ∷ [])
shallow-snoc m d [] (tok k z p) h le = (h, le)
shallow-snoc m d (tok k z p ∷ ts) t h le = (h.0, shallow-snoc m (open_after k d) ts t h.1 le)

-- the machine took one token more
module _ {ts : List Tok} {ws : List Word} {t : Tok} {w : Word} (c d : Config) (say : SayAll ts ws)
    (runs : run start ws ≡ Some c) (says : Says t w) (steps : step c w ≡ Some d) where
  next-levels : levels_in d ≡ open_count 0 (ts ++ t ∷ [])
  next-levels = run-levels start d (say-snoc Says say says) (run-snoc step ws w start c runs ∙ steps)

  pub shallow-next : (m : ℕ) → IsShallow m 0 ts → levels_in d ≤ m → IsShallow m 0 (ts ++ t ∷ [])
  shallow-next m h le = shallow-snoc m 0 ts t h (let e = next-levels in omega arith)

  pub deeper-next : (m : ℕ) → m < levels_in d → IsShallow m 0 (ts ++ t ∷ []) → ⊥
  deeper-next m lt h = let e = next-levels in let le = shallow-within m 0 (ts ++ t ∷ []) h in omega arith
