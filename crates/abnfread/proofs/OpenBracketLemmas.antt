-- The machine's levels are the brackets that the words open.
-- Serves: read_abnf
use Rattle.std.proofs.Common.{◌≡◌, ℕ, zero, suc, ◌≤◌, ◌<◌, Bool, true, false, Option, Some, None, List, [], ◌∷◌, ◌++◌}
use Rattle.std.proofs.Common.{refl, ◌∙◌, ap, arith}
use Rattle.ruletable.specs.declared.span.Span.{Span}
use Rattle.lexer.specs.TokenLists.{tok}
use Rattle.lexer.proofs.ViabilityLemmas.{run-snoc}
use Rattle.abnfread.specs.AbnfMachine.{Times, just, times, paren, brack, Level, level, Head, fresh, awaits, read}
use Rattle.abnfread.specs.AbnfMachine.{Config, start, named, body, done, element_step, fresh_step, read_step}
use Rattle.abnfread.specs.AbnfMachine.{first_step, later_step, step, run, levels, levels_in}
use Rattle.abnfread.specs.AbnfReading.{is_bracket}
use Rattle.abnfread.specs.AbnfSays.{SaysKind, says_name, says_is, says_adds, says_slash, says_lparen, says_rparen}
use Rattle.abnfread.specs.AbnfSays.{says_lbrack, says_rbrack, says_repeat, says_text, says_cased, says_num, says_prose}
use Rattle.abnfread.specs.AbnfSays.{says_end, open_after, IsShallow}
use Rattle.abnfread.specs.AbnfWords.{Said, Name, Is, Adds, Slash, LParen, RParen, LBrack, RBrack, Repeat, Text, Values}
use Rattle.abnfread.specs.AbnfWords.{Range, Prose, End, Word, word}
use Rattle.abnfread.specs.declared.kind.AbnfKind.{AbnfKind}
use Rattle.abnfread.specs.Element.{Elements}
use Rattle.abnfread.specs.MarkedTokens.{marked}
use Rattle.abnfread.specs.Numerals.{says_values, says_range}

abbrev LevelsOf : Option Config → ℕ → Type 0
LevelsOf None n = Unit {0}
LevelsOf (Some d) n = levels_in d ≡ n

element-levels : (h : Head) (o : List Level) (bs es : Elements) (t : Times) (s : Said)
    → LevelsOf (element_step h o bs es t s) (open_after s (levels o))
element-levels h o bs es t (Name n p) = refl
element-levels h o bs es t (Text c z) = refl
element-levels h o bs es t (Values vs) = refl
element-levels h o bs es t (Range a b) = refl
element-levels h o bs es t (Prose z) = refl
element-levels h o bs es t LParen = refl
element-levels h o bs es t LBrack = refl
element-levels h o bs es t _ = tt

fresh-levels : (h : Head) (o : List Level) (bs es : Elements) (s : Said)
    → LevelsOf (fresh_step h o bs es s) (open_after s (levels o))
fresh-levels h o bs es (Repeat a b) = refl
fresh-levels h o bs es s = element-levels h o bs es just s

read-levels : (h : Head) (o : List Level) (bs es : Elements) (g : Bool) (s : Said)
    → LevelsOf (read_step h o bs es g s) (open_after s (levels o))
read-levels h o bs es g Slash = refl
read-levels h [] bs es g RParen = tt
read-levels h (level b f t paren ∷ o) bs es g RParen = refl
read-levels h (level b f t brack ∷ o) bs es g RParen = tt
read-levels h [] bs es g RBrack = tt
read-levels h (level b f t paren ∷ o) bs es g RBrack = tt
read-levels h (level b f t brack ∷ o) bs es g RBrack = refl
read-levels h [] bs es g End = refl
read-levels h (l ∷ o) bs es g End = tt
read-levels h o bs es true s = fresh-levels h o bs es s
read-levels h o bs es false s = tt

first-levels : (c : Config) (s : Said) → LevelsOf (first_step c s) (open_after s (levels_in c))
first-levels start (Name n p) = refl
first-levels start _ = tt
first-levels (named ds n p) s = tt
first-levels (body h o bs es fresh) s = tt
first-levels (body h o bs es (awaits a b)) s = tt
first-levels (body h [] bs es read) (Name n p) = refl
first-levels (body h [] bs es read) _ = tt
first-levels (body h (l ∷ o) bs es read) s = tt
first-levels (done ds) s = tt

later-levels : (c : Config) (g : Bool) (s : Said) → LevelsOf (later_step c g s) (open_after s (levels_in c))
later-levels start g s = tt
later-levels (named ds n p) g Is = refl
later-levels (named ds n p) g Adds = refl
later-levels (named ds n p) g _ = tt
later-levels (body h o bs es fresh) g s = fresh-levels h o bs es s
later-levels (body h o bs es (awaits a b)) true s = tt
later-levels (body h o bs es (awaits a b)) false s = element-levels h o bs es (times a b) s
later-levels (body h o bs es read) g s = read-levels h o bs es g s
later-levels (done ds) g s = tt

step-levels : (c : Config) (g f : Bool) (s : Said) → LevelsOf (step c (word g f s)) (open_after s (levels_in c))
step-levels c g true s = first-levels c s
step-levels c g false s = later-levels c g s

pub step-opens : (c d : Config) (g f : Bool) (s : Said) → step c (word g f s) ≡ Some d
    → levels_in d ≡ open_after s (levels_in c)
step-opens c d g f s h = let l = step-levels c g f s in let k : LevelsOf (Some d) (open_after s (levels_in c)) =
    rw h at l in k

-- the brackets that are open after a list, of those that were open before it
abbrev pub open_count : ℕ → List Word → ℕ
open_count d [] = d
open_count d (word g f s ∷ ws) = open_count (open_after s d) ws

levels-of_option : (ws : List Word) (n : ℕ) (d : Config) → ((c : Config) → run c ws ≡ Some d
    → levels_in d ≡ open_count (levels_in c) ws) → (x : Option Config) → ((c : Config) → x ≡ Some c → levels_in c ≡ n) →
    (elim x [ None ↦ None | Some c ↦ run c ws ]) ≡ Some d → levels_in d ≡ open_count n ws
levels-of_option ws n d f None l h = cc
levels-of_option ws n d f (Some c) l h = f c h ∙ ap (λ (m : ℕ). open_count m ws) (l c refl)

-- after a run as many levels stand open as brackets
run-levels : (ws : List Word) (c d : Config) → run c ws ≡ Some d → levels_in d ≡ open_count (levels_in c) ws
run-levels [] c d h = ap levels_in (let same : d ≡ c = cc in same)
run-levels (word g f s ∷ ws) c d h = levels-of_option ws (open_after s (levels_in c)) d (λ e r. run-levels ws e d r)
    (step c (word g f s)) (λ e r. step-opens c e g f s r) h

shallow-within : (m d : ℕ) (ws : List Word) → IsShallow m d ws → open_count d ws ≤ m
shallow-within m d [] h = h
shallow-within m d (word g f s ∷ ws) h = shallow-within m (open_after s d) ws h.1

-- a shorter prefix
pub shallow-front : (m d : ℕ) (ws us : List Word) → IsShallow m d (ws ++ us) → IsShallow m d ws
shallow-front m d [] [] h = h
shallow-front m d [] (word g f s ∷ us) h = h.0
shallow-front m d (word g f s ∷ ws) us h = (h.0, shallow-front m (open_after s d) ws us h.1)

shallow-snoc : (m d : ℕ) (ws : List Word) (w : Word) → IsShallow m d ws → open_count d (ws ++ w ∷ []) ≤ m
    → IsShallow m d (ws ++ w ∷ [])
shallow-snoc m d [] (word g f s) h le = (h, le)
shallow-snoc m d (word g f s ∷ ws) w h le = (h.0, shallow-snoc m (open_after s d) ws w h.1 le)

-- the machine took one word more
module _ (ws : List Word) (w : Word) (c d : Config) (runs : run start ws ≡ Some c) (steps : step c w ≡ Some d) where
  next-levels : levels_in d ≡ open_count 0 (ws ++ w ∷ [])
  next-levels = run-levels (ws ++ w ∷ []) start d (run-snoc step ws w start c runs ∙ steps)

  pub shallow-next : (m : ℕ) → IsShallow m 0 ws → levels_in d ≤ m → IsShallow m 0 (ws ++ w ∷ [])
  shallow-next m h le = shallow-snoc m 0 ws w h (let e = next-levels in omega arith)

  pub deeper-next : (m : ℕ) → m < levels_in d → IsShallow m 0 (ws ++ w ∷ []) → ⊥
  deeper-next m lt h = let e = next-levels in let le = shallow-within m 0 (ws ++ w ∷ []) h in omega arith

pub levels-within : (ws : List Word) (c : Config) (m : ℕ) → run start ws ≡ Some c → IsShallow m 0 ws → levels_in c ≤ m
levels-within ws c m runs h = let e = run-levels ws start c runs in let le = shallow-within m 0 ws h in omega arith

-- brackets alone open more
closes-less : (s : Said) (m d : ℕ) → d ≤ m → m < open_after s d → open_after s d ≤ d → ⊥
closes-less s m d le lt k = absurd (omega arith)

close-less : (d : ℕ) → open_after RParen d ≤ d
close-less zero = omega arith
close-less (suc d) = omega arith

pub opens-bracket : {k : AbnfKind} {z : List ℕ} {p : Span} {s : Said} (g f : Bool) (m d : ℕ) → SaysKind k z p s → d ≤ m
    → m < open_after s d → is_bracket (marked (tok k z p) g f) ≡ true
opens-bracket g f m d says_lparen le lt = refl
opens-bracket g f m d says_lbrack le lt = refl
opens-bracket g f m d says_rparen le lt = absurd (closes-less RParen m d le lt (close-less d))
opens-bracket g f m d says_rbrack le lt = absurd (closes-less RParen m d le lt (close-less d))
opens-bracket g f m d says_name le lt = absurd (omega arith)
opens-bracket g f m d says_is le lt = absurd (omega arith)
opens-bracket g f m d says_adds le lt = absurd (omega arith)
opens-bracket g f m d says_slash le lt = absurd (omega arith)
opens-bracket g f m d (says_repeat h) le lt = absurd (omega arith)
opens-bracket g f m d (says_text e) le lt = absurd (omega arith)
opens-bracket g f m d (says_cased i e) le lt = absurd (omega arith)
opens-bracket g f m d (says_num (says_values a h)) le lt = absurd (omega arith)
opens-bracket g f m d (says_num (says_range a e b c)) le lt = absurd (omega arith)
opens-bracket g f m d (says_prose e) le lt = absurd (omega arith)
opens-bracket g f m d says_end le lt = absurd (omega arith)
