-- The machine's steps, as far as kinds and marks say.
-- Serves: explain_fault
use Rattle.std.proofs.Common.{◌≡◌, suc, Bool, true, false, Option, Some, None, List, [], ◌∷◌, length, refl, ap}
use Rattle.abnfread.specs.declared.kind.AbnfKind.{AbnfKind}
use Rattle.abnfread.specs.declared.kind.AbnfKind.TheVariants as kinds
use Rattle.abnfread.specs.AbnfMachine.{Config, start, named, body, done, Head, Times, just, times, fresh, awaits}
use Rattle.abnfread.specs.AbnfMachine.{read, Level, level, levels, levels_in, paren, brack, element_step, fresh_step}
use Rattle.abnfread.specs.AbnfMachine.{read_step, first_step, later_step, step}
use Rattle.abnfread.specs.AbnfWords.{Said, word, Name, Is, Adds, Slash, LParen, RParen, LBrack, RBrack, Repeat, Text}
use Rattle.abnfread.specs.AbnfWords.{Values, Range, Prose, End}
use Rattle.abnfread.specs.Element.{Elements}
use Rattle.abnfexplain.specs.declared.abnf_stand.OpenBracket.{OpenBracket}
use Rattle.abnfexplain.specs.declared.abnf_stand.OpenBracket.TheVariants as brackets
use Rattle.abnfexplain.specs.declared.abnf_stand.Stand.{Stand}
use Rattle.abnfexplain.specs.declared.abnf_stand.Stand.TheVariants as stands
use Rattle.abnfexplain.specs.AbnfStands.{allows_marked, allows_first, allows_later, allows_read, is_inner, is_item}
use Rattle.abnfexplain.specs.AbnfStands.{after_marked, after_later, brackets_after, innermost}

-- the kind of the tokens that say it
abbrev pub kind_said : Said → AbnfKind
kind_said (Name n p) = kinds.Name
kind_said Is = kinds.Is
kind_said Adds = kinds.Adds
kind_said Slash = kinds.Slash
kind_said LParen = kinds.LParen
kind_said RParen = kinds.RParen
kind_said LBrack = kinds.LBrack
kind_said RBrack = kinds.RBrack
kind_said (Repeat a b) = kinds.Repeat
kind_said (Text c z) = kinds.Text
kind_said (Values vs) = kinds.Num
kind_said (Range x y) = kinds.Num
kind_said (Prose z) = kinds.Prose
kind_said End = kinds.End

-- where the machine's configuration stands
abbrev pub stand_of : Config → Stand
stand_of start = stands.Start
stand_of (named ds n p) = stands.Named
stand_of (body h o bs es fresh) = stands.Fresh
stand_of (body h o bs es (awaits a b)) = stands.Awaits
stand_of (body h o bs es read) = stands.Read
stand_of (done ds) = stands.Done

abbrev pub open_in : List Level → List OpenBracket
open_in [] = []
open_in (level bs es t paren ∷ o) = brackets.Paren ∷ open_in o
open_in (level bs es t brack ∷ o) = brackets.Brack ∷ open_in o

-- the brackets that are open in it, the innermost first
abbrev pub open_of : Config → List OpenBracket
open_of start = []
open_of (named ds n p) = []
open_of (body h o bs es l) = open_in o
open_of (done ds) = []

open-levels : (o : List Level) → length (open_in o) ≡ levels o
open-levels [] = refl
open-levels (level bs es t paren ∷ o) = ap suc (open-levels o)
open-levels (level bs es t brack ∷ o) = ap suc (open-levels o)

pub open-count : (c : Config) → length (open_of c) ≡ levels_in c
open-count start = refl
open-count (named ds n p) = refl
open-count (body h o bs es l) = open-levels o
open-count (done ds) = refl

-- the machine's step is there where the test passes, and comes to that position
abbrev pub Comes : Bool → Stand → List OpenBracket → Option Config → Type 0
Comes b s bs None = b ≡ false
Comes b s bs (Some d) = (b ≡ true) × (stand_of d ≡ s) × (open_of d ≡ bs)

abbrev Later : Bool → Said → List OpenBracket → Option Config → Type 0
Later b s bs x = Comes b (after_later (kind_said s)) (brackets_after (kind_said s) bs) x

element-comes : (h : Head) (o : List Level) (bs es : Elements) (t : Times) (s : Said)
    → Later (is_inner (kind_said s)) s (open_in o) (element_step h o bs es t s)
element-comes h o bs es t (Name n p) = (refl, refl, refl)
element-comes h o bs es t Is = refl
element-comes h o bs es t Adds = refl
element-comes h o bs es t Slash = refl
element-comes h o bs es t LParen = (refl, refl, refl)
element-comes h o bs es t RParen = refl
element-comes h o bs es t LBrack = (refl, refl, refl)
element-comes h o bs es t RBrack = refl
element-comes h o bs es t (Repeat a b) = refl
element-comes h o bs es t (Text c z) = (refl, refl, refl)
element-comes h o bs es t (Values vs) = (refl, refl, refl)
element-comes h o bs es t (Range x y) = (refl, refl, refl)
element-comes h o bs es t (Prose z) = (refl, refl, refl)
element-comes h o bs es t End = refl

fresh-comes : (h : Head) (o : List Level) (bs es : Elements) (s : Said)
    → Later (is_item (kind_said s)) s (open_in o) (fresh_step h o bs es s)
fresh-comes h o bs es (Name n p) = element-comes h o bs es just (Name n p)
fresh-comes h o bs es Is = element-comes h o bs es just Is
fresh-comes h o bs es Adds = element-comes h o bs es just Adds
fresh-comes h o bs es Slash = element-comes h o bs es just Slash
fresh-comes h o bs es LParen = element-comes h o bs es just LParen
fresh-comes h o bs es RParen = element-comes h o bs es just RParen
fresh-comes h o bs es LBrack = element-comes h o bs es just LBrack
fresh-comes h o bs es RBrack = element-comes h o bs es just RBrack
fresh-comes h o bs es (Repeat a b) = (refl, refl, refl)
fresh-comes h o bs es (Text c z) = element-comes h o bs es just (Text c z)
fresh-comes h o bs es (Values vs) = element-comes h o bs es just (Values vs)
fresh-comes h o bs es (Range x y) = element-comes h o bs es just (Range x y)
fresh-comes h o bs es (Prose z) = element-comes h o bs es just (Prose z)
fresh-comes h o bs es End = element-comes h o bs es just End

read-comes : (h : Head) (o : List Level) (bs es : Elements) (g : Bool) (s : Said)
    → Later (allows_read (innermost (open_in o)) (kind_said s) g) s (open_in o) (read_step h o bs es g s)
read-comes h o bs es g Slash = (refl, refl, refl)
read-comes h [] bs es g RParen = refl
read-comes h (level b f t paren ∷ o) bs es g RParen = (refl, refl, refl)
read-comes h (level b f t brack ∷ o) bs es g RParen = refl
read-comes h [] bs es g RBrack = refl
read-comes h (level b f t paren ∷ o) bs es g RBrack = refl
read-comes h (level b f t brack ∷ o) bs es g RBrack = (refl, refl, refl)
read-comes h [] bs es g End = (refl, refl, refl)
read-comes h (level b f t paren ∷ o) bs es g End = refl
read-comes h (level b f t brack ∷ o) bs es g End = refl
read-comes h o bs es true (Name n p) = fresh-comes h o bs es (Name n p)
read-comes h o bs es false (Name n p) = refl
read-comes h o bs es true Is = fresh-comes h o bs es Is
read-comes h o bs es false Is = refl
read-comes h o bs es true Adds = fresh-comes h o bs es Adds
read-comes h o bs es false Adds = refl
read-comes h o bs es true LParen = fresh-comes h o bs es LParen
read-comes h o bs es false LParen = refl
read-comes h o bs es true LBrack = fresh-comes h o bs es LBrack
read-comes h o bs es false LBrack = refl
read-comes h o bs es true (Repeat a b) = fresh-comes h o bs es (Repeat a b)
read-comes h o bs es false (Repeat a b) = refl
read-comes h o bs es true (Text c z) = fresh-comes h o bs es (Text c z)
read-comes h o bs es false (Text c z) = refl
read-comes h o bs es true (Values vs) = fresh-comes h o bs es (Values vs)
read-comes h o bs es false (Values vs) = refl
read-comes h o bs es true (Range x y) = fresh-comes h o bs es (Range x y)
read-comes h o bs es false (Range x y) = refl
read-comes h o bs es true (Prose z) = fresh-comes h o bs es (Prose z)
read-comes h o bs es false (Prose z) = refl

first-comes : (c : Config) (s : Said) → Comes (allows_first (stand_of c) (innermost (open_of c)) (kind_said s))
    stands.Named (brackets_after (kind_said s) (open_of c)) (first_step c s)
first-comes start (Name n q) = (refl, refl, refl)
first-comes start Is = refl
first-comes start Adds = refl
first-comes start Slash = refl
first-comes start LParen = refl
first-comes start RParen = refl
first-comes start LBrack = refl
first-comes start RBrack = refl
first-comes start (Repeat a b) = refl
first-comes start (Text c z) = refl
first-comes start (Values vs) = refl
first-comes start (Range x y) = refl
first-comes start (Prose z) = refl
first-comes start End = refl
first-comes (named ds m q) s = refl
first-comes (body h o bs es fresh) s = refl
first-comes (body h o bs es (awaits a b)) s = refl
first-comes (body h [] bs es read) (Name n p) = (refl, refl, refl)
first-comes (body h [] bs es read) Is = refl
first-comes (body h [] bs es read) Adds = refl
first-comes (body h [] bs es read) Slash = refl
first-comes (body h [] bs es read) LParen = refl
first-comes (body h [] bs es read) RParen = refl
first-comes (body h [] bs es read) LBrack = refl
first-comes (body h [] bs es read) RBrack = refl
first-comes (body h [] bs es read) (Repeat a b) = refl
first-comes (body h [] bs es read) (Text c z) = refl
first-comes (body h [] bs es read) (Values vs) = refl
first-comes (body h [] bs es read) (Range x y) = refl
first-comes (body h [] bs es read) (Prose z) = refl
first-comes (body h [] bs es read) End = refl
first-comes (body h (level b f t paren ∷ o) bs es read) s = refl
first-comes (body h (level b f t brack ∷ o) bs es read) s = refl
first-comes (done ds) s = refl

later-comes : (c : Config) (g : Bool) (s : Said)
    → Later (allows_later (stand_of c) (innermost (open_of c)) (kind_said s) g) s (open_of c) (later_step c g s)
later-comes start g s = refl
later-comes (named ds m q) g (Name n p) = refl
later-comes (named ds m q) g Is = (refl, refl, refl)
later-comes (named ds m q) g Adds = (refl, refl, refl)
later-comes (named ds m q) g Slash = refl
later-comes (named ds m q) g LParen = refl
later-comes (named ds m q) g RParen = refl
later-comes (named ds m q) g LBrack = refl
later-comes (named ds m q) g RBrack = refl
later-comes (named ds m q) g (Repeat a b) = refl
later-comes (named ds m q) g (Text c z) = refl
later-comes (named ds m q) g (Values vs) = refl
later-comes (named ds m q) g (Range x y) = refl
later-comes (named ds m q) g (Prose z) = refl
later-comes (named ds m q) g End = refl
later-comes (body h o bs es fresh) g s = fresh-comes h o bs es s
later-comes (body h o bs es (awaits a b)) true s = refl
later-comes (body h o bs es (awaits a b)) false s = element-comes h o bs es (times a b) s
later-comes (body h o bs es read) g s = read-comes h o bs es g s
later-comes (done ds) g s = refl

pub step-comes : (c : Config) (g f : Bool) (s : Said)
    → Comes (allows_marked (stand_of c) (innermost (open_of c)) (kind_said s) g f) (after_marked (kind_said s) f)
    (brackets_after (kind_said s) (open_of c)) (step c (word g f s))
step-comes c g true s = first-comes c s
step-comes c g false s = later-comes c g s
