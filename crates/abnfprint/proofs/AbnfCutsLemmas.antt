-- The tokens of a text, with their marks, by what they say: each before what stands after.
-- Serves: print_abnf, is_abnf_read_back
use Rattle.std.proofs.Common.{◌≡◌, ℕ, ◌+◌, ◌≤◌, ◌==◌, ◌||◌, not, cond, Bool, true, false, Option, Some, None, List, []}
use Rattle.std.proofs.Common.{◌∷◌, ◌++◌, length, take, refl, sym, ap, ◌∙◌, subst, arith, inl, inr, append_assoc}
use Rattle.std.proofs.Common.{append-nil, length-append}
use Rattle.std.proofs.lemmas.Bool.Decides.{eqb_tells, nat_tests}
use Rattle.std.proofs.lemmas.Bool.{eqb-true}
use Rattle.std.proofs.lemmas.List.{take_at}
use Rattle.ruletable.specs.declared.span.Span.{Span}
use Rattle.lexer.specs.SliceEnds.{no_more, piece, at_end}
use Rattle.lexer.specs.TokenLists as lexing
use Rattle.lexer.specs.TokenLists.{Tok, tok, start_of, last_one, one_more}
use Rattle.lexer.specs.Viability.{say_none, say_more}
use Rattle.abnfread.specs.declared.kind.AbnfKind.{AbnfKind}
use Rattle.abnfread.specs.declared.kind.AbnfKind.TheVariants as kinds
use Rattle.abnfread.specs.AbnfKinds.{ends_list}
use Rattle.abnfread.specs.AbnfSays.{SaysKind, says_end, says, SayAll}
use Rattle.abnfread.specs.AbnfSlices.{White, First, Run, none, more, blank, is_blank, is_inside}
use Rattle.abnfread.specs.AbnfWords as words
use Rattle.abnfread.specs.AbnfWords.{Said, Word, word}
use Rattle.abnfread.specs.MarkedTokens.{Marked, plus, indented, indent_from, indent_at, margin, begins_rule, is_first}
use Rattle.abnfread.specs.MarkedTokens.{marks, AreMarked}
use Rattle.abnfprint.proofs.AbnfListedLemmas.{Leads}
use Rattle.abnfprint.proofs.SameWordLemmas.{SameSaid, same_said, SameWords, same_none, same_more}

-- a token of that kind and slice says the like
pub record SaysLike (k : AbnfKind) (z : List ℕ) (p : Span) (s : Said) : Type 0 where
  pub said : Said
  pub same : SameSaid s said
  pub says : SaysKind k z p said

-- Something else than indentation stands before what is after these bytes, on its line.
pub record IsDark (s : List ℕ) : Type 0 where
  pub ends : (i : Option ℕ) → indent_from i s ≡ None

-- The text's tokens say these words, but for their spans. i spaces and tabs stand before it on its line, if nothing
-- else does, and g says whether white space stands directly before it.
pub data Cuts : Option ℕ → Bool → List ℕ → List Word → Type 0 where
  nothing : {i : Option ℕ} {g : Bool} → Cuts i g [] (word g false words.End ∷ [])
  blanked : {i : Option ℕ} {g : Bool} {b : ℕ} {t : List ℕ} {ws : List Word} → is_blank b ≡ true
      → Cuts (indented i b) true t ws → Cuts i g (b ∷ t) ws
  next : {k : AbnfKind} {i : Option ℕ} {g : Bool} {t s r : List ℕ} {w : Said} {ws : List Word} → First k t r → t ≡ s
      ++ r → ends_list k ≡ false → IsDark s →
      ((p : Span) → SaysLike k s p w) → Cuts None false r ws → Cuts i g t (word g (begins_rule (Some 0) i) w ∷ ws)

-- a word that has no span
pub says-like : {k : AbnfKind} {z : List ℕ} {w : Said} → ((p : Span) → SaysKind k z p w) → (p : Span) → SaysLike k z p w
says-like f p = record { said = _; same = same_said; says = f p }

-- the tokens after the position n, where the text t begins, and the words that they say
pub record Placed (text : List ℕ) (n : ℕ) (t : List ℕ) (ws : List Word) : Type 0 where
  pub tokens : List (Tok AbnfKind)
  pub are_tokens : lexing.AreTokens White First ends_list (length text) t tokens
  pub words : List Word
  pub say : SayAll (marks text (Some 0) n tokens) words
  pub same : SameWords ws words

indent-append : (i : Option ℕ) (xs ys : List ℕ) → indent_from i (xs ++ ys) ≡ indent_from (indent_from i xs) ys
indent-append i [] ys = refl
indent-append i (x ∷ xs) ys = indent-append (indented i x) xs ys

-- the same marks, in other words
marked-so : {text : List ℕ} {n : ℕ} {t : List ℕ} {g h f e : Bool} {w : Said} {ws : List Word} → g ≡ h → f ≡ e
    → Placed text n t (word g f w ∷ ws) → Placed text n t (word h e w ∷ ws)
marked-so {text} {n} {t} {g} {h} {f} {e} {w} {ws} p q r = subst (λ (x : Bool). Placed text n t (word x e w ∷ ws)) p
    (subst (λ (x : Bool). Placed text n t (word g x w ∷ ws)) q r)

end-placed : (text front t : List ℕ) (n : ℕ) → length front ≡ length text → White t []
    → Placed text n t (word (not (length front == n)) false words.End ∷ [])
end-placed text front t n e w =
    let span : Span = record { start = length front; end = length front } in
    record {
      tokens = tok kinds.End [] span ∷ [];
      are_tokens = last_one (record {
        token = [];
        white = w;
        first = at_end;
        cut = refl;
        position = omega arith;
        size = omega arith;
      }) refl;
      words = word (not (length front == n)) false words.End ∷ [];
      say = say_more (says says_end) say_none;
      same = same_more same_said same_none;
    }

next-placed : (text front t u s r : List ℕ) (n : ℕ) {k : AbnfKind} {w : Said} {ws : List Word} → text ≡ front ++ t
    → White u t → First k t r → t ≡ s ++ r → ends_list k ≡ false →
    ((p : Span) → SaysLike k s p w) → Placed text (length front + length s) r ws
    → Placed text n u (word (not (length front == n))
    (is_first text (Some 0) (tok k s (record { start = length front; end = length front + length s }))) w ∷ ws)
next-placed text front t u s r n {k} {w} {ws} whole white first e h y rest =
    let span : Span = record { start = length front; end = length front + length s } in
    let here = y span in
    let a = ap length whole in
    record {
      tokens = tok k s span ∷ rest.tokens;
      are_tokens = one_more (record {
        token = t;
        white = white;
        first = first;
        cut = e;
        position = omega (arith, length-append front t);
        size = refl;
      }) h rest.are_tokens;
      words = word (not (length front == n)) (is_first text (Some 0) (tok k s span)) here.said ∷ rest.words;
      say = say_more (says here.says) rest.say;
      same = same_more here.same rest.same;
    }

-- whether it is first, by what stands before it
first-by : (text front t : List ℕ) (k : AbnfKind) (s : List ℕ) (end : ℕ) (i : Option ℕ) → text ≡ front ++ t
    → indent_from (Some 0) front ≡ i → ends_list k ≡ false →
    is_first text (Some 0) (tok k s (record { start = length front; end = end })) ≡ begins_rule (Some 0) i
first-by text front t k s end i whole before e =
    let cut : take (length front) text ≡ front = ap (take (length front)) whole ∙ take_at front t (length front) refl in
    rw (e, cut, before) refl

after-later : (m n : ℕ) → n ≤ m → not (m + 1 == n) ≡ true
after-later m n h = grind (arith, nat_tests)

after-here : (m : ℕ) → not (m == m) ≡ false
after-here m = grind (arith, nat_tests)

pub cuts-placed : (text front u : List ℕ) (n : ℕ) {i : Option ℕ} {g : Bool} {t : List ℕ} {ws : List Word}
    → text ≡ front ++ t
    → indent_from (Some 0) front ≡ i → n ≤ length front →
    not (length front == n) ≡ g → ((r : List ℕ) → White t r → White u r) → Cuts i g t ws → Placed text n u ws
cuts-placed text front u n whole before le gap f nothing =
    marked-so gap refl (end-placed text front u n (sym (ap length whole ∙ ap length (append-nil front))) (f [] no_more))
cuts-placed text front u n whole before le gap f (blanked {i} {b = b} {t} h c) =
    cuts-placed text (front ++ b ∷ []) u n (whole ∙ sym (append_assoc front (b ∷ []) t))
    (indent-append (Some 0) front (b ∷ []) ∙ ap (λ (x : Option ℕ). indented x b) before)
    (omega (arith, length-append front (b ∷ []))) (ap (λ (m : ℕ). not (m == n)) (length-append front (b ∷ []))
    ∙ after-later (length front) n le)
    (λ r w. f r (piece (blank h) w)) c
cuts-placed text front u n whole before le gap f (next {k} {i} {t = t} {s} {r} x e h d y c) =
    let rest = cuts-placed text (front ++ s) r (length front + length s) (whole ∙ ap (λ (z : List ℕ). front ++ z) e
    ∙ sym (append_assoc front s r))
    (indent-append (Some 0) front s ∙ d.ends (indent_from (Some 0) front)) (omega (arith, length-append front s))
    (ap (λ (m : ℕ). not (m == length front + length s)) (length-append front s) ∙ after-here (length front + length s))
    (λ z w. w) c in
    marked-so gap (first-by text front t k s (length front + length s) i whole before h)
    (next-placed text front t u s r n whole (f t no_more) x e h y rest)

-- the text's tokens with their marks, and the words that they say
pub record AreSaid (text : List ℕ) (ws : List Word) : Type 0 where
  pub tokens : List Marked
  pub are_tokens : AreMarked text tokens
  pub words : List Word
  pub say : SayAll tokens words
  pub same : SameWords ws words

not-equal : (x : Bool) → not x ≡ false → x ≡ true
not-equal true e = refl
not-equal false e = sym e

-- where no white space stands before the first word, the margin is none
first-margin : (text : List ℕ) (ts : List (Tok AbnfKind)) {ws vs : List Word} → SayAll (marks text (Some 0) 0 ts) vs
    → SameWords ws vs → Leads false ws → margin text ts ≡ Some 0
first-margin text [] say_none same_none l = absurd l
first-margin text (x ∷ xs) (say_more (says y) z) (same_more a b) l =
    let start : start_of x ≡ 0 = eqb-true (start_of x) 0 (not-equal (start_of x == 0) l) in
    ap (indent_at text) start

pub said-text : {text : List ℕ} {ws : List Word} → Leads false ws → Cuts (Some 0) false text ws → AreSaid text ws
said-text {text} {ws} l c =
    let p = cuts-placed text [] text 0 refl refl (omega arith) refl (λ r w. w) c in
    let m = first-margin text p.tokens p.say p.same l in
    record {
      tokens = marks text (Some 0) 0 p.tokens;
      are_tokens = record {
        tokens = p.tokens;
        are_tokens = p.are_tokens;
        same = ap (λ (x : Option ℕ). marks text x 0 p.tokens) (sym m);
      };
      words = p.words;
      say = p.say;
      same = p.same;
    }

-- bytes of a class without LF
pub inside-of : (f : ℕ → Bool) → f 10 ≡ false → (b : ℕ) → f b ≡ true → is_inside b ≡ true
inside-of f e b h = elim (eqb_tells b 10) [
  | inl k ↦ absurd (let g = rw (k.1) at h in let z : true ≡ false = sym g ∙ e in
      cc)
  | inr k ↦ (let g = k.0 in rw g refl)
]

pub run-map : {f g : ℕ → Bool} {t r : List ℕ} → ((b : ℕ) → f b ≡ true → g b ≡ true) → Run f t r → Run g t r
run-map p none = none
run-map p (more {b} e h) = more (p b e) (run-map p h)

pub run-both : {f : ℕ → Bool} {xs ys : List ℕ} → Run f xs [] → Run f ys [] → Run f (xs ++ ys) []
run-both none k = k
run-both (more e h) k = more e (run-both h k)

dark-first : (i : Option ℕ) (x y z : Bool) → (x || y || z) ≡ false → cond z (Some 0) (cond (x || y) (plus 1 i) None)
    ≡ None
dark-first i true y z e = cc
dark-first i false true z e = cc
dark-first i false false true e = cc
dark-first i false false false e = refl

dark-later : (z w : Bool) → not z ≡ true → cond z (Some 0) (cond w (plus 1 None) None) ≡ None
dark-later true w e = cc
dark-later false true e = refl
dark-later false false e = refl

dark-on : {bs : List ℕ} → Run is_inside bs [] → indent_from None bs ≡ None
dark-on none = refl
dark-on (more {b} {bs} e h) = ap (λ (x : Option ℕ). indent_from x bs) (dark-later (b == 10) ((b == 32) || (b == 9)) e)
    ∙ dark-on h

-- no blank, and no LF after it
pub run-dark : (b : ℕ) (bs : List ℕ) → is_blank b ≡ false → Run is_inside bs [] → IsDark (b ∷ bs)
run-dark b bs e h = record {
  ends = λ i. ap (λ (x : Option ℕ). indent_from x bs) (dark-first i (b == 32) (b == 9) (b == 10)
      e) ∙ dark-on h;
}
