-- No line of a rule but the first begins with a name after the margin.
-- Serves: joined_reading
use Rattle.std.proofs.Common.{◌≡◌, ℕ, zero, suc, ◌+◌, ◌≤◌, ◌==◌, ◌||◌, nat_lt, Bool, true, false}
use Rattle.std.proofs.Common.{not, Option, Some, None, List, [], ◌∷◌, ◌++◌, take, drop, refl, sym}
use Rattle.std.proofs.Common.{arith, inl, inr, subst, append_assoc, min, cond}
use Rattle.std.proofs.lemmas.Bool.{cases_Bool, eqb-true}
use Rattle.std.proofs.lemmas.Bool.Decides.{nat_tests}
use Rattle.std.specs.Char.{is_ascii_alphabetic}
use Rattle.std.specs.List.{prefix_len}
use Rattle.abnfblocks.specs.LineKinds.{is_blank as is_blank_byte}
use Rattle.abnfblocks.specs.TextLines.{NumberedLine}
use Rattle.abnfread.specs.AbnfSlices.{is_inside}
use Rattle.abnfread.specs.MarkedTokens.{plus, indented, indent_from}
use Rattle.abnfblocks.specs.RuleLines.{begins_by, begins_comment, begins_inner, rest_after_margin, is_margin, margin_of}
use Rattle.abnfblocks.specs.RuleCuts.{is_empty_line, lines_text}
use Rattle.abnftexts.proofs.ClearLinesLemmas.{AreInside, IsClear}
use Rattle.abnftexts.proofs.EachLemmas.{Each, each_none, each_next, each-drop}
use Rattle.abnftexts.proofs.OwnLinesLemmas.{may_go_on}

-- a byte that begins no name
abbrev pub is_dark : ℕ → Bool
is_dark c = not (is_ascii_alphabetic c)

-- after that indentation, each line but the one that goes on begins with such a byte
pub data Later : Option ℕ → List ℕ → Type 0 where
  later_end : {i : Option ℕ} → Later i []
  later_byte : {i : Option ℕ} {b : ℕ} {bytes : List ℕ} → (i ≡ Some 0 → is_dark b ≡ true) → Later (indented i b) bytes
      → Later i (b ∷ bytes)

plus-some : (i : Option ℕ) → plus 1 i ≡ Some 0 → ⊥
plus-some None e = cc
plus-some (Some k) e = let h : k + 1 ≡ 0 = cc in absurd (omega arith)

pub indented-inner : (i : Option ℕ) (b : ℕ) → is_inside b ≡ true → indented i b ≡ Some 0 → ⊥
indented-inner i b p e = elim (cases_Bool (b == 10)) [
  | inl f ↦ (let k : not (b == 10) ≡ true = p in let l = rw f at k in cc)
  | inr f ↦ elim (cases_Bool ((b == 32) || (b == 9))) [
    | inl g ↦ plus-some i
        (let k : cond (b == 10) (Some 0) (cond ((b == 32) || (b == 9)) (plus 1 i) None) ≡ Some 0 = e in
        rw (f, g) at k)
    | inr g ↦ (let k : cond (b == 10) (Some 0) (cond ((b == 32) || (b == 9)) (plus 1 i) None) ≡ Some 0 = e in
        let l = rw (f, g) at k in cc)
  ]
]

pub inner-later : (i : Option ℕ) {bytes rest : List ℕ} → (i ≡ Some 0 → ⊥) → AreInside bytes → Later (Some 0) rest
    → Later i (bytes ++ 10 ∷ rest)
inner-later i n each_none r = later_byte (λ e. absurd (n e)) r
inner-later i n (each_next {x = b} p h) r =
    later_byte (λ e. absurd (n e)) (inner-later (indented i b) (indented-inner i b p) h r)

abbrev pub DarkFirst : List ℕ → Type 0
DarkFirst [] = Unit {0}
DarkFirst (b ∷ bytes) = is_dark b ≡ true

line-later : {bytes rest : List ℕ} → AreInside bytes → DarkFirst bytes → Later (Some 0) rest
    → Later (Some 0) (bytes ++ 10 ∷ rest)
line-later each_none d r = later_byte (λ e. refl) r
line-later (each_next {x = b} p h) d r =
    later_byte (λ e. d) (inner-later (indented (Some 0) b) (indented-inner (Some 0) b p) h r)

margin-dark : (b : ℕ) → is_margin b ≡ true → is_dark b ≡ true
margin-dark b e = grind (arith, nat_tests)

blank-dark : (b : ℕ) → is_blank_byte b ≡ true → is_dark b ≡ true
blank-dark b e = grind (arith, nat_tests)

-- after so many bytes of a margin stands a byte of it, or what follows it
dark-margin : (k : ℕ) (bytes : List ℕ) → k ≤ prefix_len is_margin bytes
    → (k ≡ prefix_len is_margin bytes → DarkFirst (drop k bytes)) → DarkFirst (drop k bytes)
dark-margin zero [] le f = tt
dark-margin (suc k) [] le f = tt
dark-margin zero (b ∷ bytes) le f = elim (cases_Bool (is_margin b)) [
  | inl e ↦ margin-dark b e
  | inr e ↦ f (let size : prefix_len is_margin (b ∷ bytes) ≡ 0 = rw e refl in sym size)
]
dark-margin (suc k) (b ∷ bytes) le f = elim (cases_Bool (is_margin b)) [
  | inl e ↦
      let size : prefix_len is_margin (b ∷ bytes) ≡ 1 + prefix_len is_margin bytes = rw e refl in
      dark-margin k bytes (omega arith) (λ q. f (omega arith))
  | inr e ↦ absurd (let size : prefix_len is_margin (b ∷ bytes) ≡ 0 = rw e refl in omega arith)
]

first-blank : {bytes : List ℕ} → Each (λ b. is_blank_byte b ≡ true) bytes → DarkFirst bytes
first-blank each_none = tt
first-blank (each_next {x = b} p h) = blank-dark b p

comment-first : (bytes : List ℕ) → begins_by 59 bytes ≡ true → DarkFirst bytes
comment-first [] e = cc
comment-first (b ∷ bytes) e = let same : b ≡ 59 = eqb-true b 59 e in rw same refl

inner-byte : (b : ℕ) → ((b == 47) || (b == 124) || (b == 41) || (b == 93)) ≡ true → is_dark b ≡ true
inner-byte b e = grind (arith, nat_tests)

inner-first : (bytes : List ℕ)
    → (begins_by 47 bytes || begins_by 124 bytes || begins_by 41 bytes || begins_by 93 bytes) ≡ true → DarkFirst bytes
inner-first [] e = cc
inner-first (b ∷ bytes) e = inner-byte b e

-- after the margin, a line with which a rule may go on begins with such a byte
cut-dark : (m : ℕ) (line : NumberedLine) → IsClear line → may_go_on m line ≡ true
    → DarkFirst (drop (min m (margin_of line.bytes)) line.bytes)
cut-dark m line clear goes = elim (cases_Bool (is_empty_line line)) [
  | inl e ↦ first-blank (each-drop (min m (margin_of line.bytes)) (clear.blank e))
  | inr e ↦ elim (cases_Bool (begins_comment line.bytes)) [
    | inl f ↦ after-first (comment-first (rest_after_margin line.bytes) f)
    | inr f ↦ elim (cases_Bool (nat_lt m (margin_of line.bytes))) [
      | inl g ↦ dark-margin (min m (margin_of line.bytes)) line.bytes (omega arith)
          (λ q. absurd (lower m (margin_of line.bytes) g q))
      | inr g ↦ after-first (inner-first (rest_after_margin line.bytes)
          (last-true (is_empty_line line) (begins_comment line.bytes) (nat_lt m (margin_of line.bytes))
          (begins_inner line.bytes) e f g goes))
    ]
  ]
]
  where
    after-first : DarkFirst (rest_after_margin line.bytes) → DarkFirst (drop (min m (margin_of line.bytes)) line.bytes)
    after-first h = dark-margin (min m (margin_of line.bytes)) line.bytes (omega arith)
        (λ q. subst (λ (k : ℕ). DarkFirst (drop k line.bytes)) (sym q) h)

    lower : (m n : ℕ) → nat_lt m n ≡ true → min m n ≡ n → ⊥
    lower m n e q = grind (arith, nat_tests)

    last-true : (x y z w : Bool) → x ≡ false → y ≡ false → z ≡ false → (x || y || z || w) ≡ true → w ≡ true
    last-true x y z w e f g h = rw (e, f, g) at h

pub lines-later : (m : ℕ) {lines : List NumberedLine} → Each IsClear lines
    → Each (λ other. may_go_on m other ≡ true) lines → Later (Some 0) (lines_text m lines)
lines-later m each_none each_none = later_end
lines-later m (each_next {x = line} {xs = lines} c cs) (each_next g gs) =
    let k = min m (margin_of line.bytes) in
    let e = append_assoc (drop k line.bytes) (10 ∷ []) (lines_text m lines) in
    subst (Later (Some 0)) (sym e) (line-later (each-drop k c.inside) (cut-dark m line c g) (lines-later m cs gs))

-- where such a text begins a line, such a byte stands
pub later-at : {i : Option ℕ} {t : List ℕ} → Later i t → (n : ℕ) → indent_from i (take n t) ≡ Some 0 → (c : ℕ)
    (v : List ℕ) → drop n t ≡ c ∷ v → is_dark c ≡ true
later-at later_end zero e c v q = cc
later-at later_end (suc n) e c v q = cc
later-at (later_byte {b = b} p l) zero e c v q = let same : b ≡ c = cc in rw same at (p e)
later-at (later_byte p l) (suc n) e c v q = later-at l n e c v q
