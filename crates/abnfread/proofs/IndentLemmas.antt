-- Marks, token by token.
-- Serves: AbnfTokenIter::next, abnf_tokens
use Rattle.std.proofs.Common.{◌≡◌, ◌≢◌, ℕ, ◌+◌, ◌-◌, ◌==◌, ◌||◌, true, false, Option, Some, None, List, [], ◌∷◌, ◌++◌}
use Rattle.std.proofs.Common.{length, refl, ap, arith, ◌∙◌}
use Rattle.std.proofs.lemmas.Bool.Decides.{eqb_tells}
use Rattle.std.proofs.Common.{inl, inr}
use Rattle.lexer.specs.SliceEnds.{NoPiece}
use Rattle.lexer.specs.TokenLists.{Tok, start_of, Next, last_one, one_more}
use Rattle.abnfread.specs.declared.kind.AbnfKind.{AbnfKind}
use Rattle.abnfread.specs.AbnfSlices.{Piece, White, First}
use Rattle.abnfread.specs.MarkedTokens.{plus, indented, indent_from, indent_at, margin, AreTokens}
use Rattle.abnfread.proofs.AbnfSliceLemmas.{white-unique, first-dark}

pub plus-zero : (n : Option ℕ) → n ≡ plus 0 n
plus-zero None = refl
plus-zero (Some k) = ap Some (omega arith)

plus-one : (m : ℕ) (n : Option ℕ) → plus m (plus 1 n) ≡ plus (m + 1) n
plus-one m None = refl
plus-one m (Some k) = ap Some (omega arith)

-- one byte more at the end
indent-snoc : (n : Option ℕ) (bs : List ℕ) (b : ℕ) → indent_from n (bs ++ b ∷ []) ≡ indented (indent_from n bs) b
indent-snoc n [] b = refl
indent-snoc n (c ∷ bs) b = indent-snoc (indented n c) bs b

indent-last : (t front : List ℕ) (b : ℕ) (n : Option ℕ) → t ≡ front ++ b ∷ []
    → indent_from n t ≡ indented (indent_from n front) b
indent-last t front b n e = ap (indent_from n) e ∙ indent-snoc n front b

indented-lf : (n : Option ℕ) (b : ℕ) → b ≡ 10 → indented n b ≡ Some 0
indented-lf n b p = rw p refl

indented-other : (n : Option ℕ) (b : ℕ) → b ≢ 10 → ((b == 32) || (b == 9)) ≡ false → indented n b ≡ None
indented-other n b p q = elim (eqb_tells b 10) [ inl h ↦ absurd (p h.1) | inr h ↦ (let e = h.0 in rw (e, q) refl) ]

indented-space : (n : Option ℕ) (b : ℕ) → b ≢ 10 → ((b == 32) || (b == 9)) ≡ true → indented n b ≡ plus 1 n
indented-space n b p q = elim (eqb_tells b 10) [ inl h ↦ absurd (p h.1) | inr h ↦ (let e = h.0 in rw (e, q) refl) ]

module _ (whole t front : List ℕ) (b m : ℕ) (e : t ≡ front ++ b ∷ [])
    (h : indent_from (Some 0) whole ≡ plus m (indent_from (Some 0) t)) where
  pub at-lf : b ≡ 10 → indent_from (Some 0) whole ≡ Some m
  at-lf p = h ∙ ap (plus m) (indent-last t front b (Some 0) e ∙ indented-lf (indent_from (Some 0) front) b p)
      ∙ ap Some (omega arith)

  pub at-other : b ≢ 10 → ((b == 32) || (b == 9)) ≡ false → indent_from (Some 0) whole ≡ None
  at-other p q = h ∙ ap (plus m) (indent-last t front b (Some 0) e ∙ indented-other (indent_from (Some 0) front) b p q)

  pub at-space : b ≢ 10 → ((b == 32) || (b == 9)) ≡ true → indent_from (Some 0) whole
      ≡ plus (m + 1) (indent_from (Some 0) front)
  at-space p q = h ∙ ap (plus m) (indent-last t front b (Some 0) e ∙ indented-space (indent_from (Some 0) front) b p q)
      ∙ plus-one m (indent_from (Some 0) front)

-- the margin is the indentation after the white space that begins the text
margin-at : (text a : List ℕ) (x : Tok AbnfKind) (r : List ℕ) → Next White First (length text) text x r → White text a
    → NoPiece Piece a → indent_at text (start_of x) ≡ indent_at text (length text - length a)
margin-at text a x r h w d =
    let same : h.token ≡ a = white-unique (first-dark h.first) d h.white w in
    let p = h.position in
    let n = ap length same in
    let start : start_of x ≡ length text - length a = omega arith in
    ap (indent_at text) start

pub margin-is : (text a : List ℕ) (ts : List (Tok AbnfKind)) → AreTokens text ts → White text a → NoPiece Piece a
    → margin text ts ≡ indent_at text (length text - length a)
margin-is text a _ (last_one {r} {x} h e) w d = margin-at text a x r h w d
margin-is text a _ (one_more {r} {x} h e more) w d = margin-at text a x r h w d
