-- A literal spells some bytes, and a slice spells no others.
-- Serves: literal_bytes, spells_one_literal, spells_some_literal, class_set, are_marked, one_tree, read_peg
use Rattle.std.proofs.Common.{◌≡◌, ◌≢◌, ℕ, zero, suc, ◌≤◌, List, [], ◌∷◌, ◌++◌, length, take, refl, sym, ap, ◌∙◌, subst}
use Rattle.std.proofs.Common.{arith, inl, inr, append_assoc, length-append}
use Rattle.std.proofs.lemmas.List.{append_cancel_right, append-nil, take_at}
use Rattle.pegread.specs.Chars.{Octal, Hex, Form, unescaped, letter, octal_three, octal_two, octal_one, hex_two}
use Rattle.pegread.specs.Chars.{hex_one, itself, Char, SpellsNone, Chars, no_chars, more_chars, Paired, paired_end}
use Rattle.pegread.specs.Chars.{paired_escape, paired_plain}
use Rattle.pegread.specs.Literals.{IsLiteral, single_quoted, double_quoted, SpellsBytes}
use Rattle.pegread.specs.Slices.{Closes, close, escape, plain}
use Rattle.pegread.proofs.CharFormLemmas.{octal-is, hex-is}
use Rattle.pegread.proofs.CharFrontLemmas.{char-one, char-shorter, no-char, some-char}

-- what is closed: some text before the mark, in which no backslash stands alone
pub record ClosedBy (mark : ℕ) (t r : List ℕ) : Type 0 where
  pub inside : List ℕ
  pub cut : t ≡ inside ++ (mark ∷ r)
  pub paired : Paired inside

pub closed-by : {mark : ℕ} {t r : List ℕ} → Closes mark t r → ClosedBy mark t r
closed-by close = record { inside = []; cut = refl; paired = paired_end }
closed-by (escape {b} c) = let x = closed-by c in
    record { inside = 92 ∷ b ∷ x.inside; cut = ap (λ (z : List ℕ). 92 ∷ b ∷ z) x.cut; paired = paired_escape x.paired }
closed-by (plain {b} p q c) = let x = closed-by c in
    record { inside = b ∷ x.inside; cut = ap (λ (z : List ℕ). b ∷ z) x.cut; paired = paired_plain q x.paired }

-- A closed text closes by itself too: what follows it does not count. So a token's slice is a literal's or a
-- class's in the words of specs/.
pub closes-alone : {mark : ℕ} {t r : List ℕ} → Closes mark t r → (s : List ℕ) → t ≡ s ++ r → Closes mark s []
closes-alone {mark} {t} {r} c s e = let x = cut-alone c in
    subst (λ (z : List ℕ). Closes mark z []) (append_cancel_right x.0 s r (sym x.1 ∙ e)) x.2
  where
    cut-alone : {u v : List ℕ} → Closes mark u v → (w : List ℕ) × (u ≡ w ++ v) × Closes mark w []
    cut-alone close = (mark ∷ [], refl, close)
    cut-alone (escape {b} k) = let x = cut-alone k in (92 ∷ b ∷ x.0, ap (λ (z : List ℕ). 92 ∷ b ∷ z) x.1, escape x.2)
    cut-alone (plain {b} p q k) = let x = cut-alone k in (b ∷ x.0, ap (λ (z : List ℕ). b ∷ z) x.1, plain p q x.2)

paired-after_escape : {b : ℕ} {bs : List ℕ} → Paired (92 ∷ b ∷ bs) → Paired bs
paired-after_escape (paired_escape p) = p
paired-after_escape (paired_plain h p) = absurd (h refl)

pub paired-after_plain : {b : ℕ} {bs : List ℕ} → b ≢ 92 → Paired (b ∷ bs) → Paired bs
paired-after_plain h (paired_escape p) = absurd (h refl)
paired-after_plain h (paired_plain k p) = p

octal-no_escape : {x n : ℕ} → Octal x n → x ≢ 92
octal-no_escape h = let a = octal-is h in omega arith

hex-no_escape : {x n : ℕ} → Hex x n → x ≢ 92
hex-no_escape h = let a = hex-is h in omega arith

form-paired : {t r : List ℕ} {b : ℕ} → Form t r b → Paired t → Paired r
form-paired (unescaped h) p = paired-after_plain h p
form-paired (letter h) p = paired-after_escape p
form-paired (octal_three h k i j) p = paired-after_plain (octal-no_escape j)
    (paired-after_plain (octal-no_escape i) (paired-after_escape p))
form-paired (octal_two h k) p = paired-after_plain (octal-no_escape k) (paired-after_escape p)
form-paired (octal_one h) p = paired-after_escape p
form-paired (hex_two h k) p = paired-after_plain (hex-no_escape k)
    (paired-after_plain (hex-no_escape h) (paired-after_escape p))
form-paired (hex_one h) p = paired-after_plain (hex-no_escape h) (paired-after_escape p)
form-paired (itself h k) p = paired-after_escape p

-- what follows a character has no backslash alone either
pub char-paired : {t r : List ℕ} {b : ℕ} → Char t r b → Paired t → Paired r
char-paired h p = form-paired h.form p

pub none-paired : (t : List ℕ) → SpellsNone t → Paired t → t ≡ []
none-paired [] n p = refl
none-paired (b ∷ []) n (paired_plain h p) = absurd (h n)
none-paired (b ∷ c ∷ cs) n p = absurd n

chars-within : (n : ℕ) (t : List ℕ) → length t ≤ n → Paired t → (bs : List ℕ) × Chars t bs
chars-within zero [] h p = ([], no_chars)
chars-within zero (b ∷ bs) h p = absurd (omega arith)
chars-within (suc n) t h p = elim (some-char t) [
  | inl e ↦ rw (none-paired t e p) ([], no_chars)
  | inr x ↦ (let k = char-shorter x.2 in let y = chars-within n x.0 (omega arith) (char-paired x.2 p) in
      (x.1 ∷ y.0, more_chars x.2 y.1))
]

pub some-chars : (t : List ℕ) → Paired t → (bs : List ℕ) × Chars t bs
some-chars t p = chars-within (length t) t (omega arith) p

pub chars-same : {t bs cs : List ℕ} → Chars t bs → Chars t cs → bs ≡ cs
chars-same no_chars no_chars = refl
chars-same no_chars (more_chars h k) = absurd (no-char _ _ _ h tt)
chars-same (more_chars h k) no_chars = absurd (no-char _ _ _ h tt)
chars-same (more_chars {t} {r} {b = b} h k) (more_chars {r = s} {b = c} h' k') =
    let e = char-one t r s b c h h' in
    let rest = chars-same k (rw (sym e.0) at k') in
    let first = e.1 in
    cc

-- one more byte at the end of those before
pub chars-pushed : {t : List ℕ} (xs ys bs : List ℕ) (b : ℕ) → ys ≡ xs ++ b ∷ [] → Chars t (xs ++ b ∷ bs)
    → Chars t (ys ++ bs)
chars-pushed {t} xs ys bs b e h = rw (e, append_assoc) h

-- no byte is left
pub chars-ended : {t u : List ℕ} (xs : List ℕ) → u ≡ [] → ((bs : List ℕ) → Chars u bs → Chars t (xs ++ bs)) → Chars t xs
chars-ended {t} xs e h = subst (λ (z : List ℕ). Chars t z) (append-nil xs) (h [] (rw e no_chars))

-- a quoted text: its marks, and what stands between them
pub record Quoted (slice : List ℕ) : Type 0 where
  pub mark : ℕ
  pub inside : List ℕ
  pub cut : slice ≡ mark ∷ (inside ++ mark ∷ [])
  pub paired : Paired inside

quoted-by : (mark : ℕ) {bs : List ℕ} → Closes mark bs [] → Quoted (mark ∷ bs)
quoted-by mark c = let x = closed-by c in record {
  mark = mark;
  inside = x.inside;
  cut = ap (λ (z : List ℕ). mark ∷ z) x.cut;
  paired = x.paired;
}

pub literal-quoted : {slice : List ℕ} → IsLiteral slice → Quoted slice
literal-quoted (single_quoted c) = quoted-by 39 c
literal-quoted (double_quoted c) = quoted-by 34 c

pub some-literal : (slice : List ℕ) → IsLiteral slice → (bs : List ℕ) × SpellsBytes slice bs
some-literal slice h =
    let q = literal-quoted h in
    let x = some-chars q.inside q.paired in
    (x.0, record { mark = q.mark; inside = q.inside; cut = q.cut; chars = x.1 })

-- two ways to cut a slice between its first and its last byte are one
pub same-inside : (a b c d : ℕ) (s t : List ℕ) → a ∷ (s ++ b ∷ []) ≡ c ∷ (t ++ d ∷ []) → s ≡ t
same-inside a b c d s t e =
    let tails : s ++ b ∷ [] ≡ t ++ d ∷ [] = cc in
    let n : length s ≡ length t = omega (arith, ap length tails, length-append s (b ∷ []), length-append t (d ∷ [])) in
    sym (take_at s (b ∷ []) (length s) refl) ∙ ap (take (length s)) tails ∙ take_at t (d ∷ []) (length s) (sym n)

pub one-literal : (slice bs cs : List ℕ) → SpellsBytes slice bs → SpellsBytes slice cs → bs ≡ cs
one-literal slice bs cs h k =
    let e = same-inside h.mark h.mark k.mark k.mark h.inside k.inside (sym h.cut ∙ k.cut) in
    chars-same h.chars (rw (sym e) at k.chars)
