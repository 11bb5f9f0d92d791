-- Lines and columns after two texts, one after the other.
-- Serves: TextPosition::after, explain_no_match
use Rattle.std.proofs.Common.{◌≡◌, ℕ, zero, suc, ◌+◌, ◌-◌, ◌<◌, ◌≤◌, ◌==◌, cond, Bool, not, List, [], ◌∷◌}
use Rattle.std.proofs.Common.{◌++◌, length, reverse, refl, ap, ◌∙◌, arith, length-append, take}
use Rattle.std.proofs.lemmas.List.{length-reverse, reverse-append}
use Rattle.std.proofs.Math.Seq.{take-length}
use Rattle.std.proofs.lemmas.List.Folds.{prefix_len-append}
use Rattle.std.proofs.lemmas.List.Sums.{suffix_len-le-length}
use Rattle.std.specs.List.{suffix_len}
use Rattle.diagnostics.specs.LinesAround.{bytes_before, breaks}
use Rattle.ruletable.specs.Lines.{line_at, line_ends}
use Rattle.ruletable.specs.declared.lines.LineRule.TheVariants.{Lf}
use Rattle.matchfailure.specs.InputPositions.{position_after}
use Rattle.matchfailure.specs.declared.explain.position.TextPosition.{TextPosition}

lf-ends : (front bytes : List ℕ) → line_ends Lf (front ++ bytes) (length (front ++ bytes))
    ≡ line_ends Lf front (length front) + line_ends Lf bytes (length bytes)
lf-ends [] bytes = omega arith
lf-ends (b ∷ front) bytes = let e = lf-ends front bytes in omega (arith, e)

pub ends-within : (text : List ℕ) (n : ℕ) → line_ends Lf text n ≤ n
ends-within [] n = omega arith
ends-within (b ∷ text) zero = omega arith
ends-within (b ∷ text) (suc n) = let e = ends-within text n in grind (arith, e)

suffix-after : (p : ℕ → Bool) (front bytes : List ℕ) → suffix_len p (front ++ bytes)
    ≡ cond (suffix_len p bytes == length bytes) (length bytes + suffix_len p front) (suffix_len p bytes)
suffix-after p front bytes =
    rw (reverse-append front bytes, prefix_len-append p (reverse bytes) (reverse front), length-reverse bytes) refl

-- the column after a text that is of one line
pub same-line : (front bytes : List ℕ) (at : TextPosition) (b : ℕ) → at ≡ position_after front
    → b ≡ bytes_before Lf (take (length bytes) bytes) → length bytes ≤ b
    → at.column + b ≡ bytes_before Lf (front ++ bytes) + 1
same-line front bytes at b g e l =
    let column : at.column ≡ bytes_before Lf front + 1 = ap (λ (a : TextPosition). a.column) g in
    let is : b ≡ bytes_before Lf bytes = e ∙ ap (bytes_before Lf) (take-length bytes) in
    let most = suffix_len-le-length (λ b. not (breaks Lf b)) bytes in
    let all : bytes_before Lf bytes ≡ length bytes = omega (arith, is, l, most) in
    let whole = suffix-after (λ b. not (breaks Lf b)) front bytes in
    grind (arith, whole, all, is, column)

-- the column after a text that ends a line
pub later-line : (front bytes : List ℕ) (b : ℕ) → b ≡ bytes_before Lf (take (length bytes) bytes) → b < length bytes
    → b + 1 ≡ bytes_before Lf (front ++ bytes) + 1
later-line front bytes b e l =
    let is : b ≡ bytes_before Lf bytes = e ∙ ap (bytes_before Lf) (take-length bytes) in
    let whole = suffix-after (λ b. not (breaks Lf b)) front bytes in
    grind (arith, whole, is, l)

same-position : (a b c d e f : ℕ) → a ≡ d → b ≡ e → c ≡ f
    → ◌≡◌ {A = TextPosition} (record { byte = a; line = b; column = c }) (record { byte = d; line = e; column = f })
same-position a b c d e f g h k = cc

-- the position after both
pub moved-position : (front bytes : List ℕ) (at : TextPosition) (n c : ℕ) → at ≡ position_after front
    → n ≡ line_at Lf bytes (length bytes) → c ≡ bytes_before Lf (front ++ bytes) + 1
    → ◌≡◌ {A = TextPosition} (record { byte = at.byte + length bytes; line = at.line + (n - 1); column = c })
    (position_after (front ++ bytes))
moved-position front bytes at n c g e f =
    let byte : at.byte ≡ length front = ap (λ (a : TextPosition). a.byte) g in
    let line : at.line ≡ line_at Lf front (length front) = ap (λ (a : TextPosition). a.line) g in
    let whole = length-append front bytes in
    let ends = lf-ends front bytes in
    same-position _ _ _ _ _ _ (omega (arith, byte, whole)) (omega (arith, line, ends, e)) f

-- a position has no greater line and column than it has bytes before it
pub line-within : (front : List ℕ) (at : TextPosition) → at ≡ position_after front → at.line ≤ length front + 1
line-within front at g =
    let line : at.line ≡ line_at Lf front (length front) = ap (λ (a : TextPosition). a.line) g in
    let ends = ends-within front (length front) in
    omega (arith, line, ends)

pub before-within : (bytes : List ℕ) (b : ℕ) → b ≡ bytes_before Lf (take (length bytes) bytes) → b ≤ length bytes
before-within bytes b e =
    let is : b ≡ bytes_before Lf bytes = e ∙ ap (bytes_before Lf) (take-length bytes) in
    let most = suffix_len-le-length (λ b. not (breaks Lf b)) bytes in
    omega (arith, is, most)

pub column-within : (front : List ℕ) (at : TextPosition) → at ≡ position_after front → at.column ≤ length front + 1
column-within front at g =
    let column : at.column ≡ bytes_before Lf front + 1 = ap (λ (a : TextPosition). a.column) g in
    let before = suffix_len-le-length (λ b. not (breaks Lf b)) front in
    omega (arith, column, before)
