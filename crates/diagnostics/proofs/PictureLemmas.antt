-- A picture, piece by piece.
-- Serves: push_picture
use Rattle.std.proofs.Common.{◌≡◌, ℕ, ◌-◌, List, ◌++◌, length, replicate, ap, ◌∙◌, arith, append_assoc}
use Rattle.std.proofs.Common.{length-append}

pub pieces-join : (o margin front line gap low all sp left right nl caret : List ℕ) (width : ℕ) → margin ≡ o ++ sp
    → front ≡ margin ++ left → line ≡ front ++ right → gap ≡ line ++ nl → low ≡ gap ++ replicate width 32
    → all ≡ low ++ caret → width ≡ length front - length margin →
    all ≡ o ++ (sp ++ (left ++ (right ++ (nl ++ (replicate (length left) 32 ++ caret)))))
pieces-join o margin front line gap low all sp left right nl caret width a b c d e f g =
    let w : width ≡ length left = omega (arith, ap length b, length-append margin left) in
    let h : all ≡ (((((o ++ sp) ++ left) ++ right) ++ nl) ++ replicate (length left) 32) ++ caret =
    rw (f, e, d, c, b, a, w) in
    h ∙ simp append_assoc
