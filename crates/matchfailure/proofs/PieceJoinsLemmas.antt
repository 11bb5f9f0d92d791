-- Pieces of a text, one after the other.
-- Serves: explain_no_match, explain_long_unit
use Rattle.std.proofs.Common.{◌≡◌, ℕ, List, [], ◌++◌, refl, ◌∙◌, append_assoc}

pub five-pieces : (o a b c d e u v w x y : List ℕ) → a ≡ o ++ u → b ≡ a ++ v → c ≡ b ++ w → d ≡ c ++ x → e ≡ d ++ y
    → e ≡ o ++ (u ++ (v ++ (w ++ (x ++ y))))
five-pieces o a b c d e u v w x y f g h k l =
    let whole : e ≡ ((((o ++ u) ++ v) ++ w) ++ x) ++ y = rw (l, k, h, g, f) refl in
    whole ∙ simp append_assoc

pub five-only : (o a b c d e u v w x y : List ℕ) → o ≡ [] → a ≡ o ++ u → b ≡ a ++ v → c ≡ b ++ w → d ≡ c ++ x
    → e ≡ d ++ y → e ≡ u ++ (v ++ (w ++ (x ++ y)))
five-only o a b c d e u v w x y z f g h k l =
    let whole : e ≡ (((u ++ v) ++ w) ++ x) ++ y = rw (l, k, h, g, f, z) refl in
    whole ∙ simp append_assoc

pub six-pieces : (o a b c d e f u v w x y z : List ℕ) → a ≡ o ++ u → b ≡ a ++ v → c ≡ b ++ w → d ≡ c ++ x → e ≡ d ++ y
    → f ≡ e ++ z → f ≡ o ++ (u ++ (v ++ (w ++ (x ++ (y ++ z)))))
six-pieces o a b c d e f u v w x y z g h i j k l =
    let whole : f ≡ (((((o ++ u) ++ v) ++ w) ++ x) ++ y) ++ z = rw (l, k, j, i, h, g) refl in
    whole ∙ simp append_assoc

pub ten-pieces : (o a b c d e f g h i j q r s t u v w x y z : List ℕ) → a ≡ o ++ q → b ≡ a ++ r → c ≡ b ++ s
    → d ≡ c ++ t → e ≡ d ++ u → f ≡ e ++ v → g ≡ f ++ w → h ≡ g ++ x → i ≡ h ++ y → j ≡ i ++ z
    → j ≡ o ++ (q ++ (r ++ (s ++ (t ++ (u ++ (v ++ (w ++ (x ++ (y ++ z)))))))))
ten-pieces o a b c d e f g h i j q r s t u v w x y z aa bb cc' dd ee ff gg hh ii jj =
    let whole : j ≡ (((((((((o ++ q) ++ r) ++ s) ++ t) ++ u) ++ v) ++ w) ++ x) ++ y) ++ z =
    rw (jj, ii, hh, gg, ff, ee, dd, cc', bb, aa) refl in
    whole ∙ simp append_assoc
