-- The texts of goals, piece by piece.
-- Serves: abnfg_main (right)
use Rattle.std.proofs.Common.{◌≡◌, ℕ, zero, suc, ◌<◌, ◌≤◌, List, [], ◌∷◌, ◌++◌, length, refl, sym, ◌∙◌, ap}
use Rattle.std.proofs.Common.{append_assoc, arith, get_or, Option, None, Some}
use Rattle.abnfg.specs.CoverGoals.{alternative_of, element_or}
use Rattle.abnfread.specs.AbnfViews.{element_of, elements_of}
use Rattle.abnfread.specs.Element.{Alt, Element}
use Rattle.abnfread.specs.declared.elem.Elem.{Elem}
use Rattle.coverlines.specs.Goals.{member_at}

-- the alternative of a number
member_there : (es : List Elem) (i : ℕ) (e : Elem) → i < length es → e ≡ get_or es i e
    → member_at (elements_of es) i ≡ Some (element_of e)
member_there [] i e lt is = absurd (omega (arith, lt))
member_there (x ∷ xs) zero e lt is = ap (λ (v : Elem). Some (element_of v)) (sym is)
member_there (x ∷ xs) (suc i) e lt is = member_there xs i e (omega (arith, lt)) is

no_member : (es : List Elem) (i : ℕ) → length es ≤ i → member_at (elements_of es) i ≡ None
no_member [] i le = refl
no_member (x ∷ xs) zero le = absurd (omega (arith, le))
no_member (x ∷ xs) (suc i) le = no_member xs i (omega (arith, le))

pub alternative_there : (es : List Elem) (i : ℕ) (e : Elem) → i < length es → e ≡ get_or es i e
    → element_of e ≡ alternative_of (Alt (elements_of es)) i
alternative_there es i e lt is =
    sym (ap (λ (o : Option Element). element_or o (Alt (elements_of es))) (member_there es i e lt is))

pub no_alternative : (es : List Elem) (i : ℕ) → length es ≤ i
    → Alt (elements_of es) ≡ alternative_of (Alt (elements_of es)) i
no_alternative es i le =
    sym (ap (λ (o : Option Element). element_or o (Alt (elements_of es))) (no_member es i le))

-- texts that are added, one after another
pub three_pushed : (o a b c u v w : List ℕ) → a ≡ o ++ u → b ≡ a ++ v → c ≡ b ++ w → c ≡ o ++ (u ++ (v ++ w))
three_pushed o a b c u v w f g h =
    let whole : c ≡ ((o ++ u) ++ v) ++ w = rw (h, g, f) refl in
    whole ∙ simp append_assoc

pub five_pushed : (o a b c d e u v w x y : List ℕ) → a ≡ o ++ u → b ≡ a ++ v → c ≡ b ++ w → d ≡ c ++ x → e ≡ d ++ y
    → e ≡ o ++ (u ++ (v ++ (w ++ (x ++ y))))
five_pushed o a b c d e u v w x y f g h k l =
    let whole : e ≡ ((((o ++ u) ++ v) ++ w) ++ x) ++ y = rw (l, k, h, g, f) refl in
    whole ∙ simp append_assoc

pub six_pushed : (o a b c d e n u v w x y z : List ℕ) → a ≡ o ++ u → b ≡ a ++ v → c ≡ b ++ w → d ≡ c ++ x
    → e ≡ d ++ y → n ≡ e ++ z → n ≡ o ++ (u ++ (v ++ (w ++ (x ++ (y ++ z)))))
six_pushed o a b c d e n u v w x y z f g h k l m =
    let whole : n ≡ (((((o ++ u) ++ v) ++ w) ++ x) ++ y) ++ z = rw (m, l, k, h, g, f) refl in
    whole ∙ simp append_assoc
