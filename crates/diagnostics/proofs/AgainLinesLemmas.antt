-- The lines of definitions that do not stand, of those that the code shows.
-- Serves: explain_note
use Rattle.std.proofs.Common.{◌≡◌, ℕ, ◌-◌, min, List, [], ◌∷◌, ◌++◌, length, take, map, refl, sym, ap, ◌∙◌}
use Rattle.std.proofs.Common.{append_assoc, arith}
use Rattle.std.proofs.lemmas.List.{take-map, take_min, length-map}
use Rattle.std.specs.List.{flat_map}
use Rattle.diagnostics.specs.DefinitionHeads.{DefinedAt}
use Rattle.diagnostics.specs.declared.noteplaces.lines.TheConstants.{MAX_AGAIN}

lines-of_map : {H : Type 0} (g : H → DefinedAt) (f : DefinedAt → List ℕ) (xs : List H)
    → flat_map (λ h. f (g h)) xs ≡ flat_map f (map g xs)
lines-of_map g f [] = refl
lines-of_map g f (x ∷ xs) = ap (λ (ys : List ℕ). f (g x) ++ ys) (lines-of_map g f xs)

min-turned : (a b : ℕ) → min a b ≡ min b a
min-turned a b = omega arith

pub shown-lines : {H : Type 0} (g : H → DefinedAt) (f : DefinedAt → List ℕ) (xs : List H) (k : ℕ)
    → k ≡ min (length xs) MAX_AGAIN → flat_map (λ h. f (g h)) (take k xs) ≡ flat_map f (take MAX_AGAIN (map g xs))
shown-lines g f xs k e =
    lines-of_map g f (take k xs) ∙ ap (λ (n : ℕ). flat_map f (map g (take n xs))) (e ∙ min-turned (length xs) MAX_AGAIN)
    ∙ ap (λ ys. flat_map f (map g ys)) (take_min MAX_AGAIN xs) ∙ ap (flat_map f) (sym (take-map g MAX_AGAIN xs))

pub more-left : {H : Type 0} (g : H → DefinedAt) (xs : List H) (k : ℕ) → k ≡ min (length xs) MAX_AGAIN
    → length xs - k ≡ length (map g xs) - MAX_AGAIN
more-left g xs k e = let l = length-map xs g in omega (arith, e, l)

-- pieces, one after the other
pub five-join : (o a b c d e u v w x y : List ℕ) → a ≡ o ++ u → b ≡ a ++ v → c ≡ b ++ w → d ≡ c ++ x → e ≡ d ++ y
    → e ≡ o ++ (u ++ (v ++ (w ++ (x ++ y))))
five-join o a b c d e u v w x y f g h k l =
    let whole : e ≡ ((((o ++ u) ++ v) ++ w) ++ x) ++ y = rw (l, k, h, g, f) refl in
    whole ∙ simp append_assoc

-- both, one after the other
pub agains-join : (o a b lines more shown left : List ℕ) → a ≡ o ++ lines → lines ≡ shown → b ≡ a ++ more
    → more ≡ left → b ≡ o ++ (shown ++ left)
agains-join o a b lines more shown left f l g m = rw (g, f, l, m) (append_assoc o shown left)
