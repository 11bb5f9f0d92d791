-- The first hints as they are reported, of those that the code shows, and how many more there are.
-- Serves: abnf_hints
use Rattle.std.proofs.Common.{◌≡◌, ℕ, ◌+◌, ◌-◌, ◌<◌, min, get_or, add-one, List, [], ◌∷◌, ◌++◌, length, take, map}
use Rattle.std.proofs.Common.{refl, sym, ap, ◌∙◌, append_assoc, arith}
use Rattle.std.proofs.lemmas.List.{append-nil, map-append, take-map, take_min, length-map}
use Rattle.std.proofs.lemmas.Grind.{flat_map-append}
use Rattle.std.proofs.Math.Seq.{take-suc}
use Rattle.std.specs.List.{flat_map}
use Rattle.diagnostics.specs.NoteLines.{more_reported}
use Rattle.abnfhints.specs.AbnfHints.{reported_first}
use Rattle.abnfhints.specs.declared.hints.TheConstants.{MAX_HINTS}

-- those that the code shows, and the rest
pub first_join : {H A : Type 0} (view : H → A) (reported : A → List ℕ) (xs : List H) (k : ℕ) (o a b : List ℕ)
    → k ≡ min (length xs) MAX_HINTS → a ≡ o ++ flat_map reported (map view (take k xs))
    → b ≡ a ++ more_reported (length xs - k) → b ≡ o ++ reported_first reported (map view xs)
first_join view reported xs k o a b is f g =
    let l = length-map xs view in
    let turned : k ≡ min MAX_HINTS (length xs) = omega (arith, is) in
    let shown : map view (take k xs) ≡ take MAX_HINTS (map view xs) =
    ap (λ (n : ℕ). map view (take n xs)) turned ∙ ap (map view) (take_min MAX_HINTS xs)
    ∙ sym (take-map view MAX_HINTS xs)
    in
    let left : length xs - k ≡ length (map view xs) - MAX_HINTS = omega (arith, l, is) in
    g ∙ ap (λ l. l ++ more_reported (length xs - k)) f
    ∙ append_assoc o (flat_map reported (map view (take k xs))) (more_reported (length xs - k))
    ∙ ap (λ l. o ++ (flat_map reported l ++ more_reported (length xs - k))) shown
    ∙ ap (λ (n : ℕ). o ++ (flat_map reported (take MAX_HINTS (map view xs)) ++ more_reported n)) left

-- pieces, one after the other
pub four_pieces : (o a b c d u v w x : List ℕ) → a ≡ o ++ u → b ≡ a ++ v → c ≡ b ++ w → d ≡ c ++ x
    → d ≡ o ++ (u ++ (v ++ (w ++ x)))
four_pieces o a b c d u v w x f g h k =
    let whole : d ≡ (((o ++ u) ++ v) ++ w) ++ x = rw (k, h, g, f) refl in
    whole ∙ simp append_assoc

pub seven_pieces : (o a b c d e f g u v w x y z t : List ℕ) → a ≡ o ++ u → b ≡ a ++ v → c ≡ b ++ w → d ≡ c ++ x
    → e ≡ d ++ y → f ≡ e ++ z → g ≡ f ++ t → g ≡ o ++ (u ++ (v ++ (w ++ (x ++ (y ++ (z ++ t))))))
seven_pieces o a b c d e f g u v w x y z t h1 h2 h3 h4 h5 h6 h7 =
    let whole : g ≡ ((((((o ++ u) ++ v) ++ w) ++ x) ++ y) ++ z) ++ t = rw (h7, h6, h5, h4, h3, h2, h1) refl in
    whole ∙ simp append_assoc

pub piece_same : (a b u v : List ℕ) → a ≡ b ++ u → u ≡ v → a ≡ b ++ v
piece_same a b u v f g = f ∙ ap (λ l. b ++ l) g

-- one more of them
pub each_next : {H A : Type 0} (view : H → A) (reported : A → List ℕ) (xs : List H) (i : ℕ) (x : H) (o a b : List ℕ)
    → i < length xs → x ≡ get_or xs i x → a ≡ o ++ flat_map reported (map view (take i xs)) → b ≡ a ++ reported (view x)
    → b ≡ o ++ flat_map reported (map view (take (i + 1) xs))
each_next view reported xs i x o a b lt is f g =
    let next : take (i + 1) xs ≡ take i xs ++ x ∷ [] = ap (λ (k : ℕ). take k xs) (add-one i) ∙ take-suc xs i x lt
    ∙ ap (λ v. take i xs ++ v ∷ []) (sym is) in
    let all : flat_map reported (map view (take (i + 1) xs))
    ≡ flat_map reported (map view (take i xs)) ++ (reported (view x) ++ []) =
    ap (λ l. flat_map reported (map view l)) next ∙ ap (flat_map reported) (map-append view (take i xs) (x ∷ []))
    ∙ flat_map-append reported (map view (take i xs)) (view x ∷ []) in
    g ∙ ap (λ l. l ++ reported (view x)) f ∙ append_assoc o (flat_map reported (map view (take i xs)))
    (reported (view x))
    ∙ ap (λ l. o ++ (flat_map reported (map view (take i xs)) ++ l)) (sym (append-nil (reported (view x))))
    ∙ ap (λ l. o ++ l) (sym all)

pub three_from_nothing : (n a b d u v w : List ℕ) → n ≡ [] → a ≡ n ++ u → b ≡ a ++ v → d ≡ b ++ w
    → d ≡ u ++ (v ++ w)
three_from_nothing n a b d u v w e f g h =
    let whole : d ≡ (([] ++ u) ++ v) ++ w = rw (h, g, f, e) refl in
    whole ∙ append_assoc u v w
