-- How steps of a writer join, and how those of a reader do.
-- Serves: write_pieces, write_whole
use Rattle.std.proofs.Common.{◌≡◌, ℕ, ◌+◌, Option, Some, None, List, [], ◌∷◌, ◌++◌, length, take, drop, refl, sym, ◌∙◌}
use Rattle.std.proofs.Common.{ap, append_assoc, arith, ◌<◌, suc, zero, get_or, length-append, length-take}
use Rattle.std.specs.List.{flat_map}
use Rattle.std.proofs.Math.Seq.{take-add}
use Rattle.std.proofs.lemmas.List.{take-append-drop, append-nil}
use Rattle.std.specs.Io.KnownBytes.{Appends, Consumes, Keeps}
use Rattle.std.specs.Prelude.{Result, Ok, Err}
use Rattle.ruletable.specs.Writing.{IsPrefixOf, IsProperPrefix, AppendsPart, Writes}

-- one step after another
pub Appends-join : (a b c : Option (List ℕ)) (xs ys : List ℕ) → Appends a b xs → Appends b c ys → Appends a c (xs ++ ys)
Appends-join None b c xs ys f s = tt
Appends-join (Some a) None c xs ys f s = absurd f
Appends-join (Some a) (Some b) None xs ys f s = absurd s
Appends-join (Some a) (Some b) (Some c) xs ys f s = rw (s, f, append_assoc)

-- a step that takes nothing
pub Appends-none : (a b : Option (List ℕ)) → Keeps a b → Appends a b []
Appends-none None b k = tt
Appends-none (Some a) None k = absurd k
Appends-none (Some a) (Some b) k = rw (k, append-nil)

pub Appends-kept : (a b c : Option (List ℕ)) (xs : List ℕ) → Appends a b xs → Keeps b c → Appends a c xs
Appends-kept None b c xs f k = tt
Appends-kept (Some a) None c xs f k = absurd f
Appends-kept (Some a) (Some b) None xs f k = absurd k
Appends-kept (Some a) (Some b) (Some c) xs f k = k ∙ f

pub Appends-same : (a : Option (List ℕ)) → Appends a a []
Appends-same None = tt
Appends-same (Some a) = sym (append-nil a)

pub Consumes-join : (a b c : Option (List ℕ)) (xs ys : List ℕ) → Consumes a b xs → Consumes b c ys
    → Consumes a c (xs ++ ys)
Consumes-join None b c xs ys f s = tt
Consumes-join (Some a) None c xs ys f s = absurd f
Consumes-join (Some a) (Some b) None xs ys f s = absurd s
Consumes-join (Some a) (Some b) (Some c) xs ys f s = rw (f, s, append_assoc)

-- the first `at` bytes, and then n more
pub Appends-more : (a b c : Option (List ℕ)) (at n : ℕ) (bytes : List ℕ) →
    Appends a b (take at bytes) → Appends b c (take n (drop at bytes)) → Appends a c (take (at + n) bytes)
Appends-more a b c at n bytes f s = rw (take-add at n bytes)
    (Appends-join a b c (take at bytes) (take n (drop at bytes)) f s)

-- prefixes
pub IsPrefixOf-take : (n : ℕ) (xs : List ℕ) → IsPrefixOf (take n xs) xs
IsPrefixOf-take n xs = (drop n xs, sym (take-append-drop n xs))

pub IsPrefixOf-same : (xs : List ℕ) → IsPrefixOf xs xs
IsPrefixOf-same xs = ([], sym (append-nil xs))

pub IsPrefixOf-nil : (xs : List ℕ) → IsPrefixOf [] xs
IsPrefixOf-nil xs = (xs, refl)

pub IsPrefixOf-join : (part whole more : List ℕ) → IsPrefixOf part whole → IsPrefixOf part (whole ++ more)
IsPrefixOf-join part whole more h = (h.0 ++ more, ap (λ w. w ++ more) h.1 ∙ append_assoc part h.0 more)

pub IsPrefixOf-after : (front part whole : List ℕ) → IsPrefixOf part whole
    → IsPrefixOf (front ++ part) (front ++ whole)
IsPrefixOf-after front part whole h = (h.0, ap (λ w. front ++ w) h.1 ∙ sym (append_assoc front part h.0))

pub IsPrefixOf-trans : (a b c : List ℕ) → IsPrefixOf a b → IsPrefixOf b c → IsPrefixOf a c
IsPrefixOf-trans a b c f s = (f.0 ++ s.0, s.1 ∙ ap (λ w. w ++ s.0) f.1 ∙ append_assoc a f.0 s.0)

-- proper prefixes
pub IsProperPrefix-take : (n : ℕ) (xs : List ℕ) → n < length xs → IsProperPrefix (take n xs) xs
IsProperPrefix-take n xs h = (IsPrefixOf-take n xs, simp length-take (omega arith))

pub IsProperPrefix-join : (part whole more : List ℕ) → IsProperPrefix part whole
    → IsProperPrefix part (whole ++ more)
IsProperPrefix-join part whole more h =
    (IsPrefixOf-join part whole more h.0, omega (arith, h.1, length-append whole more))

pub IsProperPrefix-after : (front part whole : List ℕ) → IsProperPrefix part whole
    → IsProperPrefix (front ++ part) (front ++ whole)
IsProperPrefix-after front part whole h = (
  IsPrefixOf-after front part whole h.0,
  omega (arith, h.1, length-append front part, length-append front whole),
)

pub IsProperPrefix-trans : (a b c : List ℕ) → IsProperPrefix a b → IsPrefixOf b c → IsProperPrefix a c
IsProperPrefix-trans a b c f s =
    let l = ap length s.1 in (IsPrefixOf-trans a b c f.0 s, omega (arith, f.1, l, length-append b s.0))

-- a whole step, and then a part of the next one
pub AppendsPart-join : (a b c : Option (List ℕ)) (xs ys : List ℕ) → Appends a b xs → AppendsPart b c ys
    → AppendsPart a c (xs ++ ys)
AppendsPart-join a b c xs ys f s = (xs ++ s.0, IsProperPrefix-after xs s.0 ys s.1, Appends-join a b c xs s.0 f s.2)

-- a part of the first of two steps
pub AppendsPart-first : (a b : Option (List ℕ)) (xs ys : List ℕ) → AppendsPart a b xs → AppendsPart a b (xs ++ ys)
AppendsPart-first a b xs ys s = (s.0, IsProperPrefix-join s.0 xs ys s.1, s.2)

-- a whole step, and then one that may fail
pub Writes-then : {A E : Type 0} (a b c : Option (List ℕ)) (xs ys : List ℕ) (r : Result A E) → Appends a b xs
    → Writes b c ys r → Writes a c (xs ++ ys) r
Writes-then a b c xs ys (Ok x) f s = Appends-join a b c xs ys f s
Writes-then a b c xs ys (Err e) f s = AppendsPart-join a b c xs ys f s

-- the pieces before one, it, and those after it
pub flat_map-at : {X A : Type 0} (f : X → List A) (xs : List X) (i : ℕ) (d : X) → i < length xs →
    flat_map f xs ≡ (flat_map f (take i xs) ++ f (get_or xs i d)) ++ flat_map f (drop (suc i) xs)
flat_map-at f [] i d h = absurd (omega arith)
flat_map-at f (x ∷ xs) zero d h = refl
flat_map-at f (x ∷ xs) (suc i) d h =
    let rest : flat_map f xs ≡ (flat_map f (take i xs) ++ f (get_or xs i d)) ++ flat_map f (drop (suc i) xs) =
    flat_map-at f xs i d (omega arith) in
    simp (rest, append_assoc)

-- the pieces before one, and a part of it
pub AppendsPart-at : {X : Type 0} (f : X → List ℕ) (xs : List X) (i : ℕ) (d : X) (a b c : Option (List ℕ))
    → i < length xs →
    Appends a b (flat_map f (take i xs)) → AppendsPart b c (f (get_or xs i d)) → AppendsPart a c (flat_map f xs)
AppendsPart-at f xs i d a b c h front part =
    rw (flat_map-at f xs i d h) (AppendsPart-first a c (flat_map f (take i xs) ++ f (get_or xs i d))
    (flat_map f (drop (suc i) xs))
    (AppendsPart-join a b c (flat_map f (take i xs)) (f (get_or xs i d)) front part))
