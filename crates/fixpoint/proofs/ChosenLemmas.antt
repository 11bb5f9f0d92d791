-- What marks choose of a list, and the notes that are made of it.
-- Serves: note_marked, note_undefined, check_peg, redefinitions, check_abnf (notes), run_abnf (right)
use Rattle.std.proofs.Common.{◌≡◌, ℕ, suc, ◌+◌, ◌<◌, ◌≤◌, Bool, true, false, List, [], ◌∷◌, ◌++◌, length, map, drop}
use Rattle.std.proofs.Common.{get_or, Some, refl, sym, ap, ◌∙◌, add-one, append_assoc, append-nil, drop-cons}
use Rattle.std.specs.Prelude.{slice_get}
use Rattle.std.proofs.lemmas.List.{drop_all, map-append}
use Rattle.std.proofs.lemmas.Option.{slice_get_within, get_or_from_slice_get}
use Rattle.ruletable.specs.Notes.{Said, said_of}
use Rattle.ruletable.specs.declared.note.Note.{Note}
use Rattle.fixpoint.specs.IdMarks.{chosen}

-- without marks none are chosen
pub chosen_none : {A : Type 0} (xs : List A) → chosen [] xs ≡ []
chosen_none [] = refl
chosen_none (x ∷ xs) = refl

-- what is chosen of the values of f
pub chosen-map : {X Y : Type 0} (f : X → Y) (marks : List Bool) (xs : List X) → chosen marks (map f xs)
    ≡ map f (chosen marks xs)
chosen-map f marks [] = refl
chosen-map f [] (x ∷ xs) = refl
chosen-map f (true ∷ marks) (x ∷ xs) = ap (λ l. f x ∷ l) (chosen-map f marks xs)
chosen-map f (false ∷ marks) (x ∷ xs) = chosen-map f marks xs

-- the first of what is left, chosen or not
left-first : {X : Type 0} (xs : List X) (i : ℕ) (x : X) → i < length xs → get_or xs i x ≡ x → drop i xs ≡ x
    ∷ drop (i + 1) xs
left-first xs i x low is = drop-cons xs i x low ∙ ap (λ y. y ∷ drop (suc i) xs) is
    ∙ ap (λ (k : ℕ). x ∷ drop k xs) (sym (add-one i))

left-mark : (marks : List Bool) (i : ℕ) (b : Bool) → i < length marks → get_or marks i false ≡ b → drop i marks ≡ b
    ∷ drop (i + 1) marks
left-mark marks i b low is = drop-cons marks i false low ∙ ap (λ t. t ∷ drop (suc i) marks) is
    ∙ ap (λ (k : ℕ). b ∷ drop k marks) (sym (add-one i))

chosen-on : {X : Type 0} (marks : List Bool) (xs : List X) (i : ℕ) (x : X) → i < length marks → i < length xs
    → get_or xs i x ≡ x → get_or marks i false ≡ true →
    chosen (drop i marks) (drop i xs) ≡ x ∷ chosen (drop (i + 1) marks) (drop (i + 1) xs)
chosen-on marks xs i x low high is on = rw (left-mark marks i true low on, left-first xs i x high is) refl

chosen-off : (marks : List Bool) (xs : List (List ℕ)) (i : ℕ) → i < length marks → i < length xs
    → get_or marks i false ≡ false →
    chosen (drop i marks) (drop i xs) ≡ chosen (drop (i + 1) marks) (drop (i + 1) xs)
chosen-off marks xs i low high off =
    rw (left-mark marks i false low off, drop-cons xs i [] high)
    (ap (λ (k : ℕ). chosen (drop (i + 1) marks) (drop k xs)) (sym (add-one i)))

-- one more note
note-more : (now new : List Note) (note : Note) (what : Said) (left all : List Said) → new ≡ now ++ note ∷ []
    → said_of note ≡ what →
    map said_of now ++ (what ∷ left) ≡ all → map said_of new ++ left ≡ all
note-more now new note what left all e is h =
    ap (λ l. l ++ left) (ap (map said_of) e ∙ map-append said_of now (note ∷ [])
    ∙ ap (λ s. map said_of now ++ s ∷ []) is)
    ∙ append_assoc (map said_of now) (what ∷ []) left ∙ h

pub note-marked : (f : List ℕ → Said) (marks : List Bool) (names : List (List ℕ)) (i : ℕ) (name : List ℕ)
    (now new : List Note) (note : Note) (all : List Said) →
    i < length marks → slice_get names i ≡ Some name → get_or marks i false ≡ true → new ≡ now ++ note ∷ []
    → said_of note ≡ f name →
    map said_of now ++ map f (chosen (drop i marks) (drop i names)) ≡ all → map said_of new
    ++ map f (chosen (drop (i + 1) marks) (drop (i + 1) names)) ≡ all
note-marked f marks names i name now new note all low at on e is h =
    note-more now new note (f name) (map f (chosen (drop (i + 1) marks) (drop (i + 1) names))) all e is
    (ap (λ l. map said_of now ++ map f l) (sym (chosen-on marks names i name low (slice_get_within names i name at)
    (get_or_from_slice_get names i name name at) on)) ∙ h)

pub note-unmarked : (f : List ℕ → Said) (marks : List Bool) (names : List (List ℕ)) (i : ℕ) (now all : List Said)
    → i < length marks → i < length names → get_or marks i false ≡ false →
    now ++ map f (chosen (drop i marks) (drop i names)) ≡ all → now
    ++ map f (chosen (drop (i + 1) marks) (drop (i + 1) names)) ≡ all
note-unmarked f marks names i now all low high off h =
    ap (λ l. now ++ map f l) (sym (chosen-off marks names i low high off)) ∙ h

pub note-next : (f : List ℕ → Said) (names : List (List ℕ)) (i : ℕ) (name : List ℕ) (now new : List Note) (note : Note)
    (all : List Said) →
    slice_get names i ≡ Some name → new ≡ now ++ note ∷ [] → said_of note ≡ f name →
    map said_of now ++ map f (drop i names) ≡ all → map said_of new ++ map f (drop (i + 1) names) ≡ all
note-next f names i name now new note all at e is h =
    note-more now new note (f name) (map f (drop (i + 1) names)) all e is
    (ap (λ l. map said_of now ++ map f l) (sym (left-first names i name (slice_get_within names i name at)
    (get_or_from_slice_get names i name name at))) ∙ h)

pub none-left : (f : List ℕ → Said) (marks : List Bool) (names : List (List ℕ)) (i : ℕ) (now all : List Said)
    → length marks ≤ i → now ++ map f (chosen (drop i marks) (drop i names)) ≡ all → now ≡ all
none-left f marks names i now all le h =
    let none : chosen (drop i marks) (drop i names) ≡ [] = ap (λ l. chosen l (drop i names)) (drop_all i marks le)
    ∙ chosen_none (drop i names) in
    sym (append-nil now) ∙ ap (λ l. now ++ map f l) (sym none) ∙ h

-- one kind of notes after another
pub one_by_one : (n a b c d e : List Said) (ka kb kc kd ke : List Said) → n ≡ [] → a ≡ n ++ ka → b ≡ a ++ kb → c ≡ b
    ++ kc → d ≡ c ++ kd → e ≡ d ++ ke →
    e ≡ ka ++ (kb ++ (kc ++ (kd ++ ke)))
one_by_one n a b c d e ka kb kc kd ke hn ha hb hc hd he = rw (he, hd, hc, hb, ha, hn) (simp append_assoc)
