-- The text of notes.
-- Serves: run_tool, run_peg, run_abnf (right)
use Rattle.std.proofs.Common.{◌≡◌, ◌≢◌, ℕ, List, [], ◌∷◌, ◌++◌, map, refl, ap, zero, suc, get_or, take, length, ◌<◌}
use Rattle.std.proofs.Common.{sym, ◌∙◌, append_assoc, append-nil, arith, drop, Option}
use Rattle.std.specs.Io.KnownBytes.{Appends}
use Rattle.std.specs.List.{flat_map}
use Rattle.ruletable.proofs.AppendsLemmas.{Appends-join, AppendsPart-first, AppendsPart-join}
use Rattle.ruletable.specs.Notes.{note_text, said_of}
use Rattle.ruletable.specs.Writing.{AppendsPart}
use Rattle.ruletable.specs.declared.note.Note.{Note}
use Rattle.toolrun.specs.NotesText.{notes_text}

pub text-of-notes : (notes : List Note) → notes_text (map said_of notes) ≡ flat_map (λ n. note_text (said_of n)) notes
text-of-notes [] = refl
text-of-notes (n ∷ notes) = ap (λ (t : List ℕ). note_text (said_of n) ++ t) (text-of-notes notes)

-- notes say something
pub some_said : (notes : List Note) → 0 < length notes → map said_of notes ≢ []
some_said [] some e = absurd (omega (arith, some))
some_said (note ∷ notes) some e = absurd (cc)

-- one piece more
pub flat_map-next : {X A : Type 0} (f : X → List A) (xs : List X) (i : ℕ) (x : X) → x ≡ get_or xs i x → i < length xs
    → flat_map f (take (suc i) xs) ≡ flat_map f (take i xs) ++ f x
flat_map-next f [] i x is lt = absurd (omega (arith, lt))
flat_map-next f (y ∷ ys) zero x is lt = ap (λ (z : _). f z ++ []) (sym is) ∙ append-nil (f x)
flat_map-next f (y ∷ ys) (suc i) x is lt = ap (λ (t : List _). f y ++ t) (flat_map-next f ys i x is (omega arith))
    ∙ sym (append_assoc (f y) (flat_map f (take i ys)) (f x))

-- the lines of the first notes, and those of the others
pub lines-split : (n : ℕ) (notes : List Note) → notes_text (map said_of notes)
    ≡ notes_text (map said_of (take n notes)) ++ notes_text (map said_of (drop n notes))
lines-split zero notes = refl
lines-split (suc n) [] = refl
lines-split (suc n) (note ∷ notes) = ap (λ (t : List ℕ). note_text (said_of note) ++ t) (lines-split n notes)
    ∙ sym (append_assoc (note_text (said_of note)) (notes_text (map said_of (take n notes)))
    (notes_text (map said_of (drop n notes))))

-- the lines of the notes before the rest have been written
abbrev pub Wrote : Option (List ℕ) → Option (List ℕ) → List Note → List Note → Type 0
Wrote old new notes rest = (done : List ℕ) × Appends old new done
    × (notes_text (map said_of notes) ≡ done ++ notes_text (map said_of rest))

module _ (a b c : Option (List ℕ)) (notes rest : List Note) (n : ℕ) (w : Wrote a b notes rest) where
  -- the lines before the rest, and then those of a block of it
  block-split : notes_text (map said_of notes)
      ≡ (w.0 ++ notes_text (map said_of (take n rest))) ++ notes_text (map said_of (drop n rest))
  block-split = w.2 ∙ ap (λ (t : List ℕ). w.0 ++ t) (lines-split n rest)
      ∙ sym (append_assoc w.0 (notes_text (map said_of (take n rest))) (notes_text (map said_of (drop n rest))))

  pub wrote_block : Appends b c (notes_text (map said_of (take n rest))) → Wrote a c notes (drop n rest)
  wrote_block h = (w.0 ++ notes_text (map said_of (take n rest)), Appends-join a b c _ _ w.1 h, block-split)

  pub wrote_prefix : AppendsPart b c (notes_text (map said_of (take n rest)))
      → AppendsPart a c (notes_text (map said_of notes))
  wrote_prefix h = rw block-split (AppendsPart-first a c _ _ (AppendsPart-join a b c _ _ w.1 h))
