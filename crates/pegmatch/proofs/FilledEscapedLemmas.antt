-- A template with escapes that is written piece by piece.
-- Serves: write_event
use Rattle.std.proofs.Common.{◌≡◌, ℕ, Bool, false, List, [], ◌∷◌, ◌++◌, Option, sym, ◌∙◌, ap, subst, append_assoc}
use Rattle.std.specs.Io.KnownBytes.{Appends}
use Rattle.std.specs.List.{flat_map}
use Rattle.ruletable.specs.Writing.{AppendsPart}
use Rattle.ruletable.proofs.AppendsLemmas.{Appends-join, AppendsPart-join, AppendsPart-first}
use Rattle.pegnodes.specs.Templates.{Piece, filled_piece, trimmed}
use Rattle.pegmatch.specs.FirstPieces.{IsFirstPiece}
use Rattle.pegmatch.specs.TemplateEscapes.{filled_escaped, printed_escaped}

-- what was written of a text's pieces, and what its rest still gives
abbrev pub ArePiecesWritten : Option (List ℕ) → Option (List ℕ) → List ℕ → List ℕ → List ℕ → Type 0
ArePiecesWritten old new text capture rest = (done : List ℕ) × Appends old new done
    × (done ++ filled_escaped rest capture ≡ filled_escaped text capture)

module _ (old mid new : Option (List ℕ)) (text capture rest after : List ℕ) (piece : Piece)
    (first : IsFirstPiece rest piece after) (are : ArePiecesWritten old mid text capture rest) where
  filled_first : filled_escaped rest capture ≡ filled_piece capture piece ++ filled_escaped after capture
  filled_first = ap (λ (pieces : List Piece). flat_map (filled_piece capture) pieces) first.is

  filled_all : (are.0 ++ filled_piece capture piece) ++ filled_escaped after capture ≡ filled_escaped text capture
  filled_all = append_assoc are.0 (filled_piece capture piece) (filled_escaped after capture)
      ∙ ap (λ (v : List ℕ). are.0 ++ v) (sym filled_first) ∙ are.2

  pub piece_written : Appends mid new (filled_piece capture piece) → ArePiecesWritten old new text capture after
  piece_written one = (
    are.0 ++ filled_piece capture piece,
    Appends-join old mid new are.0 (filled_piece capture piece) are.1 one,
    filled_all,
  )

  pub piece_fault : AppendsPart mid new (filled_piece capture piece) → AppendsPart old new (filled_escaped text capture)
  piece_fault part = subst (λ (v : List ℕ). AppendsPart old new v) filled_all
      (AppendsPart-first old new (are.0 ++ filled_piece capture piece) (filled_escaped after capture)
      (AppendsPart-join old mid new are.0 (filled_piece capture piece) are.1 part))

-- a part of what is written of a trimmed template is a part of what its action prints
pub line_fault : (old new : Option (List ℕ)) (raw : Bool) (text middle capture : List ℕ) → raw ≡ false
    → middle ≡ trimmed text → AppendsPart old new (filled_escaped middle capture)
    → AppendsPart old new (printed_escaped raw text capture)
line_fault old new raw text middle capture cooked is part =
    rw cooked (subst (λ (v : List ℕ). AppendsPart old new (filled_escaped v capture ++ 10 ∷ [])) is
    (AppendsPart-first old new (filled_escaped middle capture) (10 ∷ []) part))
