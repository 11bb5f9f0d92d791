-- The first piece of a template with escapes.
use Rattle.std.specs.Prelude.{◌≡◌, ℕ, ◌<◌, List, ◌∷◌, length}
use Rattle.pegnodes.specs.Templates.{Piece, Word, Other}
use Rattle.pegmatch.specs.TemplateEscapes.{escaped_pieces}
use Rattle.pegmatch.specs.declared.escapes.FrontPiece.{FrontPiece}
use Rattle.pegmatch.specs.declared.escapes.FrontPiece.TheVariants as front

-- the piece that the code's stands for
abbrev pub piece_of : FrontPiece → Piece
piece_of (front.Word run) = Word run.now
piece_of (front.Other byte) = Other byte

-- the first piece of a text, and what follows it
pub record IsFirstPiece (text : List ℕ) (piece : Piece) (rest : List ℕ) : Type 0 where
  pub is : escaped_pieces text ≡ piece ∷ escaped_pieces rest
  pub shorter : length rest < length text
