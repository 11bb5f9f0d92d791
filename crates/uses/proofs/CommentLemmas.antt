-- A line is a comment, or is not.
-- Serves: answer_comments
use Rattle.std.proofs.Common.{◌≡◌, ℕ, List, [], ◌∷◌, inl, inr}
use Rattle.std.proofs.lemmas.Bool.{cases_eq}
use Rattle.linejudge.specs.declared.answers.Answer.{Answer}
use Rattle.linejudge.specs.declared.answers.Answer.TheVariants.{Yes, No}
use Rattle.uses.specs.CommentLines.{IsCommentAnswer}

pub comment-answered : (line : List ℕ) → (said : Answer) × IsCommentAnswer line said
comment-answered [] = (No, λ e. cc)
comment-answered (b ∷ bytes) = elim (cases_eq b 35) [
  | inl same ↦ (Yes, cc)
  | inr other ↦ (No, λ e. let same : b ≡ 35 = cc in other same)
]
