-- Lines that are comments.
use Prim.Native.Char.{code}
use Rattle.std.specs.Prelude.{◌≡◌, ℕ, false, List, None, Some, codes, slice_get}
use Rattle.linejudge.specs.declared.answers.Answer.{Answer}
use Rattle.linejudge.specs.declared.answers.Answer.TheVariants.{Yes, No, NoAfter}
use Rattle.linejudge.specs.declared.line.LineForm.{LineForm}
use Rattle.linejudge.specs.declared.printed.Printed.TheVariants.{Answers}

-- the line begins with `#`
abbrev pub IsComment : List ℕ → Type 0
IsComment line = slice_get line 0 ≡ Some 35

-- yes for a comment, no for any other line
abbrev pub IsCommentAnswer : List ℕ → Answer → Type 0
IsCommentAnswer line Yes = IsComment line
IsCommentAnswer line No = IsComment line → ⊥
IsCommentAnswer line (NoAfter n) = ⊥

-- lines of at most 65,536 bytes, each with an LF after it
abbrev pub comment_form : LineForm
comment_form = record {
  limit = 65536;
  end = code "\n";
  keeps = false;
  printed = Answers;
  name = None;
  numbered = false;
  stops = false;
  line_buffered = false;
}

-- what is reported of a line that is no comment
abbrev pub LacksSign : List ℕ → ℕ → List ℕ → Type 0
LacksSign line number why = why ≡ codes "a comment begins with #\n"
