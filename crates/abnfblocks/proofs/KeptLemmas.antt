-- What the lines so far leave, and the lines that stay of those to come.
-- Serves: read_lines
use Rattle.std.proofs.Common.{◌≡◌, ℕ, Bool, true, false, ◌||◌, ◌&&◌, List, [], ◌∷◌, ◌++◌, refl, sym, ap, ◌∙◌}
use Rattle.std.proofs.Common.{append_assoc, cond}
use Rattle.abnfblocks.specs.Furniture.{kinds_of}
use Rattle.abnfblocks.specs.KeptSteps.{is_blank_kind, goes_after, next_after, cut_blanks, after_line}
use Rattle.abnfblocks.specs.TextLines.{NumberedLine}
use Rattle.abnfblocks.specs.declared.rfctext.before.Before.{Before}
use Rattle.abnfblocks.specs.declared.rfctext.before.Before.TheVariants.{Text, Mark, Head}
use Rattle.abnfblocks.specs.declared.rfctext.line_kind.LineKind.{LineKind}
use Rattle.abnfblocks.specs.declared.rfctext.line_kind.LineKind.TheVariants.{Blank, Feed, Foot, Dated, Other}
use Rattle.abnfblocks.proofs.CutBlanksLemmas.{cut-push_blank, cut-push_other, cut-cut}

-- whether but for blank lines a form feed or a foot comes next
abbrev pub at_mark : List LineKind → Bool
at_mark [] = false
at_mark (Blank ∷ kinds) = at_mark kinds
at_mark (Feed ∷ kinds) = true
at_mark (Foot ∷ kinds) = true
at_mark (Dated ∷ kinds) = false
at_mark (Other ∷ kinds) = false

abbrev pub goes_here : Before → LineKind → List LineKind → Bool
goes_here before kind after = goes_after before kind || (is_blank_kind kind && at_mark after)

-- the lines that stay of those to come
abbrev pub kept_after : Before → List NumberedLine → List NumberedLine
kept_after before [] = []
kept_after before (line ∷ lines) = cond (goes_here before line.kind (kinds_of lines))
    (kept_after (next_after before line.kind) lines) (line ∷ kept_after (next_after before line.kind) lines)

-- and after those that the lines so far left
abbrev pub all_kept : Before → List NumberedLine → List NumberedLine → List NumberedLine
all_kept before kept lines = cond (at_mark (kinds_of lines)) (cut_blanks kept) kept ++ kept_after before lines

-- after furniture no blank line is left at the end
abbrev pub IsClean : Before → List NumberedLine → Type 0
IsClean Text kept = Unit {0}
IsClean Mark kept = cut_blanks kept ≡ kept
IsClean Head kept = cut_blanks kept ≡ kept

abbrev line_of : ℕ → List ℕ → LineKind → NumberedLine
line_of n z k = record { number = n; bytes = z; kind = k }

either-same : (b : Bool) (kept : List NumberedLine) → cut_blanks kept ≡ kept → cond b (cut_blanks kept) kept ≡ kept
either-same true kept e = e
either-same false kept e = refl

cut-either : (b : Bool) (kept : List NumberedLine)
    → cond b (cut_blanks (cut_blanks kept)) (cut_blanks kept) ≡ cut_blanks kept
cut-either true kept = cut-cut kept
cut-either false kept = refl

pushed-either : (b : Bool) (kept more : List NumberedLine) (line : NumberedLine) → is_blank_kind line.kind ≡ false
    → kept ++ (line ∷ more) ≡ cond b (cut_blanks (kept ++ line ∷ [])) (kept ++ line ∷ []) ++ more
pushed-either b kept more line e =
    let same = either-same b (kept ++ line ∷ []) (cut-push_other kept line e) in
    sym (ap (λ (t : List NumberedLine). t ++ more) same ∙ append_assoc kept (line ∷ []) more)

pushed-blank : (b : Bool) (kept more : List NumberedLine) (line : NumberedLine) → is_blank_kind line.kind ≡ true
    → cond b (cut_blanks kept) kept ++ cond b more (line ∷ more)
    ≡ cond b (cut_blanks (kept ++ line ∷ [])) (kept ++ line ∷ []) ++ more
pushed-blank true kept more line e = ap (λ (t : List NumberedLine). t ++ more) (sym (cut-push_blank kept line e))
pushed-blank false kept more line e = sym (append_assoc kept (line ∷ []) more)

step-kept : (before : Before) (kind : LineKind) (n : ℕ) (z : List ℕ) (kept lines : List NumberedLine)
    → IsClean before kept → all_kept before kept (line_of n z kind ∷ lines)
    ≡ all_kept (next_after before kind) (after_line before kept (line_of n z kind)) lines
step-kept before Feed n z kept lines clean =
    ap (λ (t : List NumberedLine). t ++ kept_after Mark lines) (sym (cut-either (at_mark (kinds_of lines)) kept))
step-kept before Foot n z kept lines clean =
    ap (λ (t : List NumberedLine). t ++ kept_after Mark lines) (sym (cut-either (at_mark (kinds_of lines)) kept))
step-kept Text Blank n z kept lines clean =
    pushed-blank (at_mark (kinds_of lines)) kept (kept_after Text lines) (line_of n z Blank) refl
step-kept Mark Blank n z kept lines clean = refl
step-kept Head Blank n z kept lines clean = refl
step-kept Text Dated n z kept lines clean =
    pushed-either (at_mark (kinds_of lines)) kept (kept_after Text lines) (line_of n z Dated) refl
step-kept Head Dated n z kept lines clean =
    pushed-either (at_mark (kinds_of lines)) kept (kept_after Text lines) (line_of n z Dated) refl
step-kept Mark Dated n z kept lines clean =
    ap (λ (t : List NumberedLine). t ++ kept_after Head lines)
    (sym (either-same (at_mark (kinds_of lines)) kept clean))
step-kept before Other n z kept lines clean =
    pushed-either (at_mark (kinds_of lines)) kept (kept_after Text lines) (line_of n z Other) refl

-- one more line leaves what stays of all as it is
pub line-keeps_all : (before : Before) (kept : List NumberedLine) (line : NumberedLine) (lines : List NumberedLine)
    → IsClean before kept
    → all_kept before kept (line ∷ lines) ≡ all_kept (next_after before line.kind) (after_line before kept line) lines
line-keeps_all before kept line lines clean = step-kept before line.kind line.number line.bytes kept lines clean

step-clean : (before : Before) (kind : LineKind) (n : ℕ) (z : List ℕ) (kept : List NumberedLine) → IsClean before kept
    → IsClean (next_after before kind) (after_line before kept (line_of n z kind))
step-clean before Feed n z kept clean = cut-cut kept
step-clean before Foot n z kept clean = cut-cut kept
step-clean Text Blank n z kept clean = tt
step-clean Mark Blank n z kept clean = clean
step-clean Head Blank n z kept clean = clean
step-clean Text Dated n z kept clean = tt
step-clean Head Dated n z kept clean = tt
step-clean Mark Dated n z kept clean = clean
step-clean before Other n z kept clean = tt

pub line-keeps_clean : (before : Before) (kept : List NumberedLine) (line : NumberedLine) → IsClean before kept
    → IsClean (next_after before line.kind) (after_line before kept line)
line-keeps_clean before kept line clean = step-clean before line.kind line.number line.bytes kept clean
