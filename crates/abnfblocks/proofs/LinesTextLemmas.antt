-- The text of lines, line by line.
-- Serves: find_rules
use Rattle.std.proofs.Common.{◌≡◌, ℕ, ◌+◌, ◌<◌, ◌≤◌, List, [], ◌∷◌, ◌++◌, length, map, take, get_or, sym, ap, ◌∙◌}
use Rattle.std.proofs.Common.{append-nil}
use Rattle.std.proofs.lemmas.Grind.{flat_map-append, take_at_read}
use Rattle.std.proofs.lemmas.List.{take_all, map-append}
use Rattle.abnfblocks.specs.TextLines.{NumberedLine, numbered}
use Rattle.abnfblocks.specs.declared.rfctext.text_line.TextLine.{TextLine}
use Rattle.abnfblocks.specs.RuleCuts.{lines_text, cut_line}

pub one-line_more : (margin : ℕ) (lines : List TextLine) (i : ℕ) (d : TextLine) (before text : List ℕ)
    → i < length lines → before ≡ lines_text margin (map numbered (take i lines))
    → text ≡ before ++ cut_line margin (numbered (get_or lines i d))
    → text ≡ lines_text margin (map numbered (take (i + 1) lines))
one-line_more margin lines i d before text lt so_far more =
    let e : text ≡ lines_text margin (map numbered (take i lines)) ++ cut_line margin (numbered (get_or lines i d)) =
    more ∙ ap (λ (z : List ℕ). z ++ cut_line margin (numbered (get_or lines i d))) so_far in
    let row = numbered (get_or lines i d) in
    let rows : map numbered (take (i + 1) lines) ≡ map numbered (take i lines) ++ row ∷ [] =
    ap (λ (xs : List TextLine). map numbered xs) (take_at_read lines i d lt).1
    ∙ map-append numbered (take i lines) (get_or lines i d ∷ []) in
    let whole : lines_text margin (map numbered (take (i + 1) lines))
    ≡ lines_text margin (map numbered (take i lines)) ++ cut_line margin row =
    ap (λ (xs : List NumberedLine). lines_text margin xs) rows
    ∙ flat_map-append (cut_line margin) (map numbered (take i lines)) (row ∷ [])
    ∙ ap (λ (z : List ℕ). lines_text margin (map numbered (take i lines)) ++ z) (append-nil (cut_line margin row)) in
    e ∙ sym whole

pub all-lines : (margin : ℕ) (lines : List TextLine) (i : ℕ) (text : List ℕ) → length lines ≤ i
    → text ≡ lines_text margin (map numbered (take i lines)) → text ≡ lines_text margin (map numbered lines)
all-lines margin lines i text le e =
    e ∙ ap (λ (xs : List TextLine). lines_text margin (map numbered xs)) (take_all i lines le)
