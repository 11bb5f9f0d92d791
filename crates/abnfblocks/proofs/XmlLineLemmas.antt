-- The text that is read of an XML text, line by line.
-- Serves: source_text
use Rattle.std.proofs.Common.{◌≡◌, ℕ, List, [], ◌∷◌, ◌++◌, length, arith, append-nil, append_assoc, sym, ap, ◌∙◌}
use Rattle.std.proofs.Common.{Err, IfOk, Ok, Result}
use Rattle.std.specs.List.{flat_map}
use Rattle.abnfblocks.specs.TextLines.{line_parts}
use Rattle.abnfblocks.specs.XmlLines.{shown_part}

-- one line more is read
pub part-more : (rest after first out new all : List ℕ) → line_parts rest ≡ first ∷ line_parts after
    → new ≡ out ++ shown_part first → out ++ flat_map shown_part (line_parts rest) ≡ all
    → new ++ flat_map shown_part (line_parts after) ≡ all
part-more rest after first out new all parts pushed so_far =
    let there : flat_map shown_part (line_parts rest) ≡ shown_part first ++ flat_map shown_part (line_parts after) =
    ap (λ (ps : List (List ℕ)). flat_map shown_part ps) parts in
    ap (λ (xs : List ℕ). xs ++ flat_map shown_part (line_parts after)) pushed
    ∙ append_assoc out (shown_part first) (flat_map shown_part (line_parts after))
    ∙ ap (λ (xs : List ℕ). out ++ xs) (sym there) ∙ so_far

-- no line is left
pub no-part : (rest out all : List ℕ) → length rest ≡ 0
    → out ++ flat_map shown_part (line_parts rest) ≡ all → out ≡ all
no-part [] out all none so_far = sym (append-nil out) ∙ so_far
no-part (b ∷ rest) out all none so_far = absurd (omega (arith, none))

-- what holds of a result, where something else follows from it
pub ok-holds : {T E : Type 0} (P Q : T → Type 0) (r : Result T E) → ((x : T) → P x → Q x) → IfOk r P → IfOk r Q
ok-holds P Q (Ok x) more h = more x h
ok-holds P Q (Err e) more h = tt
