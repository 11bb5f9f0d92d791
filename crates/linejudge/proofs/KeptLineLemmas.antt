-- What is judged of a line that has an end.
-- Serves: run_lines; answers_as_a_run of abnfrun
use Rattle.std.proofs.Common.{◌≡◌, ℕ, ◌+◌, ◌≤◌, Bool, true, false, cond, List, [], ◌∷◌, ◌++◌, length, take}
use Rattle.std.proofs.Common.{sym, ◌∙◌, arith, append_assoc, length-append}
use Rattle.std.proofs.lemmas.List.{take_all, take-append-le}
use Rattle.linejudge.specs.InputLines.{kept_line, kept_size}
use Rattle.linejudge.specs.declared.line.LineForm.{LineForm}

-- a list before another one is as many of its first bytes
take_front : (n : ℕ) (xs front after : List ℕ) → xs ≡ front ++ after → length front ≡ n → take n xs ≡ front
take_front n xs front after cut size =
    rw cut (take-append-le n front after (omega (arith, size)) ∙ take_all n front (omega (arith, size)))

kept_by : (keeps : Bool) (end n : ℕ) (xs line after : List ℕ) → xs ≡ line ++ end ∷ after → length line ≡ n
    → take (cond keeps (n + 1) n) xs ≡ cond keeps (line ++ end ∷ []) line
kept_by true end n xs line after cut size =
    take_front (n + 1) xs (line ++ end ∷ []) after (cut ∙ sym (append_assoc line (end ∷ []) after))
    (omega (arith, size, length-append line (end ∷ [])))
kept_by false end n xs line after cut size = take_front n xs line (end ∷ after) cut size

-- the first bytes of a text whose first line has an end
pub kept_is : (form : LineForm) (n : ℕ) (xs line after : List ℕ) → xs ≡ line ++ form.end ∷ after → length line ≡ n
    → take (kept_size form n) xs ≡ kept_line form line
kept_is form = kept_by form.keeps form.end

-- no more bytes than with the end
size_by : (keeps : Bool) (n : ℕ) → cond keeps (n + 1) n ≤ n + 1
size_by true n = omega arith
size_by false n = omega arith

pub kept_most : (form : LineForm) (n : ℕ) → kept_size form n ≤ n + 1
kept_most form = size_by form.keeps

-- a shorter line has no more of them
within_by : (keeps : Bool) (n limit : ℕ) → n ≤ limit → cond keeps (n + 1) n ≤ cond keeps (limit + 1) limit
within_by true n limit le = omega (arith, le)
within_by false n limit le = le

pub kept_within : (form : LineForm) (n limit : ℕ) → n ≤ limit → kept_size form n ≤ kept_size form limit
kept_within form = within_by form.keeps

-- a line is within a limit if what is judged of it is
short_by : (keeps : Bool) (end limit : ℕ) (line : List ℕ)
    → length (cond keeps (line ++ end ∷ []) line) ≤ cond keeps (limit + 1) limit → length line ≤ limit
short_by true end limit line le = omega (arith, le, length-append line (end ∷ []))
short_by false end limit line le = le

pub kept_short : (form : LineForm) (line : List ℕ) (limit : ℕ) → length (kept_line form line) ≤ kept_size form limit
    → length line ≤ limit
kept_short form line limit = short_by form.keeps form.end limit line
