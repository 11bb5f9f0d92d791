-- The lines of a rule: the first one begins it, and none of the others begins with a letter after the margin.
-- Serves: join_texts, joined_reading
use Rattle.std.proofs.Common.{◌≡◌, ℕ, zero, suc, ◌+◌, ◌<◌, ◌≤◌, ◌&&◌, ◌||◌, Bool, true, false, not, nat_lt, List}
use Rattle.std.proofs.Common.{[], ◌∷◌, take, refl, arith, inl, inr}
use Rattle.std.proofs.lemmas.Bool.{cases_Bool}
use Rattle.std.proofs.lemmas.List.{length-take, take-take}
use Rattle.abnfblocks.specs.TextLines.{NumberedLine}
use Rattle.abnfblocks.specs.RuleLines.{begins_comment, begins_inner, margin_of}
use Rattle.abnfblocks.specs.RuleCuts.{IsCut, belongs, first_rule, is_empty_line, margin_at, more_lines, opens_rule}
use Rattle.abnfblocks.specs.RuleCuts.{rule_size}
use Rattle.abnftexts.proofs.ClearLinesLemmas.{IsClear}
use Rattle.abnftexts.proofs.EachLemmas.{Each, each_none, each_next, each-take}

-- a rule of that margin may go on with the line
abbrev pub may_go_on : ℕ → NumberedLine → Bool
may_go_on m line = is_empty_line line || begins_comment line.bytes || nat_lt m (margin_of line.bytes)
    || begins_inner line.bytes

pub record OwnLines (margin : ℕ) (lines : List NumberedLine) : Type 0 where
  pub line : NumberedLine
  pub others : List NumberedLine
  pub whole : lines ≡ line ∷ others
  pub opens : opens_rule line ≡ true
  pub margin_is : margin_of line.bytes ≡ margin
  pub goes : Each (λ other. may_go_on margin other ≡ true) others
  pub clear : Each IsClear lines

goes-weaker : (x a b c d e : Bool) → (not x && (a || b || c || (d && e))) ≡ true → (a || b || c || d) ≡ true
goes-weaker true a b c d e h = cc
goes-weaker false true b c d e h = refl
goes-weaker false false true c d e h = refl
goes-weaker false false false true d e h = refl
goes-weaker false false false false true e h = refl
goes-weaker false false false false false e h = cc

belongs-goes : (m : ℕ) (before line : NumberedLine) → belongs m before line ≡ true → may_go_on m line ≡ true
belongs-goes m before line e =
    goes-weaker (opens_rule line) (is_empty_line line) (begins_comment line.bytes) (nat_lt m (margin_of line.bytes))
    (begins_inner line.bytes) (not (is_empty_line before)) e

each-goes : (m : ℕ) (before : NumberedLine) (lines : List NumberedLine) (k : ℕ) → k ≤ more_lines m before lines
    → Each (λ other. may_go_on m other ≡ true) (take k lines)
each-goes m before lines zero le = each_none
each-goes m before [] (suc k) le = each_none
each-goes m before (line ∷ lines) (suc k) le = elim (cases_Bool (belongs m before line)) [
  | inl e ↦
      let size : more_lines m before (line ∷ lines) ≡ 1 + more_lines m line lines = rw e refl in
      each_next (belongs-goes m before line e) (each-goes m line lines k (omega (arith, le, size)))
  | inr e ↦ absurd (let none : more_lines m before (line ∷ lines) ≡ 0 = rw e refl in omega (arith, le, none))
]

-- the lines of a cut are those from the first one on
pub cut-lines : (line : NumberedLine) (lines : List NumberedLine) (n : ℕ) → IsCut (first_rule (line ∷ lines)) n
    → take n (first_rule (line ∷ lines)) ≡ take n (line ∷ lines)
cut-lines line lines n cut =
    let within = cut.within in
    take-take n (rule_size (line ∷ lines)) (line ∷ lines)
    (omega (arith, within, length-take (rule_size (line ∷ lines)) (line ∷ lines)))

own-taken : (line : NumberedLine) (lines : List NumberedLine) (n : ℕ) → opens_rule line ≡ true → 0 < n
    → n ≤ rule_size (line ∷ lines) → Each IsClear (line ∷ lines)
    → OwnLines (margin_at (take n (line ∷ lines))) (take n (line ∷ lines))
own-taken line lines zero opens some within clear = absurd (omega (arith, some))
own-taken line lines (suc k) opens some within clear = record {
  line = line;
  others = take k lines;
  whole = refl;
  opens = opens;
  margin_is = refl;
  goes = each-goes (margin_of line.bytes) line lines k (omega (arith, within));
  clear = each-take (suc k) clear;
}

-- the lines of a cut are those of a rule
pub own-lines : (line : NumberedLine) (lines : List NumberedLine) (n : ℕ) → opens_rule line ≡ true
    → IsCut (first_rule (line ∷ lines)) n → Each IsClear (line ∷ lines)
    → OwnLines (margin_at (take n (line ∷ lines))) (take n (line ∷ lines))
own-lines line lines n opens cut clear =
    let within = cut.within in
    own-taken line lines n opens cut.some
    (omega (arith, within, length-take (rule_size (line ∷ lines)) (line ∷ lines))) clear

pub first-margin : (line : NumberedLine) (lines : List NumberedLine) (n : ℕ) → 0 < n
    → margin_of line.bytes ≡ margin_at (take n (line ∷ lines))
first-margin line lines zero lt = absurd (omega (arith, lt))
first-margin line lines (suc n) lt = refl
