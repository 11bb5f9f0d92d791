-- The answer to a list of symbols.
use Rattle.std.specs.Prelude.{◌≡◌, ℕ, Bool, true, false, List}
use Rattle.abnfread.specs.Element.{Rule}
use Rattle.abnfcheck.specs.Prefixes.{IsFurthest}
use Rattle.abnfcheck.specs.Derivable.{RuleDerives}
use Rattle.linejudge.specs.declared.answers.Answer.{Answer}
use Rattle.linejudge.specs.declared.answers.Answer.TheVariants.{Yes, No, NoAfter}

-- yes: the rule derives them; no: it does not, and n is given if the longest viable prefix is asked for
abbrev pub IsAnswerOn : (ℕ → Bool) → Bool → List Rule → ℕ → List ℕ → Answer → Type 0
IsAnswerOn has viable rules judged x Yes = RuleDerives has rules judged x
IsAnswerOn has viable rules judged x No = (viable ≡ false) × (RuleDerives has rules judged x → ⊥)
IsAnswerOn has viable rules judged x (NoAfter n) = (viable ≡ true) × (RuleDerives has rules judged x → ⊥)
    × IsFurthest has rules judged x n

-- the answer to a line of which these many symbols, and no more, are UTF-8, by the answer to them
abbrev pub torn : ℕ → Answer → Answer
torn count Yes = NoAfter count
torn count No = No
torn count (NoAfter n) = NoAfter n
