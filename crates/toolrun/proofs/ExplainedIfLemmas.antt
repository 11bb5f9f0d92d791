-- What explains where it is asked, and nothing where it is not.
-- Serves: run_peg, run_abnf (right), run_lines, one_statement, one_statement_of_abnf
use Rattle.std.proofs.Common.{◌≡◌, ℕ, Bool, true, false, List, [], refl, sym, ◌∙◌}
use Rattle.toolrun.specs.Explained.{ExplainedIf}

pub if_asked : (asked : Bool) (Why : List ℕ → Type 0) (why : List ℕ) → asked ≡ true → Why why
    → ExplainedIf asked Why why
if_asked true Why why is w = w
if_asked false Why why is w = absurd (cc)

pub if_not_asked : (asked : Bool) (Why : List ℕ → Type 0) → asked ≡ false → ExplainedIf asked Why []
if_not_asked true Why is = absurd (cc)
if_not_asked false Why is = refl

-- where it is not asked there is no text
pub not_asked_nothing : (asked : Bool) (Why : List ℕ → Type 0) (why : List ℕ) → asked ≡ false
    → ExplainedIf asked Why why → why ≡ []
not_asked_nothing true Why why is reported = absurd (cc)
not_asked_nothing false Why why is reported = reported

-- what explains is one text, where what is reported if it is asked is one
pub if-explained : (asked : Bool) (Why : List ℕ → Type 0) → ((a b : List ℕ) → Why a → Why b → a ≡ b)
    → (a b : List ℕ) → ExplainedIf asked Why a → ExplainedIf asked Why b → a ≡ b
if-explained true Why one a b g h = one a b g h
if-explained false Why one a b g h = g ∙ sym h
