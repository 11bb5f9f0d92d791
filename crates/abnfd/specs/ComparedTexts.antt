-- What is reported of the texts of two grammars.
use Rattle.std.specs.Prelude.{◌≡◌, ℕ, Bool, List, [], ◌++◌, Option, Some, None, codes}
use Rattle.abnfcheck.specs.AbnfGrammar.{Grammar}
use Rattle.abnfd.specs.AloneRefusals.{AreAskedRefusals}
use Rattle.abnfd.specs.ComparedSides.{IsSideOf}
use Rattle.abnfd.specs.ComparisonText.{comparison_text, verdict_between, verdict_status}
use Rattle.abnfread.specs.AbnfViews.{rules_of}
use Rattle.abnfread.specs.Element.{Rule}
use Rattle.ruletable.specs.Letters.{has}
use Rattle.ruletable.specs.declared.alphabet.Alphabet.{Alphabet}
use Rattle.rulelines.specs.Alone.{IsKnownOf}
use Rattle.rulelines.specs.FirstLines.{IsOfOldAlone}
use Rattle.rulelines.specs.declared.comparison.Comparison.{Comparison}
use Rattle.toolrun.specs.declared.status.Status.{Status}
use Rattle.toolrun.specs.declared.status.Status.TheVariants.{Refused}

-- what is found is known of the lines that each of two rules alone derives
pub record AreLinesKnown (alphabet : Alphabet) (old : List Rule) (old_rule : ℕ) (new : List Rule) (new_rule : ℕ)
    (found : Comparison) : Type 0 where
  pub old_alone : IsKnownOf (IsOfOldAlone (has alphabet) old old_rule new new_rule) found.old_alone
  pub new_alone : IsKnownOf (IsOfOldAlone (has alphabet) new new_rule old old_rule) found.new_alone

-- what is found is known of the lines that the compared rule of each grammar alone derives
abbrev pub IsComparison : Alphabet → Grammar → Grammar → Comparison → Type 0
IsComparison alphabet old new found = AreLinesKnown alphabet (rules_of old.rules) old.judged (rules_of new.rules)
    new.judged
    found

-- What is written on the output for two grammars, and the status: what is found of both, explained if that is asked; or
-- nothing where one of them is rejected.
pub data IsVerdictOn (explain : Bool) (alphabet : Alphabet) : Option Grammar → Option Grammar → List ℕ → Status
    → Type 0 where
  has_found : {old new : Grammar} (found : Comparison) (why : List ℕ) → IsComparison alphabet old new found
      → AreAskedRefusals explain alphabet old new found why
      → IsVerdictOn explain alphabet (Some old) (Some new) (comparison_text alphabet found ++ why)
      (verdict_status (verdict_between found.old_alone found.new_alone))
  lacks_old : (new : Option Grammar) → IsVerdictOn explain alphabet None new [] Refused
  lacks_new : (old : Option Grammar) → IsVerdictOn explain alphabet old None [] Refused

-- the report on an old grammar and the text of a new one: the messages on both, and the answer
pub record IsReportOn (explain : Bool) (alphabet : Alphabet) (new_rule : Option (List ℕ)) (old_reported : List ℕ)
    (old_grammar : Option Grammar) (new reported text : List ℕ) (status : Status) : Type 0 where
  pub new_reported : List ℕ
  pub new_grammar : Option Grammar
  pub is_new : IsSideOf (codes "new: ") new new_rule new_reported new_grammar
  pub all : reported ≡ old_reported ++ new_reported
  pub answer : IsVerdictOn explain alphabet old_grammar new_grammar text status

-- the report on the texts of two grammars
pub record AreCompared (explain : Bool) (alphabet : Alphabet) (old_rule new_rule : Option (List ℕ))
    (old new reported text : List ℕ) (status : Status) : Type 0 where
  pub old_reported : List ℕ
  pub old_grammar : Option Grammar
  pub is_old : IsSideOf (codes "old: ") old old_rule old_reported old_grammar
  pub rest : IsReportOn explain alphabet new_rule old_reported old_grammar new reported text status
