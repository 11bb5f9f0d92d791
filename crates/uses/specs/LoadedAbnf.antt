-- What the text of a grammar in ABNF is loaded as.
use Rattle.std.specs.Prelude.{◌≡◌, ℕ, List, Option, MatchOption}
use Rattle.abnfread.specs.AbnfReading.{Reads}
use Rattle.abnfread.specs.Element.{Definition}
use Rattle.abnfread.specs.AbnfViews.{rules_of}
use Rattle.abnfcheck.specs.AbnfGrammar.{Grammar}
use Rattle.abnfrun.specs.AbnfNoted.{IsRefusedFor, all_rules, judged_of}

-- The text is a grammar, which is rejected; or it can judge lines by its rules, the core rules after them, from the
-- judged one.
pub record IsAbnfLoaded (text : List ℕ) (given : Option (List ℕ)) (sound : Option Grammar) : Type 0 where
  pub definitions : List Definition
  pub reads : Reads text definitions
  pub ready : MatchOption sound (IsRefusedFor definitions given)
      (λ g. (IsRefusedFor definitions given → ⊥) × (rules_of g.rules ≡ all_rules definitions)
      × (g.judged ≡ judged_of definitions given))
