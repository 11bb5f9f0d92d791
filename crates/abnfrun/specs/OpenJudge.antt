-- A grammar that judges lines, and what it judges them by.
use Rattle.std.specs.Prelude.{◌≡◌, ℕ, ◌+◌, List, Bool, true, false, Option, IfSome}
use Rattle.abnfread.specs.AbnfViews.{rules_of}
use Rattle.abnfread.specs.Element.{Rule}
use Rattle.abnfcheck.specs.AbnfGrammar.{Grammar}
use Rattle.flatgrammar.specs.Flat.{Flat}
use Rattle.lowering.specs.Lowered.{IsLowered}
use Rattle.lowering.specs.GivenPrefixes.{GivesPrefixes}
use Rattle.abnfrun.specs.JudgedAlike.{AreJudgedAlike}
use Rattle.refusedlines.specs.PrunedGrammars.{IsPrunedOf}
use Rattle.refusedlines.specs.declared.pruned.PrunedGrammar.{PrunedGrammar}
use Rattle.ruletable.specs.Letters.{has}
use Rattle.ruletable.specs.declared.alphabet.Alphabet.{Alphabet}

-- a grammar, what the symbols of a line are, whether the longest viable prefix is asked for, how many items the sets of
-- a line may have, and how many bytes a line may have
pub record OpenJudge : Type 0 where
  pub grammar : Grammar
  pub letters : Alphabet
  pub viable : Bool
  pub budget : Option ℕ
  pub limit : ℕ

-- The flat grammar is that of the grammar, for what is asked of lines. The automaton, if there is one, judges alike.
pub record IsReadyFor (grammar : Grammar) (letters : Alphabet) (viable : Bool) (flat : Flat) (automaton : Option Flat)
    : Type 0 where
  pub lowered : viable ≡ false → IsLowered (rules_of grammar.rules) grammar.judged flat
  pub prefixes : viable ≡ true → GivesPrefixes (has letters) (rules_of grammar.rules) grammar.judged flat
  pub alike : IfSome automaton (AreJudgedAlike (has letters) viable flat)

-- The productive parts of the rules, with a flat grammar for lines of one symbol more than so many. They explain
-- rejected lines of so many.
pub record ExplainsLines (rules : List Rule) (judged : ℕ) (letters : Alphabet) (limit : ℕ) (pruned : PrunedGrammar)
    : Type 0 where
  pub longer : pruned.flat.limit ≡ limit + 1
  pub parts : IsPrunedOf letters rules judged pruned
