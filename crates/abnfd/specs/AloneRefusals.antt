-- Why each of two rules rejects the line that the other one alone derives.
use Rattle.std.specs.Prelude.{◌≡◌, ℕ, List, [], ◌++◌, Bool, true, false, codes}
use Rattle.abnfcheck.specs.AbnfGrammar.{Grammar}
use Rattle.abnfread.specs.AbnfViews.{rules_of}
use Rattle.ruletable.specs.declared.alphabet.Alphabet.{Alphabet}
use Rattle.refusedlines.specs.Refusals.{IsRefusalReported}
use Rattle.refusedlines.specs.declared.refusal.LineUnit.TheVariants.{Line}
use Rattle.rulelines.specs.LineBytes.{line_bytes}
use Rattle.rulelines.specs.declared.alone.Alone.{Alone}
use Rattle.rulelines.specs.declared.alone.Alone.TheVariants.{First, Never, NeverUpTo, Unknown}
use Rattle.rulelines.specs.declared.comparison.Comparison.{Comparison}

-- The text explains why the rule of a side rejects a line of symbols: as the first line of an input is explained, with
-- the name of the side in place of `line 1`.
pub record IsRefusalBy (alphabet : Alphabet) (side : List ℕ) (grammar : Grammar) (line text : List ℕ) : Type 0 where
  pub rest : List ℕ
  pub reported : IsRefusalReported Line alphabet (rules_of grammar.rules) grammar.judged (line_bytes alphabet line) 1
      (codes "line 1" ++ rest)
  pub is : text ≡ side ++ rest

-- so it does for the first line that the other rule alone derives, if that is known; else there is no text
abbrev pub IsRefusalOfAlone : Alphabet → List ℕ → Grammar → Alone → List ℕ → Type 0
IsRefusalOfAlone alphabet side grammar (First w) text = IsRefusalBy alphabet side grammar w.items text
IsRefusalOfAlone alphabet side grammar Never text = text ≡ []
IsRefusalOfAlone alphabet side grammar (NeverUpTo n) text = text ≡ []
IsRefusalOfAlone alphabet side grammar Unknown text = text ≡ []

-- the new rule rejects the line that the old one alone derives, and then the old one that of the new one
pub record AreRefusals (alphabet : Alphabet) (old new : Grammar) (found : Comparison) (text : List ℕ) : Type 0 where
  pub by_new : List ℕ
  pub by_old : List ℕ
  pub new_rejects : IsRefusalOfAlone alphabet (codes "new") new found.old_alone by_new
  pub old_rejects : IsRefusalOfAlone alphabet (codes "old") old found.new_alone by_old
  pub all : text ≡ by_new ++ by_old

-- nothing, unless explanations are asked for
abbrev pub AreAskedRefusals : Bool → Alphabet → Grammar → Grammar → Comparison → List ℕ → Type 0
AreAskedRefusals false alphabet old new found text = text ≡ []
AreAskedRefusals true alphabet old new found text = AreRefusals alphabet old new found text
