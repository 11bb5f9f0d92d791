-- What a parse by a simple command comes to.
-- Serves: parse
use Rattle.std.proofs.Common.{◌≡◌, ◌∙◌, ap, subst, sym, true, List, Result, Ok, Err}
use Rattle.std.specs.Prelude.{IfOk}
use Rattle.clap.specs.Words.{App, FailsBy, HasKind, HasMatchesOf, Text, fault_of, is_simple}
use Rattle.clap.specs.Words.{is_simple_and_free, matches_of}
use Rattle.clap.specs.declared.error.Error.{Error}
use Rattle.clap.specs.declared.parser.matches.ArgMatches.{ArgMatches}
use Rattle.cli.specs.Parsing.{Parses}

-- what is said of a parse by any simple command
pub app_parses : (app made : App) (words : List Text) → made ≡ app → is_simple app ≡ true
    → is_simple_and_free app ≡ true → (r : Result ArgMatches Error) → IfOk r (HasMatchesOf made words)
    → (is_simple_and_free made ≡ true → FailsBy (fault_of made words) r) → Parses app words r
app_parses app made words is simple free (Ok m) matches fails = (
  ap (λ (a : App). fault_of a words) (sym is) ∙ fails (ap is_simple_and_free is ∙ free),
  (matches (ap is_simple is ∙ simple)).0 ∙ ap (λ (a : App). matches_of a words) is,
)
app_parses app made words is simple free (Err e) matches fails =
    subst (λ (a : App). HasKind (fault_of a words) e) is (fails (ap is_simple_and_free is ∙ free))
