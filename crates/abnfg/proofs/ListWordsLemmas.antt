-- The command of the program, from that of its parameters.
-- Serves: abnfg_command
use Prim.Native.Char.{code}
use Rattle.std.proofs.Common.{◌≡◌, ◌∙◌, ap, false, [], ◌∷◌, refl}
use Rattle.std.specs.Prelude.{IfOk, Result, codes}
use Rattle.abnfg.specs.ListWords.{IsAbnfgApp, abnfg_app, seed_rule}
use Rattle.clap.specs.Words.{AddsArg, App, app_of, rule_of, with_rule}
use Rattle.clap.specs.declared.builder.arg.Arg.{Arg}
use Rattle.clap.specs.declared.builder.command.Command.{Command}
use Rattle.cli.specs.Command.{AreAlphabets, AreNames, Names, choice_rule, flag_rule, grammar_rule, letters_rule}
use Rattle.cli.specs.Command.{number_rule, program_app, rule_rule, with_rules}

-- the command without the seed
abbrev pub unseeded_app : Names → Names → App
unseeded_app letters modes = program_app (codes "abnfg") (rule_rule
    ∷ number_rule (codes "limit") (code "l") 16777216 (codes "256")
    ∷ number_rule (codes "count") (code "c") 4294967295 (codes "1000")
    ∷ flag_rule (codes "null-data") (code "z")
    ∷ flag_rule (codes "alike") (code "a")
    ∷ flag_rule (codes "edges") (code "e")
    ∷ flag_rule (codes "explain") (code "x")
    ∷ grammar_rule
    ∷ letters_rule letters
    ∷ choice_rule (codes "mode") (code "m") modes (codes "all") ∷ [])

pub seed_added : (old new : Command) (a : Arg) → rule_of a ≡ seed_rule → a.global ≡ false → AddsArg old a new
    → app_of new ≡ with_rules (app_of old) (seed_rule ∷ [])
seed_added old new a is local added = added.shape local ∙ ap (with_rule (app_of old)) is

-- the names of the alphabets and the modes, from the command without the seed
pub app_made : {E : Type 0} (own r : Result Command E) (letters modes : Names)
    → IfOk own (λ c. app_of c ≡ unseeded_app letters modes) → AreAlphabets letters
    → AreNames (codes "all" ∷ codes "cover" ∷ codes "miss" ∷ codes "random" ∷ []) modes
    → IfOk r (λ c. app_of c ≡ with_rules (unseeded_app letters modes) (seed_rule ∷ []))
    → (app : App) × IsAbnfgApp app × IfOk r (λ c. app_of c ≡ app)
app_made own r letters modes made are named is = (abnfg_app letters modes, (letters, are, modes, named, refl), is)
