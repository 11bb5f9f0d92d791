-- What a command is after its parameters are added.
-- Serves: program_command, tool_command
use Rattle.std.proofs.Common.{◌≡◌, ◌∙◌, ◌+◌, ◌<◌, ◌++◌, ◌∷◌, [], ℕ, List, ap, append-nil, length, map}
use Rattle.std.proofs.Common.{Bool, Option, Some, false, slice_index_or, sym, take}
use Rattle.std.specs.Borrow.{Bor}
use Rattle.std.specs.Prelude.{Result, IfOk}
use Rattle.std.proofs.lemmas.List.{append_assoc, map-append, take_more}
use Rattle.clap.specs.Words.{AddsAliases, AddsArg, App, Rule, Text, app_of, new_rule, rule_of, with_rule}
use Rattle.clap.specs.declared.builder.arg.Arg.{Arg}
use Rattle.clap.specs.declared.builder.command.Command.{Command}
use Rattle.clap.specs.declared.builder.value_parser.ValueParser.{ValueParser}
use Rattle.cli.specs.Command.{AreModes, Names, option_rule, tool_app, with_rules}

-- a letter, and the id as an alias
pub option_made : (id : Bor Text) (letter : ℕ) (new short a : Arg) → rule_of new ≡ new_rule id.now
    → short ≡ record new { short = Some letter } → AddsAliases short a ((id, false) ∷ [])
    → rule_of a ≡ option_rule id.now letter
option_made id letter new short a is with_letter added =
    let text = λ (alias : Bor Text × Bool). alias.0.now in
    ap rule_of added.0
    ∙ ap (λ (v : List Text). record (rule_of short) { aliases = v })
    (ap (map text) added.1 ∙ map-append text short.aliases.items ((id, false) ∷ []))
    ∙ ap (λ (r : Rule). record r { aliases = r.aliases ++ id.now ∷ [] })
    (ap rule_of with_letter ∙ ap (λ (r : Rule). record r { short = Some letter }) is)

-- what a parser is made of
pub parsed_by : (a b : Arg) (p : ValueParser) → b ≡ record a { value_parser = b.value_parser }
    → (q : ValueParser) × (b.value_parser ≡ Some q) × (q ≡ p) → b ≡ record a { value_parser = Some p }
parsed_by a b p others given = others
    ∙ ap (λ (v : Option ValueParser). record a { value_parser = v })
    (given.1 ∙ ap (λ (q : ValueParser). Some q) given.2)

pub arg_made : (old new : Command) (a : Arg) (rule : Rule) → rule_of a ≡ rule → a.global ≡ false → AddsArg old a new
    → app_of new ≡ with_rule (app_of old) rule
arg_made old new a rule is local added = added.shape local ∙ ap (with_rule (app_of old)) is

abbrev ruled : App → List Rule → App
ruled app rules = record app { top = record app.top { rules = rules } }

pub rules_none : (app : App) → app ≡ with_rules app []
rules_none app = ap (ruled app) (sym (append-nil app.top.rules))

pub rules_more : {P : Type 0} (rule : P → Rule) (app : App) (ps : List P) (i : ℕ) (d : P) (old new : Command)
    → i < length ps → app_of new ≡ with_rule (app_of old) (rule (slice_index_or ps i d))
    → app_of old ≡ with_rules app (map rule (take i ps)) → app_of new ≡ with_rules app (map rule (take (i + 1) ps))
rules_more rule app ps i d old new low added so_far =
    let r = rule (slice_index_or ps i d) in
    let taken : map rule (take (i + 1) ps) ≡ map rule (take i ps) ++ r ∷ [] =
    ap (map rule) (take_more ps i d low) ∙ map-append rule (take i ps) (slice_index_or ps i d ∷ []) in
    added ∙ ap (λ (x : App). with_rule x r) so_far
    ∙ ap (ruled app) (append_assoc app.top.rules (map rule (take i ps)) (r ∷ []))
    ∙ ap (with_rules app) (sym taken)

-- the names of the modes, from the command that both tools have
pub tool_made : {E : Type 0} (both own : Result Command E) (modes : Names) (name : Text) (rules : List Rule)
    → IfOk both (λ c. app_of c ≡ tool_app modes name []) → AreModes modes
    → IfOk own (λ c. app_of c ≡ tool_app modes name rules)
    → (names : Names) × AreModes names × IfOk own (λ c. app_of c ≡ tool_app names name rules)
tool_made both own modes name rules made are is = (modes, are, is)
