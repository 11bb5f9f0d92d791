-- The patterns that expressions stand for.
use Rattle.std.specs.Prelude.{◌≡◌, false, List, [], ◌∷◌, map, get_or}
use Rattle.ruletable.specs.Rules as table
use Rattle.pegread.specs.declared.expr.Expr.{Expr}
use Rattle.pegread.specs.declared.expr.Expr.TheOpen.{Expr-F}
use Rattle.pegread.specs.declared.expr.Expr.TheFolds.{fold-Expr}
use Rattle.pegread.specs.Pattern.{Pattern, Any, Bytes, Set, Name, Seq, Choice, Star, Plus, Opt, And, Not, Act, Open}
use Rattle.pegread.specs.Pattern.{Close, Patterns, none, more, Rule}

abbrev pub patterns : List Pattern → Patterns
patterns [] = none
patterns (e ∷ es) = more e (patterns es)

-- one node, with the pattern of each operand in its place
abbrev pub node_pattern : Expr-F Pattern → Pattern
node_pattern Expr-F.Any = Any
node_pattern (Expr-F.Bytes bytes) = Bytes bytes.items
node_pattern (Expr-F.Set members) = Set (λ b. get_or members b false)
node_pattern (Expr-F.Name name) = Name name.items
node_pattern (Expr-F.Seq members) = Seq (patterns members.items)
node_pattern (Expr-F.Choice alternatives) = Choice (patterns alternatives.items)
node_pattern (Expr-F.Star operand) = Star operand.value
node_pattern (Expr-F.Plus operand) = Plus operand.value
node_pattern (Expr-F.Opt operand) = Opt operand.value
node_pattern (Expr-F.And operand) = And operand.value
node_pattern (Expr-F.Not operand) = Not operand.value
node_pattern (Expr-F.Act template) = Act template.items
node_pattern Expr-F.Open = Open
node_pattern Expr-F.Close = Close

abbrev pub pattern_of : Expr → Pattern
pattern_of = fold-Expr Pattern node_pattern

abbrev pub patterns_of : List Expr → Patterns
patterns_of es = patterns (map pattern_of es)

-- the expression is the sequence of these items
abbrev pub IsSequence : List Expr → Expr → Type 0
IsSequence es e = pattern_of e ≡ Seq (patterns_of es)

-- the expression is the choice of these alternatives
abbrev pub IsChoice : List Expr → Expr → Type 0
IsChoice es e = pattern_of e ≡ Choice (patterns_of es)

-- a rule of a table, with the pattern of its body
abbrev pub rule_of : table.Rule Expr → Rule
rule_of rule = record { name = rule.name; body = pattern_of rule.body; span = rule.span }

abbrev pub rules_of : table.Rules Expr → List Rule
rules_of rules = map rule_of rules.rules
