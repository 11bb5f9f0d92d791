-- The pattern of an expression, one equation for each variant.
-- Serves: check_peg
use Rattle.std.proofs.Common.{◌≡◌, ℕ, Bool, false, List, get_or, Vec, Box, Global, sym, ap, ◌∙◌}
use Rattle.pegread.specs.Pattern as p
use Rattle.pegread.specs.PegViews.{pattern_of, patterns_of, node_pattern}
use Rattle.pegread.specs.declared.expr.Expr.{Expr}
use Rattle.pegread.specs.declared.expr.Expr.TheOpen.{Expr-F}
use Rattle.pegread.specs.declared.expr.Expr.TheFolds.{fold-roll-Expr}
use Rattle.pegread.specs.declared.expr.Expr.TheVariants.{Any, Bytes, Set, Name, Seq, Choice, Star, Plus, Opt, And, Not}
use Rattle.pegread.specs.declared.expr.Expr.TheVariants.{Act, Open, Close, rolls-Any, rolls-Bytes, rolls-Set}
use Rattle.pegread.specs.declared.expr.Expr.TheVariants.{rolls-Name, rolls-Seq, rolls-Choice, rolls-Star, rolls-Plus}
use Rattle.pegread.specs.declared.expr.Expr.TheVariants.{rolls-Opt, rolls-And, rolls-Not, rolls-Act, rolls-Open}
use Rattle.pegread.specs.declared.expr.Expr.TheVariants.{rolls-Close}

pub pattern-Any : pattern_of Any ≡ p.Any
pattern-Any = ap pattern_of (sym rolls-Any) ∙ fold-roll-Expr p.Pattern node_pattern Expr-F.Any

pub pattern-Bytes : (bytes : Vec ℕ Global) → pattern_of (Bytes bytes) ≡ p.Bytes bytes.items
pattern-Bytes bytes = ap pattern_of (sym (rolls-Bytes bytes))
    ∙ fold-roll-Expr p.Pattern node_pattern (Expr-F.Bytes bytes)

pub pattern-Set : (members : List Bool) → pattern_of (Set members) ≡ p.Set (λ b. get_or members b false)
pattern-Set members = ap pattern_of (sym (rolls-Set members))
    ∙ fold-roll-Expr p.Pattern node_pattern (Expr-F.Set members)

pub pattern-Name : (name : Vec ℕ Global) → pattern_of (Name name) ≡ p.Name name.items
pattern-Name name = ap pattern_of (sym (rolls-Name name)) ∙ fold-roll-Expr p.Pattern node_pattern (Expr-F.Name name)

pub pattern-Seq : (members : Vec Expr Global) → pattern_of (Seq members) ≡ p.Seq (patterns_of members.items)
pattern-Seq members = ap pattern_of (sym (rolls-Seq members))
    ∙ fold-roll-Expr p.Pattern node_pattern (Expr-F.Seq members)

pub pattern-Choice : (alternatives : Vec Expr Global) → pattern_of (Choice alternatives)
    ≡ p.Choice (patterns_of alternatives.items)
pattern-Choice alternatives = ap pattern_of (sym (rolls-Choice alternatives))
    ∙ fold-roll-Expr p.Pattern node_pattern (Expr-F.Choice alternatives)

pub pattern-Star : (operand : Box Expr Global) → pattern_of (Star operand) ≡ p.Star (pattern_of operand.value)
pattern-Star operand = ap pattern_of (sym (rolls-Star operand))
    ∙ fold-roll-Expr p.Pattern node_pattern (Expr-F.Star operand)

pub pattern-Plus : (operand : Box Expr Global) → pattern_of (Plus operand) ≡ p.Plus (pattern_of operand.value)
pattern-Plus operand = ap pattern_of (sym (rolls-Plus operand))
    ∙ fold-roll-Expr p.Pattern node_pattern (Expr-F.Plus operand)

pub pattern-Opt : (operand : Box Expr Global) → pattern_of (Opt operand) ≡ p.Opt (pattern_of operand.value)
pattern-Opt operand = ap pattern_of (sym (rolls-Opt operand))
    ∙ fold-roll-Expr p.Pattern node_pattern (Expr-F.Opt operand)

pub pattern-And : (operand : Box Expr Global) → pattern_of (And operand) ≡ p.And (pattern_of operand.value)
pattern-And operand = ap pattern_of (sym (rolls-And operand))
    ∙ fold-roll-Expr p.Pattern node_pattern (Expr-F.And operand)

pub pattern-Not : (operand : Box Expr Global) → pattern_of (Not operand) ≡ p.Not (pattern_of operand.value)
pattern-Not operand = ap pattern_of (sym (rolls-Not operand))
    ∙ fold-roll-Expr p.Pattern node_pattern (Expr-F.Not operand)

pub pattern-Act : (template : Vec ℕ Global) → pattern_of (Act template) ≡ p.Act template.items
pattern-Act template = ap pattern_of (sym (rolls-Act template))
    ∙ fold-roll-Expr p.Pattern node_pattern (Expr-F.Act template)

pub pattern-Open : pattern_of Open ≡ p.Open
pattern-Open = ap pattern_of (sym rolls-Open) ∙ fold-roll-Expr p.Pattern node_pattern Expr-F.Open

pub pattern-Close : pattern_of Close ≡ p.Close
pattern-Close = ap pattern_of (sym rolls-Close) ∙ fold-roll-Expr p.Pattern node_pattern Expr-F.Close
