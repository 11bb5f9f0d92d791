-- Each function makes the arguments of its parameters.
use Rattle.std.proofs.Common.{◌≡◌, Result, false, subst, sym}
use Rattle.std.specs.Prelude.{IfOk}
use Rattle.clap.specs.Words.{rule_of}
use Rattle.clap.specs.declared.builder.arg.Arg.{Arg}
use Rattle.cli.specs.Command.{parameter_rule}
use Rattle.cli.specs.declared.command.Parameter.{Parameter}
use Rattle.cli.proofs.command.arg_of.Goals as goal

abbrev IsArgOf : Parameter → Arg → Type 0
IsArgOf parameter a = (rule_of a ≡ parameter_rule parameter) × (a.global ≡ false)

arg_by : {E : Type 0} (p q : Parameter) (r : Result Arg E) → p ≡ q → IfOk r (IsArgOf q) → IfOk r (IsArgOf p)
arg_by p q r is made = subst (λ (v : Parameter). IfOk r (IsArgOf v)) (sym is) made

arg_at : (p q : Parameter) (a : Arg) → p ≡ q → IsArgOf q a → IsArgOf p a
arg_at p q a is made = subst (λ (v : Parameter). IsArgOf v a) (sym is) made

pub returns-in-Flag : goal.returns-in-Flag
returns-in-Flag c = arg_by c.args.parameter _ c.flag_arg.result c.in-Flag.is c.flag_arg.ensures

pub returns-in-LongFlag : goal.returns-in-LongFlag
returns-in-LongFlag c = arg_at c.args.parameter _ c.long_flag_arg.result c.in-LongFlag.is
    (c.long_flag_arg.ensures.rule, c.long_flag_arg.ensures.global)

pub returns-in-Text : goal.returns-in-Text
returns-in-Text c = arg_by c.args.parameter _ c.value_arg.result c.in-Text.is c.value_arg.ensures

pub returns-in-Choice : goal.returns-in-Choice
returns-in-Choice c = arg_by c.args.parameter _ c.choice_arg.result c.in-Choice.is c.choice_arg.ensures

pub returns-in-Number : goal.returns-in-Number
returns-in-Number c = arg_by c.args.parameter _ c.number_arg.result c.in-Number.is c.number_arg.ensures

pub returns-in-Operand : goal.returns-in-Operand
returns-in-Operand c = arg_at c.args.parameter _ c.operand_arg.result c.in-Operand.is
    (c.operand_arg.ensures.rule, c.operand_arg.ensures.global)

pub returns-in-Operands : goal.returns-in-Operands
returns-in-Operands c = arg_at c.args.parameter _ c.operands_arg.result c.in-Operands.is
    (c.operands_arg.ensures.rule, c.operands_arg.ensures.global)
