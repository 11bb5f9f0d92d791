-- The command is a simple one, and its words give a limit and a grammar.
use Rattle.std.proofs.Common.{◌∙◌, ap, codes, refl}
use Rattle.clap.specs.Words.{is_simple, is_simple_and_free}
use Rattle.cli.proofs.AreWholeLemmas.{tool_whole}
use Rattle.abnfi.proofs.command.AbnfiProgram.follows.Goals as goal

pub returns : goal.returns
returns c = record {
  simple = λ app is. ap is_simple is.8;
  free = λ app is. ap is_simple_and_free is.8;
  whole = λ m by. tool_whole by.1.0 (codes "abnfi") _ refl refl refl by.2 (by.3 ∙ by.1.8) m by.4;
}
