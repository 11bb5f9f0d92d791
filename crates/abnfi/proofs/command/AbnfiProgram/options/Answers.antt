-- Each option is read as it stands.
use Rattle.std.proofs.Common.{◌∙◌, ap, codes}
use Rattle.abnfi.specs.AbnfiCommand.{printed_named}
use Rattle.clap.specs.Words.{found_of}
use Rattle.clap.proofs.WalkLemmas.{first_value-rows}
use Rattle.abnfi.proofs.command.AbnfiProgram.options.Goals as goal

pub returns : goal.returns
returns c = record {
  letters = c.letters_of.ensures;
  viable = c.is_given.ensures;
  nul = c.is_given-2.ensures;
  keeps = c.is_given-3.ensures;
  printed = c.printed_of.ensures
      ∙ ap printed_named (first_value-rows (found_of c.args.matches.now) (codes "print"));
  named = c.is_given-4.ensures;
  numbered = c.is_given-5.ensures;
  quiet = c.is_given-6.ensures;
  line_buffered = c.is_given-7.ensures;
  budget = c.budget_of.ensures;
}
