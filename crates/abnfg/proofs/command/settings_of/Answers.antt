-- Each option is read as it stands.
use Rattle.std.proofs.Common.{◌∙◌, ap, codes}
use Rattle.clap.specs.Words.{found_of}
use Rattle.clap.proofs.WalkLemmas.{first_value-rows}
use Rattle.abnfg.specs.ListWords.{mode_of_name}
use Rattle.abnfg.proofs.command.settings_of.Goals as goal

pub returns : goal.returns
returns c = record {
  mode = c.mode_of.ensures ∙ ap mode_of_name (first_value-rows (found_of c.args.matches.now) (codes "mode"));
  rule = c.get_str.ensures ∙ first_value-rows (found_of c.args.matches.now) (codes "rule");
  letters = c.letters_of.ensures;
  limit = c.number_of.ensures;
  count = c.number_of-2.ensures;
  nul = c.is_given.ensures;
  alike = c.is_given-2.ensures;
  edges = c.is_given-3.ensures;
  explain = c.is_given-4.ensures;
  seed = c.seed_of.ensures;
}
