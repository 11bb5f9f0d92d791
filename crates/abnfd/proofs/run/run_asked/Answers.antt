-- The words ask for all rules and for one, or name standard input twice; or the files are compared as the rows ask.
use Rattle.std.proofs.Common.{◌∙◌, sym}
use Rattle.std.specs.Prelude.{option_copied}
use Rattle.abnfd.proofs.CompareAnswersLemmas.{asked_compared, asked_shared, asked_twice}
use Rattle.abnfd.specs.CompareAnswers.{CompareAnswers, FilesCompared, clash_text, shared_text}
use Rattle.clap.specs.Words.{found_of, rows_of}
use Rattle.toolrun.proofs.IsRightLemmas.{comes_as}
use Rattle.toolrun.specs.Plan.{IsReportedAnd}
use Rattle.toolrun.specs.Status.{code_of}
use Rattle.toolrun.specs.Stream.{no_input, passed}
use Rattle.toolrun.specs.declared.status.Status.TheVariants.{Refused}
use Rattle.toolrun.specs.declared.stop.Stop.TheVariants.{Quiet}
use Rattle.abnfd.proofs.run.run_asked.Goals as goal

pub returns-then-is_clash : goal.returns-then-is_clash
returns-then-is_clash g c = record {
  right =
      let settings = c.settings_of-settings.result in
      let asked = c.settings_of-settings.ensures in
      let f = found_of c.args.matches.now in
      comes_as (IsReportedAnd clash_text (Quiet Refused)) (CompareAnswers (rows_of f))
      (asked_twice f settings.all (option_copied settings.new_rule) asked.all asked.new_rule
      (sym c.is_clash.ensures ∙ c.if-is_clash.true)) no_input
      (passed g.O.Sink.contents g.O.Sink.failed c.args.out.now c.end_clash.new.out)
      (passed g.E.Sink.contents g.E.Sink.failed c.args.err.now c.end_clash.new.err)
      (code_of c.end_clash.result) c.end_clash.ensures.right;
}

pub returns-then-are_shared : goal.returns-then-are_shared
returns-then-are_shared g c = record {
  right =
      let settings = c.settings_of-settings.result in
      let asked = c.settings_of-settings.ensures in
      let f = found_of c.args.matches.now in
      comes_as (IsReportedAnd shared_text (Quiet Refused)) (CompareAnswers (rows_of f))
      (asked_shared f settings.all (option_copied settings.new_rule) asked.all asked.new_rule
      (sym c.is_clash.ensures ∙ c.if-is_clash.false) (sym c.are_shared.ensures ∙ c.if-are_shared.true)) no_input
      (passed g.O.Sink.contents g.O.Sink.failed c.args.out.now c.end_shared.new.out)
      (passed g.E.Sink.contents g.E.Sink.failed c.args.err.now c.end_shared.new.err)
      (code_of c.end_shared.result) c.end_shared.ensures.right;
}

pub returns : goal.returns
returns g c = record {
  right =
      let settings = c.settings_of-settings.result in
      let asked = c.settings_of-settings.ensures in
      let f = found_of c.args.matches.now in
      comes_as (FilesCompared settings.all settings.explain settings.letters
      (option_copied settings.old_rule) (option_copied settings.new_rule)) (CompareAnswers (rows_of f))
      (asked_compared f settings.all (option_copied settings.new_rule) asked.all asked.new_rule settings.explain
      settings.letters (option_copied settings.old_rule) asked.explain asked.letters asked.old_rule
      (sym c.is_clash.ensures ∙ c.if-is_clash.false) (sym c.are_shared.ensures ∙ c.if-are_shared.false)) no_input
      (passed g.O.Sink.contents g.O.Sink.failed c.args.out.now c.compare_files.new.out)
      (passed g.E.Sink.contents g.E.Sink.failed c.args.err.now c.compare_files.new.err)
      (code_of c.compare_files.result) c.compare_files.ensures.right;
}
