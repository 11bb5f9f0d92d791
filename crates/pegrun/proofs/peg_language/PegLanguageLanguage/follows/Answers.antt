-- What is stated is what a text's grammar was read, checked, printed or run for.
use Rattle.std.proofs.Common.{[]}
use Rattle.pegrun.specs.Answers.{refused, unexplained, noted, checked, runs, cut_notes, again, cut_again}
use Rattle.pegrun.specs.Answers.{printed, no_memory}
use Rattle.pegrun.specs.Units.{none}
use Rattle.pegrun.proofs.SomeReplyLemmas.{units_go_on}
use Rattle.pegread.specs.PegViews.{rules_of}
use Rattle.pegrun.proofs.WhyStoppedLemmas.{some_reported}
use Rattle.pegrun.proofs.peg_language.PegLanguageLanguage.follows.Goals as goal

pub returns : goal.returns
returns c = record {
  refused = λ text settings input fault why is other reported. refused fault why is other reported;
  unexplained = λ text settings input fault is other asked. unexplained fault is other asked;
  within = λ text peg is. let reads = is.1 in reads.within;
  within_checked = λ text start notes rules judged is. is.reads.within;
  no_memory = λ text settings input within. no_memory within;
  noted = λ text settings input notes reported rules is reports other.
      noted is.definitions notes reported is.reads is.are_notes reports is.accepted other;
  checked = λ text settings input notes reported rules judged is reports check.
      checked is.definitions notes reported is.reads is.are_notes reports is.accepted.0 check;
  run = λ text settings input notes reported sound reply is reports run states.
      let kept = is.rules in
      runs is.definitions notes reported sound.start reply is.reads is.are_notes reports is.accepted run is.start_rule
      (rw kept at states);
  replies = λ text settings input notes sound is.
      let goes = units_go_on sound settings input is.sound_grammar 0 [] none in
      let reported = some_reported (rules_of sound.rules) sound.start settings input goes.reply goes.replies in
      (reported.0, reported.1);
  cut_notes = λ text settings input notes reported rules judged is cut other.
      cut_notes is.definitions notes reported is.reads is.are_notes cut other;
  again = λ text settings input peg notes reported is some reports print.
      again is.definitions notes reported is.reads is.are_again reports some print;
  cut_again = λ text settings input peg notes reported is some cut print.
      cut_again is.definitions notes reported is.reads is.are_again cut print;
  printed = λ text settings input peg is print.
      let kept = is.kept in rw kept (printed is.definitions is.reads is.are_again print);
}
