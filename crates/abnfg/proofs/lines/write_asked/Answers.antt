-- The lines are those of the mode; or none is written.
use Rattle.std.proofs.Common.{[], Option, arith, subst}
use Rattle.std.specs.Prelude.{IfSome}
use Rattle.abnfread.specs.AbnfViews.{rules_of}
use Rattle.abnfg.proofs.ReturnedLinesLemmas.{none_first}
use Rattle.abnfg.proofs.WrittenLinesLemmas.{none_kept}
use Rattle.abnfg.specs.ListModes.{HasReturned}
use Rattle.abnfg.specs.declared.source.LineSource.{LineSource}
use Rattle.ruletable.proofs.AppendsLemmas.{Appends-same}
use Rattle.abnfg.proofs.lines.write_asked.Goals as goal

pub returns-in-Ok-Some-clause-lines : goal.returns-in-Ok-Some-clause-lines
returns-in-Ok-Some-clause-lines g c =
    let s = c.args.settings.now in
    let rules = rules_of c.args.grammar.now.rules in
    let id = c.args.grammar.now.judged in
    c.write_lines.ensures.lines rules id
    (subst (λ (o : Option LineSource). IfSome o (λ source. HasReturned s rules id source [])) c.in-Ok-Some.field-0-is
    c.in-Ok-Some.ensures) (none_kept s c.args.kept.now.items c.requires.none)

pub returns-in-Ok-None-clause-lines : goal.returns-in-Ok-None-clause-lines
returns-in-Ok-None-clause-lines g c =
    let s = c.args.settings.now in (
      [],
      (
        none_first s (rules_of c.args.grammar.now.rules) c.args.grammar.now.judged s.mode,
        none_kept s c.args.kept.now.items c.requires.none,
      ),
      omega arith,
      Appends-same (g.O.Sink.contents c.args.out.now),
    )

pub returns-in-Err-clause-lines : goal.returns-in-Err-clause-lines
returns-in-Err-clause-lines g c =
    let s = c.args.settings.now in (
      [],
      (
        none_first s (rules_of c.args.grammar.now.rules) c.args.grammar.now.judged s.mode,
        none_kept s c.args.kept.now.items c.requires.none,
      ),
      omega arith,
      Appends-same (g.O.Sink.contents c.args.out.now),
    )
