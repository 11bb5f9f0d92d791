-- Lines were written, and why no more are; or the output failed.
use Rattle.std.proofs.Common.{List, Vec, Global, ℕ, subst}
use Rattle.abnfread.specs.AbnfViews.{rules_of}
use Rattle.abnfg.proofs.ListedReplyLemmas.{cut_fulfils, halt_fulfils}
use Rattle.abnfg.specs.ListedLines.{HaltEnds}
use Rattle.abnfg.specs.ListRefusals.{AreRefusalsFrom}
use Rattle.abnfrun.specs.AbnfReply.{unit_for}
use Rattle.rulelines.specs.MissLists.{item_lines}
use Rattle.abnfg.proofs.lines.list_source.Goals as goal

pub returns-in-Ok : goal.returns-in-Ok
returns-in-Ok g c =
    let s = c.args.settings.now in
    let rules = rules_of c.args.grammar.now.rules in
    let id = c.args.grammar.now.judged in
    halt_fulfils s rules id c.write_asked.new.kept.items _ _ _ _ c.requires.mode c.in-Ok.halt c.ending_of.result
    c.in-Ok.ensures.lines
    (subst (λ (v : List (Vec ℕ Global)). HaltEnds (AreRefusalsFrom (unit_for s.nul) s.letters rules id 1 (item_lines v))
    c.in-Ok.halt c.ending_of.result) c.deref.ensures.value c.ending_of.ensures) c.in-Ok.ensures.flag

pub returns : goal.returns
returns g c =
    cut_fulfils c.args.settings.now (rules_of c.args.grammar.now.rules) c.args.grammar.now.judged
    c.write_asked.new.kept.items _ _ _ _ c.in-Err.fault c.in-Err.ensures.lines c.in-Err.ensures.flag
