use Rattle.std.proofs.Common.{◌≡◌, [], true, false, arith, sym}
use Rattle.std.proofs.lemmas.Grind.{common_steps}
use Rattle.std.proofs.lemmas.List.{append-nil}
use Rattle.diagnostics.specs.NearNames.{meant_reported}
use Rattle.abnfrun.proofs.AbnfExplainedNotesLemmas.{meant_none, meant_some}
use Rattle.abnfrun.proofs.note_positions.push_near.Goals as goal

pub returns-then-not-branch : goal.returns-then-not-branch
returns-then-not-branch c = λ rules given are many.
    let late : c.in_ok-is_early.field-0 ≡ false = grind (arith, common_steps) in (
      [],
      meant_none rules given c.args.chains.now c.args.name.now c.args.count c.in_ok-is_early.field-0 are many
          c.in_ok-is_early.ensures late,
      sym (append-nil c.args.out.now.items),
    )

pub returns : goal.returns
returns c = λ rules given are many.
    let soon : c.in_ok-is_early.field-0 ≡ true = grind (arith, common_steps) in
    let w = c.in_ok-push_meant.ensures in (
      meant_reported w.0,
      meant_some rules given c.args.chains.now c.args.name.now c.args.count c.in_ok-is_early.field-0 are many
          c.in_ok-is_early.ensures w.0 soon w.1,
      w.2,
    )
