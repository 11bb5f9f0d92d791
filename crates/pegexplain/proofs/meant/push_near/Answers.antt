use Rattle.std.proofs.Common.{◌≡◌, [], true, false, arith, sym, ◌∙◌, append-nil, option_copied}
use Rattle.std.proofs.lemmas.Grind.{common_steps}
use Rattle.diagnostics.specs.NearNames.{meant_reported}
use Rattle.pegexplain.proofs.MeantRulesLemmas.{late-reported, near-reported}
use Rattle.pegexplain.proofs.meant.push_near.Goals as goal

pub returns-then-not-branch : goal.returns-then-not-branch
returns-then-not-branch c = λ text are.
    let start = option_copied c.args.start in
    let late : c.in_ok-is_early_name.field-0 ≡ false = grind (arith, common_steps) in (
      [],
      late-reported text start c.args.positions.now c.args.name.now are
          (sym c.in_ok-is_early_name.ensures ∙ late),
      sym (append-nil c.args.out.now.items),
    )

pub returns : goal.returns
returns c = λ text are.
    let start = option_copied c.args.start in
    let soon : c.in_ok-is_early_name.field-0 ≡ true = grind (arith, common_steps) in
    let w = c.in_ok-push_meant.ensures in (
      meant_reported w.0,
      near-reported text start c.args.positions.now c.args.name.now are c.len.result w.0 c.len.ensures.len
          (sym c.in_ok-is_early_name.ensures ∙ soon) w.1,
      w.2,
    )
