use Rattle.std.proofs.Common.{◌∙◌, ◌++◌, List, ap, map, rules, take, ℕ}
use Rattle.abnftexts.specs.CodeUses.{name_used}
use Rattle.abnftexts.specs.GivenRules.{text_rule}
use Rattle.abnftexts.proofs.UndefinedLemmas.{known-more, known-none, known-reported, reported-more}
use Rattle.abnftexts.proofs.undefined.push_undefined.Goals as goal

pub loop-number-init : goal.loop-number-init
loop-number-init c = record {
  reports = search rules;
  listed = known-none c.args.rules.now c.in_ok-names.names c.in_ok-names.ensures;
}

pub loop-number-preserved : goal.loop-number-preserved
loop-number-preserved c =
    let rows = map text_rule c.args.rules.now in
    let before = map name_used (take c.loop-number.number c.args.uses.now) in
    let used = c.index-uses-number.result in
    record {
      reports = reported-more rows c.args.uses.now c.loop-number.number used c.loop-number.out.items
          c.push_use_reported.new.out.items _ c.loop-number-test.true c.index-uses-number.is
          (c.in_ok-push_use_reported.ensures.reported ∙ ap (λ (t : List ℕ). c.loop-number.out.items ++ t)
          (known-reported rows before c.loop-number.names (name_used used) c.loop-number.invariant.listed))
          c.loop-number.invariant.reports;
      listed = known-more rows c.args.uses.now c.loop-number.number used c.loop-number.names
          c.push_use_reported.new.names c.loop-number-test.true c.index-uses-number.is c.loop-number.invariant.listed
          c.in_ok-push_use_reported.ensures.listed;
    }
