use Rattle.std.proofs.Common.{◌+◌, arith, get_or, subst, sym}
use Rattle.std.proofs.lemmas.Option.{slice_get-get_or}
use Rattle.rulelines.specs.WrongSymbols.{AreWrongTo}
use Rattle.rulelines.proofs.WrongSymbolsLemmas.{first_held, IsWrongSoFar, no_symbol, none_so_far, wrong_passed}
use Rattle.rulelines.proofs.WrongSymbolsLemmas.{wrong_pushed}
use Rattle.rulelines.proofs.miss.wrong.wrong_symbols.Goals as goal
use Rattle.rulelines.proofs.miss.wrong.wrong_symbols.Goals.{then-is_reported+in_ok-push, else-is_reported}

pub loop-index-init : goal.loop-index-init
loop-index-init c = subst (λ v. IsWrongSoFar c.args.samples.now c.args.live.now c.args.edges 0 v)
    (sym c.new-wrong.ensures.items) (none_so_far c.args.samples.now c.args.live.now c.args.edges)

pub loop-index-preserved : goal.loop-index-preserved
loop-index-preserved c =
    let samples = c.args.samples.now in
    let live = c.args.live.now in
    let n = c.loop-index.index in
    let lt = c.loop-index-test.true in
    let same = c.requires in
    let at_n = slice_get-get_or samples n 0 lt in
    elim c.if-is_reported.branch [
      | then-is_reported+in_ok-push w ↦
          subst (λ v. IsWrongSoFar samples live c.args.edges (n + 1) v.items) (sym w.wrong-is)
          (wrong_pushed samples live c.args.edges n (get_or samples n 0) at_n c.loop-index.wrong.items
          c.loop-index.invariant c.is_empty.result w.push.new.self.items
          (no_symbol c.loop-index.wrong c.is_empty.result c.is_empty.ensures)
          (c.is_reported.ensures.0 w.if-is_reported.true) w.in_ok-push.ensures.items)
      | else-is_reported w ↦
          subst (λ v. IsWrongSoFar samples live c.args.edges (n + 1) v.items) (sym w.wrong-is)
          (wrong_passed samples live c.args.edges n (get_or samples n 0) at_n c.loop-index.wrong.items
          c.loop-index.invariant c.is_empty.result
          (first_held c.loop-index.wrong c.is_empty.result c.is_empty.ensures) (omega (arith, lt, same))
          (λ h. cc (c.is_reported.ensures.1 h, w.if-is_reported.false)))
    ]

pub returns : goal.returns
returns c = subst (λ v. AreWrongTo c.args.samples.now c.args.live.now c.args.edges v c.loop-index.wrong.items)
    (let ge = c.loop-index-test.false in let le = c.loop-index.auto.index-end in omega (arith, ge, le))
    c.loop-index.invariant.are
