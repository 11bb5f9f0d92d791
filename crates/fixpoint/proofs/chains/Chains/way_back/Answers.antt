use Rattle.std.proofs.Common.{sym, length}
use Rattle.std.proofs.lemmas.Result.{IfOk-weaker}
use Rattle.std.specs.Prelude.{option_map}
use Rattle.fixpoint.proofs.RowsOfLemmas.{length-slices}
use Rattle.fixpoint.specs.StepRows.{slices_of}
use Rattle.fixpoint.proofs.RoundsLemmas.{last_found, none_back, round_found}
use Rattle.fixpoint.proofs.chains.Chains.way_back.Goals as goal

pub returns-in-Some : goal.returns-in-Some
returns-in-Some c =
    let rows = slices_of c.args.steps.now in
    let near = (let k = c.in-Some.ensures in rw c.deref.ensures.value at k) in
    IfOk-weaker c.chain_to.result _ _ (λ chain is are.
    round_found rows c.args.from c.in-Some.last.number (option_map (λ v. v.items) chain)
    (last_found rows c.args.from c.args.self.now.far.items (length c.args.steps.now) c.in-Some.last.number
    c.in-Some.last.far are.far (sym (length-slices c.args.steps.now)) near) (is rows c.args.from are))
    c.chain_to.ensures

pub returns-in-None : goal.returns-in-None
returns-in-None c = λ are.
    let near = (let k = c.in-None.ensures in rw c.deref.ensures.value at k) in
    none_back (slices_of c.args.steps.now) c.args.from c.args.self.now.far.items (length c.args.steps.now) are.far
    (sym (length-slices c.args.steps.now)) near
