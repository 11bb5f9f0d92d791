use Rattle.std.proofs.Common.{◌≡◌, length, Some, slice_get, ap, sym, ◌∙◌, arith, ltb-true}
use Rattle.std.proofs.lemmas.Option.{slice_get_within}
use Rattle.flatgrammar.proofs.CallOfLemmas.{some_same}
use Rattle.earleyitems.proofs.IsBuiltLemmas.{get_is}
use Rattle.earleyitems.proofs.AreBucketsLemmas.{in_get, get_index, or_get}
use Rattle.earleyitems.proofs.predictions.index_of.Goals as goal
use Rattle.earleyitems.proofs.predictions.index_of.Goals.{else-index-list-via-then-index-list+else-list-index}
use Rattle.earleyitems.proofs.predictions.index_of.Goals.{else-index-list-via-else-index-list}

pub returns-in-None-clause-none : goal.returns-in-None-clause-none
returns-in-None-clause-none c h =
    let g = in_get c.args.prediction c.args.list.now h in
    let lt = slice_get_within c.args.table.now c.args.prediction g.0 (c.requires g.0 c.args.prediction g.1) in
    let past = c.in-None.ensures.lookup.3 in
    absurd (omega (arith, lt, past))

pub returns-then-list-index-clause-found : goal.returns-then-list-index-clause-found
returns-then-list-index-clause-found c =
    get_index c.args.list.now c.in-Some.index.now _ (omega (arith, c.if-index-list.true)) ∙ ap Some c.if-list-index.true

pub returns-else-index-list-clause-none : goal.returns-else-index-list-clause-none
returns-else-index-list-clause-none c h =
    let g = in_get c.args.prediction c.args.list.now h in
    let k = c.in-Some.ensures.lookup in
    let at : slice_get c.args.table.now c.args.prediction ≡ Some c.in-Some.index.now =
    get_is c.args.table.now c.args.prediction c.in-Some.index.now
    (ltb-true c.args.prediction (length c.args.table.now) (sym k.0)) k.1 in
    let same : g.0 ≡ c.in-Some.index.now = some_same (sym (c.requires g.0 c.args.prediction g.1) ∙ at) in
    let here : slice_get c.args.list.now c.in-Some.index.now ≡ Some c.args.prediction =
    ap (λ n. slice_get c.args.list.now n) (sym same) ∙ g.1 in
    let lt = slice_get_within c.args.list.now c.in-Some.index.now c.args.prediction here in
    elim c.else-index-list.branch [
      | else-index-list-via-then-index-list+else-list-index w ↦ absurd
          (w.if-list-index.false (or_get c.args.list.now c.in-Some.index.now _ c.args.prediction here))
      | else-index-list-via-else-index-list w ↦ absurd (let no = w.if-index-list.false in omega (arith, no, lt))
    ]

pub returns-then-list-index-clause-only : goal.returns-then-list-index-clause-only
returns-then-list-index-clause-only c i e =
    let k = c.in-Some.ensures.lookup in
    let at : slice_get c.args.table.now c.args.prediction ≡ Some c.in-Some.index.now =
    get_is c.args.table.now c.args.prediction c.in-Some.index.now
    (ltb-true c.args.prediction (length c.args.table.now) (sym k.0)) k.1 in
    some_same (sym (c.requires i c.args.prediction e) ∙ at)
