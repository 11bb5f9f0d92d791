use Rattle.std.proofs.Common.{◌≡◌, ◌≤◌, ◌∙◌, ◌++◌, ◌∷◌, [], ℕ, List, Vec, Global, ap, append_assoc, arith, length}
use Rattle.std.proofs.Common.{map, sym, take}
use Rattle.std.proofs.lemmas.List.{length-map, map-append, take_all}
use Rattle.fixpoint.specs.Demands.{Demand, One, owned_demand_of, owned_demands_of}
use Rattle.fixpoint.specs.declared.owned.OwnedNeed.TheVariants as own
use Rattle.ruletable.specs.Rules.{bodies_of}
use Rattle.rfcvalues.proofs.GroundedRulesLemmas.{take-got}
use Rattle.rfcvalues.proofs.grounded.push_name_needs.Goals as goal

abbrev needed : Vec ℕ Global → Demand
needed body = One body.items

pub loop-id-preserved : goal.loop-id-preserved
loop-id-preserved c =
    let bodies = bodies_of c.args.lists.now in
    let i = c.loop-id.id in
    let old = owned_demands_of c.args.needs.now.items in
    let row = c.in_ok-row.row in
    ap owned_demands_of c.in_ok-push.ensures.items
    ∙ map-append owned_demand_of c.loop-id.needs.items (own.One row ∷ [])
    ∙ ap (λ (ds : List Demand). ds ++ One row.items ∷ []) c.loop-id.invariant
    ∙ append_assoc old (map needed (take i bodies)) (One row.items ∷ [])
    ∙ ap (λ (items : List ℕ). old ++ (map needed (take i bodies) ++ One items ∷ []))
    (c.in_ok-row.ensures.items ∙ c.deref.ensures.value)
    ∙ ap (λ (ds : List Demand). old ++ ds) (sym (ap (map needed) (take-got bodies i c.body.result.now c.body.ensures)
    ∙ map-append needed (take i bodies) (c.body.result.now ∷ [])))

pub returns : goal.returns
returns c =
    let lists = c.args.lists.now in
    let old = owned_demands_of c.args.needs.now.items in
    let all : length (bodies_of lists) ≤ c.loop-id.id =
    omega (arith, length-map lists.rules (λ row. row.body), c.len-id-end.ensures.len, c.loop-id-test.false) in
    record {
      needs = c.loop-id.invariant
          ∙ ap (λ (bs : List (Vec ℕ Global)). old ++ map needed bs) (take_all c.loop-id.id (bodies_of lists) all);
      unique = c.len-id-end.ensures.unique;
    }
