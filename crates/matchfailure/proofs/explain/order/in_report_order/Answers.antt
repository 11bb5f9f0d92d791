use Rattle.std.proofs.Common.{List, ap, sym, subst, length, ◌∙◌, map, Option, ℕ, []}
use Rattle.std.specs.List.Sorted.{IsPermutation}
use Rattle.std.proofs.lemmas.Result.{IfOk-weaker}
use Rattle.pegnodes.specs.Nodes.{shapes_of}
use Rattle.pegread.specs.PegViews.{rules_of}
use Rattle.matchfailure.specs.FittingFailures.{AreFitting}
use Rattle.matchfailure.specs.ReportOrder.{each_once, entry_text, key_of, visit_of}
use Rattle.matchfailure.specs.VisitLists.{ListsVisit}
use Rattle.matchfailure.specs.declared.farthest.visit.Visit.{Visit}
use Rattle.matchfailure.proofs.EachOnceLemmas.{keys-fit}
use Rattle.matchfailure.proofs.explain.order.in_report_order.Goals as goal

pub keys_of-requires-clause-nodes : goal.keys_of-requires-clause-nodes
keys_of-requires-clause-nodes c v h =
    (c.requires v (subst (λ (vs : List Visit). ListsVisit vs v) c.deref-2.ensures.value h)).0

pub each_once-requires-clause-fitting : goal.each_once-requires-clause-fitting
each_once-requires-clause-fitting c =
    let keys = c.in_ok-keys.ensures ∙ ap (λ (far : List (Option ℕ)). map (key_of far (shapes_of c.args.peg.now.nodes)
    c.args.peg.now.bodies) c.deref-2.result.now) c.deref.ensures.value
    ∙ ap (map (key_of c.in_ok-far.far.items (shapes_of c.args.peg.now.nodes) c.args.peg.now.bodies))
    c.deref-2.ensures.value in
    let moved = subst (λ (ks : List (List ℕ)). IsPermutation ks c.sort_unstable.new.self.items) keys
    c.sort_unstable.ensures.permutation in
    subst (λ (ks : List (List ℕ)). AreFitting (length c.args.peg.now.nodes) c.args.unit (map visit_of ks))
    (sym c.deref-3.ensures.value)
    (keys-fit c.in_ok-far.far.items (shapes_of c.args.peg.now.nodes) c.args.peg.now.bodies
    (length c.args.peg.now.nodes) c.args.unit c.args.farthest.now.expected.items c.sort_unstable.new.self.items moved
    c.requires)

pub returns-clause-reported : goal.returns-clause-reported
returns-clause-reported c =
    let keys = c.in_ok-keys.ensures ∙ ap (λ (far : List (Option ℕ)). map (key_of far (shapes_of c.args.peg.now.nodes)
    c.args.peg.now.bodies) c.deref-2.result.now) c.deref.ensures.value
    ∙ ap (map (key_of c.in_ok-far.far.items (shapes_of c.args.peg.now.nodes) c.args.peg.now.bodies))
    c.deref-2.ensures.value in
    IfOk-weaker c.each_once.result _ _ (λ reported is. record {
      far = c.in_ok-far.far.items;
      distances = c.in_ok-far.ensures.far;
      keys = c.sort_unstable.new.self.items;
      same = subst (λ (ks : List (List ℕ)). IsPermutation ks c.sort_unstable.new.self.items) keys
          c.sort_unstable.ensures.permutation;
      ascend = c.sort_unstable.ensures.sorted;
      are = is ∙ ap (λ (ks : List (List ℕ)). each_once (entry_text (rules_of c.args.peg.now.rules)
          c.args.peg.now.start (shapes_of c.args.peg.now.nodes) c.args.peg.now.bodies c.args.unit
          c.args.farthest.now.position) [] (map visit_of ks)) c.deref-3.ensures.value;
    }) c.each_once.ensures.reported
