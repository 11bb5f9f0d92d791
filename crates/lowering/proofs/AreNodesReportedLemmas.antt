-- A node is nullable exactly if what it spells derives the empty list.
-- Serves: lower, lower_viable.
use Rattle.std.proofs.Common.{◌≡◌, ℕ, ◌<◌, Bool, true, false, List, [], length, refl, sym, subst}
use Rattle.std.proofs.Common.{Some, arith}
use Rattle.std.specs.Prelude.{slice_get}
use Rattle.abnfread.specs.Element.{Element, Rule}
use Rattle.abnfcheck.specs.Derivable as der
use Rattle.abnfcheck.specs.Derivable.{Derives, RuleDerives}
use Rattle.abnfcheck.proofs.LiesLemmas.{all_of}
use Rattle.flatgrammar.specs.Flat.{Node, Flat, Name}
use Rattle.flatgrammar.specs.Holds.{begins}
use Rattle.lowering.specs.Lowered.{Spells, spells, Shows, shows_name, AreBodies}
use Rattle.flatgrammar.specs.Nullable.{Passes, begun, stepped, Nullable, done, named}
use Rattle.lowering.specs.Numbers.{AreNodesReported}
use Rattle.flatgrammar.specs.TableViews.{AreNulls}
use Rattle.lowering.proofs.BeforeLemmas.{Before, start_part, call_part, end_part}
use Rattle.flatgrammar.proofs.SliceGetLemmas.{get_below}
use Rattle.flatgrammar.proofs.FlatNullableLemmas.{ends_null, passes_where_begun}
use Rattle.lowering.proofs.NodeRunsLemmas.{node_runs}
use Rattle.lowering.proofs.RuleNodeLemmas.{body_of_number}
use Rattle.flatgrammar.proofs.SliceGetLemmas.{get_there}

module _ (has : ℕ → Bool) (rules : List Rule) (limit : ℕ) (nodes : List Node) (numbers : List ℕ)
    (are : AreBodies rules limit nodes numbers) where
  mutual
    passes_before : {s k : ℕ} {node : Node} → Passes nodes numbers s k → slice_get nodes s ≡ Some node
        → (el : Element) → Shows rules limit nodes node el → Before has rules node el k []
    passes_before {k = k} {node = node} (begun {node = d} is b) at el shown =
        let same : node ≡ d = cc (at, is) in
        subst (λ v. Before has rules v el k []) (sym same)
        (start_part has rules limit nodes b (subst (λ v. Shows rules limit nodes v el) same shown))
    passes_before {node = node} (stepped {l = l} {node = d} p is c free null) at el shown =
        let same : node ≡ d = cc (at, is) in
        let here = subst (λ v. Shows rules limit nodes v el) same shown in
        subst (λ v. Before has rules v el l []) (sym same)
        (call_part has rules limit nodes c here (passes_before p is el here) (omega arith)
        (λ t. absurd (free t)) (λ inner sp. null_derives null inner sp))

    -- what a nullable node spells derives the empty list
    pub null_derives : {s : ℕ} → Nullable nodes numbers s → (el : Element) → Spells rules limit nodes s el
        → Derives has rules el []
    null_derives (done {node = d} p is end) el (spells {node = node} at shown) =
        let same : node ≡ d = cc (at, is) in
        let here = subst (λ v. Shows rules limit nodes v el) same shown in
        end_part has rules limit nodes end here tt (omega arith) (passes_before p is el here)
    null_derives (named {t = t} {r = r} is at null) el (spells {node = node} there shown) =
        let same : node ≡ Name r = cc (there, is) in
        by (subst (λ v. Shows rules limit nodes v el) same shown) (λ inner sp. null_derives null inner sp)
      where
        by : {d : Element} → Shows rules limit nodes (Name r) d
            → ((inner : Element) → Spells rules limit nodes t inner → Derives has rules inner [])
            → Derives has rules d []
        by (shows_name {n = n} number_is) from =
            let body = body_of_number rules limit nodes numbers are n r t number_is at in
            der.name body.1 (from body.0 body.2)

  -- .. and the other way round, by the items of the line of no letters
  pub derives_null : (s : ℕ) (el : Element) → Spells rules limit nodes s el → Derives has rules el []
      → Nullable nodes numbers s
  derives_null s el sp d =
      let flat : Flat = record { nodes = nodes; bodies = numbers; start = s; limit = limit } in
      let runs = node_runs has rules limit flat are [] (omega arith) d s 0 0 sp (all_of []) in
      ends_null flat runs.end (passes_where_begun flat [] (runs.run (begins runs.start)) refl)

some_node : {nodes : List Node} {numbers : List ℕ} {s : ℕ} → Nullable nodes numbers s → s < length nodes
some_node {nodes} (done {s = s} p is end) = get_below nodes s is
some_node {nodes} (named {s = s} is at null) = get_below nodes s is

pub marks_are_nulls : (rules : List Rule) (limit : ℕ) (nodes : List Node) (numbers : List ℕ) (marks : List Bool)
    (whole : ℕ) → AreBodies rules limit nodes numbers → AreNodesReported rules limit nodes marks
    → AreNulls (record { nodes = nodes; bodies = numbers; start = whole; limit = limit }) marks
marks_are_nulls rules limit nodes numbers marks whole are reported t = (
  (λ is. let h = reported.each t true is in
      derives_null (λ c. true) rules limit nodes numbers are t h.el h.spelled (h.settles.yes refl (λ c. true))),
  (λ null. let lt = some_node null in
      let long = reported.long in
      let at = get_there marks t (omega (arith, lt, long)) in
      by at.0 at.1 null),
)
  where
    by : (mark : Bool) → slice_get marks t ≡ Some mark → Nullable nodes numbers t → slice_get marks t ≡ Some true
    by true is null = is
    by false is null = let h = reported.each t false is in
        absurd (h.settles.no refl (λ c. true) (null_derives (λ c. true) rules limit nodes numbers are null h.el
        h.spelled))
