-- The bodies of a grammar's rules, cut one by one.
-- Serves: lower, lower_viable, more_marks.
use Rattle.std.proofs.Common.{◌≡◌, ℕ, zero, suc, ◌+◌, Bool, List, [], ◌∷◌, ◌++◌, map, take, Some, refl, sym, ap}
use Rattle.std.proofs.Common.{subst, arith, ⊎_elim, length-append}
use Rattle.std.specs.Prelude.{slice_get}
use Rattle.ruletable.specs.Rules as table
use Rattle.abnfread.specs.Element.{Element, Rule, bodies}
use Rattle.abnfread.specs.AbnfViews.{element_of, rule_of}
use Rattle.abnfread.specs.declared.elem.Elem.{Elem}
use Rattle.flatgrammar.specs.Flat.{Node}
use Rattle.lowering.specs.Lowered.{Spells}
use Rattle.lowering.specs.Sizes.{size, sizes}
use Rattle.flatgrammar.specs.declared.flat_node.Node as declared
use Rattle.flatgrammar.specs.FlatViews.{nodes_of}
use Rattle.lowering.specs.Numbers.{Numbers, AreCut}
use Rattle.flatgrammar.proofs.SliceGetLemmas.{push_cases}
use Rattle.lowering.proofs.ArePlantedLemmas.{none_planted, planted_more}
use Rattle.lowering.proofs.SpellAllLemmas.{spells_below, still_spells}

pub none_cut : (rules : List Rule) (limit : ℕ) (nodes : List declared.Node) (marks : List Bool) (numbers : List ℕ)
    → nodes ≡ [] → marks ≡ [] → numbers ≡ [] → AreCut rules limit 0 (nodes_of nodes) marks numbers
none_cut rules limit nodes marks numbers no_nodes no_marks no_numbers =
    rw (no_nodes, no_marks, no_numbers) (record {
      long = refl;
      spelled = λ id m h. absurd (cc h);
      sized = omega arith;
      ordered = record { before = λ s m node is h. absurd (cc is) };
      planted = none_planted [];
      reported = record { long = refl; each = λ s mark is. absurd (cc is) };
    })

sizes_next : (limit : ℕ) (els : List Element) (i : ℕ) (el : Element) → slice_get els i ≡ Some el
    → sizes limit (take (i + 1) els) ≡ sizes limit (take i els) + size limit el
sizes_next limit [] i el h = absurd (cc h)
sizes_next limit (d ∷ els) zero el h = let same : d ≡ el = cc h in rw same (omega arith)
sizes_next limit (d ∷ els) (suc i) el h =
    let rest = sizes_next limit els i el h in
    let on : sizes limit (take (suc i + 1) (d ∷ els)) ≡ size limit d + sizes limit (take (i + 1) els) =
    ap (λ k. sizes limit (take k (d ∷ els))) (shift i) in
    omega (arith, rest, on)
  where
    shift : (i : ℕ) → suc i + 1 ≡ suc (i + 1)
    shift i = omega arith

cut_more : {rules : List Rule} {limit i : ℕ} {old new : List Node} {were are : List Bool} {numbers : List ℕ} {n : ℕ}
    {empty : Bool} {el : Element} → AreCut rules limit i old were numbers → slice_get (bodies rules) i ≡ Some el →
    Numbers rules limit old new were are n empty el → AreCut rules limit (i + 1) new are (numbers ++ n ∷ [])
cut_more {rules} {limit} {i} {old} {new} {numbers} {n} {el} c at g = record {
  long = let l = length-append numbers (n ∷ []) in let was = c.long in omega (arith, l, was);
  spelled = λ id m h. ⊎_elim
      (λ earlier.
      let body = c.spelled id m earlier in (
        body.0,
        body.1,
        subst (λ w. Spells rules limit w m body.0) (sym g.grown) (still_spells rules limit old g.added
            body.2),
      ))
      (λ last.
      let was = c.long in
      let here : i ≡ id = omega (arith, last.0, was) in (
        el,
        subst (λ v. slice_get (bodies rules) v ≡ Some el) here at,
        subst (λ v. Spells rules limit new v el) last.1 g.spelled,
      ))
      (push_cases numbers n id m h);
  sized = let one = g.sized in let before = c.sized in let next = sizes_next limit (bodies rules) i el at in
      omega (arith, one, before, next);
  ordered = g.ordered c.ordered;
  planted = planted_more [] old new numbers n (omega arith)
      (λ id m is. spells_below rules limit old (c.spelled id m is).2) c.planted (g.planted c.ordered);
  reported = g.reported c.reported;
}

pub body_at : (rules : List (table.Rule Elem)) (i : ℕ) (e : Elem) → slice_get (map (λ rule. rule.body) rules) i ≡ Some e
    → slice_get (bodies (map rule_of rules)) i ≡ Some (element_of e)
body_at [] i e h = absurd (cc h)
body_at (rule ∷ rules) zero e h = let same : rule.body ≡ e = cc h in ap (λ v. Some (element_of v)) same
body_at (rule ∷ rules) (suc i) e h = body_at rules i e h

pub next_cut : (rules : List (table.Rule Elem)) {limit i : ℕ} (old new : List declared.Node) {were are : List Bool}
    {numbers : List ℕ} {n : ℕ} {empty : Bool} {e : Elem} →
    AreCut (map rule_of rules) limit i (nodes_of old) were numbers →
    slice_get (map (λ rule. rule.body) rules) i ≡ Some e → Numbers (map rule_of rules) limit (nodes_of old)
    (nodes_of new) were are n empty (element_of e) →
    AreCut (map rule_of rules) limit (i + 1) (nodes_of new) are (numbers ++ n ∷ [])
next_cut rules {i} old new {e} c at g = cut_more c (body_at rules i e at) g
