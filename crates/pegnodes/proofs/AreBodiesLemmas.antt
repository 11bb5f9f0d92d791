-- The bodies of a grammar's rules, cut one by one.
-- Serves: check_peg
use Rattle.std.proofs.Common.{◌≡◌, ℕ, zero, suc, ◌+◌, List, [], ◌∷◌, ◌++◌, length, map, take, Some, refl}
use Rattle.std.proofs.Common.{sym, ap, subst, ◌∙◌}
use Rattle.std.proofs.Common.{arith, ⊎_elim, length-append, add-one}
use Rattle.std.specs.Prelude.{slice_get}
use Rattle.std.proofs.lemmas.Bool.{cases_lt}
use Rattle.std.proofs.lemmas.Option.{slice_get_within, get_or_from_slice_get}
use Rattle.std.proofs.Math.Seq.{take_all, take-suc}
use Rattle.ruletable.specs.Rules as table
use Rattle.pegread.specs.Pattern.{Pattern, Rule}
use Rattle.pegread.specs.PegViews.{pattern_of, rule_of}
use Rattle.pegread.specs.declared.expr.Expr.{Expr}
use Rattle.pegnodes.specs.declared.node.Node.{Node}
use Rattle.pegnodes.specs.Bodies.{AreBodies, AreNamed, IsBuilt}
use Rattle.pegnodes.specs.NodeCounts.{node_counts}
use Rattle.pegnodes.specs.NodeLists.{AreNumbered, bodies_of_rules, nodes_of, nodes_of_rules, node_number}
use Rattle.pegnodes.specs.Nodes as node
use Rattle.pegnodes.specs.Nodes.{Shape, shapes_of, id_of, Spells, spells_any, spells_bytes, spells_set}
use Rattle.pegnodes.specs.Nodes.{spells_name}
use Rattle.pegnodes.specs.Nodes.{spells_seq, spells_choice, spells_star, spells_plus, spells_opt, spells_and}
use Rattle.pegnodes.specs.Nodes.{spells_not, spells_act, spells_open, spells_close}
use Rattle.pegnodes.specs.Numbering.{Numbers, AreStanding}
use Rattle.pegnodes.proofs.NodeListsLemmas.{bodies_of_rules_push, counts_push, nodes_of_rules_push}
use Rattle.pegnodes.proofs.OwnIdLemmas.{id_most}
use Rattle.pegnodes.proofs.PushCasesLemmas.{push_cases}
use Rattle.pegnodes.proofs.HasShapeLemmas.{has_shape}
use Rattle.pegnodes.proofs.NodeSpellsLemmas.{still_spells}

-- the bodies of the first rules are cut into nodes
pub record AreCut (rules : List Rule) (count : ℕ) (nodes : List Shape) (bodies : List ℕ) : Type 0 where
  pub long : length bodies ≡ count
  pub spelled : (id m : ℕ) → slice_get bodies id ≡ Some m →
      (p : Pattern) × (slice_get (map (λ rule. rule.body) rules) id ≡ Some p) × Spells rules nodes m p
  pub built : IsBuilt nodes
  pub standing : AreStanding rules nodes

-- the nodes are those of the first rules, one after the other
pub record AreListed (rules : List Rule) (count : ℕ) (nodes : List Shape) (bodies : List ℕ) : Type 0 where
  pub nodes_are : nodes ≡ nodes_of_rules rules 0 (take count rules)
  pub bodies_are : bodies ≡ bodies_of_rules 0 (take count rules)
  pub counted : length nodes ≡ node_counts (take count rules)

pub none_cut : (rules : List Rule) (nodes : List Node) (bodies : List ℕ) → nodes ≡ [] → bodies ≡ []
    → AreCut rules 0 (shapes_of nodes) bodies
none_cut rules nodes bodies no_nodes no_bodies = rw (no_nodes, no_bodies) (record {
  long = refl;
  spelled = λ id m h. absurd (cc h);
  built = record { after = λ n m shape h o. absurd (cc h) };
  standing = λ n lt. absurd (omega arith);
})

module _ (rules : List Rule) (i : ℕ) (old new : List Shape) (bodies : List ℕ) (n : ℕ) (p : Pattern) where
  cut_more : AreCut rules i old bodies → slice_get (map (λ rule. rule.body) rules) i ≡ Some p
      → Numbers rules old new n p → AreCut rules (i + 1) new (bodies ++ n ∷ [])
  cut_more c at g = record {
    long = let l = length-append bodies (n ∷ []) in omega (arith, l, c.long);
    spelled = λ id m h. ⊎_elim
        (λ earlier.
        let body = c.spelled id m earlier in
        (body.0, body.1, subst (λ w. Spells rules w m body.0) (sym g.grown) (still_spells rules old g.added body.2)))
        (λ last.
        let here : i ≡ id = omega (arith, last.0, c.long) in (
          p,
          subst (λ v. slice_get (map (λ rule. rule.body) rules) v ≡ Some p) here at,
          subst (λ v. Spells rules new v p) last.1 g.spelled,
        ))
        (push_cases bodies n id m h);
    built = g.built c.built;
    standing = λ m lt. ⊎_elim
        (λ earlier.
        let old_one = c.standing m earlier in
        record {
          expr = old_one.expr;
          stands = old_one.stands;
          spelled = subst (λ w. Spells rules w m old_one.expr) (sym g.grown)
              (still_spells rules old g.added old_one.spelled);
        })
        (λ past.
        let part = g.parts m past lt in
        record {
          expr = part.part;
          stands = record { id = i; body = p; rule = at; within = part.within };
          spelled = part.spelled;
        })
        (cases_lt m (length old));
  }

body_at : (rules : List (table.Rule Expr)) (i : ℕ) (e : Expr) → slice_get (map (λ rule. rule.body) rules) i ≡ Some e →
    slice_get (map (λ rule. rule.body) (map rule_of rules)) i ≡ Some (pattern_of e)
body_at [] i e h = absurd (cc h)
body_at (rule ∷ rules) zero e h = let same : rule.body ≡ e = cc h in ap (λ v. Some (pattern_of v)) same
body_at (rule ∷ rules) (suc i) e h = body_at rules i e h

pub next_cut : (rules : List (table.Rule Expr)) (i : ℕ) (old new : List Node) (bodies : List ℕ) (n : ℕ) (e : Expr)
    → AreCut (map rule_of rules) i (shapes_of old) bodies →
    slice_get (map (λ rule. rule.body) rules) i ≡ Some e → Numbers (map rule_of rules) (shapes_of old) (shapes_of new) n
    (pattern_of e) →
    AreCut (map rule_of rules) (i + 1) (shapes_of new) (bodies ++ n ∷ [])
next_cut rules i old new bodies n e c at g = cut_more (map rule_of rules) i (shapes_of old) (shapes_of new) bodies n
    (pattern_of e) c (body_at rules i e at) g

-- all rules
pub bodies_of_cut : (rules : List Rule) (count : ℕ) (nodes : List Shape) (bodies : List ℕ)
    → AreCut rules count nodes bodies → count ≡ length rules → AreBodies rules nodes bodies
bodies_of_cut rules count nodes bodies c all = record { count = omega (arith, c.long); spelled = c.spelled }

pub none_listed : (rules : List Rule) (nodes : List Node) (bodies : List ℕ) → nodes ≡ [] → bodies ≡ []
    → AreListed rules 0 (shapes_of nodes) bodies
none_listed rules nodes bodies no_nodes no_bodies =
    rw (no_nodes, no_bodies) (record { nodes_are = refl; bodies_are = refl; counted = refl })

-- the nodes of one more rule
module _ (rules : List Rule) (i : ℕ) (old new : List Shape) (bodies : List ℕ) (n : ℕ) (r : Rule)
    (was : AreListed rules i old bodies) (at : slice_get rules i ≡ Some r) (g : Numbers rules old new n r.body) where
  rules_taken : take (i + 1) rules ≡ take i rules ++ r ∷ []
  rules_taken = ap (λ k. take k rules) (add-one i) ∙ take-suc rules i r (slice_get_within rules i r at)
      ∙ ap (λ v. take i rules ++ v ∷ []) (get_or_from_slice_get rules i r r at)

  as_long : length old ≡ 0 + node_counts (take i rules)
  as_long = let count = was.counted in omega (arith, count)

  listed_more : AreListed rules (i + 1) new (bodies ++ n ∷ [])
  listed_more = record {
    nodes_are = g.grown ∙ ap (λ w. w ++ g.added) was.nodes_are
        ∙ ap (λ w. nodes_of_rules rules 0 (take i rules) ++ w)
        (g.exact ∙ ap (λ k. nodes_of rules k r.body) as_long)
        ∙ sym (nodes_of_rules_push rules 0 (take i rules) r) ∙ ap (nodes_of_rules rules 0) (sym rules_taken);
    bodies_are = ap (λ w. w ++ n ∷ []) was.bodies_are
        ∙ ap (λ k. bodies_of_rules 0 (take i rules) ++ k ∷ []) (g.own ∙ ap (λ k. node_number k r.body) as_long)
        ∙ sym (bodies_of_rules_push 0 (take i rules) r) ∙ ap (bodies_of_rules 0) (sym rules_taken);
    counted = let whole = ap node_counts rules_taken in
        let more = counts_push (take i rules) r in omega (arith, whole, more, g.counted, was.counted);
  }

rule_at : (rules : List (table.Rule Expr)) (i : ℕ) (e : Expr) → slice_get (map (λ rule. rule.body) rules) i ≡ Some e →
    (r : Rule) × (slice_get (map rule_of rules) i ≡ Some r) × (r.body ≡ pattern_of e)
rule_at [] i e h = absurd (cc h)
rule_at (rule ∷ rules) zero e h = let same : rule.body ≡ e = cc h in (rule_of rule, refl, ap pattern_of same)
rule_at (rule ∷ rules) (suc i) e h = rule_at rules i e h

pub next_listed : (rules : List (table.Rule Expr)) (i : ℕ) (old new : List Node) (bodies : List ℕ) (n : ℕ) (e : Expr)
    → AreListed (map rule_of rules) i (shapes_of old) bodies → slice_get (map (λ rule. rule.body) rules) i ≡ Some e
    → Numbers (map rule_of rules) (shapes_of old) (shapes_of new) n (pattern_of e)
    → AreListed (map rule_of rules) (i + 1) (shapes_of new) (bodies ++ n ∷ [])
next_listed rules i old new bodies n e was at g =
    let rule = rule_at rules i e at in
    listed_more (map rule_of rules) i (shapes_of old) (shapes_of new) bodies n rule.0 was rule.1
    (subst (λ p. Numbers (map rule_of rules) (shapes_of old) (shapes_of new) n p) (sym rule.2) g)

pub all_listed : (rules : List Rule) (count : ℕ) (nodes : List Shape) (bodies : List ℕ)
    → AreListed rules count nodes bodies → count ≡ length rules → AreNumbered rules nodes bodies
all_listed rules count nodes bodies listed all =
    let whole : take count rules ≡ rules = take_all count rules (omega (arith, all)) in
    record {
      nodes_are = listed.nodes_are ∙ ap (nodes_of_rules rules 0) whole;
      bodies_are = listed.bodies_are ∙ ap (bodies_of_rules 0) whole;
    }

pub nodes_of_cut : (rules : List Rule) (count : ℕ) (nodes : List Shape) (bodies : List ℕ)
    → AreListed rules count nodes bodies → count ≡ length rules → length nodes ≡ node_counts rules
nodes_of_cut rules count nodes bodies listed all =
    listed.counted ∙ ap node_counts (take_all count rules (omega (arith, all)))

-- a node that is a name has the id of one
pub are_named : (rules : List Rule) (nodes : List Shape) → AreStanding rules nodes → AreNamed (length rules) nodes
are_named rules nodes standing = record {
  within = λ n id h.
      let one = standing n (slice_get_within nodes n (node.Name id) h) in
      let like = has_shape rules nodes one.spelled (node.Name id) h in
      omega (arith, id_most rules like.0, like.2);
}
