-- Nodes that are added one by one, and what they spell.
-- Serves: check_peg
use Rattle.std.proofs.Common.{◌≡◌, ℕ, ◌+◌, ◌<◌, ◌≤◌, List, [], ◌∷◌, ◌++◌, length, take, map, get_or, sym, ap, subst}
use Rattle.std.proofs.Common.{arith, refl, ⊎_elim, ◌∙◌, Some, add-one, append_assoc, append-nil, length-append}
use Rattle.std.specs.Prelude.{slice_get, Contains}
use Rattle.std.proofs.lemmas.Bool.{cases_lt}
use Rattle.std.proofs.lemmas.List.{map-append, length-map}
use Rattle.std.proofs.Math.Seq.{take-suc}
use Rattle.pegread.specs.Pattern as expr
use Rattle.pegread.specs.Pattern.{Pattern, Patterns, Rule}
use Rattle.pegread.specs.PegViews.{patterns, patterns_of, pattern_of}
use Rattle.pegread.specs.declared.expr.Expr.{Expr}
use Rattle.pegnodes.specs.declared.node.Node.{Node}
use Rattle.pegnodes.specs.declared.node.Node.TheVariants as code
use Rattle.pegnodes.specs.Bodies.{IsBuilt, IsOperand}
use Rattle.pegnodes.specs.NodeCounts.{node_count, node_count_all}
use Rattle.pegnodes.specs.NodeLists.{all_nodes, nodes_of, node_number, numbers_of, star_of}
use Rattle.pegnodes.specs.Nodes.{Shape, Star, Plus, shape_of, shapes_of, Spells, spells_star, spells_plus, SpellAll}
use Rattle.pegnodes.specs.Nodes.{spell_none, spell_more}
use Rattle.pegnodes.specs.Numbering.{Numbers, NumbersAll, SpellsPart}
use Rattle.pegnodes.specs.Within.{Within, WithinSome, itself, of_star, of_plus, of_first, of_later}
use Rattle.fixpoint.proofs.AtLemmas.{at_push, at_append_left}
use Rattle.pegnodes.proofs.NodeListsLemmas.{all_nodes_push, numbers_push}
use Rattle.pegnodes.proofs.PushCasesLemmas.{push_cases}
use Rattle.pegnodes.proofs.NodeSpellsLemmas.{still_spells, still_spell_all, is_there, are_there}

built_push : (xs : List Shape) (a : Shape) → IsBuilt xs → ((m : ℕ) → IsOperand a m → m < length xs)
    → IsBuilt (xs ++ a ∷ [])
built_push xs a b low = record {
  after = λ n m c h o. ⊎_elim (λ old. b.after n m c old o)
      (λ new. let less = low m (subst (λ v. IsOperand v m) (sym new.1) o) in omega (arith, less, new.0))
      (push_cases xs a n c h);
}

-- one more node
module _ (rules : List Rule) (first mid : List Shape) (a : Shape) (n : ℕ) (p : Pattern) where
  one_more : (added : List Shape) → mid ≡ first ++ added → added ++ a ∷ [] ≡ nodes_of rules (length first) p
      → (IsBuilt first → IsBuilt mid) → length mid + 1 ≡ length first + node_count p
      → ((m : ℕ) → length first ≤ m → m < length mid → SpellsPart rules mid p m) →
      n ≡ length mid → ((m : ℕ) → IsOperand a m → m < length mid)
      → (slice_get (mid ++ a ∷ []) n ≡ Some a → Spells rules (mid ++ a ∷ []) n p) →
      Numbers rules first (mid ++ a ∷ []) n p
  one_more added grown exact built count parts is low spells =
      let at : slice_get (mid ++ a ∷ []) n ≡ Some a = subst (λ v. slice_get (mid ++ a ∷ []) v ≡ Some a) (sym is)
      (at_push mid a) in
      record {
        added = added ++ a ∷ [];
        grown = ap (λ v. v ++ a ∷ []) grown ∙ append_assoc first added (a ∷ []);
        exact = exact;
        own = omega (arith, is, count);
        counted = let l = length-append mid (a ∷ []) in omega (arith, l, count);
        spelled = spells at;
        parts = λ m above below. ⊎_elim
            (λ old.
            let part = parts m above old in
            record { part = part.part; within = part.within; spelled = still_spells rules mid (a ∷ []) part.spelled })
            (λ past.
            let l = length-append mid (a ∷ []) in
            let same : n ≡ m = omega (arith, l, is) in
            record {
              part = p;
              within = itself;
              spelled = subst (λ v. Spells rules (mid ++ a ∷ []) v p) same (spells
                  at);
            })
            (cases_lt m (length mid));
        built = λ b. built_push mid a (built b) low;
      }

-- shapes after a push
shapes_pushed : (nodes more : List Node) (v : Node) → more ≡ nodes ++ v ∷ []
    → shapes_of more ≡ shapes_of nodes ++ shape_of v
    ∷ []
shapes_pushed nodes more v e = ap shapes_of e ∙ map-append shape_of nodes (v ∷ [])

module _ (rules : List Rule) (nodes more : List Node) (v : Node) (n : ℕ) (p : Pattern)
    (is_more : more ≡ nodes ++ v ∷ []) (is : n ≡ length nodes) where
  -- a node without operands
  pub leaf_numbers : node_count p ≡ 1 → shape_of v ∷ [] ≡ nodes_of rules (length (shapes_of nodes)) p
      → ((m : ℕ) → IsOperand (shape_of v) m → ⊥)
      → ((xs : List Shape) → slice_get xs n ≡ Some (shape_of v) → Spells rules xs n p) →
      Numbers rules (shapes_of nodes) (shapes_of more) n p
  leaf_numbers one exact none spells =
      rw (shapes_pushed nodes more v is_more)
      (one_more rules (shapes_of nodes) (shapes_of nodes) (shape_of v) n p [] (sym (append-nil (shapes_of nodes)))
      exact (λ b. b) (omega (arith, one)) (λ m low high. absurd (omega arith))
      (is ∙ sym (length-map nodes shape_of)) (λ m o. absurd (none m o))
      (λ at. spells (shapes_of nodes ++ shape_of v ∷ []) at))

  -- a node over one operand, which stands before it
  pub numbers_over : (first : List Shape) (k : ℕ) (e : Pattern) (over : ℕ → Shape) → node_count p ≡ node_count e + 1
      → shape_of v ≡ over k
      → ((f : ℕ) → nodes_of rules f p ≡ nodes_of rules f e ++ over (node_number f e) ∷ [])
      → Numbers rules first (shapes_of nodes) k e
      → ((m : ℕ) → IsOperand (shape_of v) m → m ≡ k) →
      ((d : Pattern) → Within e d → Within p d) → ((xs : List Shape) → slice_get xs n ≡ Some (shape_of v)
      → Spells rules xs k e → Spells rules xs n p) →
      Numbers rules first (shapes_of more) n p
  numbers_over first k e over one is_over split g alone within spells =
      let there = is_there rules (shapes_of nodes) g.spelled in
      rw (shapes_pushed nodes more v is_more)
      (one_more rules first (shapes_of nodes) (shape_of v) n p g.added g.grown
      (ap (λ w. w ++ shape_of v ∷ []) g.exact
      ∙ ap (λ s. nodes_of rules (length first) e ++ s ∷ []) (is_over ∙ ap over g.own) ∙ sym (split (length first)))
      g.built (omega (arith, one, g.counted))
      (λ m low high. let part = g.parts m low high in
      record { part = part.part; within = within part.part part.within; spelled = part.spelled })
      (is ∙ sym (length-map nodes shape_of)) (λ m o. subst (λ i. i < length (shapes_of nodes)) (sym (alone m o)) there)
      (λ at. spells (shapes_of nodes ++ shape_of v ∷ []) at
      (still_spells rules (shapes_of nodes) (shape_of v ∷ []) g.spelled)))

  -- a node over members, which stand before it
  pub over_all : (first : List Shape) (ks : List ℕ) (es : Patterns) (over : List ℕ → Shape)
      → node_count p ≡ node_count_all es + 1 → shape_of v ≡ over ks
      → ((f : ℕ) → nodes_of rules f p ≡ all_nodes rules f es ++ over (numbers_of f es) ∷ [])
      → NumbersAll rules first (shapes_of nodes) ks es →
      ((m : ℕ) → IsOperand (shape_of v) m → Contains ks m) →
      ((d : Pattern) → WithinSome es d → Within p d)
      → ((xs : List Shape) → slice_get xs n ≡ Some (shape_of v) → SpellAll rules xs ks es → Spells rules xs n p) →
      Numbers rules first (shapes_of more) n p
  over_all first ks es over one is_over split g among within spells =
      rw (shapes_pushed nodes more v is_more)
      (one_more rules first (shapes_of nodes) (shape_of v) n p g.added g.grown
      (ap (λ w. w ++ shape_of v ∷ []) g.exact
      ∙ ap (λ s. all_nodes rules (length first) es ++ s ∷ []) (is_over ∙ ap over g.own) ∙ sym (split (length first)))
      g.built (omega (arith, one, g.counted))
      (λ m low high. let part = g.parts m low high in
      record { part = part.part; within = within part.part part.within; spelled = part.spelled })
      (is ∙ sym (length-map nodes shape_of)) (λ m o. are_there rules (shapes_of nodes) m g.spelled (among m o))
      (λ at. spells (shapes_of nodes ++ shape_of v ∷ []) at
      (still_spell_all rules (shapes_of nodes) (shape_of v ∷ []) g.spelled)))

-- a star over an operand that was numbered, and the plus that both are of
module _ {rules : List Rule} {first : List Shape} (nodes : List Node) {mid new : List Node} {m k n : ℕ} {e : Pattern}
    (was : Numbers rules first (shapes_of nodes) m e)
    (star_is : mid ≡ nodes ++ code.Star m ∷ []) (k_is : k ≡ length nodes) (plus_is : new ≡ mid ++ code.Plus m k ∷ [])
    (n_is : n ≡ length mid) where
  star_numbers : Numbers rules first (shapes_of mid) k (expr.Star e)
  star_numbers =
      numbers_over rules nodes mid (code.Star m) k (expr.Star e) star_is k_is first m e Star refl refl (λ f. refl) was
      (λ i h. h)
      (λ d. of_star)
      (λ xs at s. spells_star at s)

  star_at : slice_get (shapes_of mid) k ≡ Some (Star m)
  star_at = rw (shapes_pushed nodes mid (code.Star m) star_is)
      (subst (λ v. slice_get (shapes_of nodes ++ Star m ∷ []) v ≡ Some (Star m))
      (sym (k_is ∙ sym (length-map nodes shape_of))) (at_push (shapes_of nodes) (Star m)))

  operand_spelled : Spells rules (shapes_of mid) m e
  operand_spelled = rw (shapes_pushed nodes mid (code.Star m) star_is)
      (still_spells rules (shapes_of nodes) (Star m ∷ []) was.spelled)

  star_is_own : k ≡ star_of (length first) e
  star_is_own = let l = length-map nodes shape_of in omega (arith, k_is, l, was.counted)

  pub plus_numbers : Numbers rules first (shapes_of new) n (expr.Plus e)
  plus_numbers =
      let there = is_there rules (shapes_of mid) operand_spelled in
      rw (shapes_pushed mid new (code.Plus m k) plus_is)
      (one_more rules first (shapes_of mid) (Plus m k) n (expr.Plus e) star_numbers.added star_numbers.grown
      (ap (λ w. w ++ Plus m k ∷ []) star_numbers.exact
      ∙ ap (λ s. (nodes_of rules (length first) e ++ Star (node_number (length first) e) ∷ []) ++ s ∷ [])
      (ap (λ i. Plus i k) was.own ∙ ap (λ i. Plus (node_number (length first) e) i) star_is_own))
      star_numbers.built (omega (arith, star_numbers.counted))
      (λ i low high. let part = star_numbers.parts i low high in
      record { part = part.part; within = of_plus part.within; spelled = part.spelled })
      (n_is ∙ sym (length-map mid shape_of)) (λ i o. subst (λ v. v < length (shapes_of mid)) (sym o) there)
      (λ at. spells_plus at (still_spells rules (shapes_of mid) (Plus m k ∷ []) operand_spelled)
      (at_append_left (shapes_of mid) (Plus m k ∷ []) k (Star m) star_at)))

-- one more member
spell_push : (rules : List Rule) (xs : List Shape) (ps : List Pattern) (p : Pattern) (n : ℕ) {ns : List ℕ}
    → SpellAll rules xs ns (patterns ps) → Spells rules xs n p →
    SpellAll rules xs (ns ++ n ∷ []) (patterns (ps ++ p ∷ []))
spell_push rules xs [] p n spell_none s = spell_more s spell_none
spell_push rules xs (q ∷ ps) p n (spell_more d ds) s = spell_more d (spell_push rules xs ps p n ds s)

within_earlier : (ps : List Pattern) (p d : Pattern) → WithinSome (patterns ps) d
    → WithinSome (patterns (ps ++ p ∷ [])) d
within_earlier [] p d w = elim w [ ]
within_earlier (q ∷ ps) p d (of_first w) = of_first w
within_earlier (q ∷ ps) p d (of_later w) = of_later (within_earlier ps p d w)

within_last : (ps : List Pattern) (p d : Pattern) → Within p d → WithinSome (patterns (ps ++ p ∷ [])) d
within_last [] p d w = of_first w
within_last (q ∷ ps) p d w = of_later (within_last ps p d w)

pub no_members : (rules : List Rule) (xs : List Shape) (ns : List ℕ) → ns ≡ [] → NumbersAll rules xs xs ns expr.none
no_members rules xs ns is = rw is (record {
  added = [];
  grown = sym (append-nil xs);
  exact = refl;
  own = refl;
  counted = omega arith;
  spelled = spell_none;
  parts = λ m low high. absurd (omega arith);
  built = λ b. b;
})

map_next : (es : List Expr) (i : ℕ) (v : Expr) → i < length es → v ≡ get_or es i v → map pattern_of (take (i + 1) es)
    ≡ map pattern_of (take i es) ++ pattern_of v ∷ []
map_next es i v lt is =
    ap (λ k. map pattern_of (take k es)) (add-one i) ∙ ap (map pattern_of) (take-suc es i v lt)
    ∙ map-append pattern_of (take i es) (get_or es i v ∷ []) ∙
    ap (λ w. map pattern_of (take i es) ++ pattern_of w ∷ []) (sym is)

count_push : (ps : List Pattern) (p : Pattern) → node_count_all (patterns (ps ++ p ∷ []))
    ≡ node_count_all (patterns ps) + node_count p
count_push [] p = omega arith
count_push (q ∷ ps) p = let e = count_push ps p in omega (arith, e)

-- nodes of members, and then those of one more
module _ {rules : List Rule} {first mid new : List Shape} {ns : List ℕ} {n : ℕ} (ps : List Pattern) {p : Pattern} where
  append_member : NumbersAll rules first mid ns (patterns ps) → Numbers rules mid new n p
      → NumbersAll rules first new (ns ++ n ∷ []) (patterns (ps ++ p ∷ []))
  append_member g h = record {
    added = g.added ++ h.added;
    grown = h.grown ∙ ap (λ w. w ++ h.added) g.grown ∙ append_assoc first g.added h.added;
    exact = ap (λ w. w ++ h.added) g.exact
        ∙ ap (λ w. all_nodes rules (length first) (patterns ps) ++ w) (h.exact ∙ ap (λ k. nodes_of rules k p) g.counted)
        ∙ sym (all_nodes_push rules (length first) ps p);
    own = ap (λ w. w ++ n ∷ []) g.own
        ∙ ap (λ k. numbers_of (length first) (patterns ps) ++ k ∷ [])
        (h.own ∙ ap (λ k. node_number k p) g.counted) ∙ sym (numbers_push (length first) ps p);
    counted = let e = count_push ps p in omega (arith, e, g.counted, h.counted);
    spelled = spell_push rules new ps p n (subst (λ w. SpellAll rules w ns (patterns ps)) (sym h.grown)
        (still_spell_all rules mid h.added g.spelled)) h.spelled;
    parts = λ m low high. ⊎_elim
        (λ old.
        let part = g.parts m low old in
        record {
          part = part.part;
          within = within_earlier ps p part.part part.within;
          spelled = subst (λ w. Spells rules w m part.part) (sym h.grown) (still_spells rules mid h.added part.spelled);
        })
        (λ past. let part = h.parts m past high in record {
          part = part.part;
          within = within_last ps p part.part part.within;
          spelled = part.spelled;
        })
        (cases_lt m (length mid));
    built = λ b. h.built (g.built b);
  }

pub next_member : {rules : List Rule} {first mid new : List Shape} {ns : List ℕ} {n : ℕ} (es : List Expr) {i : ℕ}
    {v : Expr} → i < length es → v ≡ get_or es i v →
    NumbersAll rules first mid ns (patterns_of (take i es)) → Numbers rules mid new n (pattern_of v)
    → NumbersAll rules first new (ns ++ n ∷ []) (patterns_of (take (i + 1) es))
next_member es {i} {v} lt is g h =
    let taken : map pattern_of (take (i + 1) es) ≡ map pattern_of (take i es) ++ pattern_of v ∷ [] =
    map_next es i v lt is in
    rw taken (append_member (map pattern_of (take i es)) g h)
