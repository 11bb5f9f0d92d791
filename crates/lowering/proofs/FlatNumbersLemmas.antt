-- Nodes that are added one by one, and what they spell.
-- Serves: lower.
use Rattle.std.proofs.Common.{◌≡◌, ℕ, ◌+◌, ◌<◌, ◌≤◌, List, [], ◌∷◌, ◌++◌, length, take, map, get_or, refl, sym, ap}
use Rattle.std.proofs.Common.{subst, arith, ◌∙◌, Some, add-one, append_assoc, append-nil, length-append, Bool, true}
use Rattle.std.proofs.Common.{false, ◌&&◌, ◌||◌, ◌⊎◌, inl, inr}
use Rattle.std.specs.Prelude.{slice_get}
use Rattle.std.proofs.lemmas.List.{map-append, length-map}
use Rattle.std.proofs.Math.Seq.{take-suc}
use Rattle.abnfread.specs.Element as e
use Rattle.abnfread.specs.Element.{Element, Elements, Rule}
use Rattle.lowering.specs.NullElements.{Settles, SettlesAll, SettlesSome}
use Rattle.lowering.proofs.SettlesLemmas.{none_settle, no_alternative_settles, next_settles, next_alternative_settles}
use Rattle.abnfread.specs.AbnfViews.{elements, elements_of, element_of}
use Rattle.abnfread.specs.declared.elem.Elem.{Elem}
use Rattle.flatgrammar.specs.Flat.{Node}
use Rattle.lowering.specs.Lowered.{OperandAt, Spells, spells, Shows, SpellAll, spell_none, spell_more}
use Rattle.flatgrammar.specs.Positions.{width, positions}
use Rattle.lowering.specs.Sizes.{size, size_all, count}
use Rattle.flatgrammar.specs.declared.flat_node.Node as declared
use Rattle.flatgrammar.specs.FlatViews.{node_of, nodes_of}
use Rattle.lowering.specs.Numbers.{ArePlanted, Numbers, NumbersAll}
use Rattle.lowering.proofs.ArePlantedLemmas.{none_planted, planted_more, planted_push}
use Rattle.flatgrammar.specs.Operands.{IsOperand, AreOrdered}
use Rattle.lowering.specs.Numbers.{IsNodeReported, AreNodesReported}
use Rattle.lowering.proofs.SpellAllLemmas.{still_shows, still_spells, still_spell_all, positions_push, all_below}
use Rattle.lowering.proofs.SpellAllLemmas.{operand_below}
use Rattle.flatgrammar.proofs.SliceGetLemmas.{push_cases}

pub at_end : {A : Type 0} (xs : List A) (a : A) → slice_get (xs ++ a ∷ []) (length xs) ≡ Some a
at_end [] a = refl
at_end (x ∷ xs) a = at_end xs a

pub nodes_pushed : (nodes more : List declared.Node) (v : declared.Node) → more ≡ nodes ++ v ∷ []
    → nodes_of more ≡ nodes_of nodes ++ node_of v ∷ []
nodes_pushed nodes more v is = ap nodes_of is ∙ map-append node_of nodes (v ∷ [])

-- one more node, whose operands are all there
pub ordered_push : (nodes : List Node) (node : Node) → AreOrdered nodes
    → ((m : ℕ) → IsOperand node m → m < length nodes) → AreOrdered (nodes ++ node ∷ [])
ordered_push nodes node o below = record { before = λ s m d is h. by s m d h (push_cases nodes node s d is) }
  where
    by : (s m : ℕ) (d : Node) → IsOperand d m → ((slice_get nodes s ≡ Some d) ⊎ ((s ≡ length nodes) × (node ≡ d)))
        → m < s
    by s m d h (inl was) = o.before s m d was h
    by s m d h (inr last) =
        let lt = below m (subst (λ v. IsOperand v m) (sym last.1) h) in
        subst (λ v. m < v) (sym last.0) lt

-- one more node, with the mark of what it shows
pub reported_push : (rules : List Rule) (limit : ℕ) (nodes : List Node) (marks : List Bool) (node : Node) (mark : Bool)
    (el : Element) → AreNodesReported rules limit nodes marks → Shows rules limit nodes node el
    → Settles rules mark el →
    AreNodesReported rules limit (nodes ++ node ∷ []) (marks ++ mark ∷ [])
reported_push rules limit nodes marks node mark el t shown reported = record {
  long = (let one = length-append marks (mark ∷ []) in let other = length-append nodes (node ∷ []) in
      let was = t.long in omega (arith, one, other, was));
  each = λ s m is. by s m (push_cases marks mark s m is);
}
  where
    by : (s : ℕ) (m : Bool) → ((slice_get marks s ≡ Some m) ⊎ ((s ≡ length marks) × (mark ≡ m)))
        → IsNodeReported rules limit (nodes ++ node ∷ []) s m
    by s m (inl was) = let h = t.each s m was in
        record {
          el = h.el;
          spelled = still_spells rules limit nodes (node ∷ []) h.spelled;
          settles = h.settles;
        }
    by s m (inr last) =
        let here : length nodes ≡ s = sym (last.0 ∙ t.long) in
        record {
          el = el;
          spelled = spells (subst (λ k. slice_get (nodes ++ node ∷ []) k ≡ Some node) here (at_end nodes node))
              (still_shows rules limit nodes (node ∷ []) shown);
          settles = subst (λ v. Settles rules v el) last.1 reported;
        }

-- one more node, over what was added before it
module _ {rules : List Rule} {limit : ℕ} (nodes : List declared.Node) {more : List declared.Node} (v : declared.Node)
    {marks more_marks : List Bool}
    {n : ℕ} {empty : Bool} {el : Element} (is_more : more ≡ nodes ++ v ∷ []) (is : n ≡ length nodes)
    (is_marked : more_marks ≡ marks ++ empty ∷ []) where
  one_more : (first added : List Node) (were : List Bool) (tops : List ℕ) → nodes_of nodes ≡ first ++ added
      → (AreOrdered first → AreOrdered (nodes_of nodes)) → (AreOrdered first → ArePlanted first (nodes_of nodes) tops)
      → ((i m : ℕ) → OperandAt (node_of v) i m → slice_get tops i ≡ Some m)
      → (AreNodesReported rules limit first were → AreNodesReported rules limit (nodes_of nodes) marks)
      → positions (nodes_of nodes) + width (node_of v) ≤ positions first
      + size limit el → Shows rules limit (nodes_of nodes) (node_of v) el → Settles rules empty el →
      Numbers rules limit first (nodes_of more) were more_marks n empty el
  one_more first added were tops grown ordered planted operands reported_before sized shown reported =
      let number : n ≡ length (nodes_of nodes) = is ∙ sym (length-map nodes node_of) in
      let at = at_end (nodes_of nodes) (node_of v) in
      rw (nodes_pushed nodes more v is_more, is_marked) (record {
        added = added ++ node_of v ∷ [];
        grown = ap (λ w. w ++ node_of v ∷ []) grown ∙ append_assoc first added (node_of v ∷ []);
        spelled = spells (subst (λ k. slice_get (nodes_of nodes ++ node_of v ∷ []) k ≡ Some (node_of v)) (sym number)
            at) (still_shows rules limit (nodes_of nodes) (node_of v ∷ []) shown);
        sized = (let all = positions_push (nodes_of nodes) (node_of v) in omega (arith, all, sized));
        settles = reported;
        ordered = λ o. ordered_push (nodes_of nodes) (node_of v) (ordered o)
            (λ m h. operand_below rules limit (nodes_of nodes) shown m h);
        planted = λ o.
            let long = length-append first added in
            let whole = ap length grown in
            subst (λ k. ArePlanted first (nodes_of nodes ++ node_of v ∷ []) (k ∷ [])) (sym number)
            (planted_push first (nodes_of nodes) (node_of v) tops (omega (arith, long, whole))
            (ordered_push (nodes_of nodes) (node_of v) (ordered o)
            (λ m h. operand_below rules limit (nodes_of nodes) shown m h)) (planted o) operands);
        reported = λ t. reported_push rules limit (nodes_of nodes) marks (node_of v) empty el
            (reported_before t) shown reported;
      })

  -- a node without operands
  pub leaf_numbers : ((i m : ℕ) → OperandAt (node_of v) i m → ⊥) → width (node_of v) ≡ size limit el
      → Shows rules limit (nodes_of nodes) (node_of v) el → Settles rules empty el
      → Numbers rules limit (nodes_of nodes) (nodes_of more) marks more_marks n empty el
  leaf_numbers none wide shown reported =
      one_more (nodes_of nodes) [] marks [] (sym (append-nil (nodes_of nodes))) (λ o. o)
      (λ o. none_planted (nodes_of nodes)) (λ i m h. absurd (none i m h)) (λ t. t) (omega (arith, wide)) shown reported

  -- a node over one operand
  pub numbers_over : {first : List Node} {were : List Bool} {k : ℕ} {c : Bool} {d : Element}
      → Numbers rules limit first (nodes_of nodes) were marks k c d
      → ((i m : ℕ) → OperandAt (node_of v) i m → (i ≡ 0) × (m ≡ k)) → width (node_of v) + size limit d ≤ size limit el →
      (Settles rules c d → Spells rules limit (nodes_of nodes) k d → Shows rules limit (nodes_of nodes) (node_of v) el)
      → (Settles rules c d → Settles rules empty el) → Numbers rules limit first
      (nodes_of more) were more_marks n empty el
  numbers_over {first} {were} {k = k} g operand wide shown reported = let sized = g.sized in
      one_more first g.added were (k ∷ []) g.grown g.ordered g.planted
      (λ i m h. let is = operand i m h in
      subst (λ j. slice_get (k ∷ []) j ≡ Some m) (sym is.0) (ap (λ j. Some j) (sym is.1)))
      g.reported (omega (arith, sized, wide)) (shown g.settles g.spelled) (reported g.settles)

  -- a node over members
  pub over_all : {first : List Node} {were : List Bool} {ks : List ℕ} {all any : Bool} {es : Elements}
      → NumbersAll rules limit first (nodes_of nodes) were marks ks all any es
      → ((i m : ℕ) → OperandAt (node_of v) i m → slice_get ks i ≡ Some m)
      → (length ks ≡ count es → width (node_of v) + size_all limit es ≡ size limit el) →
      (SpellAll rules limit (nodes_of nodes) ks es → Shows rules limit (nodes_of nodes) (node_of v) el)
      → (SettlesAll rules all es → SettlesSome rules any es → Settles rules empty el)
      → Numbers rules limit first (nodes_of more) were more_marks n empty el
  over_all {first} {were} {ks = ks} g operands wide shown reported =
      let sized = g.sized in let many = wide (counted g.spelled) in
      one_more first g.added were ks g.grown g.ordered g.planted operands g.reported (omega (arith, sized, many))
      (shown g.spelled)
      (reported g.settle_all g.settle_some)
    where
      counted : {ks : List ℕ} {es : Elements} → SpellAll rules limit (nodes_of nodes) ks es → length ks ≡ count es
      counted spell_none = refl
      counted (spell_more sp all) = let rest = counted all in omega (arith, rest)

-- one more member
spell_push : (rules : List Rule) (limit : ℕ) (xs : List Node) (es : List Element) (el : Element) (n : ℕ) {ns : List ℕ}
    → SpellAll rules limit xs ns (elements es) → Spells rules limit xs n el →
    SpellAll rules limit xs (ns ++ n ∷ []) (elements (es ++ el ∷ []))
spell_push rules limit xs [] el n spell_none s = spell_more s spell_none
spell_push rules limit xs (d ∷ es) el n (spell_more sp all) s = spell_more sp (spell_push rules limit xs es el n all s)

size_push : (limit : ℕ) (es : List Element) (el : Element) → size_all limit (elements (es ++ el ∷ []))
    ≡ size_all limit (elements es) + size limit el
size_push limit [] el = omega arith
size_push limit (d ∷ es) el = let rest = size_push limit es el in omega (arith, rest)

pub no_members : (rules : List Rule) (limit : ℕ) (xs : List Node) (marks : List Bool) (ns : List ℕ) → ns ≡ []
    → NumbersAll rules limit xs xs marks marks ns true false e.none
no_members rules limit xs marks ns is = rw is (record {
  added = [];
  grown = sym (append-nil xs);
  spelled = spell_none;
  sized = omega arith;
  settle_all = none_settle rules;
  settle_some = no_alternative_settles rules;
  ordered = λ o. o;
  planted = λ o. none_planted xs;
  reported = λ t. t;
})

map_next : (es : List Elem) (i : ℕ) (v : Elem) → i < length es → v ≡ get_or es i v → map element_of (take (i + 1) es)
    ≡ map element_of (take i es) ++ element_of v ∷ []
map_next es i v lt is =
    ap (λ k. map element_of (take k es)) (add-one i) ∙ ap (map element_of) (take-suc es i v lt)
    ∙ map-append element_of (take i es) (get_or es i v ∷ []) ∙
    ap (λ w. map element_of (take i es) ++ element_of w ∷ []) (sym is)

-- nodes of members, and then those of one more
append_member : {rules : List Rule} {limit : ℕ} {first mid new : List Node} {were between are : List Bool}
    {ns : List ℕ} {n : ℕ} {all any c : Bool} (es : List Element) {el : Element} →
    NumbersAll rules limit first mid were between ns all any (elements es)
    → Numbers rules limit mid new between are n c el
    → NumbersAll rules limit first new were are (ns ++ n ∷ []) (all && c) (any || c) (elements (es ++ el ∷ []))
append_member {rules} {limit} {first} {mid} {new} {were} {between} {are} {ns} {n} {all} {any} {c} es {el} g h = record {
  added = g.added ++ h.added;
  grown = h.grown ∙ ap (λ w. w ++ h.added) g.grown ∙ append_assoc first g.added h.added;
  spelled = spell_push rules limit new es el n (subst (λ w. SpellAll rules limit w ns (elements es)) (sym h.grown)
      (still_spell_all rules limit mid h.added g.spelled)) h.spelled;
  sized = (let one = g.sized in let other = h.sized in let both = size_push limit es el in
      omega (arith, one, other, both));
  settle_all = next_settles rules all c es el g.settle_all h.settles;
  settle_some = next_alternative_settles rules any c es el g.settle_some h.settles;
  ordered = λ o. h.ordered (g.ordered o);
  planted = λ o.
      let long = length-append first g.added in
      let whole = ap length g.grown in
      planted_more first mid new ns n (omega (arith, long, whole))
      (λ k m is. all_below rules limit mid g.spelled k m is)
      (g.planted o) (h.planted (g.ordered o));
  reported = λ t. h.reported (g.reported t);
}

pub next_member : {rules : List Rule} {limit : ℕ} {first mid new : List Node} {were between are : List Bool}
    {ns : List ℕ} {n : ℕ} {all any c : Bool}
    (es : List Elem) {i : ℕ} {v : Elem} → i < length es → v ≡ get_or es i v →
    NumbersAll rules limit first mid were between ns all any (elements_of (take i es))
    → Numbers rules limit mid new between are n c (element_of v)
    → NumbersAll rules limit first new were are (ns ++ n ∷ []) (all && c)
    (any || c) (elements_of (take (i + 1) es))
next_member es {i} {v} lt is g h = rw (map_next es i v lt is) (append_member (map element_of (take i es)) g h)

-- as many sets as letters
pub as_many : {A B : Type 0} (f : A → B) (xs : List A) (ys : List B) → ys ≡ map f xs → length ys + 1 ≡ length xs + 1
as_many f xs ys is = ap (λ k. k + 1) (ap length is ∙ length-map xs f)
