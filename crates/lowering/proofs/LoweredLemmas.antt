-- A grammar whose bodies are cut, with the augmented start as its last node.
-- Serves: lower, lower_viable, find_following.
use Rattle.std.proofs.Common.{◌≡◌, ◌↔◌, ℕ, zero, suc, ◌+◌, ◌<◌, ◌≤◌, Bool, true, List, [], ◌∷◌, ◌++◌, length, take}
use Rattle.std.proofs.Common.{get_or, ◌⊎◌, inl, inr}
use Rattle.std.proofs.Common.{Vec, Global, Some, refl, sym, ◌∙◌, ap, subst, arith, length-append}
use Rattle.std.specs.Prelude.{slice_get, IfOk, Result, Ok, Err}
use Rattle.std.proofs.lemmas.List.{length-map}
use Rattle.std.proofs.lemmas.Option.{slice_get-get_or}
use Rattle.abnfcheck.specs.Derivable.{AreLetters, Derives, RuleDerives}
use Rattle.abnfread.specs.Element as e
use Rattle.abnfread.specs.Element.{Element, Rule, bodies}
use Rattle.flatgrammar.specs.Flat as flat
use Rattle.flatgrammar.specs.Flat.{Node, Flat, Dot}
use Rattle.flatgrammar.specs.Holds.{Holds}
use Rattle.lowering.specs.Lowered.{shows_concat, spell_none, spell_more, ArePlaced, IsLowered, OperandAt}
use Rattle.lowering.specs.NullElements.{Settles}
use Rattle.flatgrammar.specs.Positions.{positions}
use Rattle.lowering.specs.Sizes.{sizes}
use Rattle.lowering.proofs.AreNodesReportedLemmas.{marks_are_nulls}
use Rattle.lowering.proofs.RuleDerivesLemmas as judge
use Rattle.lowering.proofs.SettlesLemmas.{none_settle, next_settles, concat_settles}
use Rattle.flatgrammar.specs.TableViews.{AreNulls}
use Rattle.flatgrammar.specs.declared.flat_node.Node as declared
use Rattle.flatgrammar.specs.declared.flat_node.Node.TheVariants as code
use Rattle.lowering.specs.Numbers.{AreCut}
use Rattle.flatgrammar.specs.Operands.{AreOrdered}
use Rattle.flatgrammar.specs.FlatViews.{node_of, nodes_of}
use Rattle.lowering.proofs.ArePlantedLemmas.{one_planted, planted_push}
use Rattle.flatgrammar.proofs.SliceGetLemmas.{push_cases}
use Rattle.lowering.proofs.FlatNumbersLemmas.{at_end, nodes_pushed, ordered_push, reported_push}
use Rattle.lowering.proofs.SpellAllLemmas.{still_spells, positions_push, spells_below}

-- what two clauses say of one value
pub ok_both : {T E : Type 0} (r : Result T E) (P Q : T → Type 0) → IfOk r P → IfOk r Q → IfOk r (λ x. P x × Q x)
ok_both (Ok x) P Q p q = (p, q)
ok_both (Err e) P Q p q = tt

take_all : {A : Type 0} (xs : List A) (n : ℕ) → n ≡ length xs → take n xs ≡ xs
take_all [] zero is = refl
take_all [] (suc n) is = refl
take_all (x ∷ xs) zero is = absurd (omega (arith, is))
take_all (x ∷ xs) (suc n) is = ap (λ v. x ∷ v) (take_all xs n (omega (arith, is)))

module _ (rules : List Rule) (limit : ℕ) (judged count n b d : ℕ) (old new : List declared.Node)
    (members : Vec ℕ Global) (marks : List Bool) (numbers : List ℕ) (f : Flat)
    (cut : AreCut rules limit count (nodes_of old) marks numbers) (all : count ≡ length rules)
    (is_new : new ≡ old ++ code.Concat members ∷ []) (alone : members.items ≡ b ∷ [])
    (nodes : f.nodes ≡ nodes_of new) where
  shapes_of_whole : f.nodes ≡ nodes_of old ++ flat.Concat (b ∷ []) ∷ []
  shapes_of_whole =
      nodes ∙ nodes_pushed old new (code.Concat members) is_new ∙ ap (λ v. nodes_of old ++ flat.Concat v ∷ []) alone

  pub is_lowered : f.limit ≡ limit → b ≡ get_or numbers judged d → judged < length rules → n ≡ length old
      → f.bodies ≡ numbers → f.start ≡ n → IsLowered rules judged f
  is_lowered is_limit body within last is_bodies is_whole = record {
    spelled = rw (is_bodies, shapes_of_whole, is_limit) (record {
      count = cut.long ∙ all;
      spelled = λ id m h. let g = cut.spelled id m h in
          (g.0, g.1, still_spells rules limit (nodes_of old) (flat.Concat (b ∷ []) ∷ []) g.2);
    });
    body = b;
    body_is = rw is_bodies (let long = cut.long in slice_get-get_or numbers judged d (omega (arith, within, all, long))
        ∙ ap (λ v. Some v) (sym body));
    whole = rw (is_whole, shapes_of_whole) (
        let here : n ≡ length (nodes_of old) = last ∙ sym (length-map old node_of) in
        subst (λ k. slice_get (nodes_of old ++ flat.Concat (b ∷ []) ∷ []) k ≡ Some (flat.Concat (b ∷ []))) (sym here)
        (at_end (nodes_of old) (flat.Concat (b ∷ []))));
    placed = (
        let long = cut.long in
        let there : slice_get numbers judged ≡ Some b =
        slice_get-get_or numbers judged d (omega (arith, within, all, long)) ∙ ap (λ v. Some v) (sym body) in
        let here : n ≡ length (nodes_of old) = last ∙ sym (length-map old node_of) in
        rw (is_bodies, shapes_of_whole, is_whole, here) (placed_whole there));
  }
    where
      above_one : (r m s i : ℕ) (node : Node) → slice_get numbers r ≡ Some m
          → (slice_get (nodes_of old) s ≡ Some node) ⊎ ((s ≡ length (nodes_of old)) × (flat.Concat (b ∷ []) ≡ node))
          → OperandAt node i m → s ≡ length (nodes_of old)
      above_one r m s i node is (inl was) h = absurd ((cut.planted.fresh r m is).1 s i node was h)
      above_one r m s i node is (inr new) h = new.0

      one_below : (m k : ℕ) → slice_get (b ∷ []) k ≡ Some m → b < length (nodes_of old) → m < length (nodes_of old)
      one_below m zero is lt = let same : b ≡ m = cc is in subst (λ v. v < length (nodes_of old)) same lt
      one_below m (suc k) is lt = absurd (cc is)

      placed_whole : slice_get numbers judged ≡ Some b → ArePlaced (record {
        nodes = nodes_of old ++ flat.Concat (b ∷ []) ∷ [];
        bodies = numbers;
        start = length (nodes_of old);
        limit = f.limit;
      })
      placed_whole there =
          let whole = flat.Concat (b ∷ []) in
          let below = λ (r m : ℕ) (is : slice_get numbers r ≡ Some m).
          spells_below rules limit (nodes_of old) (cut.spelled r m is).2 in
          let ordered = ordered_push (nodes_of old) whole cut.ordered
          (λ m h. one_below m h.0 h.1 (below judged b there)) in
          let planted = planted_push [] (nodes_of old) whole (b ∷ []) (omega arith) ordered
          (one_planted [] (nodes_of old) numbers judged b cut.planted there) (λ i m h. h) in
          record {
            forest = planted.forest (λ s t i j m node other is. absurd (cc is));
            apart = λ r q m is other. cut.planted.apart r q m is other;
            above = λ r m s i node is at_s h.
                above_one r m s i node is (push_cases (nodes_of old) whole s node at_s) h;
            start = (planted.fresh 0 (length (nodes_of old)) refl).1;
            no_body = λ r is. let lt = below r (length (nodes_of old)) is in absurd (omega (arith, lt));
          }

  pub positions_sized : positions f.nodes ≤ sizes limit (bodies rules) + 2
  positions_sized =
      let whole = positions_push (nodes_of old) (flat.Concat (b ∷ [])) in
      let before = cut.sized in
      let size = length-map rules (λ rule. rule.body) in
      let taken : sizes limit (take count (bodies rules)) ≡ sizes limit (bodies rules) =
      ap (sizes limit) (take_all (bodies rules) count (omega (arith, all, size))) in
      rw shapes_of_whole (omega (arith, whole, before, taken))

-- the augmented start comes after its one member
pub are_ordered : (rules : List Rule) (limit judged count b d : ℕ) (old new : List declared.Node)
    (members : Vec ℕ Global) (marks : List Bool)
    (numbers : List ℕ) → AreCut rules limit count (nodes_of old) marks numbers → count ≡ length rules →
    new ≡ old ++ code.Concat members ∷ [] → members.items ≡ b ∷ [] → b ≡ get_or numbers judged d → judged < length rules
    → AreOrdered (nodes_of new)
are_ordered rules limit judged count b d old new members marks numbers cut all is_new alone body within =
    let long = cut.long in
    let there : slice_get numbers judged ≡ Some b = slice_get-get_or numbers judged d (omega (arith, within, all, long))
    ∙ ap (λ v. Some v) (sym body) in
    let lt = spells_below rules limit (nodes_of old) (cut.spelled judged b there).2 in
    subst (λ v. AreOrdered v) (sym (nodes_pushed old new (code.Concat members) is_new))
    (ordered_push (nodes_of old) (flat.Concat members.items) cut.ordered
    (λ m h. by m h.0 (subst (λ v. slice_get v h.0 ≡ Some m) alone h.1) lt))
  where
    by : (m k : ℕ) → slice_get (b ∷ []) k ≡ Some m → b < length (nodes_of old) → m < length (nodes_of old)
    by m zero is lt = let same : b ≡ m = cc is in subst (λ v. v < length (nodes_of old)) same lt
    by m (suc k) is lt = absurd (cc is)

-- the bodies are there
pub bodies_within : (rules : List Rule) (limit count : ℕ) (old new : List declared.Node) (node : declared.Node)
    (marks : List Bool) (numbers : List ℕ) → AreCut rules limit count (nodes_of old) marks numbers
    → new ≡ old ++ node ∷ [] →
    (id m : ℕ) → slice_get numbers id ≡ Some m → m < length new
bodies_within rules limit count old new node marks numbers cut is_new id m h =
    let lt = spells_below rules limit (nodes_of old) (cut.spelled id m h).2 in
    let long = length-map old node_of in
    let more = length-append old (node ∷ []) in
    subst (λ v. m < length v) (sym is_new) (let short : m < length (old ++ node ∷ []) = omega (arith, lt, long, more) in
    short)

-- the augmented start derives what its one member does
whole_settles : (rules : List Rule) (judged : ℕ) (null : Bool) (el : Element) → slice_get (bodies rules) judged
    ≡ Some el
    → ((has : ℕ → Bool) → (null ≡ true) ↔ RuleDerives has rules judged [])
    → Settles rules null (e.Concat (e.more el e.none))
whole_settles rules judged null el at is = concat_settles rules null (e.more el e.none)
    (next_settles rules true null [] el (none_settle rules) (record {
      yes = λ m has. let r = (is has).0 m in let same : r.body ≡ el = cc (r.is, at) in
          subst (λ v. Derives has rules v []) same r.derives;
      no = λ m has d. let yes = (is has).1 (record { body = el; is = at; derives = d }) in absurd (cc (yes, m));
    }))

-- the marks of the nodes are those of the nullable ones
pub nulls_reported : (rules : List Rule) (limit judged count b d whole : ℕ) (old new : List declared.Node)
    (members : Vec ℕ Global) (marks more : List Bool) (null : Bool) (numbers : List ℕ)
    → AreCut rules limit count (nodes_of old) marks numbers → count ≡ length rules →
    new ≡ old ++ code.Concat members ∷ [] → members.items ≡ b ∷ [] → more ≡ marks ++ null ∷ []
    → b ≡ get_or numbers judged d → judged < length rules
    → ((has : ℕ → Bool) → (null ≡ true) ↔ RuleDerives has rules judged [])
    → AreNulls (record { nodes = nodes_of new; bodies = numbers; start = whole; limit = limit }) more
nulls_reported rules limit judged count b d whole old new members marks more null numbers cut all is_new alone is_more
    body
    within is =
    let long = cut.long in
    let there : slice_get numbers judged ≡ Some b = slice_get-get_or numbers judged d (omega (arith, within, all, long))
    ∙ ap (λ v. Some v) (sym body) in
    let one = cut.spelled judged b there in
    let is_nodes : nodes_of new ≡ nodes_of old ++ flat.Concat (b ∷ []) ∷ [] =
    nodes_pushed old new (code.Concat members) is_new ∙ ap (λ v. nodes_of old ++ flat.Concat v ∷ []) alone in
    rw (is_nodes, is_more) (marks_are_nulls rules limit (nodes_of old ++ flat.Concat (b ∷ []) ∷ []) numbers
    (marks ++ null ∷ []) whole
    (record {
      count = cut.long ∙ all;
      spelled = λ id m h. let g = cut.spelled id m h in
          (g.0, g.1, still_spells rules limit (nodes_of old) (flat.Concat (b ∷ []) ∷ []) g.2);
    })
    (reported_push rules limit (nodes_of old) marks (flat.Concat (b ∷ [])) null
    (e.Concat (e.more one.0 e.none)) cut.reported
    (shows_concat (spell_more one.2 spell_none)) (whole_settles rules judged null one.0 one.1 is)))

pub lowered_settles : (rules : List Rule) (judged : ℕ) (f : Flat) → IsLowered rules judged f
    → (has : ℕ → Bool) (x : List ℕ)
    → length x ≤ f.limit → AreLetters has x →
    Holds f x (length x) (flat.at f.start 1) 0 ↔ RuleDerives has rules judged x
lowered_settles rules judged f low has x line letters = judge.derives_exactly has rules judged f low x line letters
