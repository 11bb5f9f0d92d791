-- The least set of nodes whose needs are met contains exactly the nodes that spell expressions which fail nowhere.
-- Serves: peg_positions
use Rattle.std.proofs.Common.{◌≡◌, ℕ, Bool, List, [], ◌∷◌, length, Contains, refl, sym, ap, subst, ◌∙◌, arith, ⊎_elim}
use Rattle.std.proofs.Common.{inl, inr, ◌⊎◌, false, get_or, map, Some, option_to_list}
use Rattle.std.specs.Prelude.{option_map, slice_get}
use Rattle.std.proofs.lemmas.List.{get_or-map, length-map}
use Rattle.std.proofs.lemmas.Option.{get_or_from_slice_get, slice_get-get_or, slice_get-map, slice_get_within}
use Rattle.pegread.specs.Pattern.{Pattern, Patterns, Rule}
use Rattle.pegnodes.specs.Bodies.{AreBodies, IsBuilt, IsOperand}
use Rattle.fixpoint.specs.Demands.{Demand, All, One, row_of, AreNeedsWithin}
use Rattle.fixpoint.specs.Least.{Comes, by_all, by_one, AreMarksOfThose}
use Rattle.gramcheck.specs.GrammarNotes.{AreMarks}
use Rattle.pegexplain.specs.FailsNowhere.{AllFailNowhere, FailsNowhere, SomeFailsNowhere, sure_act, sure_and}
use Rattle.pegexplain.specs.FailsNowhere.{sure_bytes}
use Rattle.pegexplain.specs.FailsNowhere.{sure_choice, sure_close, sure_first, sure_later, sure_more, sure_name}
use Rattle.pegexplain.specs.FailsNowhere.{sure_none, sure_open, sure_opt, sure_plus, sure_seq, sure_star}
use Rattle.fixpoint.specs.NumberMarks.{AreBelow}
use Rattle.pegnodes.specs.Nodes as node
use Rattle.pegnodes.specs.Nodes.{Shape, id_of, Spells, spells_any, spells_bytes, spells_set, spells_name, spells_seq}
use Rattle.pegnodes.specs.Nodes.{spells_choice, spells_star, spells_plus, spells_opt, spells_and, spells_not}
use Rattle.pegnodes.specs.Nodes.{spells_act, spells_open, spells_close, SpellAll, spell_none, spell_more}
use Rattle.pegexplain.specs.SureNodes.{AreSureMarks, sure_demand, sure_demands}
use Rattle.fixpoint.proofs.ContainsLemmas.{none_of, only_one, in_first, in_later, cons_cases, in_get}
use Rattle.pegnodes.proofs.BodyOfLemmas.{said_here, said_there, name_body, body_node, node_body}

-- a node needs operands and bodies
sure-row : (bodies : List ℕ) (a : Shape) (m : ℕ) → Contains (row_of (sure_demand bodies a)) m →
    IsOperand a m ⊎ Contains bodies m
sure-row bodies node.Any m h = absurd (none_of m h)
sure-row bodies (node.Bytes []) m h = absurd (none_of m h)
sure-row bodies (node.Bytes (b ∷ bs)) m h = absurd (none_of m h)
sure-row bodies (node.Set s) m h = absurd (none_of m h)
sure-row bodies (node.Name id) m h = inr (in_get bodies id m (name_body bodies id m h))
sure-row bodies (node.Seq ms) m h = inl h
sure-row bodies (node.Choice ms) m h = inl h
sure-row bodies (node.Star k) m h = absurd (none_of m h)
sure-row bodies (node.Plus k i) m h = inl (sym (only_one k m h))
sure-row bodies (node.Opt k) m h = absurd (none_of m h)
sure-row bodies (node.And k) m h = inl (sym (only_one k m h))
sure-row bodies (node.Not k) m h = absurd (none_of m h)
sure-row bodies (node.Act t) m h = absurd (none_of m h)
sure-row bodies node.Open m h = absurd (none_of m h)
sure-row bodies node.Close m h = absurd (none_of m h)

pub sure-within : (bodies : List ℕ) (nodes : List Shape) (count : ℕ) → count ≡ length nodes → IsBuilt nodes →
    AreBelow bodies count → AreNeedsWithin (sure_demands bodies nodes)
sure-within bodies nodes count is built below = record {
  within = λ n m need at h.
      let s = said_there (sure_demand bodies) nodes n need at in
      let l = length-map nodes (sure_demand bodies) in
      ⊎_elim
      (λ operand.
      let lt = built.after n m s.0 s.1 operand in
      let low = slice_get_within nodes n s.0 s.1 in
      omega (arith, lt, low, l))
      (λ body. let lt = below m body in omega (arith, lt, l, is))
      (sure-row bodies s.0 m (subst (λ v. Contains (row_of v) m) (sym s.2) h));
}

module _ (rules : List Rule) (nodes : List Shape) (bodies : List ℕ) (are : AreBodies rules nodes bodies) where
  abbrev Here : ℕ → Type 0
  Here n = Comes (sure_demands bodies nodes) n

  need_at : (n : ℕ) (a : Shape) (d : Demand) → slice_get nodes n ≡ Some a →
      slice_get (sure_demands bodies nodes) n ≡ Some d → sure_demand bodies a ≡ d
  need_at n a d g at = let e = said_here (sure_demand bodies) nodes n a g in
      let same : Some (sure_demand bodies a) ≡ Some d = sym e ∙ at in cc same

  all_of : {ms : List ℕ} {ps : Patterns} →
      ((m : ℕ) (q : Pattern) → Contains ms m → Spells rules nodes m q → FailsNowhere rules q) →
      SpellAll rules nodes ms ps → AllFailNowhere rules ps
  all_of old spell_none = sure_none
  all_of old (spell_more {n = n} {ns = ns} {p = p} s ss) =
      sure_more (old n p (in_first n ns) s) (all_of (λ m q h k. old m q (in_later n m ns h) k) ss)

  some_of : {ms : List ℕ} {ps : Patterns} (m : ℕ) → Contains ms m →
      ((q : Pattern) → Spells rules nodes m q → FailsNowhere rules q) → SpellAll rules nodes ms ps
      → SomeFailsNowhere rules ps
  some_of m h old spell_none = absurd (none_of m h)
  some_of m h old (spell_more {n = n} {ns = ns} {p = p} s ss) = ⊎_elim
      (λ is. sure_first (old p (subst (λ v. Spells rules nodes v p) is s)))
      (λ later. sure_later (some_of m later old ss))
      (cons_cases n m ns h)

  -- a node of which all fail nowhere that it needs
  if_all : (n : ℕ) (row : List ℕ) {p : Pattern} → slice_get (sure_demands bodies nodes) n ≡ Some (All row) →
      ((m : ℕ) (q : Pattern) → Contains row m → Spells rules nodes m q → FailsNowhere rules q) →
      Spells rules nodes n p → FailsNowhere rules p
  if_all n row at old (spells_any g) = let e = need_at n node.Any (All row) g at in absurd (cc e)
  if_all n row at old (spells_bytes {bs = []} g) = sure_bytes
  if_all n row at old (spells_bytes {bs = b ∷ bs} g) = let e =
      need_at n (node.Bytes (b ∷ bs)) (All row) g at in absurd (cc e)
  if_all n row at old (spells_set {s = s} g) = let e = need_at n (node.Set s) (All row) g at in absurd (cc e)
  if_all n row at old (spells_name {name = name} g) = let e =
      need_at n (node.Name (id_of rules name)) (All row) g at in absurd (cc e)
  if_all n row at old (spells_seq {ms = ms} g ss) = let e = need_at n (node.Seq ms) (All row) g at in
      let same : ms ≡ row = cc e in
      sure_seq (all_of (λ m q h k. old m q (subst (λ v. Contains v m) same h) k) ss)
  if_all n row at old (spells_choice {ms = ms} g ss) = let e =
      need_at n (node.Choice ms) (All row) g at in absurd (cc e)
  if_all n row at old (spells_star g s) = sure_star
  if_all n row at old (spells_plus {m = m} {k = i} g s a) = let e =
      need_at n (node.Plus m i) (All row) g at in absurd (cc e)
  if_all n row at old (spells_opt g s) = sure_opt
  if_all n row at old (spells_and {m = m} g s) = let e = need_at n (node.And m) (All row) g at in absurd (cc e)
  if_all n row at old (spells_not {m = m} g s) = let e = need_at n (node.Not m) (All row) g at in absurd (cc e)
  if_all n row at old (spells_act g) = sure_act
  if_all n row at old (spells_open g) = sure_open
  if_all n row at old (spells_close g) = sure_close

  -- a node of which one fails nowhere that it needs
  if_one : (n m : ℕ) (row : List ℕ) {p : Pattern} → slice_get (sure_demands bodies nodes) n ≡ Some (One row) →
      Contains row m → ((q : Pattern) → Spells rules nodes m q → FailsNowhere rules q) →
      Spells rules nodes n p → FailsNowhere rules p
  if_one n m row at h old (spells_any g) = let e = need_at n node.Any (One row) g at in let same : row ≡ [] = cc e in
      absurd (none_of m (subst (λ v. Contains v m) same h))
  if_one n m row at h old (spells_bytes {bs = []} g) = sure_bytes
  if_one n m row at h old (spells_bytes {bs = b ∷ bs} g) = let e = need_at n (node.Bytes (b ∷ bs)) (One row) g at in
      let same : row ≡ [] = cc e in absurd (none_of m (subst (λ v. Contains v m) same h))
  if_one n m row at h old (spells_set {s = s} g) = let e = need_at n (node.Set s) (One row) g at in
      let same : row ≡ [] = cc e in absurd (none_of m (subst (λ v. Contains v m) same h))
  if_one n m row at h old (spells_name {name = name} g) =
      let e = need_at n (node.Name (id_of rules name)) (One row) g at in
      let same : row ≡ option_to_list (slice_get bodies (id_of rules name)) = cc e in
      let b = node_body rules nodes bodies are name m
      (name_body bodies (id_of rules name) m (subst (λ v. Contains v m) same h)) in
      sure_name b.1 (old b.0 b.2)
  if_one n m row at h old (spells_seq {ms = ms} g ss) = let e = need_at n (node.Seq ms) (One row) g at in absurd (cc e)
  if_one n m row at h old (spells_choice {ms = ms} g ss) = let e = need_at n (node.Choice ms) (One row) g at in
      let same : row ≡ ms = cc e in
      sure_choice (some_of m (subst (λ v. Contains v m) same h) old ss)
  if_one n m row at h old (spells_star g s) = sure_star
  if_one n m row at h old (spells_plus {m = k} {k = i} {p = p} g s a) =
      let e = need_at n (node.Plus k i) (One row) g at in
      let same : row ≡ k ∷ [] = cc e in
      sure_plus (old p (subst (λ v. Spells rules nodes v p) (only_one k m (subst (λ v. Contains v m) same h)) s))
  if_one n m row at h old (spells_opt g s) = sure_opt
  if_one n m row at h old (spells_and {m = k} {p = p} g s) =
      let e = need_at n (node.And k) (One row) g at in
      let same : row ≡ k ∷ [] = cc e in
      sure_and (old p (subst (λ v. Spells rules nodes v p) (only_one k m (subst (λ v. Contains v m) same h)) s))
  if_one n m row at h old (spells_not {m = k} g s) = let e = need_at n (node.Not k) (One row) g at in
      let same : row ≡ [] = cc e in absurd (none_of m (subst (λ v. Contains v m) same h))
  if_one n m row at h old (spells_act g) = sure_act
  if_one n m row at h old (spells_open g) = sure_open
  if_one n m row at h old (spells_close g) = sure_close

  -- what comes in fails nowhere
  sure-of : {n : ℕ} → Here n → (p : Pattern) → Spells rules nodes n p → FailsNowhere rules p
  sure-of (by_all {n = n} {row = row} at all) p s = if_all n row at (λ m q h k. sure-of (all m h) q k) s
  sure-of (by_one {n = n} {m = m} {row = row} at h c) p s = if_one n m row at h (λ q k. sure-of c q k) s

  all_here : (n : ℕ) (a : Shape) (row : List ℕ) → slice_get nodes n ≡ Some a → sure_demand bodies a ≡ All row →
      ((m : ℕ) → Contains row m → Here m) → Here n
  all_here n a row g e all = by_all (said_here (sure_demand bodies) nodes n a g ∙ ap Some e) all

  one_here : (n : ℕ) (a : Shape) (row : List ℕ) (m : ℕ) → slice_get nodes n ≡ Some a → sure_demand bodies a ≡ One row →
      Contains row m → Here m → Here n
  one_here n a row m g e h c = by_one (said_here (sure_demand bodies) nodes n a g ∙ ap Some e) h c

  at_once : (n : ℕ) (a : Shape) → slice_get nodes n ≡ Some a → sure_demand bodies a ≡ All [] → Here n
  at_once n a g e = all_here n a [] g e (λ m h. absurd (none_of m h))

  mutual
    -- what fails nowhere comes in
    sure-in : {p : Pattern} → FailsNowhere rules p → (n : ℕ) → Spells rules nodes n p → Here n
    sure-in sure_bytes n (spells_bytes g) = at_once n (node.Bytes []) g refl
    sure-in sure_act n (spells_act {t = t} g) = at_once n (node.Act t) g refl
    sure-in sure_open n (spells_open g) = at_once n node.Open g refl
    sure-in sure_close n (spells_close g) = at_once n node.Close g refl
    sure-in (sure_and d) n (spells_and {m = k} g s) =
        one_here n (node.And k) (k ∷ []) k g refl (in_first k []) (sure-in d k s)
    sure-in sure_opt n (spells_opt {m = k} g s) = at_once n (node.Opt k) g refl
    sure-in sure_star n (spells_star {m = k} g s) = at_once n (node.Star k) g refl
    sure-in (sure_plus d) n (spells_plus {m = k} {k = i} g s a) =
        one_here n (node.Plus k i) (k ∷ []) k g refl (in_first k []) (sure-in d k s)
    sure-in (sure_seq ds) n (spells_seq {ms = ms} g ss) = all_here n (node.Seq ms) ms g refl (all_in ds ms ss)
    sure-in (sure_choice ds) n (spells_choice {ms = ms} g ss) = let m = some_in ds ms ss in
        one_here n (node.Choice ms) ms m.0 g refl m.1 m.2
    sure-in (sure_name {n = name} {e = p} b d) n (spells_name g) =
        let m = body_node rules nodes bodies are name p b in
        one_here n (node.Name (id_of rules name)) (option_to_list (slice_get bodies (id_of rules name))) m.0 g refl
        (subst (λ o. Contains (option_to_list o) m.0) (sym m.1) (in_first m.0 [])) (sure-in d m.0 m.2)

    all_in : {ps : Patterns} → AllFailNowhere rules ps → (ms : List ℕ) → SpellAll rules nodes ms ps →
        (m : ℕ) → Contains ms m → Here m
    all_in sure_none ms spell_none m h = absurd (none_of m h)
    all_in (sure_more d ds) ms (spell_more {n = n} {ns = ns} s ss) m h =
        ⊎_elim (λ is. subst (λ v. Here v) is (sure-in d n s)) (λ k. all_in ds ns ss m k) (cons_cases n m ns h)

    some_in : {ps : Patterns} → SomeFailsNowhere rules ps → (ms : List ℕ) → SpellAll rules nodes ms ps →
        (m : ℕ) × Contains ms m × Here m
    some_in (sure_first d) ms (spell_more {n = n} {ns = ns} s ss) = (n, in_first n ns, sure-in d n s)
    some_in (sure_later ds) ms (spell_more {n = n} {ns = ns} s ss) = let m = some_in ds ns ss in
        (m.0, in_later n m.0 ns m.1, m.2)

  pub sure-marks : (marks : List Bool) → AreMarksOfThose (sure_demands bodies nodes) marks →
      AreSureMarks rules nodes marks
  sure-marks marks of = record {
    sound = λ n p s h. sure-of ((of n).0 h) p s;
    whole = λ n p s d. (of n).1 (sure-in d n s);
  }

-- the mark of a rule is the mark of its body's node
body-mark : (bodies : List ℕ) (marks found : List Bool) (id m : ℕ) → found ≡ map (λ k. get_or marks k false) bodies →
    slice_get bodies id ≡ Some m → get_or found id false ≡ get_or marks m false
body-mark bodies marks found id m is at =
    let lt = slice_get_within bodies id m at in
    ap (λ v. get_or v id false) is ∙ get_or-map (λ k. get_or marks k false) bodies id 0 false lt
    ∙ ap (λ v. get_or marks v false) (get_or_from_slice_get bodies id m 0 at)

-- the node of a rule's body spells it
body-spelled : (rules : List Rule) (nodes : List Shape) (bodies : List ℕ) → AreBodies rules nodes bodies
    → (id m : ℕ) (rule : Rule) → slice_get rules id ≡ Some rule → slice_get bodies id ≡ Some m
    → Spells rules nodes m rule.body
body-spelled rules nodes bodies are id m rule at h =
    let s = are.spelled id m h in
    let here = slice_get-map (λ (v : Rule). v.body) rules id ∙ ap (option_map (λ (v : Rule). v.body)) at in
    let same : s.0 ≡ rule.body = cc (s.1, here) in
    subst (λ v. Spells rules nodes m v) same s.2

-- the marks of the bodies' nodes are those of rules whose bodies fail nowhere
pub sure-rules : (rules : List Rule) (nodes : List Shape) (bodies : List ℕ) (marks found : List Bool)
    → AreBodies rules nodes bodies → AreSureMarks rules nodes marks
    → found ≡ map (λ k. get_or marks k false) bodies → AreMarks (λ rule. FailsNowhere rules rule.body) rules found
sure-rules rules nodes bodies marks found are marked is = record {
  count = ap length is ∙ length-map bodies (λ k. get_or marks k false) ∙ are.count;
  exact = λ id rule at.
      let lt = slice_get_within rules id rule at in
      let c = are.count in
      let b = slice_get-get_or bodies id 0 (omega (arith, lt, c)) in
      let same = body-mark bodies marks found id (get_or bodies id 0) is b in
      let spelled = body-spelled rules nodes bodies are id (get_or bodies id 0) rule at b in (
        λ h. marked.sound (get_or bodies id 0) rule.body spelled (sym same ∙ h),
        λ d. same ∙ marked.whole (get_or bodies id 0) rule.body spelled d,
      );
}
