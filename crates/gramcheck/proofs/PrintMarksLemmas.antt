-- The marked nodes are those whose expressions may print, and other expressions leave no events.
-- Serves: check_peg, is_silent, replay, silent_leaves_no_event
use Rattle.std.proofs.Common.{◌≡◌, ℕ, List, [], ◌∷◌, ◌++◌, length, Contains, refl, sym, ap, subst, ◌∙◌, arith}
use Rattle.std.proofs.Common.{⊎_elim, Bool}
use Rattle.std.proofs.Common.{inl, inr, ◌⊎◌, Some, option_to_list}
use Rattle.std.specs.Prelude.{slice_get}
use Rattle.std.proofs.lemmas.List.{length-map}
use Rattle.std.proofs.lemmas.Option.{slice_get_within}
use Rattle.pegread.specs.Pattern as pattern
use Rattle.pegread.specs.Pattern.{Pattern, Patterns, Rule}
use Rattle.pegnodes.specs.Bodies.{AreBodies, IsBuilt, IsOperand}
use Rattle.fixpoint.specs.Demands.{Demand, All, One, row_of, AreNeedsWithin}
use Rattle.fixpoint.specs.Least.{Comes, by_all, by_one, AreMarksOfThose}
use Rattle.fixpoint.specs.NumberMarks.{AreBelow}
use Rattle.pegnodes.specs.Nodes as node
use Rattle.pegnodes.specs.Nodes.{Shape, id_of, Spells, spells_any, spells_bytes, spells_set, spells_name, spells_seq}
use Rattle.pegnodes.specs.Nodes.{spells_choice, spells_star, spells_plus, spells_opt, spells_and, spells_not}
use Rattle.pegnodes.specs.Nodes.{spells_act, spells_open, spells_close, SpellAll, spell_none, spell_more}
use Rattle.gramcheck.specs.Outcome as gives
use Rattle.gramcheck.specs.Outcome.{Outcome, Fails, Takes, Event, Gives, GivesAll, GivesFirst}
use Rattle.gramcheck.specs.Printing.{Prints, SomePrint, by_act, by_open, by_close, by_name, by_member, by_alternative}
use Rattle.gramcheck.specs.Printing.{by_starred, by_repeated, by_optional, first_prints, later_prints}
use Rattle.gramcheck.specs.Printing.{print_demand, print_demands, ArePrintMarks}
use Rattle.fixpoint.proofs.ContainsLemmas.{none_of, only_one, in_first, in_later, cons_cases, in_get, get_in}
use Rattle.pegnodes.proofs.NodeSpellsLemmas.{is_there}
use Rattle.pegnodes.proofs.BodyOfLemmas.{said_here, said_there, name_body, body_node, node_body}

-- a node needs operands and bodies
print_row : (bodies : List ℕ) (a : Shape) (m : ℕ) → Contains (row_of (print_demand bodies a)) m →
    IsOperand a m ⊎ Contains bodies m
print_row bodies node.Any m h = absurd (none_of m h)
print_row bodies (node.Bytes bs) m h = absurd (none_of m h)
print_row bodies (node.Set s) m h = absurd (none_of m h)
print_row bodies (node.Name id) m h = inr (in_get bodies id m (name_body bodies id m h))
print_row bodies (node.Seq ms) m h = inl h
print_row bodies (node.Choice ms) m h = inl h
print_row bodies (node.Star k) m h = inl (sym (only_one k m h))
print_row bodies (node.Plus k i) m h = inl (sym (only_one k m h))
print_row bodies (node.Opt k) m h = inl (sym (only_one k m h))
print_row bodies (node.And k) m h = absurd (none_of m h)
print_row bodies (node.Not k) m h = absurd (none_of m h)
print_row bodies (node.Act t) m h = absurd (none_of m h)
print_row bodies node.Open m h = absurd (none_of m h)
print_row bodies node.Close m h = absurd (none_of m h)

pub print_within : (bodies : List ℕ) (nodes : List Shape) (count : ℕ) → count ≡ length nodes → IsBuilt nodes →
    AreBelow bodies count → AreNeedsWithin (print_demands bodies nodes)
print_within bodies nodes count is built below = record {
  within = λ n m need at h.
      let s = said_there (print_demand bodies) nodes n need at in
      let l = length-map nodes (print_demand bodies) in
      ⊎_elim
      (λ operand.
      let lt = built.after n m s.0 s.1 operand in
      let low = slice_get_within nodes n s.0 s.1 in
      omega (arith, lt, low, l))
      (λ body. let lt = below m body in omega (arith, lt, l, is))
      (print_row bodies s.0 m (subst (λ v. Contains (row_of v) m) (sym s.2) h));
}

module _ (rules : List Rule) (nodes : List Shape) (bodies : List ℕ) (are : AreBodies rules nodes bodies) where
  abbrev Here : ℕ → Type 0
  Here n = Comes (print_demands bodies nodes) n

  need_is : (n : ℕ) (a : Shape) (d : Demand) → slice_get nodes n ≡ Some a →
      slice_get (print_demands bodies nodes) n ≡ Some d → print_demand bodies a ≡ d
  need_is n a d g at = let e = said_here (print_demand bodies) nodes n a g in
      let same : Some (print_demand bodies a) ≡ Some d = sym e ∙ at in cc same

  some_of : {ms : List ℕ} {ps : Patterns} (m : ℕ) → Contains ms m →
      ((q : Pattern) → Spells rules nodes m q → Prints rules q) → SpellAll rules nodes ms ps → SomePrint rules ps
  some_of m h old spell_none = absurd (none_of m h)
  some_of m h old (spell_more {n = n} {ns = ns} {p = p} s ss) = ⊎_elim
      (λ is. first_prints (old p (subst (λ v. Spells rules nodes v p) is s)))
      (λ later. later_prints (some_of m later old ss))
      (cons_cases n m ns h)

  -- a node that needs nothing
  print_if_all : (n : ℕ) (row : List ℕ) {p : Pattern} → slice_get (print_demands bodies nodes) n ≡ Some (All row) →
      Spells rules nodes n p → Prints rules p
  print_if_all n row at (spells_any g) = let e = need_is n node.Any (All row) g at in absurd (cc e)
  print_if_all n row at (spells_bytes {bs = bs} g) = let e = need_is n (node.Bytes bs) (All row) g at in absurd (cc e)
  print_if_all n row at (spells_set {s = s} g) = let e = need_is n (node.Set s) (All row) g at in absurd (cc e)
  print_if_all n row at (spells_name {name = name} g) = let e =
      need_is n (node.Name (id_of rules name)) (All row) g at in absurd (cc e)
  print_if_all n row at (spells_seq {ms = ms} g ss) = let e = need_is n (node.Seq ms) (All row) g at in absurd (cc e)
  print_if_all n row at (spells_choice {ms = ms} g ss) = let e =
      need_is n (node.Choice ms) (All row) g at in absurd (cc e)
  print_if_all n row at (spells_star {m = m} g s) = let e = need_is n (node.Star m) (All row) g at in absurd (cc e)
  print_if_all n row at (spells_plus {m = m} {k = i} g s a) = let e =
      need_is n (node.Plus m i) (All row) g at in absurd (cc e)
  print_if_all n row at (spells_opt {m = m} g s) = let e = need_is n (node.Opt m) (All row) g at in absurd (cc e)
  print_if_all n row at (spells_and {m = m} g s) = let e = need_is n (node.And m) (All row) g at in absurd (cc e)
  print_if_all n row at (spells_not {m = m} g s) = let e = need_is n (node.Not m) (All row) g at in absurd (cc e)
  print_if_all n row at (spells_act g) = by_act
  print_if_all n row at (spells_open g) = by_open
  print_if_all n row at (spells_close g) = by_close

  -- nothing is one of none
  none_in : (n m : ℕ) (row : List ℕ) (a : Shape) → slice_get nodes n ≡ Some a →
      slice_get (print_demands bodies nodes) n ≡ Some (One row) → print_demand bodies a ≡ One [] → Contains row m → ⊥
  none_in n m row a g at is h = let e = need_is n a (One row) g at in
      let same : row ≡ [] = cc (e, is) in none_of m (subst (λ v. Contains v m) same h)

  -- a node of which one prints that it needs
  print_if_one : (n m : ℕ) (row : List ℕ) {p : Pattern} → slice_get (print_demands bodies nodes) n ≡ Some (One row) →
      Contains row m → ((q : Pattern) → Spells rules nodes m q → Prints rules q) →
      Spells rules nodes n p → Prints rules p
  print_if_one n m row at h old (spells_any g) = absurd (none_in n m row node.Any g at refl h)
  print_if_one n m row at h old (spells_bytes {bs = bs} g) = absurd (none_in n m row (node.Bytes bs) g at refl h)
  print_if_one n m row at h old (spells_set {s = s} g) = absurd (none_in n m row (node.Set s) g at refl h)
  print_if_one n m row at h old (spells_name {name = name} g) =
      let e = need_is n (node.Name (id_of rules name)) (One row) g at in
      let same : row ≡ option_to_list (slice_get bodies (id_of rules name)) = cc e in
      let b = node_body rules nodes bodies are name m
      (name_body bodies (id_of rules name) m (subst (λ v. Contains v m) same h)) in
      by_name b.1 (old b.0 b.2)
  print_if_one n m row at h old (spells_seq {ms = ms} g ss) = let e = need_is n (node.Seq ms) (One row) g at in
      let same : row ≡ ms = cc e in
      by_member (some_of m (subst (λ v. Contains v m) same h) old ss)
  print_if_one n m row at h old (spells_choice {ms = ms} g ss) = let e =
      need_is n (node.Choice ms) (One row) g at in
      let same : row ≡ ms = cc e in
      by_alternative (some_of m (subst (λ v. Contains v m) same h) old ss)
  print_if_one n m row at h old (spells_star {m = k} {p = p} g s) =
      let e = need_is n (node.Star k) (One row) g at in
      let same : row ≡ k ∷ [] = cc e in
      by_starred (old p (subst (λ v. Spells rules nodes v p) (only_one k m (subst (λ v. Contains v m) same h)) s))
  print_if_one n m row at h old (spells_plus {m = k} {k = i} {p = p} g s a) =
      let e = need_is n (node.Plus k i) (One row) g at in
      let same : row ≡ k ∷ [] = cc e in
      by_repeated (old p (subst (λ v. Spells rules nodes v p) (only_one k m (subst (λ v. Contains v m) same h)) s))
  print_if_one n m row at h old (spells_opt {m = k} {p = p} g s) =
      let e = need_is n (node.Opt k) (One row) g at in
      let same : row ≡ k ∷ [] = cc e in
      by_optional (old p (subst (λ v. Spells rules nodes v p) (only_one k m (subst (λ v. Contains v m) same h)) s))
  print_if_one n m row at h old (spells_and {m = k} g s) = absurd (none_in n m row (node.And k) g at refl h)
  print_if_one n m row at h old (spells_not {m = k} g s) = absurd (none_in n m row (node.Not k) g at refl h)
  print_if_one n m row at h old (spells_act g) = by_act
  print_if_one n m row at h old (spells_open g) = by_open
  print_if_one n m row at h old (spells_close g) = by_close

  -- what comes in prints
  print_of : {n : ℕ} → Here n → (p : Pattern) → Spells rules nodes n p → Prints rules p
  print_of (by_all {n = n} {row = row} at all) p s = print_if_all n row at s
  print_of (by_one {n = n} {m = m} {row = row} at h c) p s = print_if_one n m row at h (λ q k. print_of c q k) s

  comes_by_one : (n : ℕ) (a : Shape) (row : List ℕ) (m : ℕ) → slice_get nodes n ≡ Some a
      → print_demand bodies a ≡ One row → Contains row m → Here m → Here n
  comes_by_one n a row m g e h c = by_one (said_here (print_demand bodies) nodes n a g ∙ ap Some e) h c

  comes_at_once : (n : ℕ) (a : Shape) → slice_get nodes n ≡ Some a → print_demand bodies a ≡ All [] → Here n
  comes_at_once n a g e = by_all (said_here (print_demand bodies) nodes n a g ∙ ap Some e) (λ m h. absurd (none_of m h))

  mutual
    -- what prints comes in
    print_in : {p : Pattern} → Prints rules p → (n : ℕ) → Spells rules nodes n p → Here n
    print_in by_act n (spells_act {t = t} g) = comes_at_once n (node.Act t) g refl
    print_in by_open n (spells_open g) = comes_at_once n node.Open g refl
    print_in by_close n (spells_close g) = comes_at_once n node.Close g refl
    print_in (by_name {n = name} {e = p} b d) n (spells_name g) =
        let m = body_node rules nodes bodies are name p b in
        comes_by_one n (node.Name (id_of rules name)) (option_to_list (slice_get bodies (id_of rules name))) m.0 g refl
        (subst (λ o. Contains (option_to_list o) m.0) (sym m.1) (in_first m.0 [])) (print_in d m.0 m.2)
    print_in (by_member ds) n (spells_seq {ms = ms} g ss) = let m = one_in ds ms ss in
        comes_by_one n (node.Seq ms) ms m.0 g refl m.1 m.2
    print_in (by_alternative ds) n (spells_choice {ms = ms} g ss) = let m = one_in ds ms ss in
        comes_by_one n (node.Choice ms) ms m.0 g refl m.1 m.2
    print_in (by_starred d) n (spells_star {m = k} g s) =
        comes_by_one n (node.Star k) (k ∷ []) k g refl (in_first k []) (print_in d k s)
    print_in (by_repeated d) n (spells_plus {m = k} {k = i} g s a) =
        comes_by_one n (node.Plus k i) (k ∷ []) k g refl (in_first k []) (print_in d k s)
    print_in (by_optional d) n (spells_opt {m = k} g s) =
        comes_by_one n (node.Opt k) (k ∷ []) k g refl (in_first k []) (print_in d k s)

    one_in : {ps : Patterns} → SomePrint rules ps → (ms : List ℕ) → SpellAll rules nodes ms ps →
        (m : ℕ) × Contains ms m × Here m
    one_in (first_prints d) ms (spell_more {n = n} {ns = ns} s ss) = (n, in_first n ns, print_in d n s)
    one_in (later_prints ds) ms (spell_more {n = n} {ns = ns} s ss) = let m = one_in ds ns ss in
        (m.0, in_later n m.0 ns m.1, m.2)

  pub marks_those_that_print : (marks : List Bool) → AreMarksOfThose (print_demands bodies nodes) marks →
      ArePrintMarks rules nodes marks
  marks_those_that_print marks of = λ n p s. (λ h. print_of ((of n).0 h) p s, λ d. (of n).1 (print_in d n s))

-- the nodes of bodies are there
pub bodies_below : (rules : List Rule) (nodes : List Shape) (bodies : List ℕ) → AreBodies rules nodes bodies →
    AreBelow bodies (length nodes)
bodies_below rules nodes bodies are m h =
    let at = get_in bodies m h in
    let body = are.spelled at.0 m at.1 in
    is_there rules nodes body.2

module _ (rules : List Rule) (x : List ℕ) where
  -- no events are left
  abbrev IsBare : Outcome → Type 0
  IsBare Fails = Unit {0}
  IsBare (Takes end events) = events ≡ []

  star_to_plus : {e : Pattern} → Prints rules (pattern.Star e) → Prints rules (pattern.Plus e)
  star_to_plus (by_starred h) = by_repeated h

  both_bare : {es fs : List Event} → es ≡ [] → fs ≡ [] → es ++ fs ≡ []
  both_bare e f = rw (e, f) refl

  mutual
    -- an expression that does not print leaves none
    pub gives_no_events : {e : Pattern} {p k : ℕ} {o : Outcome} → Gives rules x e p o k → (Prints rules e → ⊥)
        → IsBare o
    gives_no_events (gives.any_takes h) quiet = refl
    gives_no_events (gives.any_at_end h) quiet = tt
    gives_no_events (gives.set_takes h g) quiet = refl
    gives_no_events (gives.set_fails h g) quiet = tt
    gives_no_events (gives.set_at_end h) quiet = tt
    gives_no_events (gives.bytes_take h) quiet = refl
    gives_no_events (gives.bytes_fail h) quiet = tt
    gives_no_events gives.act quiet = absurd (quiet by_act)
    gives_no_events gives.open_at quiet = absurd (quiet by_open)
    gives_no_events gives.close_at quiet = absurd (quiet by_close)
    gives_no_events (gives.name b d) quiet = gives_no_events d (λ h. quiet (by_name b h))
    gives_no_events (gives.seq ds) quiet = all_give_none ds (λ h. quiet (by_member h))
    gives_no_events (gives.choice ds) quiet = first_gives_none ds (λ h. quiet (by_alternative h))
    gives_no_events (gives.opt_takes d) quiet = gives_no_events d (λ h. quiet (by_optional h))
    gives_no_events (gives.opt_none d) quiet = refl
    gives_no_events (gives.star_none d) quiet = refl
    gives_no_events (gives.star_more d c) quiet =
        both_bare (gives_no_events d (λ h. quiet (by_starred h))) (gives_no_events c quiet)
    gives_no_events (gives.plus_fails d) quiet = tt
    gives_no_events (gives.plus_takes d c) quiet =
        both_bare (gives_no_events d (λ h. quiet (by_repeated h))) (gives_no_events c (λ h. quiet (star_to_plus h)))
    gives_no_events (gives.and_takes d) quiet = refl
    gives_no_events (gives.and_fails d) quiet = tt
    gives_no_events (gives.not_takes d) quiet = refl
    gives_no_events (gives.not_fails d) quiet = tt

    all_give_none : {es : Patterns} {p k : ℕ} {o : Outcome} → GivesAll rules x es p o k → (SomePrint rules es → ⊥)
        → IsBare o
    all_give_none gives.all_done quiet = refl
    all_give_none (gives.one_fails d) quiet = tt
    all_give_none (gives.rest_fails d ds) quiet = tt
    all_give_none (gives.rest_takes d ds) quiet =
        both_bare (gives_no_events d (λ h. quiet (first_prints h))) (all_give_none ds (λ h. quiet (later_prints h)))

    first_gives_none : {es : Patterns} {p k : ℕ} {o : Outcome} → GivesFirst rules x es p o k
        → (SomePrint rules es → ⊥) → IsBare o
    first_gives_none gives.all_failed quiet = tt
    first_gives_none (gives.first_takes d) quiet = gives_no_events d (λ h. quiet (first_prints h))
    first_gives_none (gives.first_fails d ds) quiet = first_gives_none ds (λ h. quiet (later_prints h))
