-- What nodes spell: still so when nodes are added, and by nodes that are there.
-- Serves: check_peg, exactly_one_outcome, ranks_fall, some_outcome
use Rattle.std.proofs.Common.{ℕ, ◌<◌, List, ◌++◌, length, subst, arith, ⊎_elim}
use Rattle.std.specs.Prelude.{Contains}
use Rattle.std.proofs.lemmas.Option.{slice_get_within}
use Rattle.pegread.specs.Pattern.{Pattern, Patterns, Rule}
use Rattle.pegnodes.specs.Nodes as node
use Rattle.pegnodes.specs.Nodes.{Shape, id_of, Spells, spells_any, spells_bytes, spells_set, spells_name, spells_seq}
use Rattle.pegnodes.specs.Nodes.{spells_choice, spells_star, spells_plus, spells_opt, spells_and, spells_not}
use Rattle.pegnodes.specs.Nodes.{spells_act, spells_open, spells_close, SpellAll, spell_none, spell_more}
use Rattle.fixpoint.proofs.ContainsLemmas.{cons_cases}
use Rattle.fixpoint.proofs.AtLemmas.{at_append_left}
use Rattle.pegnodes.specs.Within.{Within, WithinSome, itself, of_seq, of_choice, of_star, of_plus, of_opt, of_and}
use Rattle.pegnodes.specs.Within.{of_not, of_first, of_later}

module _ (rules : List Rule) (xs ys : List Shape) where
  mutual
    pub still_spells : {n : ℕ} {p : Pattern} → Spells rules xs n p → Spells rules (xs ++ ys) n p
    still_spells (spells_any {n = n} g) = spells_any (at_append_left xs ys n node.Any g)
    still_spells (spells_bytes {n = n} {bs = bs} g) = spells_bytes (at_append_left xs ys n (node.Bytes bs) g)
    still_spells (spells_set {n = n} {s = s} g) = spells_set (at_append_left xs ys n (node.Set s) g)
    still_spells (spells_name {n = n} {name = name} g) =
        spells_name (at_append_left xs ys n (node.Name (id_of rules name)) g)
    still_spells (spells_seq {n = n} {ms = ms} g s) = spells_seq (at_append_left xs ys n (node.Seq ms) g)
        (still_spell_all s)
    still_spells (spells_choice {n = n} {ms = ms} g s) = spells_choice (at_append_left xs ys n (node.Choice ms) g)
        (still_spell_all s)
    still_spells (spells_star {n = n} {m = m} g s) = spells_star (at_append_left xs ys n (node.Star m) g)
        (still_spells s)
    still_spells (spells_plus {n = n} {m = m} {k = k} g s a) = spells_plus (at_append_left xs ys n (node.Plus m k) g)
        (still_spells s) (at_append_left xs ys k (node.Star m) a)
    still_spells (spells_opt {n = n} {m = m} g s) = spells_opt (at_append_left xs ys n (node.Opt m) g) (still_spells s)
    still_spells (spells_and {n = n} {m = m} g s) = spells_and (at_append_left xs ys n (node.And m) g) (still_spells s)
    still_spells (spells_not {n = n} {m = m} g s) = spells_not (at_append_left xs ys n (node.Not m) g) (still_spells s)
    still_spells (spells_act {n = n} {t = t} g) = spells_act (at_append_left xs ys n (node.Act t) g)
    still_spells (spells_open {n = n} g) = spells_open (at_append_left xs ys n node.Open g)
    still_spells (spells_close {n = n} g) = spells_close (at_append_left xs ys n node.Close g)

    pub still_spell_all : {ms : List ℕ} {ps : Patterns} → SpellAll rules xs ms ps → SpellAll rules (xs ++ ys) ms ps
    still_spell_all spell_none = spell_none
    still_spell_all (spell_more s ss) = spell_more (still_spells s) (still_spell_all ss)

module _ (rules : List Rule) (nodes : List Shape) where
  -- a node that spells something is there
  pub is_there : {n : ℕ} {p : Pattern} → Spells rules nodes n p → n < length nodes
  is_there (spells_any {n = n} g) = slice_get_within nodes n node.Any g
  is_there (spells_bytes {n = n} {bs = bs} g) = slice_get_within nodes n (node.Bytes bs) g
  is_there (spells_set {n = n} {s = s} g) = slice_get_within nodes n (node.Set s) g
  is_there (spells_name {n = n} {name = name} g) = slice_get_within nodes n (node.Name (id_of rules name)) g
  is_there (spells_seq {n = n} {ms = ms} g s) = slice_get_within nodes n (node.Seq ms) g
  is_there (spells_choice {n = n} {ms = ms} g s) = slice_get_within nodes n (node.Choice ms) g
  is_there (spells_star {n = n} {m = m} g s) = slice_get_within nodes n (node.Star m) g
  is_there (spells_plus {n = n} {m = m} {k = k} g s a) = slice_get_within nodes n (node.Plus m k) g
  is_there (spells_opt {n = n} {m = m} g s) = slice_get_within nodes n (node.Opt m) g
  is_there (spells_and {n = n} {m = m} g s) = slice_get_within nodes n (node.And m) g
  is_there (spells_not {n = n} {m = m} g s) = slice_get_within nodes n (node.Not m) g
  is_there (spells_act {n = n} {t = t} g) = slice_get_within nodes n (node.Act t) g
  is_there (spells_open {n = n} g) = slice_get_within nodes n node.Open g
  is_there (spells_close {n = n} g) = slice_get_within nodes n node.Close g

  pub are_there : {ms : List ℕ} {ps : Patterns} (m : ℕ) → SpellAll rules nodes ms ps → Contains ms m → m < length nodes
  are_there m spell_none (k, lt, e) = absurd (omega arith)
  are_there m (spell_more {n = n} {ns = ns} s ss) h =
      ⊎_elim (λ same. subst (λ v. v < length nodes) same (is_there s)) (λ later. are_there m ss later)
      (cons_cases n m ns h)

  -- a part of what a node spells is spelled by a node
  mutual
    pub part_spelled : {p q : Pattern} → Within p q → (n : ℕ) → Spells rules nodes n p → (m : ℕ)
        × Spells rules nodes m q
    part_spelled itself n s = (n, s)
    part_spelled (of_seq w) n (spells_seq {ms = ms} g ss) = member_spelled w ms ss
    part_spelled (of_choice w) n (spells_choice {ms = ms} g ss) = member_spelled w ms ss
    part_spelled (of_star w) n (spells_star {m = m} g s) = part_spelled w m s
    part_spelled (of_plus w) n (spells_plus {k = k} g s a) = part_spelled w k (spells_star a s)
    part_spelled (of_opt w) n (spells_opt {m = m} g s) = part_spelled w m s
    part_spelled (of_and w) n (spells_and {m = m} g s) = part_spelled w m s
    part_spelled (of_not w) n (spells_not {m = m} g s) = part_spelled w m s

    pub member_spelled : {ps : Patterns} {q : Pattern} → WithinSome ps q → (ms : List ℕ) → SpellAll rules nodes ms ps
        → (m : ℕ) × Spells rules nodes m q
    member_spelled (of_first w) ms (spell_more {n = n} s ss) = part_spelled w n s
    member_spelled (of_later w) ms (spell_more {ns = ns} s ss) = member_spelled w ns ss
