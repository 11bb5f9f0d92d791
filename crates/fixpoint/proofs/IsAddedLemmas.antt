-- Tables of names, with one name more.
-- Serves: add_name, names_of_rules, lower_viable
use Rattle.std.proofs.Common.{◌≡◌, ℕ, zero, suc, ◌+◌, ◌<◌, cond, List, [], ◌∷◌, ◌++◌, map, take, position, Some, refl}
use Rattle.std.proofs.Common.{sym, ◌∙◌, ap, subst, arith, append-nil, add-one}
use Rattle.std.specs.Prelude.{slice_get}
use Rattle.std.proofs.Math.Seq.{take-suc}
use Rattle.std.proofs.lemmas.Bool.{both_ways}
use Rattle.std.proofs.lemmas.List.{map-append, length-map, length-take, get_or-take}
use Rattle.std.proofs.lemmas.List.Quantifiers.{position-Some}
use Rattle.std.proofs.lemmas.Option.{slice_get_within, get_or_from_slice_get}
use Rattle.ruletable.proofs.TableLemmas.{position-map}
use Rattle.ruletable.specs.Rules.{Rules, Defines, HasUniqueNames, find_in, names_of, same_name}
use Rattle.ruletable.specs.Rules as table
use Rattle.ruletable.specs.declared.table.Defined.{Defined}
use Rattle.ruletable.specs.declared.table.Defined.TheVariants.{Added, Duplicate}
use Rattle.ruletable.specs.declared.table.NameCase.{NameCase}
use Rattle.fixpoint.specs.NameUses.{IsAdded, IsPosition}
use Rattle.fixpoint.proofs.IsPositionLemmas.{position_among, position_last, position_of, position-none}

-- where a table finds a name
pub found_in : {T : Type 0} (names : Rules T) (name : List ℕ)
    → find_in names name ≡ position (same_name names.names name) (names_of names)
found_in names name = sym (position-map (λ rule. rule.name) (same_name names.names name) names.rules)

-- a name is added, or was there
pub added_by : (old new : Rules (Unit {0})) (rule : table.Rule (Unit {0})) (id : ℕ) → Defines old new rule (Added id)
    → IsAdded old new rule.name id
added_by old new rule id d =
    let none = position-none (same_name old.names rule.name) (names_of old) (sym (found_in old rule.name) ∙ d.0) in
    let all : names_of new ≡ names_of old ++ rule.name ∷ [] = ap names_of d.2
    ∙ map-append (λ r. r.name) old.rules (rule ∷ []) in
    record {
      case = ap (λ t. t.names) d.2;
      all = all ∙ ap (λ b. names_of old ++ cond b [] (rule.name ∷ [])) (sym none);
      at = subst (λ l. IsPosition old.names rule.name l id) (sym all)
          (subst (λ v. IsPosition old.names rule.name (names_of old ++ rule.name ∷ []) v)
          (length-map old.rules (λ r. r.name) ∙ sym d.1) (position_last old.names rule.name (names_of old) none));
    }

pub kept_by : (old new : Rules (Unit {0})) (name : List ℕ) (id : ℕ) → find_in old name ≡ Some id → new ≡ old
    → IsAdded old new name id
kept_by old new name id found same =
    let p = position_of old.names name (names_of old) id (sym (found_in old name) ∙ found) in
    record {
      case = ap (λ t. t.names) same;
      all = ap names_of same ∙ sym (append-nil (names_of old)) ∙ ap (λ b. names_of old ++ cond b [] (name ∷ []))
          (sym (position_among old.names p));
      at = subst (λ t. IsPosition old.names name (names_of t) id) (sym same) p;
    }

-- the rule of a name
rule_named : {T : Type 0} (rules : List (table.Rule T)) (id : ℕ) (name : List ℕ)
    → slice_get (map (λ rule. rule.name) rules) id ≡ Some name →
    (rule : table.Rule T) × (slice_get rules id ≡ Some rule) × (rule.name ≡ name)
rule_named [] id name h = absurd (cc h)
rule_named (rule ∷ rules) zero name h = (rule, refl, cc h)
rule_named (rule ∷ rules) (suc id) name h = rule_named rules id name h

module _ {T : Type 0} (t : Rules T) (unique : HasUniqueNames t) where
  -- each name of a table is found where it stands
  pub own_position : (id : ℕ) (name : List ℕ) → slice_get (names_of t) id ≡ Some name
      → position (same_name t.names name) (names_of t) ≡ Some id
  own_position id name at =
      let r = rule_named t.rules id name at in
      sym (found_in t name) ∙ subst (λ n. find_in t n ≡ Some id) r.2 (unique.own id r.0 r.1)

  -- the names in order make a table of them all
  pub name_next : {B : Type 0} (case : NameCase) → t.names ≡ case → (names new : Rules B) (i : ℕ) (rule : table.Rule B)
      (done : Defined) → names.names ≡ case →
      names_of names ≡ take i (names_of t) → slice_get (names_of t) i ≡ Some rule.name → Defines names new rule done
      → (new.names ≡ case) × (names_of new ≡ take (i + 1) (names_of t))
  name_next case same names new i rule (Added id) compares so_far at d = (
    ap (λ n. n.names) d.2 ∙ compares,
    ap names_of d.2 ∙ map-append (λ r. r.name) names.rules (rule ∷ []) ∙ ap (λ l. l ++ rule.name ∷ []) so_far
        ∙ ap (λ x. take i (names_of t) ++ x ∷ []) (sym (get_or_from_slice_get (names_of t) i rule.name [] at))
        ∙ sym (ap (λ (k : ℕ). take k (names_of t)) (add-one i)
        ∙ take-suc (names_of t) i [] (slice_get_within (names_of t) i rule.name at)),
  )
  name_next case same names new i rule (Duplicate id) compares so_far at d =
      let here = rw (compares, so_far) at (sym (found_in names rule.name) ∙ d.0) in
      let p = position-Some (same_name case rule.name) (take i (names_of t)) id [] here in
      let low : id < i = omega (arith, p.0, length-take i (names_of t)) in
      let own = rw same at (own_position i rule.name at) in
      let q = position-Some (same_name case rule.name) (names_of t) i [] own in
      let yes = ap (same_name case rule.name) (sym (get_or-take i (names_of t) id [] low)) ∙ p.1 in
      absurd (both_ways _ (q.2 id low) yes)
