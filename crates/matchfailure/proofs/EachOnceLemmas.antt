-- Evaluations that are reported, each once.
-- Serves: explain_no_match
use Rattle.std.proofs.Common.{◌≡◌, inl, inr, ℕ, zero, suc, ◌+◌, ◌^◌, ◌<◌, ◌≤◌, Bool, true, false, cond, List}
use Rattle.std.proofs.Common.{[], ◌∷◌, ◌++◌}
use Rattle.std.proofs.Common.{length, map, drop, get_or, Option, Some, None, refl, sym, ap, ◌∙◌, subst, arith, nat_lt}
use Rattle.std.proofs.Common.{append_assoc, Contains, ◌||◌, take}
use Rattle.std.specs.Prelude.{slice_get, bytes_eq, position}
use Rattle.std.specs.List.{list_any, position_or_len}
use Rattle.std.specs.List.Sorted.{IsPermutation}
use Rattle.std.proofs.lemmas.List.{append-nil, drop_all, drop_more, map-append, take_more}
use Rattle.std.proofs.lemmas.List.Sorted.{Contains-permutation, IsPermutation-map, IsPermutation-sym}
use Rattle.std.proofs.lemmas.Option.{slice_get_within, get_or_from_slice_get, slice_get-get_or}
use Rattle.ruletable.specs.Rules as table
use Rattle.ruletable.specs.declared.table.Defined.TheVariants.{Added, Duplicate}
use Rattle.ruletable.specs.declared.table.NameCase.TheVariants.{Exact}
use Rattle.matchfailure.specs.declared.farthest.visit.Visit.{Visit}
use Rattle.matchfailure.specs.FittingFailures.{AreFitting}
use Rattle.matchfailure.specs.NodeTexts.{rule_of_node}
use Rattle.matchfailure.specs.ReportOrder.{each_once, key_of, leaf_kind, uses_or, visit_of}
use Rattle.matchfailure.proofs.AddsVisitsLemmas.{get_cases}
use Rattle.pegnodes.specs.Nodes.{Shape}

any-first : {X : Type 0} (p : X → Bool) (x : X) (xs : List X) (b : Bool) → p x ≡ b
    → list_any p xs ≡ nat_lt (position_or_len p xs) (length xs)
    → list_any p (x ∷ xs) ≡ nat_lt (position_or_len p (x ∷ xs)) (length (x ∷ xs))
any-first p x xs true e rest = grind (arith, e)
any-first p x xs false e rest = grind (arith, e, rest)

any-before : {X : Type 0} (p : X → Bool) (xs : List X) → list_any p xs ≡ nat_lt (position_or_len p xs) (length xs)
any-before p [] = refl
any-before p (x ∷ xs) = any-first p x xs (p x) refl (any-before p xs)

any-named : {E : Type 0} (name : List ℕ) (rules : List (table.Rule E))
    → list_any (bytes_eq name) (map (λ r. r.name) rules) ≡ list_any (λ r. bytes_eq name r.name) rules
any-named name [] = refl
any-named name (r ∷ rules) = ap (λ b. bytes_eq name r.name || b) (any-named name rules)

module _ {E : Type 0} (rules : table.Rules E) (exact : rules.names ≡ Exact) (name : List ℕ) where
  pub new-text : table.find_in rules name ≡ None → list_any (bytes_eq name) (table.names_of rules) ≡ false
  new-text none = any-named name rules.rules ∙ any-before (λ r. bytes_eq name r.name) rules.rules
      ∙ by (nat_lt _ _) refl (subst (λ c. position (λ r. table.same_name c name r.name) rules.rules ≡ None) exact none)
    where
      by : (b : Bool) → nat_lt (position_or_len (λ r. bytes_eq name r.name) rules.rules) (length rules.rules) ≡ b
          → position (λ r. bytes_eq name r.name) rules.rules ≡ None → b ≡ false
      by true e h = absurd (let is = ap (λ t. cond t (Some (position_or_len (λ r. bytes_eq name r.name) rules.rules))
          None) (sym e) ∙ h in cc is)
      by false e h = refl

  pub known-text : (id : ℕ) → table.find_in rules name ≡ Some id
      → list_any (bytes_eq name) (table.names_of rules) ≡ true
  known-text id some = any-named name rules.rules ∙ any-before (λ r. bytes_eq name r.name) rules.rules
      ∙ by (nat_lt _ _) refl
      (subst (λ c. position (λ r. table.same_name c name r.name) rules.rules ≡ Some id) exact some)
    where
      by : (b : Bool) → nat_lt (position_or_len (λ r. bytes_eq name r.name) rules.rules) (length rules.rules) ≡ b
          → position (λ r. bytes_eq name r.name) rules.rules ≡ Some id → b ≡ true
      by true e h = refl
      by false e h = absurd (let is = ap (λ t. cond t (Some (position_or_len (λ r. bytes_eq name r.name) rules.rules))
          None) (sym e) ∙ h in cc is)

module _ (text : Visit → List ℕ) (keys : List (List ℕ)) where
  -- the evaluations so far, and what the others add to them
  abbrev pub AreAllReported : List (List ℕ) → List Visit → ℕ → Type 0
  AreAllReported seen reported i =
      reported ++ each_once text seen (map visit_of (drop i keys)) ≡ each_once text [] (map visit_of keys)

  next-reported : (seen : List (List ℕ)) (i : ℕ) (d : List ℕ) → i < length keys
      → each_once text seen (map visit_of (drop i keys))
      ≡ each_once text seen (visit_of (get_or keys i d) ∷ map visit_of (drop (i + 1) keys))
  next-reported seen i d less = ap (λ ks. each_once text seen (map visit_of ks)) (drop_more keys i d less)

  once-new : (seen : List (List ℕ)) (v : Visit) (vs : List Visit) → list_any (bytes_eq (text v)) seen ≡ false
      → each_once text seen (v ∷ vs) ≡ v ∷ each_once text (seen ++ text v ∷ []) vs
  once-new seen v vs new = ap (λ b. cond b (each_once text seen vs) (v ∷ each_once text (seen ++ text v ∷ []) vs)) new

  once-known : (seen : List (List ℕ)) (v : Visit) (vs : List Visit) → list_any (bytes_eq (text v)) seen ≡ true
      → each_once text seen (v ∷ vs) ≡ each_once text seen vs
  once-known seen v vs known =
      ap (λ b. cond b (each_once text seen vs) (v ∷ each_once text (seen ++ text v ∷ []) vs)) known

  pub reported-new : (seen next : List (List ℕ)) (reported later : List Visit) (i : ℕ) (d : List ℕ) (v : Visit)
      → i < length keys → AreAllReported seen reported i → v ≡ visit_of (get_or keys i d)
      → list_any (bytes_eq (text v)) seen ≡ false
      → next ≡ seen ++ text v ∷ [] → later ≡ reported ++ v ∷ [] → AreAllReported next later (i + 1)
  reported-new seen next reported later i d v less so is new more grown =
      let step : each_once text seen (map visit_of (drop i keys))
      ≡ v ∷ each_once text (seen ++ text v ∷ []) (map visit_of (drop (i + 1) keys)) = next-reported seen i d less
      ∙ ap (λ w. each_once text seen (w ∷ map visit_of (drop (i + 1) keys))) (sym is)
      ∙ once-new seen v (map visit_of (drop (i + 1) keys)) new in
      rw (grown, more) (append_assoc reported (v ∷ []) _ ∙ ap (λ (ws : List Visit). reported ++ ws) (sym step) ∙ so)

  pub reported-known : (seen next : List (List ℕ)) (reported : List Visit) (i : ℕ) (d : List ℕ) (v : Visit)
      → i < length keys
      → AreAllReported seen reported i → v ≡ visit_of (get_or keys i d) → list_any (bytes_eq (text v)) seen ≡ true
      → next ≡ seen → AreAllReported next reported (i + 1)
  reported-known seen next reported i d v less so is known more =
      let step : each_once text seen (map visit_of (drop i keys))
      ≡ each_once text seen (map visit_of (drop (i + 1) keys)) = next-reported seen i d less
      ∙ ap (λ w. each_once text seen (w ∷ map visit_of (drop (i + 1) keys))) (sym is)
      ∙ once-known seen v (map visit_of (drop (i + 1) keys)) known in
      rw more (ap (λ (ws : List Visit). reported ++ ws) (sym step) ∙ so)

  -- the evaluation of a key, whose text is new or known
  module _ (old new : table.Rules (Unit {0})) (rule : table.Rule (Unit {0})) (exact : old.names ≡ Exact)
      (reported : List Visit) (i : ℕ) (less : i < length keys) (so : AreAllReported (table.names_of old) reported i)
      (named : rule.name ≡ text (visit_of (get_or keys i []))) where
    pub once-added : (id : ℕ) → table.Defines old new rule (Added id) → (later : List Visit)
        → later ≡ reported ++ visit_of (get_or keys i []) ∷ []
        → (new.names ≡ Exact) × AreAllReported (table.names_of new) later (i + 1)
    once-added id defines later grown =
        let names : table.names_of new ≡ table.names_of old ++ text (visit_of (get_or keys i [])) ∷ [] =
        ap table.names_of defines.2 ∙ map-append (λ (r : table.Rule (Unit {0})). r.name) old.rules (rule ∷ [])
        ∙ ap (λ (n : List ℕ). table.names_of old ++ n ∷ []) named in (
          ap (λ (t : table.Rules (Unit {0})). t.names) defines.2 ∙ exact,
          reported-new (table.names_of old) (table.names_of new) reported later i []
              (visit_of (get_or keys i [])) less so refl
              (subst (λ n. list_any (bytes_eq n) (table.names_of old) ≡ false) named
              (new-text old exact rule.name defines.0)) names grown,
        )

    pub once-duplicate : (id : ℕ) → table.Defines old new rule (Duplicate id)
        → (new.names ≡ Exact) × AreAllReported (table.names_of new) reported (i + 1)
    once-duplicate id defines = (
      ap (λ (t : table.Rules (Unit {0})). t.names) defines.1 ∙ exact,
      reported-known (table.names_of old) (table.names_of new) reported i [] (visit_of (get_or keys i [])) less so refl
          (subst (λ n. list_any (bytes_eq n) (table.names_of old) ≡ true) named
          (known-text old exact rule.name id defines.0)) (ap table.names_of defines.1),
    )

-- one evaluation more that fits
pub fits-more : (nodes unit : ℕ) (vs : List Visit) (v : Visit) → AreFitting nodes unit vs
    → (v.node < nodes) × (unit + v.position < 2 ^ 63) → AreFitting nodes unit (vs ++ v ∷ [])
fits-more nodes unit vs v fit one w (k, at) = elim (get_cases vs v w k at) [
  | inl before ↦ fit w (k, before)
  | inr last ↦ subst (λ u. (u.node < nodes) × (unit + u.position < 2 ^ 63)) last.1 one
]

-- the keys of evaluations that fit, in another order
at-key : (keys : List (List ℕ)) (k : ℕ) (v : Visit) → slice_get (map visit_of keys) k ≡ Some v
    → Contains (map visit_of keys) v
at-key keys k v at =
    (k, slice_get_within (map visit_of keys) k v at, get_or_from_slice_get (map visit_of keys) k v v at)

map-back : (far : List (Option ℕ)) (nodes : List Shape) (bodies : List ℕ) (vs : List Visit)
    → map visit_of (map (key_of far nodes bodies) vs) ≡ vs
map-back far nodes bodies [] = refl
map-back far nodes bodies (v ∷ vs) = ap (λ (ws : List Visit). v ∷ ws) (map-back far nodes bodies vs)

pub keys-fit : (far : List (Option ℕ)) (nodes : List Shape) (bodies : List ℕ) (count unit : ℕ) (vs : List Visit)
    (keys : List (List ℕ)) → IsPermutation (map (key_of far nodes bodies) vs) keys → AreFitting count unit vs
    → AreFitting count unit (map visit_of keys)
keys-fit far nodes bodies count unit vs keys same fit v (k, at) =
    let moved = IsPermutation-map visit_of (map (key_of far nodes bodies) vs) keys same in
    let back : IsPermutation vs (map visit_of keys) =
    subst (λ ws. IsPermutation ws (map visit_of keys)) (map-back far nodes bodies vs) moved in
    let there = Contains-permutation (map visit_of keys) vs v (IsPermutation-sym vs (map visit_of keys) back)
    (at-key keys k v at) in
    fit v (there.0, slice_get-get_or vs there.0 v there.1 ∙ ap Some there.2)

-- the key of one evaluation more
pub keys-more : (far : List (Option ℕ)) (nodes : List Shape) (bodies : List ℕ) (vs : List Visit) (i : ℕ) (d : Visit)
    (keys new : List (List ℕ)) (uses rule kind : ℕ) → i < length vs → rule ≡ rule_of_node bodies (get_or vs i d).node
    → uses ≡ uses_or (length far) (get_or far rule None) → kind ≡ leaf_kind (slice_get nodes (get_or vs i d).node)
    → keys ≡ map (key_of far nodes bodies) (take i vs)
    → new ≡ keys ++ (uses ∷ (rule ∷ (kind ∷ ((get_or vs i d).node ∷ ((get_or vs i d).position ∷ []))))) ∷ []
    → new ≡ map (key_of far nodes bodies) (take (i + 1) vs)
keys-more far nodes bodies vs i d keys new uses rule kind less is far_is kind_is so grown =
    let v : Visit = get_or vs i d in
    let near : uses ≡ uses_or (length far) (get_or far (rule_of_node bodies v.node) None) =
    far_is ∙ ap (λ (r : ℕ). uses_or (length far) (get_or far r None)) is in
    let key : ◌≡◌ {A = List ℕ} (uses ∷ (rule ∷ (kind ∷ (v.node ∷ (v.position ∷ []))))) (key_of far nodes bodies v) =
    cc (near, is, kind_is) in
    let one : take (i + 1) vs ≡ take i vs ++ v ∷ [] = take_more vs i d less in
    grown ∙ ap (λ (k : List ℕ). keys ++ k ∷ []) key
    ∙ ap (λ (ks : List (List ℕ)). ks ++ key_of far nodes bodies v ∷ []) so
    ∙ sym (ap (map (key_of far nodes bodies)) one ∙ map-append (key_of far nodes bodies) (take i vs) (v ∷ []))

pub key-at : (keys : List (List ℕ)) (i : ℕ) → i < length keys
    → slice_get (map visit_of keys) i ≡ Some (visit_of (get_or keys i []))
key-at [] i less = absurd (omega (arith, less))
key-at (k ∷ keys) zero less = refl
key-at (k ∷ keys) (suc i) less = key-at keys i (omega (arith, less))

pub once-done : (text : Visit → List ℕ) (keys : List (List ℕ)) (seen : List (List ℕ)) (reported : List Visit) (i : ℕ)
    → length keys ≤ i → AreAllReported text keys seen reported i → reported ≡ each_once text [] (map visit_of keys)
once-done text keys seen reported i past so =
    sym (append-nil reported)
    ∙ ap (λ (ks : List (List ℕ)). reported ++ each_once text seen (map visit_of ks)) (sym (drop_all i keys past)) ∙ so
