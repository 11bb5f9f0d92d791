-- The nodes of rules' bodies, by the rules' names.
-- Serves: check_peg
use Rattle.std.proofs.Common.{◌≡◌, ℕ, zero, suc, ◌+◌, ◌<◌, Bool, true, false, cond, List, [], ◌∷◌, length, map, get_or}
use Rattle.std.proofs.Common.{refl, ap, subst, arith, add-one, ◌∙◌, Some, Contains, Option, None, option_to_list}
use Rattle.std.specs.Prelude.{slice_get, bytes_eq, option_map}
use Rattle.std.proofs.lemmas.List.{length-map}
use Rattle.std.proofs.lemmas.Option.{slice_get_within, slice_get-get_or, slice_get-map}
use Rattle.pegread.specs.Pattern.{Pattern, Rule, body_of}
use Rattle.pegnodes.specs.Bodies.{AreBodies}
use Rattle.pegnodes.specs.Nodes.{Shape, Spells, id_of}
use Rattle.fixpoint.proofs.ContainsLemmas.{none_of, only_one}

abbrev pub bodies_of : List Rule → List Pattern
bodies_of rules = map (λ rule. rule.body) rules

id_body : (rules : List Rule) (name : List ℕ) (p : Pattern) → body_of rules name ≡ Some p
    → slice_get (bodies_of rules) (id_of rules name) ≡ Some p
id_body [] name p e = absurd (cc e)
id_body (rule ∷ rules) name p e = cases (bytes_eq rule.name name) refl e (λ h. id_body rules name p h)
  where
    cases : (b : Bool) → bytes_eq rule.name name ≡ b → cond b (Some rule.body) (body_of rules name) ≡ Some p
        → (body_of rules name ≡ Some p → slice_get (bodies_of rules) (id_of rules name) ≡ Some p) →
        slice_get (rule.body ∷ bodies_of rules) (cond b 0 (id_of rules name + 1)) ≡ Some p
    cases true u e f = e
    cases false u e f = rw add-one (f e)

body_id : (rules : List Rule) (name : List ℕ) (p : Pattern) → slice_get (bodies_of rules) (id_of rules name) ≡ Some p
    → body_of rules name ≡ Some p
body_id [] name p e = absurd (cc e)
body_id (rule ∷ rules) name p e = cases (bytes_eq rule.name name) refl e (λ h. body_id rules name p h)
  where
    cases : (b : Bool) → bytes_eq rule.name name ≡ b
        → slice_get (rule.body ∷ bodies_of rules) (cond b 0 (id_of rules name + 1)) ≡ Some p →
        (slice_get (bodies_of rules) (id_of rules name) ≡ Some p → body_of rules name ≡ Some p)
        → cond b (Some rule.body) (body_of rules name) ≡ Some p
    cases true u e f = e
    cases false u e f = f (rw add-one at e)

module _ (rules : List Rule) (nodes : List Shape) (bodies : List ℕ) (are : AreBodies rules nodes bodies) where
  -- the node of a name's body
  pub body_node : (name : List ℕ) (p : Pattern) → body_of rules name ≡ Some p → (m : ℕ)
      × (slice_get bodies (id_of rules name) ≡ Some m) × Spells rules nodes m p
  body_node name p e =
      let at = id_body rules name p e in
      let lt = slice_get_within (bodies_of rules) (id_of rules name) p at in
      let l = length-map rules (λ rule. rule.body) in
      let c = are.count in
      let low : id_of rules name < length bodies = omega (arith, lt, l, c) in
      let found = slice_get-get_or bodies (id_of rules name) 0 low in
      let s = are.spelled (id_of rules name) (get_or bodies (id_of rules name) 0) found in
      let same : s.0 ≡ p = cc (s.1, at) in (
        get_or bodies (id_of rules name) 0,
        found,
        subst (λ v. Spells rules nodes (get_or bodies (id_of rules name) 0)
            v) same s.2,
      )

  -- the body of a name's node
  pub node_body : (name : List ℕ) (m : ℕ) → slice_get bodies (id_of rules name) ≡ Some m → (p : Pattern)
      × (body_of rules name ≡ Some p) × Spells rules nodes m p
  node_body name m e = let s = are.spelled (id_of rules name) m e in (s.0, body_id rules name s.0 s.1, s.2)

-- what is said of each node, at a node
pub said_here : {A : Type 0} (f : Shape → A) (nodes : List Shape) (n : ℕ) (a : Shape) → slice_get nodes n ≡ Some a
    → slice_get (map f nodes) n ≡ Some (f a)
said_here f nodes n a e = slice_get-map f nodes n ∙ ap (option_map f) e

pub said_there : {A : Type 0} (f : Shape → A) (nodes : List Shape) (n : ℕ) (d : A) → slice_get (map f nodes) n ≡ Some d
    → (a : Shape) × (slice_get nodes n ≡ Some a) × (f a ≡ d)
said_there f [] n d e = absurd (cc e)
said_there f (a ∷ nodes) zero d e = (a, refl, cc e)
said_there f (a ∷ nodes) (suc n) d e = said_there f nodes n d e

-- the node of a body, if there is one
pub name_body : (bodies : List ℕ) (id m : ℕ) → Contains (option_to_list (slice_get bodies id)) m
    → slice_get bodies id ≡ Some m
name_body bodies id m h = cases (slice_get bodies id) refl h
  where
    cases : (o : Option ℕ) → slice_get bodies id ≡ o → Contains (option_to_list o) m → slice_get bodies id ≡ Some m
    cases None e h = absurd (none_of m h)
    cases (Some k) e h = e ∙ ap Some (only_one k m h)
