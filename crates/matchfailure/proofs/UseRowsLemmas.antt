-- Of each rule the rules that its body names.
-- Serves: explain_no_match
use Rattle.std.proofs.Common.{◌≡◌, inl, inr, ℕ, zero, suc, ◌+◌, ◌-◌, ◌≤◌, List, [], ◌∷◌, ◌++◌, length}
use Rattle.std.proofs.Common.{take, drop, Some, refl, sym, ap, ◌∙◌, arith, Vec, Global, append_assoc, subst}
use Rattle.std.proofs.Common.{Contains, add-one, get_or}
use Rattle.std.specs.Prelude.{slice_get}
use Rattle.std.specs.List.{flat_map}
use Rattle.std.proofs.lemmas.Grind.{flat_map-append}
use Rattle.std.proofs.lemmas.List.{append-nil, drop_more, drop_all, map-append, take_more}
use Rattle.std.proofs.lemmas.List.Elements.{Contains-append_cases}
use Rattle.std.proofs.lemmas.Option.{slice_get_within, get_or_from_slice_get}
use Rattle.fixpoint.specs.StepRows.{AreStepsWithin, rows_of, Step}
use Rattle.fixpoint.proofs.ContainsLemmas.{none_of, only_one}
use Rattle.gramcheck.specs.Grammar.{Grammar, IsSoundGrammar}
use Rattle.matchfailure.specs.ReportOrder.{first_node, named_id, use_rows}
use Rattle.pegnodes.specs.Nodes as node
use Rattle.pegnodes.specs.Nodes.{Shape, shapes_of}

pub in-rest : (ss : List Shape) (first n : ℕ) (s : Shape) → first ≤ n → slice_get ss n ≡ Some s
    → slice_get (drop first ss) (n - first) ≡ Some s
in-rest ss zero n s le at =
    let same : n - 0 ≡ n = omega arith in subst (λ k. slice_get ss k ≡ Some s) (sym same) at
in-rest [] (suc first) n s le at = absurd (cc at)
in-rest (t ∷ ss) (suc first) zero s le at = absurd (omega (arith, le))
in-rest (t ∷ ss) (suc first) (suc n) s le at =
    let same : suc n - suc first ≡ n - first = omega arith in
    subst (λ k. slice_get (drop first ss) k ≡ Some s) (sym same) (in-rest ss first n s (omega (arith, le)) at)

-- the ids of one node more
pub ids-more : (ss : List Shape) (n : ℕ) (s : Shape) (ids new : List ℕ) → slice_get ss n ≡ Some s
    → ids ≡ flat_map named_id (take n ss) → new ≡ ids ++ named_id s → new ≡ flat_map named_id (take (n + 1) ss)
ids-more ss n s ids new at is grown =
    let low = slice_get_within ss n s at in
    let one : take (n + 1) ss ≡ take n ss ++ s ∷ [] = take_more ss n s low
    ∙ ap (λ t. take n ss ++ t ∷ []) (get_or_from_slice_get ss n s s at) in
    grown ∙ ap (λ (l : List ℕ). l ++ named_id s) is
    ∙ sym (ap (flat_map named_id) one ∙ flat_map-append named_id (take n ss) (s ∷ [])
    ∙ ap (λ (l : List ℕ). flat_map named_id (take n ss) ++ l) (append-nil (named_id s)))

-- the row of one rule more
pub use-row-next : (nodes : List Shape) (bodies : List ℕ) (id first body : ℕ) (rows new : List (Vec ℕ Global))
    (row : Vec ℕ Global) → slice_get bodies id ≡ Some body
    → row.items ≡ flat_map named_id (take (body + 1 - first) (drop first nodes)) → new ≡ rows ++ row ∷ []
    → rows_of rows ++ use_rows nodes first (drop id bodies) ≡ use_rows nodes 0 bodies
    → rows_of new ++ use_rows nodes (body + 1) (drop (id + 1) bodies) ≡ use_rows nodes 0 bodies
use-row-next nodes bodies id first body rows new row at is pushed so =
    let low = slice_get_within bodies id body at in
    let cut : drop id bodies ≡ body ∷ drop (id + 1) bodies = drop_more bodies id body low
    ∙ ap (λ (b : ℕ). b ∷ drop (id + 1) bodies) (get_or_from_slice_get bodies id body body at) in
    let front : rows_of new ≡ rows_of rows ++ row.items ∷ [] =
    ap rows_of pushed ∙ map-append (λ (r : Vec ℕ Global). r.items) rows (row ∷ []) in
    ap (λ (l : List (List ℕ)). l ++ use_rows nodes (body + 1) (drop (id + 1) bodies)) front
    ∙ append_assoc (rows_of rows) (row.items ∷ []) (use_rows nodes (body + 1) (drop (id + 1) bodies))
    ∙ ap (λ (r : List ℕ). rows_of rows ++ r ∷ use_rows nodes (body + 1) (drop (id + 1) bodies)) is
    ∙ ap (λ (k : ℕ). rows_of rows ++ flat_map named_id (take (k - first) (drop first nodes))
    ∷ use_rows nodes k (drop (id + 1) bodies)) (add-one body)
    ∙ ap (λ (bs : List ℕ). rows_of rows ++ use_rows nodes first bs) (sym cut) ∙ so

-- the first node of the next rule's body
pub first-next : (bodies : List ℕ) (id : ℕ) → get_or bodies id 0 + 1 ≡ first_node bodies (id + 1)
first-next bodies id = ap (first_node bodies) (sym (add-one id))

pub first-of-all : (bodies : List ℕ) (id : ℕ) → id ≡ 0 → first_node bodies id ≡ 0
first-of-all bodies id is = ap (first_node bodies) is

pub first-after : (bodies : List ℕ) (id before : ℕ) → (id ≡ 0 → ⊥) → slice_get bodies (id - 1) ≡ Some before
    → first_node bodies id ≡ before + 1
first-after bodies zero before some at = absurd (some refl)
first-after bodies (suc id) before some at =
    let same : suc id - 1 ≡ id = omega arith in
    ap (λ n. n + 1) (get_or_from_slice_get bodies id before 0 (ap (slice_get bodies) (sym same) ∙ at))

-- the names of a body, from its first node to its last one
pub body-named : (nodes : List Shape) (bodies row : List ℕ) (id first last body : ℕ) → first_node bodies id ≡ first
    → slice_get bodies id ≡ Some last → slice_get bodies id ≡ Some body
    → row ≡ flat_map named_id (take (body + 1 - first) (drop first nodes))
    → row ≡ flat_map named_id (take (last + 1 - first_node bodies id) (drop (first_node bodies id) nodes))
body-named nodes bodies row id first last body begins at is named =
    let same : body ≡ last = cc (at, is) in
    subst (λ (k : ℕ). row ≡ flat_map named_id (take (last + 1 - k) (drop k nodes))) (sym begins)
    (subst (λ (k : ℕ). row ≡ flat_map named_id (take (k + 1 - first) (drop first nodes))) same named)

pub use-rows-done : (nodes : List Shape) (bodies : List ℕ) (id first : ℕ) (rows : List (Vec ℕ Global))
    → length bodies ≤ id → rows_of rows ++ use_rows nodes first (drop id bodies) ≡ use_rows nodes 0 bodies
    → rows_of rows ≡ use_rows nodes 0 bodies
use-rows-done nodes bodies id first rows past so =
    sym (append-nil (rows_of rows))
    ∙ ap (λ (bs : List ℕ). rows_of rows ++ use_rows nodes first bs) (sym (drop_all id bodies past)) ∙ so

pub count-rows : (nodes : List Shape) (first : ℕ) (bodies : List ℕ) → length (use_rows nodes first bodies)
    ≡ length bodies
count-rows nodes first [] = refl
count-rows nodes first (b ∷ bodies) = ap suc (count-rows nodes (suc b) bodies)

-- what a row has is a name of a node
one-named : (s : Shape) (m : ℕ) → Contains (named_id s) m → s ≡ node.Name m
one-named node.Any m h = absurd (none_of m h)
one-named (node.Bytes bs) m h = absurd (none_of m h)
one-named (node.Set s) m h = absurd (none_of m h)
one-named (node.Name id) m h = ap node.Name (only_one id m h)
one-named (node.Seq ms) m h = absurd (none_of m h)
one-named (node.Choice ms) m h = absurd (none_of m h)
one-named (node.Star k) m h = absurd (none_of m h)
one-named (node.Plus k s) m h = absurd (none_of m h)
one-named (node.Opt k) m h = absurd (none_of m h)
one-named (node.And k) m h = absurd (none_of m h)
one-named (node.Not k) m h = absurd (none_of m h)
one-named (node.Act t) m h = absurd (none_of m h)
one-named node.Open m h = absurd (none_of m h)
one-named node.Close m h = absurd (none_of m h)

named-in : (ss : List Shape) (m : ℕ) → Contains (flat_map named_id ss) m
    → (k : ℕ) × (slice_get ss k ≡ Some (node.Name m))
named-in [] m h = absurd (none_of m h)
named-in (s ∷ ss) m h = elim (Contains-append_cases (named_id s) (flat_map named_id ss) m h) [
  | inl here ↦ (0, ap Some (one-named s m here))
  | inr later ↦ let rest = named-in ss m later in (suc rest.0, rest.1)
]

in-take : (ss : List Shape) (n k : ℕ) (s : Shape) → slice_get (take n ss) k ≡ Some s → slice_get ss k ≡ Some s
in-take [] zero k s e = absurd (cc e)
in-take [] (suc n) k s e = absurd (cc e)
in-take (t ∷ ss) zero k s e = absurd (cc e)
in-take (t ∷ ss) (suc n) zero s e = e
in-take (t ∷ ss) (suc n) (suc k) s e = in-take ss n k s e

in-drop : (ss : List Shape) (n k : ℕ) (s : Shape) → slice_get (drop n ss) k ≡ Some s
    → (j : ℕ) × (slice_get ss j ≡ Some s)
in-drop ss zero k s e = (k, e)
in-drop [] (suc n) k s e = absurd (cc e)
in-drop (t ∷ ss) (suc n) k s e = let rest = in-drop ss n k s e in (suc rest.0, rest.1)

rows-named : (nodes : List Shape) (first : ℕ) (bodies : List ℕ) (n m : ℕ) → Step (use_rows nodes first bodies) n m
    → (k : ℕ) × (slice_get nodes k ≡ Some (node.Name m))
rows-named nodes first [] n m h = absurd (none_of m h)
rows-named nodes first (b ∷ bodies) zero m h =
    let there = named-in (take (suc b - first) (drop first nodes)) m h in
    in-drop nodes first there.0 (node.Name m)
    (in-take (drop first nodes) (suc b - first) there.0 (node.Name m) there.1)
rows-named nodes first (b ∷ bodies) (suc n) m h = rows-named nodes (suc b) bodies n m h

pub use-rows-within : (g : Grammar) → IsSoundGrammar g → AreStepsWithin (use_rows (shapes_of g.nodes) 0 g.bodies)
use-rows-within g sound = record {
  within = λ n m h. let there = rows-named (shapes_of g.nodes) 0 g.bodies n m h in
      let low = sound.defined there.0 m there.1 in
      omega (arith, low, sound.spelled.count, count-rows (shapes_of g.nodes) 0 g.bodies);
}
