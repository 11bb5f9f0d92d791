-- The parts of dotted rules, by the tables.
-- Serves: part_of; awaited of lazydfa, awaited_at of earley.
use Rattle.std.proofs.Common.{◌≡◌, ◌⊎◌, inl, inr, ℕ, zero, suc, ◌<◌, Bool, true, false, List, [], ◌∷◌, length, refl}
use Rattle.std.proofs.Common.{sym, ◌∙◌, ap, subst, arith}
use Rattle.std.specs.Prelude.{◌≢◌, slice_get, Option, Some, None}
use Rattle.flatgrammar.specs.Flat.{Dot, at, Node, Letters, Concat, Alt, Rep, Iterations, Opt, Name, Nothing, Set, Calls}
use Rattle.flatgrammar.specs.Flat.{calls}
use Rattle.flatgrammar.specs.FlatViews.{node_of}
use Rattle.flatgrammar.specs.Holds.{Holds}
use Rattle.flatgrammar.specs.ItemClosures.{item_at, dot}
use Rattle.flatgrammar.specs.NodeSteps.{flat_of, callee, is_name_node, read_at}
use Rattle.flatgrammar.specs.OldItems as old
use Rattle.flatgrammar.specs.OldItems.{HasPart, IsNameNode}
use Rattle.flatgrammar.specs.CalledParts as part
use Rattle.flatgrammar.specs.CalledParts.{IsPartOf}
use Rattle.flatgrammar.specs.Stacks.{node_at}
use Rattle.flatgrammar.specs.TableViews.{callee_in, callee_of, is_name_in, name_of, read_in, read_of}
use Rattle.flatgrammar.specs.declared.closure.DottedRule.{DottedRule}
use Rattle.flatgrammar.specs.declared.flat_node.Node as code_node
use Rattle.flatgrammar.specs.declared.tables.Tables as code_flat
use Rattle.flatgrammar.proofs.CallOfLemmas.{calling_callee, get_below, get_map, get_unmap}
use Rattle.flatgrammar.proofs.NodeStepsLemmas.{callee_calling}

bool_cases : (b : Bool) → (b ≡ true) ⊎ (b ≡ false)
bool_cases true = inl refl
bool_cases false = inr refl

no_callee : (node : Node) (k : ℕ) {set : Set} → read_at node k ≡ Some set → callee node k ≡ None
no_callee (Letters sets) k h = refl
no_callee (Concat ms) k h = absurd (cc h)
no_callee (Alt ms) k h = absurd (cc h)
no_callee (Rep a b m) k h = absurd (cc h)
no_callee (Iterations b m) k h = absurd (cc h)
no_callee (Opt m) k h = absurd (cc h)
no_callee (Name r) k h = absurd (cc h)
no_callee Nothing k h = absurd (cc h)

name_there : (node : Node) → is_name_node node ≡ true → (r : ℕ) × (node ≡ Name r)
name_there (Letters sets) h = absurd (cc h)
name_there (Concat ms) h = absurd (cc h)
name_there (Alt ms) h = absurd (cc h)
name_there (Rep a b m) h = absurd (cc h)
name_there (Iterations b m) h = absurd (cc h)
name_there (Opt m) h = absurd (cc h)
name_there (Name r) h = (r, refl)
name_there Nothing h = absurd (cc h)

letters_there : (node : Node) (k : ℕ) {set : Set} → read_at node k ≡ Some set
    → (sets : List Set) × (node ≡ Letters sets) × (k < length sets)
letters_there (Letters sets) k h = (sets, refl, get_below sets k h)
letters_there (Concat ms) k h = absurd (cc h)
letters_there (Alt ms) k h = absurd (cc h)
letters_there (Rep a b m) k h = absurd (cc h)
letters_there (Iterations b m) k h = absurd (cc h)
letters_there (Opt m) k h = absurd (cc h)
letters_there (Name r) k h = absurd (cc h)
letters_there Nothing k h = absurd (cc h)

-- what reads calls nothing
pub reader_calls_none : (tables : code_flat.Tables) (n k : ℕ) → read_of tables (item_at 0 (dot n k)) ≢ None
    → callee_of tables (item_at 0 (dot n k)) ≡ None
reader_calls_none tables n k some = by (slice_get tables.nodes.items n) refl
  where
    at_node : (node : code_node.Node) → slice_get tables.nodes.items n ≡ Some node → (o : Option Set)
        → read_at (node_of node) k ≡ o → callee_of tables (item_at 0 (dot n k)) ≡ None
    at_node node is None none = absurd (some (ap (λ v. read_in v k) is ∙ none))
    at_node node is (Some set) there = ap (λ v. callee_in v k) is ∙ no_callee (node_of node) k there

    by : (o : Option code_node.Node) → slice_get tables.nodes.items n ≡ o
        → callee_of tables (item_at 0 (dot n k)) ≡ None
    by None is = ap (λ v. callee_in v k) is
    by (Some node) is = at_node node is (read_at (node_of node) k) refl

module _ (tables : code_flat.Tables) where
  pub callee_calls : (n k : ℕ) {s next : ℕ} → callee_of tables (item_at 0 (dot n k)) ≡ Some (s, next)
      → Calls (flat_of tables) (at n k) s (at n next)
  callee_calls n k {s = s} {next = next} h = by (slice_get tables.nodes.items n) refl
    where
      by : (o : Option code_node.Node) → slice_get tables.nodes.items n ≡ o
          → Calls (flat_of tables) (at n k) s (at n next)
      by None is = let none = ap (λ v. callee_in v k) (sym is) in absurd (cc (none, h))
      by (Some node) is =
          let there : callee (node_of node) k ≡ Some (s, next) = ap (λ v. callee_in v k) (sym is) ∙ h in
          calls (get_map node_of tables.nodes.items n is) (callee_calling (node_of node) k s next there)

  pub calls_callee : {q r : Dot} {s : ℕ} → Calls (flat_of tables) q s r → (n : ℕ) × (k : ℕ) × (next : ℕ)
      × (q ≡ at n k) × (r ≡ at n next) × (callee_of tables (item_at 0 (dot n k)) ≡ Some (s, next))
  calls_callee (calls {s = n} {k = k} {t = t} {l = l} {node = node} is c) =
      let u = get_unmap node_of tables.nodes.items n node is in (
        n,
        k,
        l,
        refl,
        refl,
        ap (λ v. callee_in v k) u.at ∙ (ap (λ v. callee v k) u.is ∙ calling_callee c),
      )

  pub named_node : (s : ℕ) → name_of tables s ≡ true → IsNameNode (flat_of tables) s
  named_node s h = by (slice_get tables.nodes.items s) refl
    where
      by : (o : Option code_node.Node) → slice_get tables.nodes.items s ≡ o → IsNameNode (flat_of tables) s
      by None is = let none = ap (λ v. is_name_in v) (sym is) in absurd (cc (none, h))
      by (Some node) is =
          let name = name_there (node_of node) (ap (λ v. is_name_in v) (sym is) ∙ h) in
          (name.0, get_map node_of tables.nodes.items s is ∙ ap (λ v. Some v) name.1)

  pub node_named : (s : ℕ) → IsNameNode (flat_of tables) s → name_of tables s ≡ true
  node_named s name =
      let u = get_unmap node_of tables.nodes.items s (Name name.0) name.1 in
      ap (λ v. is_name_in v) u.at ∙ ap (λ v. is_name_node v) u.is

  pub no_name : (s : ℕ) → name_of tables s ≡ false → IsNameNode (flat_of tables) s → ⊥
  no_name s is_false name = let is_true = node_named s name in cc (is_false, is_true)

  pub not_named : (s : ℕ) → (IsNameNode (flat_of tables) s → ⊥) → name_of tables s ≡ false
  not_named s other = by (bool_cases (name_of tables s))
    where
      by : (name_of tables s ≡ true) ⊎ (name_of tables s ≡ false) → name_of tables s ≡ false
      by (inl is_true) = absurd (other (named_node s is_true))
      by (inr is_false) = is_false

  -- a part is one of items
  module _ (x : List ℕ) (n : ℕ) (Old : ℕ → ℕ → Type 0) where
    reads_part : (m k i : ℕ) → Holds (flat_of tables) x n (at m k) i → Old m i
        → read_of tables (item_at 0 (dot m k)) ≢ None → HasPart (flat_of tables) x n Old m k
    reads_part m k i h o some = by (slice_get tables.nodes.items m) refl
      where
        at_node : (node : code_node.Node) → slice_get tables.nodes.items m ≡ Some node → (set : Option Set)
            → read_at (node_of node) k ≡ set → HasPart (flat_of tables) x n Old m k
        at_node node is None none = absurd (some (ap (λ v. read_in v k) is ∙ none))
        at_node node is (Some set) there =
            let l = letters_there (node_of node) k there in
            old.reads h o (get_map node_of tables.nodes.items m is ∙ ap (λ v. Some v) l.1) l.2

        by : (o : Option code_node.Node) → slice_get tables.nodes.items m ≡ o → HasPart (flat_of tables) x n Old m k
        by None is = absurd (some (ap (λ v. read_in v k) is))
        by (Some node) is = at_node node is (read_at (node_of node) k) refl

    pub part_has : (m k : ℕ) (s : DottedRule) → IsPartOf tables m k s → (i : ℕ)
        → Holds (flat_of tables) x n (at m k) i → Old m i → HasPart (flat_of tables) x n Old s.node s.step
    part_has m k s (part.reads some same) i h o =
        subst (λ (v : DottedRule). HasPart (flat_of tables) x n Old v.node v.step) (sym same)
        (reads_part m k i h o some)
    part_has m k s (part.calls {m = t} is name same) i h o =
        subst (λ (v : DottedRule). HasPart (flat_of tables) x n Old v.node v.step) (sym same)
        (old.calls h o (callee_calls m k is) (named_node t name))

    -- .. and such items have it
    pub record PartOf (s : DottedRule) : Type 0 where
      pub dot : DottedRule
      pub origin : ℕ
      pub held : Holds (flat_of tables) x n (at dot.node dot.step) origin
      pub old : Old dot.node origin
      pub part : IsPartOf tables dot.node dot.step s

    get_some : (sets : List Set) (k : ℕ) → k < length sets → (set : Set) × (slice_get sets k ≡ Some set)
    get_some [] k lt = absurd (omega (arith, lt))
    get_some (set ∷ sets) zero lt = (set, refl)
    get_some (set ∷ sets) (suc k) lt = get_some sets k (omega (arith, lt))

    pub has_part_of : (s : DottedRule) → HasPart (flat_of tables) x n Old s.node s.step → PartOf s
    has_part_of s h = by h refl
      where
        by : {m k : ℕ} → HasPart (flat_of tables) x n Old m k → s ≡ dot m k → PartOf s
        by {m = m} {k = k} (old.reads {i = i} {sets = sets} held o is lt) same =
            let u = get_unmap node_of tables.nodes.items m (Letters sets) is in
            let set = get_some sets k lt in
            let there : read_of tables (item_at 0 (dot m k)) ≡ Some set.0 =
            ap (λ v. read_in v k) u.at ∙ (ap (λ v. read_at v k) u.is ∙ set.1) in
            record {
              dot = dot m k;
              origin = i;
              held = held;
              old = o;
              part = part.reads (λ none. cc (none, there)) same;
            }
        by {m = m} (old.calls {i = i} held o c name) same =
            let e = calls_callee c in
            record {
              dot = dot e.0 e.1;
              origin = i;
              held = subst (λ v. Holds (flat_of tables) x n v i) e.3 held;
              old = subst (λ v. Old (node_at v) i) e.3 o;
              part = part.calls e.5 (node_named m name) same;
            }

pair_same : {a b : ℕ × ℕ} → Some a ≡ Some b → a ≡ b
pair_same h = cc h

-- what is returned as the part of a dotted rule
module _ (tables : code_flat.Tables) (n k : ℕ) where
  pub reader_part : read_of tables (item_at 0 (dot n k)) ≢ None → (s : DottedRule)
      → (◌≡◌ {A = Option DottedRule} (Some (dot n k)) (Some s) → IsPartOf tables n k s)
      × (IsPartOf tables n k s → ◌≡◌ {A = Option DottedRule} (Some (dot n k)) (Some s))
  reader_part some s = (λ same. part.reads some (first (sym same)), by)
    where
      first : {a b : DottedRule} → ◌≡◌ {A = Option DottedRule} (Some a) (Some b) → a ≡ b
      first h = cc h

      by : IsPartOf tables n k s → ◌≡◌ {A = Option DottedRule} (Some (dot n k)) (Some s)
      by (part.reads one same) = ap (λ v. Some v) (sym same)
      by (part.calls is name same) = let none = reader_calls_none tables n k some in absurd (cc (none, is))

  pub name_part : (m next : ℕ) → (read_of tables (item_at 0 (dot n k)) ≢ None → ⊥)
      → callee_of tables (item_at 0 (dot n k)) ≡ Some (m, next) → name_of tables m ≡ true → (s : DottedRule)
      → (◌≡◌ {A = Option DottedRule} (Some (dot m 0)) (Some s) → IsPartOf tables n k s)
      × (IsPartOf tables n k s → ◌≡◌ {A = Option DottedRule} (Some (dot m 0)) (Some s))
  name_part m next none is name s = (λ same. part.calls is name (first (sym same)), by)
    where
      first : {a b : DottedRule} → ◌≡◌ {A = Option DottedRule} (Some a) (Some b) → a ≡ b
      first h = cc h

      one_callee : {t l : ℕ} → callee_of tables (item_at 0 (dot n k)) ≡ Some (t, l) → t ≡ m
      one_callee there = ap (λ v. v.0) (pair_same (sym there ∙ is))

      by : IsPartOf tables n k s → ◌≡◌ {A = Option DottedRule} (Some (dot m 0)) (Some s)
      by (part.reads some same) = absurd (none some)
      by (part.calls there is_true same) =
          ap (λ v. Some v) (ap (λ v. dot v 0) (sym (one_callee there)) ∙ sym same)
