-- The order in which the expressions that were expected are reported, each once.
use Rattle.std.specs.Prelude.{◌≡◌, ℕ, zero, suc, ◌+◌, ◌-◌, List, [], ◌∷◌, ◌++◌, length, map, take, drop, codes, get_or}
use Rattle.std.specs.Prelude.{slice_get, bytes_eq, Option, Some, None, if◌then◌else◌}
use Rattle.std.specs.Cmp.Lexicographic.{slice_cmp}
use Rattle.std.specs.List.{flat_map, list_any}
use Rattle.std.specs.List.Sorted.{IsPermutation, IsSorted}
use Rattle.std.specs.Ordering.{nat_cmp}
use Rattle.fixpoint.specs.Distances.{AreDistances}
use Rattle.matchfailure.specs.NodeTexts.{leaf_text, name_of_rule, rule_of_node}
use Rattle.matchfailure.specs.NoMatchLines.{begun_at}
use Rattle.matchfailure.specs.declared.farthest.visit.Visit.{Visit}
use Rattle.pegnodes.specs.Nodes.{Shape, Any, Bytes, Set, Name, Seq, Choice, Star, Plus, Opt, And, Not, Act, Open, Close}
use Rattle.pegread.specs.Pattern.{Rule}

-- the ids of the rules that nodes name, in order
abbrev pub named_id : Shape → List ℕ
named_id Any = []
named_id (Bytes bs) = []
named_id (Set s) = []
named_id (Name id) = id ∷ []
named_id (Seq ms) = []
named_id (Choice ms) = []
named_id (Star k) = []
named_id (Plus k s) = []
named_id (Opt k) = []
named_id (And k) = []
named_id (Not k) = []
named_id (Act t) = []
named_id Open = []
named_id Close = []

-- of each rule the ids of those that its body names, where the first node of the first body has this number, and a
-- body's nodes end with its own
abbrev pub use_rows : List Shape → ℕ → List ℕ → List (List ℕ)
use_rows nodes first [] = []
use_rows nodes first (body ∷ bodies) =
    flat_map named_id (take (suc body - first) (drop first nodes)) ∷ use_rows nodes (suc body) bodies

-- the first node of a rule's body, which comes after the body of the rule before
abbrev pub first_node : List ℕ → ℕ → ℕ
first_node bodies zero = 0
first_node bodies (suc id) = get_or bodies id 0 + 1

-- how many uses lead to a rule from the start rule at least; one that none reaches comes last
abbrev pub uses_or : ℕ → Option ℕ → ℕ
uses_or none None = none
uses_or none (Some n) = n

-- literals come before classes, and these before `.`
abbrev pub leaf_kind : Option Shape → ℕ
leaf_kind (Some (Bytes bs)) = 0
leaf_kind (Some (Set s)) = 1
leaf_kind _ = 2

module _ (far : List (Option ℕ)) (nodes : List Shape) (bodies : List ℕ) where
  -- what orders an evaluation: the distance of its rule from the start rule, the rule, what the node is, the node, and
  -- where it begins
  abbrev pub key_of : Visit → List ℕ
  key_of v =
      let rule = rule_of_node bodies v.node in
      uses_or (length far) (get_or far rule None) ∷ (rule ∷ (leaf_kind (slice_get nodes v.node)
      ∷ (v.node ∷ (v.position ∷ []))))

-- the evaluation of a key
abbrev pub visit_of : List ℕ → Visit
visit_of key = record { node = get_or key 3 0; position = get_or key 4 0 }

-- the evaluations whose text is none of these, and stands in the list for the first time
abbrev pub each_once : (Visit → List ℕ) → List (List ℕ) → List Visit → List Visit
each_once text seen [] = []
each_once text seen (v ∷ vs) = if list_any (bytes_eq (text v)) seen then each_once text seen vs
    else v ∷ each_once text (seen ++ text v ∷ []) vs

module _ (rules : List Rule) (start : ℕ) (nodes : List Shape) (bodies : List ℕ) (unit position : ℕ) where
  -- what is reported of an evaluation: the expression, where it begins, and its rule
  abbrev pub entry_text : Visit → List ℕ
  entry_text v = leaf_text (slice_get nodes v.node) ++ (begun_at unit position v.position
      ++ (codes " in " ++ name_of_rule rules (rule_of_node bodies v.node)))

  -- Of the evaluations that were expected these are reported. They are ordered by the distance of the rule from the
  -- start rule, by the rules, literals before classes and these before `.`, by the body, and by where they begin. Of
  -- evaluations that are reported alike the first stands.
  pub record AreReported (expected reported : List Visit) : Type 0 where
    pub far : List (Option ℕ)
    pub distances : AreDistances (use_rows nodes 0 bodies) start far
    pub keys : List (List ℕ)
    pub same : IsPermutation (map (key_of far nodes bodies) expected) keys
    pub ascend : IsSorted (slice_cmp nat_cmp) keys
    pub are : reported ≡ each_once entry_text [] (map visit_of keys)
