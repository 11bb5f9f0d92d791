-- The nodes of expressions, one after the other.
-- Serves: check_peg
use Rattle.std.proofs.Common.{◌≡◌, ℕ, ◌+◌, List, [], ◌∷◌, ◌++◌, map, sym, ap}
use Rattle.std.proofs.Common.{◌∙◌, arith, append_assoc, append-nil}
use Rattle.std.proofs.lemmas.List.Sums.{sum_by-cons, sum_by_push}
use Rattle.std.proofs.lemmas.List.{map-append}
use Rattle.std.specs.Prelude.{sum_by}
use Rattle.pegread.specs.Pattern.{Pattern, Rule}
use Rattle.pegread.specs.PegViews.{patterns}
use Rattle.pegnodes.specs.NodeCounts.{node_count, node_count_all, node_counts}
use Rattle.pegnodes.specs.NodeLists.{all_nodes, bodies_of_rules, nodes_of, nodes_of_rules, node_number, numbers_of}

-- the nodes of members, and then those of one more
pub all_nodes_push : (rules : List Rule) (f : ℕ) (ps : List Pattern) (p : Pattern)
    → all_nodes rules f (patterns (ps ++ p ∷ []))
    ≡ all_nodes rules f (patterns ps) ++ nodes_of rules (f + node_count_all (patterns ps)) p
all_nodes_push rules f [] p =
    let same : f ≡ f + 0 = omega arith in
    append-nil (nodes_of rules f p) ∙ ap (λ k. nodes_of rules k p) same
all_nodes_push rules f (q ∷ ps) p =
    let same : (f + node_count q) + node_count_all (patterns ps) ≡ f + (node_count q + node_count_all (patterns ps)) =
    omega arith in
    ap (λ w. nodes_of rules f q ++ w) (all_nodes_push rules (f + node_count q) ps p)
    ∙ sym (append_assoc (nodes_of rules f q) (all_nodes rules (f + node_count q) (patterns ps))
    (nodes_of rules ((f + node_count q) + node_count_all (patterns ps)) p))
    ∙ ap (λ k. (nodes_of rules f q ++ all_nodes rules (f + node_count q) (patterns ps)) ++ nodes_of rules k p) same

-- the numbers of members, and then that of one more
pub numbers_push : (f : ℕ) (ps : List Pattern) (p : Pattern) → numbers_of f (patterns (ps ++ p ∷ []))
    ≡ numbers_of f (patterns ps) ++ node_number (f + node_count_all (patterns ps)) p ∷ []
numbers_push f [] p = let same : f ≡ f + 0 = omega arith in ap (λ k. node_number k p ∷ []) same
numbers_push f (q ∷ ps) p =
    let same : (f + node_count q) + node_count_all (patterns ps) ≡ f + (node_count q + node_count_all (patterns ps)) =
    omega arith in
    ap (λ w. node_number f q ∷ w) (numbers_push (f + node_count q) ps p)
    ∙ ap (λ k. node_number f q ∷ (numbers_of (f + node_count q) (patterns ps) ++ node_number k p ∷ [])) same

-- as many nodes as the first rule has, and then those of the others
counts_first : (q : Rule) (rs : List Rule) → node_counts (q ∷ rs) ≡ node_count q.body + node_counts rs
counts_first q rs = sum_by-cons node_count q.body (map (λ rule. rule.body) rs)

pub counts_push : (rs : List Rule) (r : Rule) → node_counts (rs ++ r ∷ []) ≡ node_counts rs + node_count r.body
counts_push rs r = ap (sum_by node_count) (map-append (λ rule. rule.body) rs (r ∷ []))
    ∙ sum_by_push node_count (map (λ rule. rule.body) rs) r.body

-- the nodes of rules, and then those of one more
pub nodes_of_rules_push : (rules : List Rule) (f : ℕ) (rs : List Rule) (r : Rule)
    → nodes_of_rules rules f (rs ++ r ∷ [])
    ≡ nodes_of_rules rules f rs ++ nodes_of rules (f + node_counts rs) r.body
nodes_of_rules_push rules f [] r =
    let same : f ≡ f + 0 = omega arith in
    append-nil (nodes_of rules f r.body) ∙ ap (λ k. nodes_of rules k r.body) same
nodes_of_rules_push rules f (q ∷ rs) r =
    let first = counts_first q rs in
    let same : (f + node_count q.body) + node_counts rs ≡ f + node_counts (q ∷ rs) = omega (arith, first) in
    ap (λ w. nodes_of rules f q.body ++ w) (nodes_of_rules_push rules (f + node_count q.body) rs r)
    ∙ sym (append_assoc (nodes_of rules f q.body) (nodes_of_rules rules (f + node_count q.body) rs)
    (nodes_of rules ((f + node_count q.body) + node_counts rs) r.body))
    ∙ ap (λ k. (nodes_of rules f q.body ++ nodes_of_rules rules (f + node_count q.body) rs) ++ nodes_of rules k r.body)
    same

-- the numbers of the bodies of rules, and then that of one more
pub bodies_of_rules_push : (f : ℕ) (rs : List Rule) (r : Rule) → bodies_of_rules f (rs ++ r ∷ [])
    ≡ bodies_of_rules f rs ++ node_number (f + node_counts rs) r.body ∷ []
bodies_of_rules_push f [] r = let same : f ≡ f + 0 = omega arith in ap (λ k. node_number k r.body ∷ []) same
bodies_of_rules_push f (q ∷ rs) r =
    let first = counts_first q rs in
    let same : (f + node_count q.body) + node_counts rs ≡ f + node_counts (q ∷ rs) = omega (arith, first) in
    ap (λ w. node_number f q.body ∷ w) (bodies_of_rules_push (f + node_count q.body) rs r)
    ∙ ap (λ k. node_number f q.body ∷ (bodies_of_rules (f + node_count q.body) rs ++ node_number k r.body ∷ [])) same
