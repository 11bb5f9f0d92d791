-- The chain of names from the judged rule is one.
-- Serves: chain_ends, name_chains, one_name_chain
use Rattle.std.proofs.Common.{◌≡◌, ℕ, suc, ◌<◌, List, [], ◌∷◌, ◌++◌, length, position, Option, Some, MatchOption}
use Rattle.std.proofs.Common.{None, refl, sym, ◌∙◌, ap, subst, arith}
use Rattle.std.specs.Prelude.{option_map}
use Rattle.fixpoint.specs.StepRows.{Step}
use Rattle.ruletable.specs.Rules.{Rules, find_in, names_of, same_name}
use Rattle.ruletable.specs.declared.table.NameCase.TheVariants.{Fold}
use Rattle.fixpoint.proofs.IsAddedLemmas.{found_in}
use Rattle.fixpoint.proofs.IsPositionLemmas.{position_below, position_of}
use Rattle.fixpoint.specs.Distances.{Distance, Steps, no_step, one_more}
use Rattle.fixpoint.specs.ShortChains.{Back, ChainTo, IsChainIfReached, at_start, after}
use Rattle.abnfread.specs.Element.{Rule}
use Rattle.abnfcheck.specs.NameChains.{IsChainAt, IsFirstUser, IsNameChain, ReachesBy, UseChain, UseDistance, names_at}
use Rattle.abnfcheck.specs.NameChains.{AreLast, after_user, judged_alone, no_use, one_use}
use Rattle.abnfcheck.specs.declared.reached_names.ChainEnds.{ChainEnds}
use Rattle.abnfcheck.specs.NameIds.{IsGraph, IsJudged, UsesNameAt, all_names}
use Rattle.abnfcheck.proofs.GraphLemmas.{position_is_one, step_use, use_step}

judged_is_one : (given : Option (List ℕ)) (names : List (List ℕ)) (i j : ℕ) → IsJudged given names i
    → IsJudged given names j → i ≡ j
judged_is_one None names i j g h = g ∙ sym h
judged_is_one (Some name) names i j g h = position_is_one g h

-- Uses as steps of rows, and back.
module _ (rules : List Rule) (names rows : List (List ℕ)) (s : ℕ)
    (to : (u v : ℕ) → Step rows u v → UsesNameAt rules names u v)
    (from : (u v : ℕ) → UsesNameAt rules names u v → Step rows u v) where
  reaches_of : {v n : ℕ} → Steps rows s v n → ReachesBy rules names s v n
  reaches_of no_step = no_use
  reaches_of (one_more {u = u} {v = v} chain step) = one_use (reaches_of chain) (to u v step)

  steps_of : {v n : ℕ} → ReachesBy rules names s v n → Steps rows s v n
  steps_of no_use = no_step
  steps_of (one_use {user = u} {id = v} chain uses) = one_more (steps_of chain) (from u v uses)

  use_distance : {v n : ℕ} → Distance rows s v n → UseDistance rules names s v n
  use_distance d = record { reaches = reaches_of d.chain; least = λ m chain. d.least m (steps_of chain) }

  step_distance : {v n : ℕ} → UseDistance rules names s v n → Distance rows s v n
  step_distance d = record { chain = steps_of d.reaches; least = λ m chain. d.least m (reaches_of chain) }

  first_user : {v u : ℕ} → Back rows s v u → IsFirstUser rules names s v u
  first_user {v = v} {u = u} back = record {
    n = back.nearer.n;
    far = use_distance back.nearer.far;
    near = use_distance back.nearer.near;
    uses = to u v back.nearer.step;
    first = λ w near uses. back.first w
        record { n = back.nearer.n; far = back.nearer.far; near = step_distance near; step = from w v uses };
  }

  use_chain : {v : ℕ} {ns : List ℕ} → ChainTo rows s v ns → UseChain rules names s v ns
  use_chain at_start = judged_alone
  use_chain (after back chain) = after_user (first_user back) (use_chain chain)

  chain_if_reached : (v : ℕ) (chain : Option (List ℕ)) → IsChainIfReached rows s v chain
      → MatchOption chain ((n : ℕ) → ReachesBy rules names s v n → ⊥) (UseChain rules names s v)
  chain_if_reached v None h = λ n reaches. h n (steps_of reaches)
  chain_if_reached v (Some ns) h = use_chain h

-- The chain of uses to a name is one.
module _ (rules : List Rule) (names : List (List ℕ)) (s : ℕ) where
  chain_reaches : {v : ℕ} {ns : List ℕ} → UseChain rules names s v ns → (n : ℕ) × ReachesBy rules names s v n
  chain_reaches judged_alone = (0, no_use)
  chain_reaches (after_user is chain) = (suc is.n, is.far.reaches)

  same_user : {v u w : ℕ} → IsFirstUser rules names s v u → IsFirstUser rules names s v w → u ≡ w
  same_user {u = u} {w = w} g h =
      let le = g.far.least (suc h.n) h.far.reaches in
      let ge = h.far.least (suc g.n) g.far.reaches in
      let same : g.n ≡ h.n = omega (arith, le, ge) in
      let one = g.first w (subst (UseDistance rules names s w) (sym same) h.near) h.uses in
      let two = h.first u (subst (UseDistance rules names s u) same g.near) g.uses in
      omega (arith, one, two)

  not_judged : {v u : ℕ} → IsFirstUser rules names s v u → v ≡ s → ⊥
  not_judged {u = u} is e =
      let le = (subst (λ v. IsFirstUser rules names s v u) e is).far.least 0 no_use in
      omega (arith, le)

  chain_is : {v w : ℕ} {a b : List ℕ} → UseChain rules names s v a → UseChain rules names s w b → v ≡ w → a ≡ b
  chain_is judged_alone judged_alone e = refl
  chain_is judged_alone (after_user is chain) e = absurd (not_judged is (sym e))
  chain_is (after_user is chain) judged_alone e = absurd (not_judged is e)
  chain_is (after_user {id = v} {ids = ns} is chain) (after_user {id = w} {user = x} {ids = ms} other rest) e =
      let same = same_user is (subst (λ z. IsFirstUser rules names s z x) (sym e) other) in
      ap (λ (z : List ℕ). z ++ v ∷ []) (chain_is chain rest same) ∙ ap (λ (z : ℕ). ms ++ z ∷ []) e

  ids_are_one : (v : ℕ) (a b : Option (List ℕ))
      → MatchOption a ((n : ℕ) → ReachesBy rules names s v n → ⊥) (UseChain rules names s v)
      → MatchOption b ((n : ℕ) → ReachesBy rules names s v n → ⊥) (UseChain rules names s v) → a ≡ b
  ids_are_one v None None g h = refl
  ids_are_one v None (Some b) g h = let r = chain_reaches h in absurd (g r.0 r.1)
  ids_are_one v (Some a) None g h = let r = chain_reaches g in absurd (h r.0 r.1)
  ids_are_one v (Some a) (Some b) g h = ap Some (chain_is g h refl)

  names_are_one : (id : Option ℕ) (a b : Option (List (List ℕ))) → IsChainAt rules names s id a
      → IsChainAt rules names s id b → a ≡ b
  names_are_one None a b g h = g ∙ sym h
  names_are_one (Some id) a b g h =
      g.2 ∙ (ap (option_map (names_at names)) (ids_are_one id g.0 h.0 g.1 h.1) ∙ sym h.2)

pub chain_is_one : (rules : List Rule) (given : Option (List ℕ)) (name : List ℕ)
    (a b : Option (List (List ℕ))) → IsNameChain rules given name a → IsNameChain rules given name b → a ≡ b
chain_is_one rules given name a b g h =
    names_are_one rules names g.judged (position (same_name Fold name) names) a b g.is_chain
    (subst (λ z. IsChainAt rules names z (position (same_name Fold name) names) b)
    (judged_is_one given names h.judged g.judged h.is_judged g.is_judged) h.is_chain)
  where
    names : List (List ℕ)
    names = all_names rules given

-- a chain by the rows of a grammar
pub chain_by_rows : (rules : List Rule) (given : Option (List ℕ)) (name : List ℕ) (names rows : List (List ℕ))
    (judged : ℕ) (chain : Option (List (List ℕ))) → IsGraph rules given names rows judged
    → IsChainAt rules names judged (position (same_name Fold name) names) chain → IsNameChain rules given name chain
chain_by_rows rules given name names rows judged chain graph is = record {
  judged = judged;
  is_judged = subst (λ (ns : List (List ℕ)). IsJudged given ns judged) graph.all graph.is_judged;
  is_chain = subst (λ (ns : List (List ℕ)). IsChainAt rules ns judged (position (same_name Fold name) ns) chain)
      graph.all is;
}

-- where a table that compares without case finds a name
pub found_folded : (table : Rules (Unit {0})) (name : List ℕ) → table.names ≡ Fold
    → find_in table name ≡ position (same_name Fold name) (names_of table)
found_folded table name folds = found_in table name
    ∙ ap (λ z. position (same_name z name) (names_of table)) folds

pub chain_of_none : (rules : List Rule) (names : List (List ℕ)) (judged : ℕ) (id : Option ℕ) → id ≡ None
    → IsChainAt rules names judged id None
chain_of_none rules names judged None is = refl
chain_of_none rules names judged (Some id) is = absurd (cc is)

pub chain_of_id : (rules : List Rule) (given : Option (List ℕ)) (names rows : List (List ℕ)) (judged p : ℕ)
    (id : Option ℕ) (chain : Option (List ℕ)) → IsGraph rules given names rows judged → id ≡ Some p
    → IsChainIfReached rows judged p chain → IsChainAt rules names judged id (option_map (names_at names) chain)
chain_of_id rules given names rows judged p None chain graph is c = absurd (cc is)
chain_of_id rules given names rows judged p (Some id) chain graph is c =
    let e : id ≡ p = cc is in (
      chain,
      chain_if_reached rules names rows judged (step_use rules given names rows judged graph)
          (use_step rules given names rows judged graph) id chain
          (subst (λ z. IsChainIfReached rows judged z chain) (sym e) c),
      refl,
    )

-- the ends of a chain of ids are those of a chain of names
pub named_ends : (rules : List Rule) (given : Option (List ℕ)) (name : List ℕ) (names rows : List (List ℕ))
    (judged p last : ℕ) (ends : Option ChainEnds) → IsGraph rules given names rows judged
    → position (same_name Fold name) names ≡ Some p
    → MatchOption ends (IsChainIfReached rows judged p None)
    (λ e. (ids : List ℕ) × ChainTo rows judged p ids × AreLast last ids e)
    → MatchOption ends (IsNameChain rules given name None)
    (λ e. (ids : List ℕ) × IsNameChain rules given name (Some (names_at names ids)) × AreLast last ids e)
named_ends rules given name names rows judged p last None graph is h =
    chain_by_rows rules given name names rows judged None graph
    (chain_of_id rules given names rows judged p _ None graph is h)
named_ends rules given name names rows judged p last (Some e) graph is h = (
  h.0,
  chain_by_rows rules given name names rows judged (Some (names_at names h.0)) graph
      (chain_of_id rules given names rows judged p _ (Some h.0) graph is h.1),
  h.2,
)

-- where there is a name the judged number has a row
pub judged_below : (rules : List Rule) (given : Option (List ℕ)) (names rows : List (List ℕ)) (judged p : ℕ)
    (name : List ℕ) → IsGraph rules given names rows judged → position (same_name Fold name) names ≡ Some p
    → judged < length rows
judged_below rules given names rows judged p name g is =
    let some = position_below Fold (position_of Fold name names p is) in
    let c = g.are_rows.count in
    let lt = by given g.is_judged some in
    omega (arith, c, lt)
  where
    by : (given : Option (List ℕ)) → IsJudged given names judged → p < length names → judged < length names
    by None e some = omega (arith, e, some)
    by (Some other) q some = position_below Fold q
