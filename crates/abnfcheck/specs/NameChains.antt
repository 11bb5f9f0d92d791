-- By which rules the judged one reaches a name. Own.
use Rattle.std.specs.Prelude.{◌≡◌, ℕ, suc, ◌+◌, ◌-◌, ◌≤◌, List, [], ◌∷◌, ◌++◌, length, map, take, drop, position}
use Rattle.std.specs.Prelude.{slice_index_or, Option, Some, None, MatchOption, option_map}
use Rattle.ruletable.specs.Rules.{names_of, same_name}
use Rattle.ruletable.specs.declared.table.NameCase.TheVariants.{Fold}
use Rattle.fixpoint.specs.ShortChains.{AreChains}
use Rattle.abnfread.specs.Element.{Rule}
use Rattle.abnfcheck.specs.NameIds.{IsGraph, IsJudged, UsesNameAt, all_names}
use Rattle.abnfcheck.specs.declared.reached_names.ChainEnds.{ChainEnds}
use Rattle.abnfcheck.specs.declared.reached_names.NameChains.{NameChains as Found}

-- the names with these ids
abbrev pub names_at : List (List ℕ) → List ℕ → List (List ℕ)
names_at names ids = map (λ id. slice_index_or names id []) ids

module _ (rules : List Rule) (names : List (List ℕ)) (judged : ℕ) where
  -- the judged rule reaches the name with an id by so many uses, one after the other
  pub data ReachesBy : ℕ → ℕ → Type 0 where
    no_use : ReachesBy judged 0
    one_use : {user id n : ℕ} → ReachesBy user n → UsesNameAt rules names user id → ReachesBy id (suc n)

  -- it takes so many uses at least
  pub record UseDistance (id n : ℕ) : Type 0 where
    pub reaches : ReachesBy id n
    pub least : (m : ℕ) → ReachesBy id m → n ≤ m

  -- the first of the rules that use a name and are one use nearer to the judged rule
  pub record IsFirstUser (id user : ℕ) : Type 0 where
    pub n : ℕ
    pub far : UseDistance id (suc n)
    pub near : UseDistance user n
    pub uses : UsesNameAt rules names user id
    pub first : (other : ℕ) → UseDistance other n → UsesNameAt rules names other id → user ≤ other

  -- the chain from the judged rule that has before each name the first such rule
  pub data UseChain : ℕ → List ℕ → Type 0 where
    judged_alone : UseChain judged (judged ∷ [])
    after_user : {id user : ℕ} {ids : List ℕ} → IsFirstUser id user → UseChain user ids → UseChain id (ids ++ id ∷ [])

  -- its names, if the judged rule reaches the name with that id, if there is one
  abbrev pub IsChainAt : Option ℕ → Option (List (List ℕ)) → Type 0
  IsChainAt None chain = chain ≡ None
  IsChainAt (Some id) chain = (ids : Option (List ℕ)) × MatchOption ids ((n : ℕ) → ReachesBy id n → ⊥) (UseChain id)
      × (chain ≡ option_map (names_at names) ids)

-- The chain of names from that of the judged rule to a name, each of a rule in whose body the next one stands, if one
-- reaches it: a shortest one, and among these that which has before each name the first rule in their order. A name
-- that is given for the judged rule stands for it.
pub record IsNameChain (rules : List Rule) (given : Option (List ℕ)) (name : List ℕ)
    (chain : Option (List (List ℕ))) : Type 0 where
  pub judged : ℕ
  pub is_judged : IsJudged given (all_names rules given) judged
  pub is_chain : IsChainAt rules (all_names rules given) judged
      (position (same_name Fold name) (all_names rules given)) chain

-- the code has the names of a grammar, and the chains from the judged one
pub record AreNameChains (rules : List Rule) (given : Option (List ℕ)) (found : Found) : Type 0 where
  pub rows : List (List ℕ)
  pub judged : ℕ
  pub is_judged : found.judged ≡ judged
  pub folds : found.names.names ≡ Fold
  pub graph : IsGraph rules given (names_of found.names) rows judged
  pub chains : MatchOption found.chains (length rows ≤ judged) (AreChains rows judged)

-- the code has the first id of a chain, at most so many of the last ones, and how many stand between them
pub record AreLast (last : ℕ) (ids : List ℕ) (ends : ChainEnds) : Type 0 where
  pub left : ends.left ≡ length ids - (last + 1)
  pub is : ends.ids.items ≡ take 1 ids ++ drop (length ids - (last + 1) + 1) ids
