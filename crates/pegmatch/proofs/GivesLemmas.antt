-- What a node gives, from what its operands give.
-- Serves: Packrat::match_unit of packrat; farthest_failure of matchfailure
use Rattle.std.proofs.Common.{◌≡◌, ℕ, max, List, [], ◌++◌, map, Some, ap, subst, ◌∙◌}
use Rattle.std.specs.Prelude.{slice_get}
use Rattle.pegread.specs.Pattern as expr
use Rattle.pegread.specs.Pattern.{Pattern, Rule}
use Rattle.pegnodes.specs.Nodes as node
use Rattle.pegnodes.specs.Nodes.{Shape, Spells, spells_star}
use Rattle.gramcheck.specs.Outcome.{Event, Outcome, Fails, Takes, Gives, name, opt_takes, opt_none, star_none}
use Rattle.gramcheck.specs.Outcome.{star_more, plus_fails, plus_takes, and_takes, and_fails, not_takes, not_fails}
use Rattle.gramcheck.specs.Sound.{IsRanked}
use Rattle.pegnodes.proofs.OwnIdLemmas.{body_at_id}
use Rattle.pegnodes.proofs.HasShapeLemmas.{has_shape}
use Rattle.pegmatch.specs.KeptEvents.{SpellsSome}
use Rattle.pegmatch.specs.Visits.{NodeGives}
use Rattle.pegmatch.proofs.NodeGivesLemmas.{gives_as}

abbrev DoesTake : Outcome → Type 0
DoesTake Fails = ⊥
DoesTake (Takes q es) = Unit {0}

always_takes : {rules : List Rule} {x : List ℕ} {e : Pattern} {p k : ℕ} {o : Outcome}
    → Gives rules x (expr.Star e) p o k → DoesTake o
always_takes (star_none d) = tt
always_takes (star_more d c) = tt

module _ (rules : List Rule) (start : ℕ) (nodes : List Shape) (bodies ranks x : List ℕ)
    (sound : IsRanked rules start nodes bodies ranks) where
  abbrev NG : ℕ → ℕ → Outcome → ℕ → Type 0
  NG n p o k = NodeGives rules nodes bodies x n p o k

  abbrev as_spelled : {n p k : ℕ} {o : Outcome} {e : Pattern} → Spells rules nodes n e → NG n p o k
      → Gives rules x e p o k
  as_spelled s d = gives_as rules nodes sound.defined bodies x s d

  -- the expression of a name's node, and what spells its body
  pub record IsName (n m : ℕ) : Type 0 where
    pub word : List ℕ
    pub body : Pattern
    pub spelled : Spells rules nodes n (expr.Name word)
    pub is : expr.body_of rules word ≡ Some body
    pub operand : Spells rules nodes m body

  pub is_name : (n id m : ℕ) → SpellsSome rules nodes n → slice_get nodes n ≡ Some (node.Name id)
      → slice_get bodies id ≡ Some m → IsName n m
  is_name n id m s at body =
      let like = has_shape rules nodes s.1 (node.Name id) at in
      let there = sound.spelled.spelled id m body in
      record {
        word = like.0;
        body = there.0;
        spelled = subst (Spells rules nodes n) like.1 s.1;
        is = body_at_id rules like.0 ∙ ap (λ i. slice_get (map (λ rule. rule.body) rules) i) like.2 ∙ there.1;
        operand = there.2;
      }

  pub name_gives : (n id m p k : ℕ) (o : Outcome) → SpellsSome rules nodes n → slice_get nodes n ≡ Some (node.Name id)
      → slice_get bodies id ≡ Some m → NG m p o k → NG n p o k
  name_gives n id m p k o s at body d =
      let is = is_name n id m s at body in
      record { expr = expr.Name is.word; spelled = is.spelled; gives = name is.is (as_spelled is.operand d) }

  module _ (n m : ℕ) (s : SpellsSome rules nodes n) where
    pub opt_gives_takes : (p q k : ℕ) (es : List Event) → slice_get nodes n ≡ Some (node.Opt m) → NG m p (Takes q es) k
        → NG n p (Takes q es) k
    opt_gives_takes p q k es at d =
        let like = has_shape rules nodes s.1 (node.Opt m) at in
        record {
          expr = expr.Opt like.0;
          spelled = subst (Spells rules nodes n) like.1 s.1;
          gives = opt_takes (as_spelled like.2 d);
        }

    pub opt_gives_none : (p k : ℕ) → slice_get nodes n ≡ Some (node.Opt m) → NG m p Fails k → NG n p (Takes p []) k
    opt_gives_none p k at d =
        let like = has_shape rules nodes s.1 (node.Opt m) at in
        record {
          expr = expr.Opt like.0;
          spelled = subst (Spells rules nodes n) like.1 s.1;
          gives = opt_none (as_spelled like.2 d);
        }

    pub and_gives_takes : (p q k : ℕ) (es : List Event) → slice_get nodes n ≡ Some (node.And m) → NG m p (Takes q es) k
        → NG n p (Takes p []) k
    and_gives_takes p q k es at d =
        let like = has_shape rules nodes s.1 (node.And m) at in
        record {
          expr = expr.And like.0;
          spelled = subst (Spells rules nodes n) like.1 s.1;
          gives = and_takes (as_spelled like.2 d);
        }

    pub and_gives_fails : (p k : ℕ) → slice_get nodes n ≡ Some (node.And m) → NG m p Fails k → NG n p Fails k
    and_gives_fails p k at d =
        let like = has_shape rules nodes s.1 (node.And m) at in
        record {
          expr = expr.And like.0;
          spelled = subst (Spells rules nodes n) like.1 s.1;
          gives = and_fails (as_spelled like.2 d);
        }

    pub not_gives_takes : (p k : ℕ) → slice_get nodes n ≡ Some (node.Not m) → NG m p Fails k → NG n p (Takes p []) k
    not_gives_takes p k at d =
        let like = has_shape rules nodes s.1 (node.Not m) at in
        record {
          expr = expr.Not like.0;
          spelled = subst (Spells rules nodes n) like.1 s.1;
          gives = not_takes (as_spelled like.2 d);
        }

    pub not_gives_fails : (p q k : ℕ) (es : List Event) → slice_get nodes n ≡ Some (node.Not m) → NG m p (Takes q es) k
        → NG n p Fails k
    not_gives_fails p q k es at d =
        let like = has_shape rules nodes s.1 (node.Not m) at in
        record {
          expr = expr.Not like.0;
          spelled = subst (Spells rules nodes n) like.1 s.1;
          gives = not_fails (as_spelled like.2 d);
        }

    pub star_gives_none : (p k : ℕ) → slice_get nodes n ≡ Some (node.Star m) → NG m p Fails k → NG n p (Takes p []) k
    star_gives_none p k at d =
        let like = has_shape rules nodes s.1 (node.Star m) at in
        record {
          expr = expr.Star like.0;
          spelled = subst (Spells rules nodes n) like.1 s.1;
          gives = star_none (as_spelled like.2 d);
        }

    pub star_gives_more : (p q r j k : ℕ) (es fs : List Event) → slice_get nodes n ≡ Some (node.Star m)
        → NG m p (Takes q es) j → NG n q (Takes r fs) k →
        NG n p (Takes r (es ++ fs)) (max j k)
    star_gives_more p q r j k es fs at d c =
        let like = has_shape rules nodes s.1 (node.Star m) at in
        let star : Spells rules nodes n (expr.Star like.0) = subst (Spells rules nodes n) like.1 s.1 in
        record { expr = expr.Star like.0; spelled = star; gives = star_more (as_spelled like.2 d) (as_spelled star c) }

    pub plus_gives_fails : (i p k : ℕ) → slice_get nodes n ≡ Some (node.Plus m i) → NG m p Fails k → NG n p Fails k
    plus_gives_fails i p k at d =
        let like = has_shape rules nodes s.1 (node.Plus m i) at in
        record {
          expr = expr.Plus like.0;
          spelled = subst (Spells rules nodes n) like.1 s.1;
          gives = plus_fails (as_spelled like.2 d);
        }

    pub plus_gives_takes : (i p q r j k : ℕ) (es fs : List Event) → slice_get nodes n ≡ Some (node.Plus m i)
        → NG m p (Takes q es) j → NG i q (Takes r fs) k →
        NG n p (Takes r (es ++ fs)) (max j k)
    plus_gives_takes i p q r j k es fs at d c =
        let like = has_shape rules nodes s.1 (node.Plus m i) at in
        record {
          expr = expr.Plus like.0;
          spelled = subst (Spells rules nodes n) like.1 s.1;
          gives = plus_takes (as_spelled like.2 d) (as_spelled (spells_star like.3 like.2) c);
        }

    pub plus_star : (i : ℕ) → slice_get nodes n ≡ Some (node.Plus m i) → SpellsSome rules nodes i
        × (slice_get nodes i ≡ Some (node.Star m))
    plus_star i at = let like = has_shape rules nodes s.1 (node.Plus m i) at in
        ((expr.Star like.0, spells_star like.3 like.2), like.3)

    -- a repetition never fails
    pub star_never_fails : (p k : ℕ) → slice_get nodes n ≡ Some (node.Star m) → NG n p Fails k → ⊥
    star_never_fails p k at d =
        let like = has_shape rules nodes s.1 (node.Star m) at in
        always_takes (as_spelled (subst (Spells rules nodes n) like.1 s.1) d)
