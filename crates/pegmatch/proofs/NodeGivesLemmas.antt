-- A node spells one expression, and gives one outcome at a position.
-- Serves: Packrat::match_unit of packrat; farthest_failure of matchfailure
use Rattle.std.proofs.Common.{◌≡◌, ℕ, ◌+◌, ◌<◌, Bool, true, false, if◌then◌else◌, List, [], ◌∷◌, length, Some, refl}
use Rattle.std.proofs.Common.{sym, ap, subst, ◌∙◌, arith}
use Rattle.std.specs.Prelude.{slice_get}
use Rattle.std.specs.Str.{bytes_eq}
use Rattle.pegread.specs.Pattern as expr
use Rattle.pegread.specs.Pattern.{Pattern, Patterns, Rule}
use Rattle.pegnodes.specs.Nodes as node
use Rattle.pegnodes.specs.Nodes.{Shape, id_of, Spells, spells_any, spells_bytes, spells_set, spells_name, spells_seq}
use Rattle.pegnodes.specs.Nodes.{spells_choice, spells_star, spells_plus, spells_opt, spells_and, spells_not}
use Rattle.pegnodes.specs.Nodes.{spells_act, spells_open, spells_close, SpellAll, spell_none, spell_more}
use Rattle.gramcheck.specs.Outcome.{Outcome, Gives}
use Rattle.gramcheck.proofs.OneOutcomeLemmas.{gives_same, Same}
use Rattle.gramcheck.proofs.RuleNameLemmas.{same-name}
use Rattle.pegnodes.proofs.HasShapeLemmas.{has_shape}
use Rattle.pegmatch.specs.Visits.{NodeGives}

-- the id of a rule is that of one name
same_id : (rules : List Rule) (a b : List ℕ) → id_of rules a ≡ id_of rules b → id_of rules b < length rules → a ≡ b
same_id [] a b is lt = absurd (omega arith)
same_id (rule ∷ rules) a b is lt = by (bytes_eq rule.name a) (bytes_eq rule.name b) refl refl is lt
    (λ h l. same_id rules a b h l)
  where
    by : (v w : Bool) → bytes_eq rule.name a ≡ v → bytes_eq rule.name b ≡ w → (if v then 0 else id_of rules a + 1)
        ≡ (if w then 0 else id_of rules b + 1) →
        (if w then 0 else id_of rules b + 1) < length (rule ∷ rules)
        → (id_of rules a ≡ id_of rules b → id_of rules b < length rules → a ≡ b) → a ≡ b
    by true true v w h l rec = sym (same-name rule.name a v) ∙ same-name rule.name b w
    by true false v w h l rec = absurd (omega arith)
    by false true v w h l rec = absurd (omega arith)
    by false false v w h l rec = rec (omega arith) (omega arith)

module _ (rules : List Rule) (nodes : List Shape) (defined : (n id : ℕ) → slice_get nodes n ≡ Some (node.Name id)
    → id < length rules) where
  mutual
    pub one_spelled : {n : ℕ} {e : Pattern} → Spells rules nodes n e → (d : Pattern) → Spells rules nodes n d → d ≡ e
    one_spelled (spells_any g) d s = has_shape rules nodes s node.Any g
    one_spelled (spells_bytes {bs = bs} g) d s = has_shape rules nodes s (node.Bytes bs) g
    one_spelled (spells_set {s = members} g) d s = has_shape rules nodes s (node.Set members) g
    one_spelled (spells_name {n = n} {name = word} g) d s =
        let like = has_shape rules nodes s (node.Name (id_of rules word)) g in
        like.1 ∙ ap expr.Name (same_id rules like.0 word like.2 (defined n (id_of rules word) g))
    one_spelled (spells_seq {ms = ms} g ss) d s = let like = has_shape rules nodes s (node.Seq ms) g in like.1
        ∙ ap expr.Seq (all_spelled ss like.0 like.2)
    one_spelled (spells_choice {ms = ms} g ss) d s = let like = has_shape rules nodes s (node.Choice ms) g in like.1
        ∙ ap expr.Choice (all_spelled ss like.0 like.2)
    one_spelled (spells_star {m = m} g t) d s = let like = has_shape rules nodes s (node.Star m) g in like.1
        ∙ ap expr.Star (one_spelled t like.0 like.2)
    one_spelled (spells_plus {m = m} {k = k} g t a) d s = let like = has_shape rules nodes s (node.Plus m k) g in like.1
        ∙ ap expr.Plus (one_spelled t like.0 like.2)
    one_spelled (spells_opt {m = m} g t) d s = let like = has_shape rules nodes s (node.Opt m) g in like.1
        ∙ ap expr.Opt (one_spelled t like.0 like.2)
    one_spelled (spells_and {m = m} g t) d s = let like = has_shape rules nodes s (node.And m) g in like.1
        ∙ ap expr.And (one_spelled t like.0 like.2)
    one_spelled (spells_not {m = m} g t) d s = let like = has_shape rules nodes s (node.Not m) g in like.1
        ∙ ap expr.Not (one_spelled t like.0 like.2)
    one_spelled (spells_act {t = t} g) d s = has_shape rules nodes s (node.Act t) g
    one_spelled (spells_open g) d s = has_shape rules nodes s node.Open g
    one_spelled (spells_close g) d s = has_shape rules nodes s node.Close g

    pub all_spelled : {ms : List ℕ} {es : Patterns} → SpellAll rules nodes ms es → (ds : Patterns)
        → SpellAll rules nodes ms ds → ds ≡ es
    all_spelled spell_none ds spell_none = refl
    all_spelled (spell_more {p = e} {ps = es} s ss) ds (spell_more {p = d} {ps = rest} t ts) =
        ap (λ v. expr.more v rest) (one_spelled s d t) ∙ ap (expr.more e) (all_spelled ss rest ts)

  -- what a node gives, any expression that it spells gives
  pub gives_as : (bodies x : List ℕ) {n p k : ℕ} {o : Outcome} {e : Pattern} → Spells rules nodes n e
      → NodeGives rules nodes bodies x n p o k → Gives rules x e p o k
  gives_as bodies x {p = p} {k = k} {o = o} s d = subst (λ v. Gives rules x v p o k) (one_spelled s d.expr d.spelled)
      d.gives

  pub same_node : (bodies x : List ℕ) {n p k j : ℕ} {o c : Outcome} → NodeGives rules nodes bodies x n p o k
      → NodeGives rules nodes bodies x n p c j → Same o k c j
  same_node bodies x d c = gives_same rules x d.gives (gives_as bodies x d.spelled c)
