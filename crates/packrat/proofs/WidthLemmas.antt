-- A node of a width takes that many bytes wherever it succeeds.
-- Serves: one_width
use Rattle.std.proofs.Common.{◌≡◌, ℕ, ◌+◌, Bool, List, length, Some, refl, sym, subst, arith}
use Rattle.pegread.specs.Pattern as expr
use Rattle.pegread.specs.Pattern.{Pattern, Patterns, Rule}
use Rattle.pegnodes.specs.Nodes as node
use Rattle.pegnodes.specs.Nodes.{Shape, Spells, SpellAll, spell_none, spell_more}
use Rattle.gramcheck.specs.Outcome.{Event, Takes, Gives, any_takes, set_takes, bytes_take, act, open_at}
use Rattle.gramcheck.specs.Outcome.{close_at, name, seq, choice, opt_takes, opt_none, and_takes, not_takes}
use Rattle.gramcheck.specs.Outcome.{GivesAll, all_done, rest_takes, GivesFirst, first_takes, first_fails}
use Rattle.gramcheck.specs.Sound.{IsRanked}
use Rattle.pegnodes.proofs.HasShapeLemmas.{has_shape}
use Rattle.pegmatch.specs.Visits.{NodeTakes}
use Rattle.pegmatch.proofs.GivesLemmas.{is_name}
use Rattle.pegmatch.proofs.NodeGivesLemmas.{one_spelled}
use Rattle.pegnodes.specs.Width.{Width, width_any, width_set, width_bytes, width_act, width_open, width_close}
use Rattle.pegnodes.specs.Width.{width_and}
use Rattle.pegnodes.specs.Width.{width_not, width_opt, width_name, width_seq, width_choice, WidthSum, sum_none}
use Rattle.pegnodes.specs.Width.{sum_more}
use Rattle.pegnodes.specs.Width.{WidthEach, each_none, each_more}

module _ (rules : List Rule) (x : List ℕ) where
  any_width : {p q k : ℕ} {es : List Event} → Gives rules x expr.Any p (Takes q es) k → q ≡ p + 1
  any_width (any_takes h) = refl

  set_width : {s : ℕ → Bool} {p q k : ℕ} {es : List Event} → Gives rules x (expr.Set s) p (Takes q es) k → q ≡ p + 1
  set_width (set_takes h g) = refl

  bytes_width : {bs : List ℕ} {p q k : ℕ} {es : List Event} → Gives rules x (expr.Bytes bs) p (Takes q es) k
      → q ≡ p + length bs
  bytes_width (bytes_take h) = refl

  act_width : {t : List ℕ} {p q k : ℕ} {es : List Event} → Gives rules x (expr.Act t) p (Takes q es) k → q ≡ p + 0
  act_width act = omega arith

  open_width : {p q k : ℕ} {es : List Event} → Gives rules x expr.Open p (Takes q es) k → q ≡ p + 0
  open_width open_at = omega arith

  close_width : {p q k : ℕ} {es : List Event} → Gives rules x expr.Close p (Takes q es) k → q ≡ p + 0
  close_width close_at = omega arith

  and_width : {e : Pattern} {p q k : ℕ} {es : List Event} → Gives rules x (expr.And e) p (Takes q es) k → q ≡ p + 0
  and_width (and_takes d) = omega arith

  not_width : {e : Pattern} {p q k : ℕ} {es : List Event} → Gives rules x (expr.Not e) p (Takes q es) k → q ≡ p + 0
  not_width (not_takes d) = omega arith

  -- what an expression of width w takes
  abbrev pub HasWidth : Pattern → ℕ → Type 0
  HasWidth e w = (p q k : ℕ) (es : List Event) → Gives rules x e p (Takes q es) k → q ≡ p + w

  abbrev pub HaveSum : Patterns → ℕ → Type 0
  HaveSum ps w = (p q k : ℕ) (es : List Event) → GivesAll rules x ps p (Takes q es) k → q ≡ p + w

  abbrev pub HaveEach : Patterns → ℕ → Type 0
  HaveEach ps w = (p q k : ℕ) (es : List Event) → GivesFirst rules x ps p (Takes q es) k → q ≡ p + w

  opt_width : (e : Pattern) → HasWidth e 0 → HasWidth (expr.Opt e) 0
  opt_width e h p q k es (opt_takes d) = h p q k es d
  opt_width e h p q k es (opt_none d) = omega arith

  name_width : (word : List ℕ) (e : Pattern) (w : ℕ) → expr.body_of rules word ≡ Some e → HasWidth e w
      → HasWidth (expr.Name word) w
  name_width word e w is h p q k es (name {e = b} body d) =
      let same : b ≡ e = cc in
      h p q k es (subst (λ v. Gives rules x v p (Takes q es) k) same d)

  seq_width : (ps : Patterns) (w : ℕ) → HaveSum ps w → HasWidth (expr.Seq ps) w
  seq_width ps w h p q k es (seq d) = h p q k es d

  choice_width : (ps : Patterns) (w : ℕ) → HaveEach ps w → HasWidth (expr.Choice ps) w
  choice_width ps w h p q k es (choice d) = h p q k es d

  none_sum : HaveSum expr.none 0
  none_sum p q k es all_done = omega arith

  more_sum : (e : Pattern) (ps : Patterns) (v w : ℕ) → HasWidth e v → HaveSum ps w → HaveSum (expr.more e ps) (v + w)
  more_sum e ps v w g h p r l es (rest_takes {q = q} {j = j} {k = k} {es = fs} {fs = gs} d c) =
      omega (arith, g p q j fs d, h q r k gs c)

  none_each : (w : ℕ) → HaveEach expr.none w
  none_each w p q k es d = absurd (nothing d)
    where
      nothing : {p q k : ℕ} {es : List Event} → GivesFirst rules x expr.none p (Takes q es) k → ⊥
      nothing d = elim d [ ]

  more_each : (e : Pattern) (ps : Patterns) (w : ℕ) → HasWidth e w → HaveEach ps w → HaveEach (expr.more e ps) w
  more_each e ps w g h p q k es (first_takes d) = g p q k es d
  more_each e ps w g h p q l es (first_fails {k = k} d c) = h p q k es c

module _ (rules : List Rule) (start : ℕ) (nodes : List Shape) (bodies ranks x : List ℕ)
    (sound : IsRanked rules start nodes bodies ranks) where
  mutual
    pub width_is : {n w : ℕ} → Width nodes bodies n w → (e : Pattern) → Spells rules nodes n e → HasWidth rules x e w
    width_is (width_any h) e s =
        let is = has_shape rules nodes s node.Any h in
        subst (λ v. HasWidth rules x v 1) (sym is) (λ p q k es d. any_width rules x d)
    width_is (width_set {s = b} h) e s =
        let is = has_shape rules nodes s (node.Set b) h in
        subst (λ v. HasWidth rules x v 1) (sym is) (λ p q k es d. set_width rules x d)
    width_is (width_bytes {bs = bs} h) e s =
        let is = has_shape rules nodes s (node.Bytes bs) h in
        subst (λ v. HasWidth rules x v (length bs)) (sym is) (λ p q k es d. bytes_width rules x d)
    width_is (width_act {t = t} h) e s =
        let is = has_shape rules nodes s (node.Act t) h in
        subst (λ v. HasWidth rules x v 0) (sym is) (λ p q k es d. act_width rules x d)
    width_is (width_open h) e s =
        let is = has_shape rules nodes s node.Open h in
        subst (λ v. HasWidth rules x v 0) (sym is) (λ p q k es d. open_width rules x d)
    width_is (width_close h) e s =
        let is = has_shape rules nodes s node.Close h in
        subst (λ v. HasWidth rules x v 0) (sym is) (λ p q k es d. close_width rules x d)
    width_is (width_and {m = m} h) e s =
        let is = has_shape rules nodes s (node.And m) h in
        subst (λ v. HasWidth rules x v 0) (sym is.1) (λ p q k es d. and_width rules x d)
    width_is (width_not {m = m} h) e s =
        let is = has_shape rules nodes s (node.Not m) h in
        subst (λ v. HasWidth rules x v 0) (sym is.1) (λ p q k es d. not_width rules x d)
    width_is (width_opt {m = m} h t) e s =
        let is = has_shape rules nodes s (node.Opt m) h in
        subst (λ v. HasWidth rules x v 0) (sym is.1) (opt_width rules x is.0 (width_is t is.0 is.2))
    width_is (width_name {n = n} {id = id} {m = m} {w = w} h body t) e s =
        let is = is_name rules start nodes bodies ranks x sound n id m (e, s) h body in
        let same = one_spelled rules nodes sound.defined is.spelled e s in
        subst (λ v. HasWidth rules x v w) (sym same) (name_width rules x is.word is.body w is.is (width_is t is.body
        is.operand))
    width_is (width_seq {w = w} {ms = ms} h t) e s =
        let is = has_shape rules nodes s (node.Seq ms) h in
        subst (λ v. HasWidth rules x v w) (sym is.1) (seq_width rules x is.0 w (sum_is t is.0 is.2))
    width_is (width_choice {w = w} {ms = ms} h t) e s =
        let is = has_shape rules nodes s (node.Choice ms) h in
        subst (λ v. HasWidth rules x v w) (sym is.1) (choice_width rules x is.0 w (each_is t is.0 is.2))

    sum_is : {ms : List ℕ} {w : ℕ} → WidthSum nodes bodies ms w → (ps : Patterns) → SpellAll rules nodes ms ps
        → HaveSum rules x ps w
    sum_is sum_none ps spell_none = none_sum rules x
    sum_is (sum_more {v = v} {w = w} t ts) ps (spell_more {p = e} {ps = rest} s ss) =
        more_sum rules x e rest v w (width_is t e s) (sum_is ts rest ss)

    each_is : {ms : List ℕ} {w : ℕ} → WidthEach nodes bodies ms w → (ps : Patterns) → SpellAll rules nodes ms ps
        → HaveEach rules x ps w
    each_is (each_none {w = w}) ps spell_none = none_each rules x w
    each_is (each_more {w = w} t ts) ps (spell_more {p = e} {ps = rest} s ss) =
        more_each rules x e rest w (width_is t e s) (each_is ts rest ss)

  -- a node of width w takes w bytes
  pub takes_width : (n w p q : ℕ) → Width nodes bodies n w → NodeTakes rules nodes bodies x n p q → q ≡ p + w
  takes_width n w p q h t = width_is h t.gives.expr t.gives.spelled p q t.looked t.events t.gives.gives
