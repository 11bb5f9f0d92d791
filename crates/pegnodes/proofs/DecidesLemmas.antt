-- What code returns for a byte is what the byte decides.
-- Serves: decide
use Rattle.std.proofs.Common.{◌≡◌, ℕ, suc, ◌+◌, ◌<◌, ◌≤◌, Bool, true, false, List, [], ◌∷◌, Option, Some, None}
use Rattle.std.proofs.Common.{refl, sym, subst, arith, IfSome, length, ◌∙◌}
use Rattle.pegnodes.specs.declared.node.Node.{Node}
use Rattle.std.specs.Prelude.{slice_get, get_or}
use Rattle.std.proofs.lemmas.Option.{slice_get-get_or, slice_get_past}
use Rattle.pegnodes.specs.Nodes.{Shape, Bytes, Set, Name, Seq, Choice, Star, Plus, Opt, And, Not}
use Rattle.pegnodes.specs.Nodes.{shape_of, shapes_of}
use Rattle.pegnodes.specs.ByByte.{Succeeds, by_shape, Below, ByShape, by_set_in, by_set_out}
use Rattle.pegnodes.specs.ByByte.{by_no_bytes, by_one_byte, by_other_byte, by_name, by_members, by_alternatives}
use Rattle.pegnodes.specs.ByByte.{by_opt_some, by_opt_none, by_and, by_and_fails, by_not, by_not_fails, by_no_iteration}
use Rattle.pegnodes.specs.ByByte.{by_no_plus, ByMembers, members_end, member_stays, member_fails, member_takes}
use Rattle.pegnodes.specs.ByByte.{member_leaves}
use Rattle.pegnodes.specs.ByByte.{ByAlternatives, alternatives_end, alternative_fails, alternative_succeeds}
use Rattle.pegnodes.specs.Decides.{mark_in, tail_in, Decides, DecidesBelow, DecidesShape, DecidesMembers}
use Rattle.pegnodes.specs.Decides.{DecidesAlternatives, IsEvent}
use Rattle.pegnodes.specs.KeyLists.{tails_of}
use Rattle.pegnodes.specs.declared.by_byte.Decided.{Decided}
use Rattle.pegnodes.specs.declared.by_byte.MarkedNodes.{MarkedNodes}
use Rattle.pegnodes.specs.declared.by_byte.ByteVerdict.{ByteVerdict}
use Rattle.pegnodes.specs.declared.by_byte.ByteVerdict.TheVariants.{Takes, Stays, Fails}
use Rattle.pegnodes.proofs.KeyNeedsLemmas.{tails_at}

-- a literal of one byte or none, or that begins with another byte
pub no_byte : (g : MarkedNodes) (b n : ℕ) (bytes : List ℕ) → None ≡ slice_get bytes 0
    → DecidesShape g b n (Bytes bytes) (record { verdict = Stays; count = 1 })
no_byte g b n [] is = by_no_bytes
no_byte g b n (c ∷ cs) is = absurd (cc is)

pub first_other : (g : MarkedNodes) (b n c : ℕ) (bytes : List ℕ) → Some c ≡ slice_get bytes 0 → (c ≡ b → ⊥)
    → DecidesShape g b n (Bytes bytes) (record { verdict = Fails; count = 1 })
first_other g b n c [] is not = absurd (cc is)
first_other g b n c (a ∷ cs) is not = by_other_byte (λ same. not (cc (is, same)))

pub first_alone : (g : MarkedNodes) (b n c : ℕ) (bytes : List ℕ) → Some c ≡ slice_get bytes 0 → c ≡ b
    → length bytes ≡ 1 → DecidesShape g b n (Bytes bytes) (record { verdict = Takes; count = 1 })
first_alone g b n c [] is same one = absurd (cc is)
first_alone g b n c (a ∷ []) is same one = by_one_byte (cc (is, same))
first_alone g b n c (a ∷ (e ∷ cs)) is same one = absurd (omega (arith, one))

-- a verdict and a sum, for a shape
pub shape_of_sum : (g : MarkedNodes) (b n c : ℕ) (s : Shape) (v : ByteVerdict) (d : Decided) → d.verdict ≡ v
    → d.count ≡ c
    → ByShape (shapes_of g.nodes.now) g.bodies.now (mark_in g) (tail_in g) b n s v c
    → DecidesShape g b n s d
shape_of_sum g b n c s v d same sum h =
    subst (λ w. ByShape (shapes_of g.nodes.now) g.bodies.now (mark_in g) (tail_in g) b n s w d.count)
    (sym same)
    (subst (λ e. ByShape (shapes_of g.nodes.now) g.bodies.now (mark_in g) (tail_in g) b n s v e)
    (sym sum) h)

pub below_of : (g : MarkedNodes) (b m : ℕ) (v : ByteVerdict) (d : Decided) → d.verdict ≡ v → DecidesBelow g b m d
    → Below (shapes_of g.nodes.now) g.bodies.now (mark_in g) (tail_in g) b m v d.count
below_of g b m v d same h =
    subst (λ w. Below (shapes_of g.nodes.now) g.bodies.now (mark_in g) (tail_in g) b m w d.count)
    same h

-- the verdict of a node with an operand, from the operand's
abbrev pub Lifts : (ℕ → Shape) → ByteVerdict → ByteVerdict → Type 0
Lifts shape v w = (g : MarkedNodes) (b n m c : ℕ)
    → Below (shapes_of g.nodes.now) g.bodies.now (mark_in g) (tail_in g) b m v c
    → ByShape (shapes_of g.nodes.now) g.bodies.now (mark_in g) (tail_in g) b n (shape m) w (1 + c)

pub verdict_lifted : (shape : ℕ → Shape) (o : Decided) (v w u : ByteVerdict) (r : Option Decided) → o.verdict ≡ v
    → u ≡ w
    → Lifts shape v w → IfSome r (λ d. (d.verdict ≡ u) × (d.count ≡ 1 + o.count))
    → IfSome r (λ d. (g : MarkedNodes) (b n m : ℕ) → DecidesBelow g b m o → DecidesShape g b n (shape m) d)
verdict_lifted shape o v w u None is same lifts h = tt
verdict_lifted shape o v w u (Some d) is same lifts h = λ g b n m k.
    shape_of_sum g b n (1 + o.count) (shape m) w d (cc (h.0, same)) h.1
    (lifts g b n m o.count (below_of g b m v o is k))

pub opt_takes_by : Lifts Opt Takes Takes
opt_takes_by g b n m c h = by_opt_some tt h

pub opt_stays_by : Lifts Opt Stays Stays
opt_stays_by g b n m c h = by_opt_some tt h

pub opt_fails_by : Lifts Opt Fails Stays
opt_fails_by g b n m c h = by_opt_none h

pub and_takes_by : Lifts And Takes Stays
and_takes_by g b n m c h = by_and tt h

pub and_stays_by : Lifts And Stays Stays
and_stays_by g b n m c h = by_and tt h

pub and_fails_by : Lifts And Fails Fails
and_fails_by g b n m c h = by_and_fails h

pub not_takes_by : Lifts Not Takes Fails
not_takes_by g b n m c h = by_not_fails tt h

pub not_stays_by : Lifts Not Stays Fails
not_stays_by g b n m c h = by_not_fails tt h

pub not_fails_by : Lifts Not Fails Stays
not_fails_by g b n m c h = by_not h

pub star_fails_by : Lifts Star Fails Stays
star_fails_by g b n m c h = by_no_iteration h

pub plus_fails_by : (s : ℕ) → Lifts (λ m. Plus m s) Fails Fails
plus_fails_by s g b n m c h = by_no_plus h

-- a class
pub set_has : (g : MarkedNodes) (b n : ℕ) (set : List Bool) → get_or set b false ≡ true
    → DecidesShape g b n (Set (λ c. get_or set c false)) (record { verdict = Takes; count = 1 })
set_has g b n set is = by_set_in is

pub set_has_not : (g : MarkedNodes) (b n : ℕ) (set : List Bool) → get_or set b false ≡ false
    → DecidesShape g b n (Set (λ c. get_or set c false)) (record { verdict = Fails; count = 1 })
set_has_not g b n set is = by_set_out is

pub some_as : (P Q : Decided → Type 0) (r : Option Decided) → ((d : Decided) → P d → Q d) → IfSome r P → IfSome r Q
some_as P Q None f h = tt
some_as P Q (Some d) f h = f d h

-- the node of this case
pub at_node : (g : MarkedNodes) (b n : ℕ) (v w : Node) (d : Decided)
    → slice_get (shapes_of g.nodes.now) n ≡ Some (shape_of v) → v ≡ w → DecidesShape g b n (shape_of w) d
    → Decides g b n d
at_node g b n v w d at is h =
    by_shape (subst (λ u. slice_get (shapes_of g.nodes.now) n ≡ Some (shape_of u)) is at) h

pub name_decides : (g : MarkedNodes) (b n id m : ℕ) (o d : Decided) → slice_get g.bodies.now id ≡ Some m
    → DecidesBelow g b m o → (d.verdict ≡ o.verdict) × (d.count ≡ 1 + o.count) → DecidesShape g b n (Name id) d
name_decides g b n id m o d body h sum =
    shape_of_sum g b n (1 + o.count) (Name id) o.verdict d sum.0 sum.1 (by_name body h)

pub seq_decides : (g : MarkedNodes) (b n : ℕ) (ms : List ℕ) (o d : Decided) → DecidesMembers g b n ms o
    → (d.verdict ≡ o.verdict) × (d.count ≡ 1 + o.count) → DecidesShape g b n (Seq ms) d
seq_decides g b n ms o d h sum =
    shape_of_sum g b n (1 + o.count) (Seq ms) o.verdict d sum.0 sum.1 (by_members h)

pub choice_decides : (g : MarkedNodes) (b n : ℕ) (ms : List ℕ) (o d : Decided) → DecidesAlternatives g b n ms o
    → (d.verdict ≡ o.verdict) × (d.count ≡ 1 + o.count) → DecidesShape g b n (Choice ms) d
choice_decides g b n ms o d h sum =
    shape_of_sum g b n (1 + o.count) (Choice ms) o.verdict d sum.0 sum.1 (by_alternatives h)

module _ (g : MarkedNodes) (b n : ℕ) (ms : List ℕ) (i : ℕ) where
  abbrev M : ℕ → ByteVerdict → ℕ → Type 0
  M j v c = ByMembers (shapes_of g.nodes.now) g.bodies.now (mark_in g) (tail_in g) b n ms j v c

  abbrev A : ℕ → ByteVerdict → ℕ → Type 0
  A j v c = ByAlternatives (shapes_of g.nodes.now) g.bodies.now (mark_in g) (tail_in g) b n ms j v c

  members_as : (j k c d : ℕ) (v w : ByteVerdict) → j ≡ k → v ≡ w → c ≡ d → M j v c → M k w d
  members_as j k c d v w position same sum h =
      subst (λ e. M k w e) sum (subst (λ u. M k u c) same (subst (λ e. M e v c) position h))

  alternatives_as : (j k c d : ℕ) (v w : ByteVerdict) → j ≡ k → v ≡ w → c ≡ d → A j v c → A k w d
  alternatives_as j k c d v w position same sum h =
      subst (λ e. A k w e) sum (subst (λ u. A k u c) same (subst (λ e. A e v c) position h))

  -- `leaves`: a member before leaves an event
  module _ (count : ℕ) (leaves : Bool)
      (all : (v : ByteVerdict) (d : ℕ) → (leaves ≡ true → v ≡ Fails) → M i v d → M 0 v (count + d)) where
    pub members_done : leaves ≡ false → length ms ≤ i
        → DecidesMembers g b n ms (record { verdict = Stays; count = count })
    members_done none le = members_as 0 0 (count + 0) count Stays Stays refl refl (omega arith)
        (all Stays 0 (λ some. absurd (cc (some, none))) (members_end (slice_get_past ms i le)))

    seq_has_no_key : slice_get (shapes_of g.nodes.now) n ≡ Some (Seq ms)
        → get_or (tails_of g.after.now (Seq ms)) i false ≡ false → tail_in g n i ≡ false
    seq_has_no_key at t = sym (tails_at (shapes_of g.nodes.now) g.keys.now g.after.now n i (Seq ms) at) ∙ t

    pub members_left : i < length ms → slice_get (shapes_of g.nodes.now) n ≡ Some (Seq ms)
        → get_or (tails_of g.after.now (Seq ms)) i false ≡ false → IsEvent g (get_or ms i 0) → (whole : ℕ)
        → whole ≡ count + 1 → (v : ByteVerdict) (e : ℕ) → (true ≡ true → v ≡ Fails) → M (i + 1) v e → M 0 v (whole + e)
    members_left lt at t m whole sum v e fails r =
        members_as 0 0 (count + (1 + e)) (whole + e) Fails v refl (sym (fails refl)) (omega (arith, sum))
        (all Fails (1 + e) (λ some. refl) (member_leaves (slice_get-get_or ms i 0 lt) (seq_has_no_key at t) m.free
        m.at m.leaves (members_as (i + 1) (suc i) e e v Fails (omega arith) (fails refl) refl r)))

    module _ (lt : i < length ms) (at : slice_get (shapes_of g.nodes.now) n ≡ Some (Seq ms))
        (t : get_or (tails_of g.after.now (Seq ms)) i false ≡ false) (m d : Decided)
        (h : DecidesBelow g b (get_or ms i 0) m) (sum : (d.verdict ≡ m.verdict) × (d.count ≡ count + m.count)) where
      pub members_more : m.verdict ≡ Stays → (v : ByteVerdict) (e : ℕ) → (leaves ≡ true → v ≡ Fails)
          → M (i + 1) v e → M 0 v (d.count + e)
      members_more is v e fails r =
          let whole = sum.1 in
          members_as 0 0 (count + (m.count + e)) (d.count + e) v v refl refl (omega (arith, whole))
          (all v (m.count + e) fails (member_stays (slice_get-get_or ms i 0 lt) (seq_has_no_key at t)
          (below_of g b (get_or ms i 0) Stays m is h)
          (members_as (i + 1) (suc i) e e v v (omega arith) refl refl r)))

      pub members_failed : m.verdict ≡ Fails → DecidesMembers g b n ms d
      members_failed is =
          let same = sum.0 in
          members_as 0 0 (count + m.count) d.count Fails d.verdict refl (cc (same, is)) (sym sum.1)
          (all Fails m.count (λ some. refl) (member_fails (slice_get-get_or ms i 0 lt) (seq_has_no_key at t)
          (below_of g b (get_or ms i 0) Fails m is h)))

      pub members_took : leaves ≡ false → m.verdict ≡ Takes → length ms ≤ i + 1 → DecidesMembers g b n ms d
      members_took none is le =
          let same = sum.0 in
          members_as 0 0 (count + m.count) d.count Takes d.verdict refl (cc (same, is)) (sym sum.1)
          (all Takes m.count (λ some. absurd (cc (some, none))) (member_takes (slice_get-get_or ms i 0 lt)
          (slice_get_past ms (suc i) (omega arith)) (seq_has_no_key at t)
          (below_of g b (get_or ms i 0) Takes m is h)))

  module _ (count : ℕ) (all : (v : ByteVerdict) (d : ℕ) → A i v d → A 0 v (count + d)) where
    pub alternatives_done : length ms ≤ i → DecidesAlternatives g b n ms (record { verdict = Fails; count = count })
    alternatives_done le = alternatives_as 0 0 (count + 0) count Fails Fails refl refl (omega arith)
        (all Fails 0 (alternatives_end (slice_get_past ms i le)))

    module _ (lt : i < length ms) (at : slice_get (shapes_of g.nodes.now) n ≡ Some (Choice ms)) (m d : Decided)
        (h : DecidesBelow g b (get_or ms i 0) m) (sum : (d.verdict ≡ m.verdict) × (d.count ≡ count + m.count)) where
      choice_has_no_key : tail_in g n i ≡ false
      choice_has_no_key = sym (tails_at (shapes_of g.nodes.now) g.keys.now g.after.now n i (Choice ms) at)

      pub alternatives_more : m.verdict ≡ Fails → (v : ByteVerdict) (e : ℕ) → A (i + 1) v e → A 0 v (d.count + e)
      alternatives_more is v e r =
          let whole = sum.1 in
          alternatives_as 0 0 (count + (m.count + e)) (d.count + e) v v refl refl (omega (arith, whole))
          (all v (m.count + e) (alternative_fails (slice_get-get_or ms i 0 lt) choice_has_no_key
          (below_of g b (get_or ms i 0) Fails m is h)
          (alternatives_as (i + 1) (suc i) e e v v (omega arith) refl refl r)))

      pub alternatives_succeeded : Succeeds m.verdict → DecidesAlternatives g b n ms d
      alternatives_succeeded is =
          alternatives_as 0 0 (count + m.count) d.count m.verdict d.verdict refl (sym sum.0) (sym sum.1)
          (all m.verdict m.count (alternative_succeeds (slice_get-get_or ms i 0 lt) choice_has_no_key is h))

pub takes_succeeds : (v : ByteVerdict) → v ≡ Takes → Succeeds v
takes_succeeds v is = subst Succeeds (sym is) tt

pub stays_succeeds : (v : ByteVerdict) → v ≡ Stays → Succeeds v
stays_succeeds v is = subst Succeeds (sym is) tt
