-- A byte decides one verdict of a node.
-- Serves: one_verdict
use Rattle.std.proofs.Common.{◌≡◌, ℕ, ◌+◌, Bool, List, Some, refl, subst, arith}
use Rattle.std.specs.Prelude.{slice_get}
use Rattle.pegnodes.specs.Nodes.{Shape}
use Rattle.pegnodes.specs.ByByte.{Succeeds, ByByte, by_shape, Below, below, ByShape, by_any, by_set_in, by_set_out}
use Rattle.pegnodes.specs.ByByte.{by_no_bytes, by_one_byte, by_other_byte, by_name, by_members, by_alternatives}
use Rattle.pegnodes.specs.ByByte.{by_opt_some, by_opt_none, by_and, by_and_fails, by_not, by_not_fails, by_no_iteration}
use Rattle.pegnodes.specs.ByByte.{by_no_plus, ByMembers, members_end, member_stays, member_fails, member_takes}
use Rattle.pegnodes.specs.ByByte.{member_leaves, LeavesEvent}
use Rattle.pegnodes.specs.ByByte.{ByAlternatives, alternatives_end, alternative_fails, alternative_succeeds}
use Rattle.pegnodes.specs.declared.by_byte.ByteVerdict.{ByteVerdict}
use Rattle.pegnodes.specs.declared.by_byte.ByteVerdict.TheVariants.{Takes, Stays, Fails}

pub succeeds_not_fails : (v : ByteVerdict) → Succeeds v → v ≡ Fails → ⊥
succeeds_not_fails Takes h is = cc is
succeeds_not_fails Stays h is = cc is
succeeds_not_fails Fails h is = h

-- the same verdict and the same number
pub record Agree (v w : ByteVerdict) (c d : ℕ) : Type 0 where
  pub same : v ≡ w
  pub count : c ≡ d

agree_more : {v w : ByteVerdict} {c d : ℕ} → Agree v w c d → Agree v w (1 + c) (1 + d)
agree_more a = let is = a.count in record { same = a.same; count = omega (arith, is) }

agree_as : {v w t u : ByteVerdict} {c d : ℕ} → t ≡ u → Agree v w c d → Agree t u (1 + c) (1 + d)
agree_as same a = let is = a.count in record { same = same; count = omega (arith, is) }

module _ (nodes : List Shape) (bodies : List ℕ) (marks : ℕ → Bool) (tails : ℕ → ℕ → Bool) (b : ℕ) where
  abbrev B : ℕ → ByteVerdict → ℕ → Type 0
  B m v c = Below nodes bodies marks tails b m v c

  abbrev S : ℕ → Shape → ByteVerdict → ℕ → Type 0
  S n s v c = ByShape nodes bodies marks tails b n s v c

  abbrev M : ℕ → List ℕ → ℕ → ByteVerdict → ℕ → Type 0
  M n ms i v c = ByMembers nodes bodies marks tails b n ms i v c

  abbrev A : ℕ → List ℕ → ℕ → ByteVerdict → ℕ → Type 0
  A n ms i v c = ByAlternatives nodes bodies marks tails b n ms i v c

  same_node : {m k c : ℕ} {v : ByteVerdict} → k ≡ m → B k v c → B m v c
  same_node {c = c} {v = v} is h = subst (λ j. B j v c) is h

  -- no byte decides a node that leaves an event
  no_event : {n c : ℕ} {s : Shape} {v : ByteVerdict} → S n s v c → LeavesEvent s → ⊥
  no_event by_any l = l
  no_event (by_set_in t) l = l
  no_event (by_set_out t) l = l
  no_event by_no_bytes l = l
  no_event (by_one_byte t) l = l
  no_event (by_other_byte t) l = l
  no_event (by_name t h) l = l
  no_event (by_members h) l = l
  no_event (by_alternatives h) l = l
  no_event (by_opt_some t h) l = l
  no_event (by_opt_none h) l = l
  no_event (by_and t h) l = l
  no_event (by_and_fails h) l = l
  no_event (by_not h) l = l
  no_event (by_not_fails t h) l = l
  no_event (by_no_iteration h) l = l
  no_event (by_no_plus h) l = l

  no_event_decided : {m c : ℕ} {s : Shape} {v : ByteVerdict} → B m v c → slice_get nodes m ≡ Some s → LeavesEvent s → ⊥
  no_event_decided {s = s} (below t (by_shape {s = other} at h)) there l =
      let same : s ≡ other = cc (at, there) in no_event h (subst LeavesEvent same l)

  mutual
    pub verdicts_agree : {n c d : ℕ} {v w : ByteVerdict} → ByByte nodes bodies marks tails b n v c
        → ByByte nodes bodies marks tails b n w d → Agree v w c d
    verdicts_agree {n = n} {d = d} {w = w} (by_shape {s = s} at h) (by_shape {s = t} there k) =
        let same : t ≡ s = cc (at, there) in
        shapes_agree h (subst (λ u. S n u w d) same k)

    below_agrees : {n c d : ℕ} {v w : ByteVerdict} → B n v c → B n w d → Agree v w c d
    below_agrees (below t h) (below u k) = verdicts_agree h k

    shapes_agree : {n c d : ℕ} {s : Shape} {v w : ByteVerdict} → S n s v c → S n s w d → Agree v w c d
    shapes_agree by_any by_any = record { same = refl; count = refl }
    shapes_agree (by_set_in t) (by_set_in u) = record { same = refl; count = refl }
    shapes_agree (by_set_in t) (by_set_out u) = absurd (cc (t, u))
    shapes_agree (by_set_out t) (by_set_in u) = absurd (cc (t, u))
    shapes_agree (by_set_out t) (by_set_out u) = record { same = refl; count = refl }
    shapes_agree by_no_bytes by_no_bytes = record { same = refl; count = refl }
    shapes_agree (by_one_byte t) (by_one_byte u) = record { same = refl; count = refl }
    shapes_agree (by_one_byte t) (by_other_byte u) = absurd (u t)
    shapes_agree (by_other_byte t) (by_one_byte u) = absurd (t u)
    shapes_agree (by_other_byte t) (by_other_byte u) = record { same = refl; count = refl }
    shapes_agree (by_name {m = m} t h) (by_name {m = l} u k) =
        agree_more (below_agrees h (same_node (cc (t, u)) k))
    shapes_agree (by_members h) (by_members k) = agree_more (members_agree h k)
    shapes_agree (by_alternatives h) (by_alternatives k) = agree_more (alternatives_agree h k)
    shapes_agree (by_opt_some t h) (by_opt_some u k) = agree_more (below_agrees h k)
    shapes_agree (by_opt_some {v = v} t h) (by_opt_none k) =
        absurd (succeeds_not_fails v t (below_agrees h k).same)
    shapes_agree (by_opt_none h) (by_opt_some {v = v} t k) =
        absurd (let is = (below_agrees h k).same in succeeds_not_fails v t (cc is))
    shapes_agree (by_opt_none h) (by_opt_none k) = agree_as refl (below_agrees h k)
    shapes_agree (by_and t h) (by_and u k) = agree_as refl (below_agrees h k)
    shapes_agree (by_and {v = v} t h) (by_and_fails k) = absurd (succeeds_not_fails v t (below_agrees h k).same)
    shapes_agree (by_and_fails h) (by_and {v = v} t k) =
        absurd (let is = (below_agrees h k).same in succeeds_not_fails v t (cc is))
    shapes_agree (by_and_fails h) (by_and_fails k) = agree_as refl (below_agrees h k)
    shapes_agree (by_not h) (by_not k) = agree_as refl (below_agrees h k)
    shapes_agree (by_not h) (by_not_fails {v = v} t k) =
        absurd (let is = (below_agrees h k).same in succeeds_not_fails v t (cc is))
    shapes_agree (by_not_fails {v = v} t h) (by_not k) = absurd (succeeds_not_fails v t (below_agrees h k).same)
    shapes_agree (by_not_fails t h) (by_not_fails u k) = agree_as refl (below_agrees h k)
    shapes_agree (by_no_iteration h) (by_no_iteration k) = agree_as refl (below_agrees h k)
    shapes_agree (by_no_plus h) (by_no_plus k) = agree_as refl (below_agrees h k)

    members_agree : {n i c d : ℕ} {ms : List ℕ} {v w : ByteVerdict} → M n ms i v c → M n ms i w d → Agree v w c d
    members_agree (members_end e) (members_end f) = record { same = refl; count = refl }
    members_agree (members_end e) (member_stays f u k l) = absurd (cc (e, f))
    members_agree (members_end e) (member_fails f u k) = absurd (cc (e, f))
    members_agree (members_end e) (member_takes f g u k) = absurd (cc (e, f))
    members_agree (members_end e) (member_leaves f u k at l q) = absurd (cc (e, f))
    members_agree (member_stays e t h r) (members_end f) = absurd (cc (e, f))
    members_agree (member_stays e t h r) (member_stays f u k l) =
        let here = below_agrees h (same_node (cc (e, f)) k) in
        let rest = members_agree r l in
        let one = here.count in
        let two = rest.count in
        record { same = rest.same; count = omega (arith, one, two) }
    members_agree (member_stays e t h r) (member_fails f u k) =
        absurd (let is = (below_agrees h (same_node (cc (e, f)) k)).same in cc is)
    members_agree (member_stays e t h r) (member_takes f g u k) =
        absurd (let is = (below_agrees h (same_node (cc (e, f)) k)).same in cc is)
    members_agree (member_stays e t h r) (member_leaves f u k at l q) =
        absurd (no_event_decided (same_node (cc (e, f)) h) at l)
    members_agree (member_fails e t h) (members_end f) = absurd (cc (e, f))
    members_agree (member_fails e t h) (member_stays f u k l) =
        absurd (let is = (below_agrees h (same_node (cc (e, f)) k)).same in cc is)
    members_agree (member_fails e t h) (member_fails f u k) = below_agrees h (same_node (cc (e, f)) k)
    members_agree (member_fails e t h) (member_takes f g u k) =
        absurd (let is = (below_agrees h (same_node (cc (e, f)) k)).same in cc is)
    members_agree (member_fails e t h) (member_leaves f u k at l q) =
        absurd (no_event_decided (same_node (cc (e, f)) h) at l)
    members_agree (member_takes e z t h) (members_end f) = absurd (cc (e, f))
    members_agree (member_takes e z t h) (member_stays f u k l) =
        absurd (let is = (below_agrees h (same_node (cc (e, f)) k)).same in cc is)
    members_agree (member_takes e z t h) (member_fails f u k) =
        absurd (let is = (below_agrees h (same_node (cc (e, f)) k)).same in cc is)
    members_agree (member_takes e z t h) (member_takes f g u k) = below_agrees h (same_node (cc (e, f)) k)
    members_agree (member_takes e z t h) (member_leaves f u k at l q) =
        absurd (no_event_decided (same_node (cc (e, f)) h) at l)
    members_agree (member_leaves e t h at l r) (members_end f) = absurd (cc (e, f))
    members_agree (member_leaves e t h at l r) (member_stays f u k q) =
        absurd (no_event_decided (same_node (cc (e, f)) k) at l)
    members_agree (member_leaves e t h at l r) (member_fails f u k) =
        absurd (no_event_decided (same_node (cc (e, f)) k) at l)
    members_agree (member_leaves e t h at l r) (member_takes f g u k) =
        absurd (no_event_decided (same_node (cc (e, f)) k) at l)
    members_agree (member_leaves e t h at l r) (member_leaves f u k there o q) = agree_more (members_agree r q)

    alternatives_agree : {n i c d : ℕ} {ms : List ℕ} {v w : ByteVerdict} → A n ms i v c → A n ms i w d → Agree v w c d
    alternatives_agree (alternatives_end e) (alternatives_end f) = record { same = refl; count = refl }
    alternatives_agree (alternatives_end e) (alternative_fails f u k l) = absurd (cc (e, f))
    alternatives_agree (alternatives_end e) (alternative_succeeds f u s k) = absurd (cc (e, f))
    alternatives_agree (alternative_fails e t h r) (alternatives_end f) = absurd (cc (e, f))
    alternatives_agree (alternative_fails e t h r) (alternative_fails f u k l) =
        let here = below_agrees h (same_node (cc (e, f)) k) in
        let rest = alternatives_agree r l in
        let one = here.count in
        let two = rest.count in
        record { same = rest.same; count = omega (arith, one, two) }
    alternatives_agree (alternative_fails e t h r) (alternative_succeeds {v = v} f u s k) =
        absurd (let is = (below_agrees h (same_node (cc (e, f)) k)).same in succeeds_not_fails v s (cc is))
    alternatives_agree (alternative_succeeds e t s h) (alternatives_end f) = absurd (cc (e, f))
    alternatives_agree (alternative_succeeds {v = v} e t s h) (alternative_fails f u k l) =
        absurd (succeeds_not_fails v s (below_agrees h (same_node (cc (e, f)) k)).same)
    alternatives_agree (alternative_succeeds e t s h) (alternative_succeeds f u z k) =
        below_agrees h (same_node (cc (e, f)) k)
