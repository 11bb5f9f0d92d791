-- Where nothing begins at the judged rule's body, the item sets hold the augmented start's start alone.
-- Serves: lower_viable.
use Rattle.std.proofs.Common.{◌≡◌, ℕ, ◌<◌, List, [], ◌∷◌, Some, refl, sym, ap, ◌∙◌, subst, arith}
use Rattle.std.specs.Prelude.{slice_get}
use Rattle.flatgrammar.specs.Flat.{Flat, Node, Nothing, Concat, Dot, at, Set, Begins, IsDone, Reading, Calling}
use Rattle.flatgrammar.specs.Flat.{Starts, starts, name_starts, Ends, ends, name_ends, Reads, reads, Calls, calls}
use Rattle.flatgrammar.specs.Holds.{Holds, begins, called, has_read, returned}
use Rattle.flatgrammar.specs.Holds.{HasItem}

abbrev node_in : Dot → ℕ
node_in (at s k) = s

abbrev step_in : Dot → ℕ
step_in (at s k) = k

some_same : {a b : Node} → Some a ≡ Some b → a ≡ b
some_same is = cc is

module _ (flat : Flat) (body : ℕ) (whole : slice_get flat.nodes flat.start ≡ Some (Concat (body ∷ [])))
    (nothing : slice_get flat.nodes body ≡ Some Nothing) where
  the_whole : {s : ℕ} {node : Node} → s ≡ flat.start → slice_get flat.nodes s ≡ Some node → node ≡ Concat (body ∷ [])
  the_whole same is = some_same (sym is ∙ (ap (λ v. slice_get flat.nodes v) same ∙ whole))

  none_begins : {node : Node} {k : ℕ} → node ≡ Nothing → Begins node k → ⊥
  none_begins {k = k} same b = by (subst (λ v. Begins v k) same b)
    where
      by : {k : ℕ} → Begins Nothing k → ⊥
      by b = elim b [ ]

  no_start : {s : ℕ} {p : Dot} → s ≡ body → Starts flat s p → ⊥
  no_start same (starts {s = s} is b) = none_begins
      (some_same (sym is ∙ (ap (λ v. slice_get flat.nodes v) same ∙ nothing))) b
  no_start same (name_starts {s = s} is there st) = absurd (cc (is, ap (λ v. slice_get flat.nodes v) same, nothing))

  not_done : {node : Node} {k : ℕ} → node ≡ Concat (body ∷ []) → k ≡ 0 → IsDone node k → ⊥
  not_done {k = k} same zero d = by k zero (subst (λ v. IsDone v k) same d)
    where
      by : (k : ℕ) → k ≡ 0 → IsDone (Concat (body ∷ [])) k → ⊥
      by k zero (IsDone.concat is) = absurd (omega (arith, is, zero))

  no_end : {s : ℕ} {p : Dot} → p ≡ at flat.start 0 → Ends flat p s → ⊥
  no_end same (ends is d) = not_done (the_whole (ap node_in same) is) (ap step_in same) d
  no_end same (name_ends is there e) = no_end same e

  called_body : {node : Node} {k t l : ℕ} → node ≡ Concat (body ∷ []) → k ≡ 0 → Calling node k t l → t ≡ body
  called_body {k = k} {t = t} {l = l} same zero c = by zero (subst (λ v. Calling v k t l) same c)
    where
      by : {k t l : ℕ} → k ≡ 0 → Calling (Concat (body ∷ [])) k t l → t ≡ body
      by zero (Calling.member {k = k} {s = s} is) = let first : slice_get (body ∷ []) 0 ≡ Some s =
          subst (λ v. slice_get (body ∷ []) v ≡ Some s) zero is in cc first

  calls_body : {s : ℕ} {q r : Dot} → q ≡ at flat.start 0 → Calls flat q s r → s ≡ body
  calls_body same (calls is c) = called_body (the_whole (ap node_in same) is) (ap step_in same) c

  no_reading : {node : Node} {k l : ℕ} {set : Set} → node ≡ Concat (body ∷ []) → Reading node k set l → ⊥
  no_reading {k = k} {l = l} {set = set} same r = by (subst (λ v. Reading v k set l) same r)
    where
      by : {k l : ℕ} {set : Set} → Reading (Concat (body ∷ [])) k set l → ⊥
      by r = elim r [ ]

  no_read : {q r : Dot} {set : Set} → q ≡ at flat.start 0 → Reads flat q set r → ⊥
  no_read same (reads is r) = no_reading (the_whole (ap node_in same) is) r

  whole_begins : {node : Node} {k : ℕ} → node ≡ Concat (body ∷ []) → Begins node k → k ≡ 0
  whole_begins {k = k} same b = by (subst (λ v. Begins v k) same b)
    where
      by : {k : ℕ} → Begins (Concat (body ∷ [])) k → k ≡ 0
      by Begins.concat = refl

  starts_whole : {s : ℕ} {p : Dot} → s ≡ flat.start → Starts flat s p → p ≡ at flat.start 0
  starts_whole same (starts {s = s} {k = k} is b) =
      let first : k ≡ 0 = whole_begins (the_whole same is) b in
      ap (λ v. at v k) same ∙ ap (λ v. at flat.start v) first
  starts_whole same (name_starts is at_r st) = absurd (cc (is, ap (λ v. slice_get flat.nodes v) same, whole))

  only_start : (x : List ℕ) {i j : ℕ} {p : Dot} → Holds flat x j p i → (j ≡ 0) × (p ≡ at flat.start 0)
  only_start x (begins st) = (refl, starts_whole refl st)
  only_start x (called h c st) = let was = only_start x h in elim (no_start (calls_body was.1 c) st) [ ]
  only_start x (has_read h r letter lies) = let was = only_start x h in elim (no_read was.1 r) [ ]
  only_start x (returned h e g c takes) = let was = only_start x h in elim (no_end was.1 e) [ ]

  pub no_item : (x : List ℕ) (j : ℕ) → 0 < j → HasItem flat x j → ⊥
  no_item x j past item = let is = (only_start x item.held).0 in absurd (omega (arith, past, is))
