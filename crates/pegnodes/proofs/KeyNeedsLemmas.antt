-- Nodes that need no mark of a key.
-- Serves: check_peg
use Rattle.std.proofs.Common.{◌≡◌, ◌⊎◌, ℕ, suc, ◌<◌, Bool, true, false, List, [], length, map, get_or}
use Rattle.std.proofs.Common.{Contains, Some, Option, refl, sym, ap, subst, arith, ⊎_elim, inl, inr, ◌∙◌, ltb}
use Rattle.std.specs.Prelude.{slice_get, option_to_list, option_map}
use Rattle.std.proofs.lemmas.Option.{slice_get_within, slice_get-map, get_or_from_slice_get}
use Rattle.std.proofs.lemmas.Bool.{ltb-true}
use Rattle.std.proofs.lemmas.List.{length-map, get_or_default}
use Rattle.fixpoint.specs.Demands.{Demand, All, One, AreNeedsWithin, row_of}
use Rattle.fixpoint.specs.Least.{Comes, by_all, by_one}
use Rattle.pegnodes.specs.KeyLists.{marks_of, node_marks, tail_marks, tails_of}
use Rattle.pegnodes.specs.KeyMarks.{AreMarks, AskedOnce, once_plain, once_loop, once_iterated, IsPlain, IsLoop}
use Rattle.pegnodes.specs.KeyMarks.{IsIterated, Single, single_root, single_below, WayNames, WayNamesOnce}
use Rattle.pegnodes.specs.KeyMarks.{WayEntersOnce, DoesNotRepeat}
use Rattle.pegnodes.specs.KeyNeeds.{GoesOnce, GoesAgain, IsGoing, MayBePlain, MayBeLoop, AreKnown, Justifies}
use Rattle.pegnodes.specs.KeyNeeds.{AreJustified, AreSingles, IsPassed, going_of}
use Rattle.pegnodes.specs.Namers.{name_rows, names_of, NamesAt, IsBefore, IsNamerTo}
use Rattle.pegnodes.specs.Nodes as node
use Rattle.pegnodes.specs.Nodes.{Shape, Seq, Star}
use Rattle.pegnodes.specs.NodeWays.{Way, Leaf, Body, Members, Alternatives, Iterations, Operand, way_of}
use Rattle.pegnodes.specs.Width.{AreWidths}
use Rattle.pegnodes.specs.declared.keys.GoesOn.{GoesOn}
use Rattle.pegnodes.specs.declared.namers.Namer.{Namer}
use Rattle.pegnodes.specs.declared.namers.Namer.TheVariants.{Nobody, By, Both, Many}

-- a node that is there goes on as its shape says
module _ (nodes : List Shape) (n : ℕ) (shape : Shape) (at : slice_get nodes n ≡ Some shape) where
  going_by : (w : Way) → way_of n shape ≡ w → IsGoing nodes n (going_of w)
  going_by Leaf is = record { shape = shape; at = at; once = λ k s e. cc (is, e) }
  going_by (Body id) is = record { shape = shape; at = at; once = λ k s e. cc (is, e) }
  going_by (Members ms) is = record { shape = shape; at = at; once = λ k s e. cc (is, e) }
  going_by (Alternatives ms) is = record { shape = shape; at = at; once = λ k s e. cc (is, e) }
  going_by (Iterations k s) is = record { shape = shape; at = at; again = is }
  going_by (Operand k) is = record { shape = shape; at = at; once = λ j s e. cc (is, e) }

  pub goes_there : (g : GoesOn) → g ≡ going_of (way_of n shape) → IsGoing nodes n g
  goes_there g is = subst (IsGoing nodes n) (sym is) (going_by (way_of n shape) refl)

module _ (start : ℕ) (nodes : List Shape) (bodies : List ℕ) where
  repeats_not : (w : Way) → ((k s : ℕ) → w ≡ Iterations k s → ⊥) → DoesNotRepeat start nodes bodies w
  repeats_not Leaf h = tt
  repeats_not (Body id) h = tt
  repeats_not (Members ms) h = tt
  repeats_not (Alternatives ms) h = tt
  repeats_not (Iterations k s) h = h k s refl
  repeats_not (Operand k) h = tt

  -- a node that names m has it in its row, or is a repetition that names itself
  names_at : (i m : ℕ) (shape : Shape) → WayNames start nodes bodies (way_of i shape) m
      → ((m ≡ i) × ((k : ℕ) × (shape ≡ Star k))) ⊎ ((t : ℕ) × (slice_get (names_of bodies shape) t ≡ Some m))
  names_at i m node.Any h = absurd h
  names_at i m (node.Bytes bs) h = absurd h
  names_at i m (node.Set s) h = absurd h
  names_at i m (node.Name id) h = inr (0, ap (λ o. slice_get (option_to_list o) 0) h)
  names_at i m (node.Seq ms) h = inr h
  names_at i m (node.Choice ms) h = inr h
  names_at i m (node.Star k) h = ⊎_elim (λ is. inr (0, ap Some (sym is))) (λ is. inl (is, (k, refl))) h
  names_at i m (node.Plus k s) h = ⊎_elim (λ is. inr (0, ap Some (sym is))) (λ is. inr (1, ap Some (sym is))) h
  names_at i m (node.Opt k) h = inr (0, ap Some (sym h))
  names_at i m (node.And k) h = inr (0, ap Some (sym h))
  names_at i m (node.Not k) h = inr (0, ap Some (sym h))
  names_at i m (node.Act t) h = absurd h
  names_at i m node.Open h = absurd h
  names_at i m node.Close h = absurd h

  module _ (n m c : ℕ) where
    abbrev IsAt : Shape → Type 0
    IsAt shape = (t : ℕ) → slice_get (names_of bodies shape) t ≡ Some m → t ≡ c

    names_once : (shape : Shape) → IsAt shape → ((k s : ℕ) → way_of n shape ≡ Iterations k s → m ≡ s → ⊥)
        → WayNamesOnce start nodes bodies (way_of n shape) m
    names_once node.Any f never = tt
    names_once (node.Bytes bs) f never = tt
    names_once (node.Set s) f never = tt
    names_once (node.Name id) f never = tt
    names_once (node.Seq ms) f never = λ i j g h. f i g ∙ sym (f j h)
    names_once (node.Choice ms) f never = λ i j g h. f i g ∙ sym (f j h)
    names_once (node.Star k) f never = never k n refl
    names_once (node.Plus k s) f never = never k s refl
    names_once (node.Opt k) f never = tt
    names_once (node.And k) f never = tt
    names_once (node.Not k) f never = tt
    names_once (node.Act t) f never = tt
    names_once node.Open f never = tt
    names_once node.Close f never = tt

    enters_once : (shape : Shape) → IsAt shape → ((k s : ℕ) → way_of n shape ≡ Iterations k s → m ≡ k → ⊥)
        → WayEntersOnce start nodes bodies (way_of n shape) m
    enters_once node.Any f never = tt
    enters_once (node.Bytes bs) f never = tt
    enters_once (node.Set s) f never = tt
    enters_once (node.Name id) f never = tt
    enters_once (node.Seq ms) f never = λ i j g h. f i g ∙ sym (f j h)
    enters_once (node.Choice ms) f never = λ i j g h. f i g ∙ sym (f j h)
    enters_once (node.Star k) f never = never k n refl
    enters_once (node.Plus k s) f never = never k s refl
    enters_once (node.Opt k) f never = tt
    enters_once (node.And k) f never = tt
    enters_once (node.Not k) f never = tt
    enters_once (node.Act t) f never = tt
    enters_once node.Open f never = tt
    enters_once node.Close f never = tt

  module _ (root : ℕ) (namers : List Namer) (known : AreKnown start nodes bodies root namers) where
    abbrev rows : List (List ℕ)
    rows = name_rows bodies nodes

    named_at : (i t m : ℕ) (shape : Shape) → slice_get nodes i ≡ Some shape
        → slice_get (names_of bodies shape) t ≡ Some m → IsBefore rows (length rows) 0 i t × NamesAt rows i t m
    named_at i t m shape at h =
        let low = slice_get_within nodes i shape at in
        let count = length-map nodes (names_of bodies) in (
          inl (omega (arith, low, count)),
          (
            names_of bodies shape,
            slice_get-map (names_of bodies) nodes i ∙ ap (option_map (names_of bodies)) at,
            h,
          ),
        )

    -- the namer of m, as it is known
    namer_is : (m : ℕ) (s : Namer) → get_or namers m Many ≡ s → IsNamerTo rows (length rows) 0 m s
    namer_is m s is = subst (IsNamerTo rows (length rows) 0 m) is (known.named m)

    not_root : (m : ℕ) → (m ≡ root → ⊥) → slice_get bodies start ≡ Some m → ⊥
    not_root m other at = other (let e : Some m ≡ Some root = sym at ∙ known.root_at in cc e)

    module _ (m a : ℕ) (by : get_or namers m Many ≡ By a) (other : m ≡ root → ⊥) where
      only_at : (i : ℕ) (shape : Shape) → slice_get nodes i ≡ Some shape → (t : ℕ)
          → slice_get (names_of bodies shape) t ≡ Some m → (i ≡ a) × (t ≡ (namer_is m (By a) by).0)
      only_at i shape at t h = let n = named_at i t m shape at h in (namer_is m (By a) by).1 i t n.0 n.1

      abbrev plain_by : MayBePlain nodes a m → IsPlain start nodes bodies m
      plain_by may = record {
        asker = a;
        shape = may.shape;
        at = may.at;
        only = λ i shape at names. ⊎_elim
            (λ self. absurd (may.no_star self.1.0 (subst (λ v. slice_get nodes v ≡ Some (Star self.1.0)) (sym self.0)
            (at ∙ ap Some self.1.1))))
            (λ there. (only_at i shape at there.0 there.1).0)
            (names_at i m shape names);
        once = names_once a m (namer_is m (By a) by).0 may.shape (λ t h. (only_at a may.shape may.at t h).1) may.other;
        not_root = not_root m other;
      }

      pub is_plain : MayBePlain nodes a m → IsPlain start nodes bodies m
      is_plain may = plain_by may

      pub below_single : MayBePlain nodes a m → GoesOnce nodes a → Single start nodes bodies a
          → Single start nodes bodies m
      below_single may once single =
          let same : Some once.shape ≡ Some may.shape = sym once.at ∙ may.at in
          let is : once.shape ≡ may.shape = cc same in
          single_below (plain_by may) (repeats_not (way_of a may.shape)
          (subst (λ v. (k s : ℕ) → way_of a v ≡ Iterations k s → ⊥) is once.once)) single

      pub is_loop : MayBeLoop nodes a m → Single start nodes bodies a → IsLoop start nodes bodies m
      is_loop may single = record {
        operand = may.operand;
        is_star = may.is_star;
        entry = a;
        shape = may.shape;
        at = may.at;
        only = λ i shape at names. ⊎_elim
            (λ self. inr (sym self.0))
            (λ there. inl (only_at i shape at there.0 there.1).0)
            (names_at i m shape names);
        once = enters_once a m (namer_is m (By a) by).0 may.shape (λ t h. (only_at a may.shape may.at t h).1) may.other;
        single = single;
        not_root = not_root m other;
      }

    -- the operand of a repetition that a repetition of one or more entered_operand
    module _ (m s p : ℕ) (by : get_or namers m Many ≡ Both s p) (other : m ≡ root → ⊥)
        (no_star : (k : ℕ) → slice_get nodes m ≡ Some (Star k) → ⊥) (apart : s ≡ p → ⊥)
        (loop : IsLoop start nodes bodies s) (again : GoesAgain nodes p m s) where
      entered_operand : p ≡ loop.entry
      entered_operand = ⊎_elim (λ is. is) (λ is. absurd (apart (sym is)))
          (loop.only p again.shape again.at
          (subst (λ w. WayNames start nodes bodies w s) (sym again.again) (inr refl)))

      enters_so : way_of loop.entry loop.shape ≡ Iterations m s
      enters_so =
          let there : slice_get nodes p ≡ Some loop.shape =
          subst (λ v. slice_get nodes v ≡ Some loop.shape) (sym entered_operand) loop.at in
          let at = again.at in
          let same : again.shape ≡ loop.shape = cc (there, at) in
          subst (λ v. way_of v loop.shape ≡ Iterations m s) entered_operand
          (subst (λ v. way_of p v ≡ Iterations m s) same again.again)

      pub is_iterated : IsIterated start nodes bodies m
      is_iterated = record {
        star = s;
        loop = loop;
        goes = enters_so;
        only = λ i shape at names. ⊎_elim
            (λ self. absurd (no_star self.1.0 (subst (λ v. slice_get nodes v ≡ Some (Star self.1.0)) (sym self.0)
            (at ∙ ap Some self.1.1))))
            (λ there. let n = named_at i there.0 m shape at there.1 in
            ⊎_elim (λ is. inr is) (λ is. inl (is ∙ entered_operand)) (namer_is m (Both s p) by i there.0 n.0 n.1))
            (names_at i m shape names);
        not_root = not_root m other;
      }

    -- the root that nobody names
    pub is_single_root : (m : ℕ) → get_or namers m Many ≡ Nobody → m ≡ root
        → ((k : ℕ) → slice_get nodes m ≡ Some (Star k) → ⊥) → Single start nodes bodies m
    is_single_root m nobody same no_star = single_root (known.root_at ∙ ap Some (sym same))
        (λ i shape at names. ⊎_elim
        (λ self. no_star self.1.0 (subst (λ v. slice_get nodes v ≡ Some (Star self.1.0)) (sym self.0)
        (at ∙ ap Some self.1.1)))
        (λ there. let n = named_at i there.0 m shape at there.1 in namer_is m Nobody nobody i there.0 n.0 n.1)
        (names_at i m shape names))

    pub marks_are : (keys after singles : List Bool) (widths : List (Option ℕ)) → AreSingles start nodes bodies singles
        → AreWidths nodes bodies widths
        → ((m : ℕ) → get_or keys m true ≡ false → AskedOnce start nodes bodies m)
        → ((m : ℕ) → get_or after m true ≡ false → IsPassed namers singles widths m)
        → AreMarks start nodes bodies (node_marks (marks_of nodes keys after))
        (tail_marks (marks_of nodes keys after))
    marks_are keys after singles widths single wide plain passed = record {
      once = inl (record {
        plain = plain;
        fixed = λ n i m ms at there free.
            let row : get_or (map (tails_of after) nodes) n [] ≡ tails_of after (Seq ms) =
            get_or_from_slice_get (map (tails_of after) nodes) n (tails_of after (Seq ms)) []
            (slice_get-map (tails_of after) nodes n ∙ ap (option_map (tails_of after)) at) in
            let mark : get_or (map (λ k. get_or after k true) ms) i false ≡ get_or after m true =
            get_or_from_slice_get (map (λ k. get_or after k true) ms) i (get_or after m true) false
            (slice_get-map (λ k. get_or after k true) ms i ∙ ap (option_map (λ k. get_or after k true)) there) in
            let none : get_or after m true ≡ false =
            sym mark ∙ subst (λ v. get_or v (suc i) false ≡ false) row free in
            ⊎_elim (λ w. inl (w.0, wide m w.0 w.1))
            (λ a. inr (let x = named_at n i m (Seq ms) at there in
            let is = (namer_is m (By a.0) a.1).1 n i x.0 x.1 in
            subst (Single start nodes bodies) (sym is.0) (single a.0 a.2)))
            (passed m none);
      });
      root = λ m at. marked m at (get_or keys m true) refl;
    }
      where
        rooted : (m : ℕ) → slice_get bodies start ≡ Some m → get_or keys m true ≡ false → ⊥
        rooted m at free = elim (plain m free) [
          | once_plain p ↦ p.not_root at
          | once_loop l ↦ l.not_root at
          | once_iterated i ↦ i.not_root at
        ]

        marked : (m : ℕ) → slice_get bodies start ≡ Some m → (b : Bool) → get_or keys m true ≡ b
            → get_or keys m true ≡ true
        marked m at true is = is
        marked m at false is = absurd (rooted m at is)

-- a node that is read is the namer that the list has there
pub namer_read : (namers : List Namer) (m : ℕ) (x y : Namer) → true ≡ ltb m (length namers) → x ≡ get_or namers m x
    → x ≡ y → get_or namers m Many ≡ y
namer_read namers m x y low at is =
    get_or_default namers m Many x (ltb-true m (length namers) (sym low)) ∙ (sym at ∙ is)

-- needs of nodes name nodes
pub needs_within : (needs : List Demand) (count : ℕ) → length needs ≡ count
    → ((m a : ℕ) → Contains (row_of (get_or needs m (One []))) a → a < count) → AreNeedsWithin needs
needs_within needs count is h = record {
  within = λ n m need at named.
      let there = get_or_from_slice_get needs n need (One []) at in
      let low = h n m (subst (λ v. Contains (row_of v) m) (sym there) named) in
      omega (arith, low, is);
}

-- what comes in is asked for once
module _ (start : ℕ) (nodes : List Shape) (bodies : List ℕ) (needs : List Demand)
    (are : AreJustified start nodes bodies needs) where
  justified_at : (n : ℕ) (need : Demand) → slice_get needs n ≡ Some need → Justifies start nodes bodies n need
  justified_at n need at =
      subst (Justifies start nodes bodies n) (get_or_from_slice_get needs n need (One []) at) (are n)

  pub comes_single : {n : ℕ} → Comes needs n → Single start nodes bodies n
  comes_single (by_all {n = n} {row = row} at all) = justified_at n (All row) at
  comes_single (by_one {n = n} {m = m} {row = row} at h c) = justified_at n (One row) at m h (comes_single c)

-- the marks of a node's tails
pub tails_at : (nodes : List Shape) (keys after : List Bool) (n i : ℕ) (shape : Shape) → slice_get nodes n ≡ Some shape
    → get_or (tails_of after shape) i false ≡ tail_marks (marks_of nodes keys after) n i
tails_at nodes keys after n i shape at = ap (λ v. get_or v i false)
    (sym (get_or_from_slice_get (map (tails_of after) nodes) n (tails_of after shape) []
    (slice_get-map (tails_of after) nodes n ∙ ap (option_map (tails_of after)) at)))
