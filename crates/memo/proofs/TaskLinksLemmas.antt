-- Cells linked by buckets: one cell more, and a walk along the links.
-- Serves: KeyLog::get
use Rattle.std.proofs.Common.{◌≡◌, ℕ, zero, suc, ◌+◌, ◌-◌, ◌<◌, ◌≤◌, ◌⊎◌, inl, inr, List, [], ◌∷◌, ◌++◌, length, set}
use Rattle.std.proofs.Common.{Some, refl, ap, sym, ◌∙◌, arith, ⊎_elim, slice_get, map, subst}
use Rattle.std.proofs.lemmas.Option.{slice_get_within}
use Rattle.std.proofs.Common.{length-append, length-set, length-take-le, take}
use Rattle.std.proofs.lemmas.List.{take_more_set}
use Rattle.memo.specs.Parts.{IsIn}
use Rattle.memo.specs.TaskLinks.{Position, position_of_cell, positions_of, bucket_of, bucket_of_cell, IsCellAt}
use Rattle.memo.specs.TaskLinks.{IsLastCell}
use Rattle.memo.specs.TaskLinks.{AreLinkedCells}
use Rattle.memo.specs.declared.index.IndexCell.{IndexCell}
use Rattle.memo.proofs.KeyLogLemmas.{get_of_in}

module _ {A : Type 0} where
  at_end : (xs : List A) (a : A) → slice_get (xs ++ a ∷ []) (length xs) ≡ Some a
  at_end [] a = refl
  at_end (x ∷ xs) a = at_end xs a

  keeps_after_push : (xs ys : List A) (n : ℕ) (a : A) → slice_get xs n ≡ Some a → slice_get (xs ++ ys) n ≡ Some a
  keeps_after_push [] ys n a h = absurd (cc h)
  keeps_after_push (x ∷ xs) ys zero a h = h
  keeps_after_push (x ∷ xs) ys (suc n) a h = keeps_after_push xs ys n a h

  pub push_cases : (xs : List A) (a : A) (n : ℕ) (b : A) → slice_get (xs ++ a ∷ []) n ≡ Some b
      → (slice_get xs n ≡ Some b) ⊎ ((n ≡ length xs) × (a ≡ b))
  push_cases [] a zero b h = inr (refl, cc h)
  push_cases [] a (suc n) b h = absurd (cc h)
  push_cases (x ∷ xs) a zero b h = inl h
  push_cases (x ∷ xs) a (suc n) b h = ⊎_elim (λ k. inl k) (λ k. inr (ap (λ v. suc v) k.0, k.1)) (push_cases xs a n b h)

  set_cases : (xs : List A) (i j : ℕ) (v x : A) → slice_get (set xs i v) j ≡ Some x →
      ((j ≡ i) × (v ≡ x)) ⊎ ((j ≡ i → ⊥) × (slice_get xs j ≡ Some x))
  set_cases [] i j v x h = absurd (cc h)
  set_cases (y ∷ xs) zero zero v x h = inl (refl, cc h)
  set_cases (y ∷ xs) zero (suc j) v x h = inr (λ e. absurd (omega arith), h)
  set_cases (y ∷ xs) (suc i) zero v x h = inr (λ e. absurd (omega arith), h)
  set_cases (y ∷ xs) (suc i) (suc j) v x h =
      ⊎_elim (λ k. inl (ap (λ n. suc n) k.0, k.1)) (λ k. inr ((λ e. k.0 (omega arith)), k.1)) (set_cases xs i j v x h)

mapped_from : {A B : Type 0} (f : A → B) (xs : List A) (i : ℕ) (b : B) → slice_get (map f xs) i ≡ Some b → (a : A)
    × (slice_get xs i ≡ Some a) × (f a ≡ b)
mapped_from f [] i b h = absurd (cc h)
mapped_from f (x ∷ xs) zero b h = (x, refl, cc h)
mapped_from f (x ∷ xs) (suc i) b h = mapped_from f xs i b h

module _ (bucket : IndexCell → ℕ) where
  IsCellAt-push : (cells : List IndexCell) (c : IndexCell) (b j : ℕ) → IsCellAt bucket cells b j
      → IsCellAt bucket (cells ++ c ∷ []) b j
  IsCellAt-push cells c b j i = (i.0, keeps_after_push cells (c ∷ []) j i.0 i.1, i.2)

  IsLastCell-push : (cells : List IndexCell) (c : IndexCell) (k b at : ℕ) → k ≤ length cells
      → IsLastCell bucket cells k b at → IsLastCell bucket (cells ++ c ∷ []) k b at
  IsLastCell-push cells c k b at w l = record {
    within = l.within;
    here = λ h. IsCellAt-push cells c b (at - 1) (l.here h);
    after = λ j d h g e r. elim (push_cases cells c j d e) [
      | inl f ↦ l.after j d h g f r
      | inr m ↦ let n : j ≡ length cells = m.0 in absurd (omega arith)
    ];
  }

  IsLastCell-other : (cells : List IndexCell) (c : IndexCell) (b at : ℕ) → (bucket c ≡ b → ⊥)
      → IsLastCell bucket cells (length cells) b at
      → IsLastCell bucket (cells ++ c ∷ []) (length (cells ++ c ∷ [])) b at
  IsLastCell-other cells c b at other l = record {
    within = let w : at ≤ length cells = l.within in omega (arith, length-append cells (c ∷ []));
    here = λ h. IsCellAt-push cells c b (at - 1) (l.here h);
    after = λ j d h g e r. elim (push_cases cells c j d e) [
      | inl f ↦ l.after j d h (slice_get_within cells j d f) f r
      | inr m ↦ other (ap bucket m.1 ∙ r)
    ];
  }

  IsLastCell-new : (cells : List IndexCell) (c : IndexCell)
      → IsLastCell bucket (cells ++ c ∷ []) (length (cells ++ c ∷ [])) (bucket c) (length cells + 1)
  IsLastCell-new cells c = record {
    within = omega (arith, length-append cells (c ∷ []));
    here = λ _. let p : length cells + 1 - 1 ≡ length cells = omega arith in (c, rw p (at_end cells c), refl);
    after = λ j d h g e r. absurd (omega (arith, length-append cells (c ∷ [])));
  }

  pub linked_push : (cells : List IndexCell) (firsts : List ℕ) (c : IndexCell) → AreLinkedCells bucket cells firsts
      → IsLastCell bucket cells (length cells) (bucket c) c.link
      → AreLinkedCells bucket (cells ++ c ∷ []) (set firsts (bucket c) (length cells + 1))
  linked_push cells firsts c l last = record {
    links = λ i d h. elim (push_cases cells c i d h) [
      | inl g ↦ let w : i < length cells = slice_get_within cells i d g in
          IsLastCell-push cells c i (bucket d) d.link (omega arith) (l.links i d g)
      | inr m ↦ rw (m.0, ← m.1) (IsLastCell-push cells c (length cells) (bucket c) c.link (omega arith) last)
    ];
    heads = λ b h g. elim (set_cases firsts (bucket c) b (length cells + 1) h g) [
      | inl m ↦ rw (m.0, ← m.1) (IsLastCell-new cells c)
      | inr m ↦ IsLastCell-other cells c b h (λ e. m.0 (sym e)) (l.heads b h m.1)
    ];
  }

-- one cell more, in the bucket of its number
pub linked_added : (cells : List IndexCell) (firsts : List ℕ) (c : IndexCell) (at next : ℕ)
    → AreLinkedCells (bucket_of_cell (length firsts)) cells firsts
    → IsLastCell (bucket_of_cell (length firsts)) cells (length cells) at c.link
    → at ≡ bucket_of (length firsts) c.number → next ≡ length cells + 1
    → AreLinkedCells (bucket_of_cell (length (set firsts at next))) (cells ++ c ∷ []) (set firsts at next)
linked_added cells firsts c at next l last is next_is =
    rw (length-set firsts at next, is, next_is)
    (linked_push (bucket_of_cell (length firsts)) cells firsts c l (rw (← is) last))

-- the same in place: the cell at index i is linked after those before it
pub linked_set : (count : ℕ) (cells : List IndexCell) (firsts : List ℕ) (i b : ℕ) (c : IndexCell) → i < length cells
    → count ≡ length firsts → AreLinkedCells (bucket_of_cell count) (take i cells) firsts
    → IsLastCell (bucket_of_cell count) (take i cells) (length (take i cells)) b c.link → bucket_of_cell count c ≡ b
    → AreLinkedCells (bucket_of_cell (length (set firsts b (i + 1)))) (take (i + 1) (set cells i c))
    (set firsts b (i + 1))
linked_set count cells firsts i b c w size l last is =
    let n : length (take i cells) ≡ i = length-take-le i cells (omega arith) in
    let p : AreLinkedCells (bucket_of_cell count) (take i cells ++ c ∷ [])
    (set firsts (bucket_of_cell count c) (length (take i cells) + 1)) =
    linked_push (bucket_of_cell count) (take i cells) firsts c l (rw is last) in
    let q : AreLinkedCells (bucket_of_cell count) (take i cells ++ c ∷ []) (set firsts b (i + 1)) = rw (n, is) at p in
    rw (take_more_set cells i c w, length-set firsts b (i + 1), ← size) q

-- no cell that is sought stands at `at` or later, and before it stands one of the bucket
pub record IsSoughtCell (bucket : IndexCell → ℕ) (cells : List IndexCell) (Sought : IndexCell → Type 0) (b at : ℕ)
    : Type 0 where
  pub within : at ≤ length cells
  pub here : 0 < at → IsCellAt bucket cells b (at - 1)
  pub after : (j : ℕ) (c : IndexCell) → at ≤ j → slice_get cells j ≡ Some c → Sought c → ⊥

pub sought_start : (bucket : IndexCell → ℕ) (cells : List IndexCell) (Sought : IndexCell → Type 0) (b at : ℕ)
    → ((c : IndexCell) → Sought c → bucket c ≡ b) → IsLastCell bucket cells (length cells) b at
    → IsSoughtCell bucket cells Sought b at
sought_start bucket cells Sought b at same l = record {
  within = l.within;
  here = l.here;
  after = λ j c h e f. l.after j c h (slice_get_within cells j c e) e (same c f);
}

some-inj : {A : Type 0} (x y : A) → Some x ≡ Some y → x ≡ y
some-inj x y e = cc

le_cases : (j at : ℕ) → 0 < at → (j < at - 1) ⊎ ((j ≡ at - 1) ⊎ (at ≤ j))
le_cases j at h = grind arith

pub sought_next : (bucket : IndexCell → ℕ) (cells : List IndexCell) (firsts : List ℕ) (Sought : IndexCell → Type 0)
    (b at : ℕ) (c : IndexCell) → ((c : IndexCell) → Sought c → bucket c ≡ b) → AreLinkedCells bucket cells firsts
    → IsSoughtCell bucket cells Sought b at → 0 < at → slice_get cells (at - 1) ≡ Some c → (Sought c → ⊥)
    → (c.link < at) × IsSoughtCell bucket cells Sought b c.link
sought_next bucket cells firsts Sought b at c same l s h e other =
    let i = s.here h in
    let in_bucket : bucket c ≡ b = ap bucket (some-inj c i.0 (sym e ∙ i.1)) ∙ i.2 in
    let last = l.links (at - 1) c e in
    let w : c.link ≤ at - 1 = last.within in
    let v : at ≤ length cells = s.within in (
      omega arith,
      record {
        within = omega arith;
        here = λ g. let k = last.here g in (k.0, k.1, k.2 ∙ in_bucket);
        after = λ j d g a f.
            elim (le_cases j at h) [
              | inl m ↦ last.after j d g m a (same d f ∙ sym in_bucket)
              | inr m ↦ elim m [
                | inl m ↦ let d_is : d ≡ c = some-inj d c (sym a ∙ ap (slice_get cells) m ∙ e) in
                    other (subst Sought d_is f)
                | inr m ↦ s.after j d m a f
              ]
            ];
      },
    )

-- a position of the index is a cell's
pub cell_of_position : (cells : List IndexCell) (p : Position) → IsIn p (positions_of cells)
    → (j : ℕ) × (c : IndexCell) × (slice_get cells j ≡ Some c) × (position_of_cell c ≡ p)
cell_of_position cells p i =
    let h = get_of_in i in
    let m = mapped_from position_of_cell cells h.index p h.at in
    (h.index, m.0, m.1, m.2)
