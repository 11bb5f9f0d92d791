-- The stored keys imply one list of cells.
-- Serves: one_view
use Rattle.std.proofs.Common.{◌≡◌, inl, inr, ℕ, Bool, List}
use Rattle.std.proofs.Common.{refl, sym, subst}
use Rattle.pegread.specs.Pattern.{Rule}
use Rattle.pegnodes.specs.Nodes.{Shape}
use Rattle.gramcheck.specs.Sound.{IsRanked}
use Rattle.memo.specs.declared.found.Found.{Found}
use Rattle.memo.specs.declared.found.Found.TheVariants.{Failed, Took}
use Rattle.memo.specs.Entries.{Entry}
use Rattle.pegmatch.specs.CellOutcomes.{IsFound}
use Rattle.pegmatch.specs.Visits.{NodeTakes, NodeFails}
use Rattle.pegmatch.proofs.NodeGivesLemmas.{same_node}
use Rattle.memo.specs.declared.task.MatchTask.{MatchTask}
use Rattle.memo.specs.declared.task.MatchTask.TheVariants.{Eval, Tail}
use Rattle.memo.specs.Parts.{Part, part, Parts, parts_none, parts_key, parts_more, Whole, whole_none, whole_more}
use Rattle.pegnodes.specs.NodeWays.{Way, Leaf, Body, Members, Alternatives, Iterations, Operand, way_of}
use Rattle.packrat.specs.MatchTasks.{KidsBy, TailKidsBy}
use Rattle.packrat.specs.MatchTasks.{Kids}
use Rattle.packrat.specs.MatchTasks.{is_key}
use Rattle.packrat.specs.View.{CellsOf, cells_none, cells_rest, cells_eval, AreImplied}
use Rattle.packrat.proofs.TaskKidsLemmas.{takes_same, takes_fails}

module _ (V : Type 0) (Kids' : V → List V → Type 0) (key : V → Bool)
    (same : (a : V) (ks ls : List V) → Kids' a ks → Kids' a ls → ks ≡ ls) where
  mutual
    one_part : {a b : V} {xs ys : List V} → Part V Kids' key a xs → Part V Kids' key b ys → a ≡ b → xs ≡ ys
    one_part (part {a = a} {ks = ks} k p) (part {a = b} {ks = ls} l q) is =
        let moved : Kids' a ls = subst (λ v. Kids' v ls) (sym is) l in
        let rest = one_parts p q (same a ks ls k moved) in
        cc (is, rest)

    one_parts : {ks ls xs ys : List V} → Parts V Kids' key ks xs → Parts V Kids' key ls ys → ks ≡ ls → xs ≡ ys
    one_parts parts_none parts_none is = refl
    one_parts parts_none (parts_key t q) is = absurd (cc is)
    one_parts parts_none (parts_more f p q) is = absurd (cc is)
    one_parts (parts_key t p) parts_none is = absurd (cc is)
    one_parts (parts_key t p) (parts_key u q) is = one_parts p q (cc is)
    one_parts (parts_key {c = c} t p) (parts_more {c = d} f r q) is = absurd (let h : c ≡ d = cc is in cc (h, t, f))
    one_parts (parts_more f r p) parts_none is = absurd (cc is)
    one_parts (parts_more {c = c} f r p) (parts_key {c = d} t q) is = absurd (let h : c ≡ d = cc is in cc (h, t, f))
    one_parts (parts_more f r p) (parts_more g s q) is =
        let one = one_part r s (cc is) in
        let two = one_parts p q (cc is) in
        cc (one, two)

  pub one_whole : {ks ls xs ys : List V} → Whole V Kids' key ks xs → Whole V Kids' key ls ys → ks ≡ ls → xs ≡ ys
  one_whole whole_none whole_none is = refl
  one_whole whole_none (whole_more p w) is = absurd (cc is)
  one_whole (whole_more p w) whole_none is = absurd (cc is)
  one_whole (whole_more p w) (whole_more q v) is =
      let one = one_part p q (cc is) in
      let two = one_whole w v (cc is) in
      cc (one, two)

module _ (rules : List Rule) (start : ℕ) (nodes : List Shape) (bodies ranks x : List ℕ) (more : Bool)
    (sound : IsRanked rules start nodes bodies ranks) where
  abbrev KB : Way → ℕ → ℕ → List MatchTask → Type 0
  KB w n p ks = KidsBy rules nodes bodies x w n p ks

  abbrev RK : Way → ℕ → ℕ → ℕ → List MatchTask → Type 0
  RK w n i p ks = TailKidsBy rules nodes bodies x w n i p ks

  abbrev NT : ℕ → ℕ → ℕ → Type 0
  NT k p q = NodeTakes rules nodes bodies x k p q

  abbrev NF : ℕ → ℕ → Type 0
  NF k p = NodeFails rules nodes bodies x k p

  one_end : {k p q r : ℕ} → NT k p q → NT k p r → q ≡ r
  one_end t u = takes_same rules start nodes bodies ranks x sound t u

  not_both : {k p q : ℕ} → NT k p q → NF k p → ⊥
  not_both t f = takes_fails rules start nodes bodies ranks x sound t f

  kids_by : (w : Way) (n p : ℕ) (ks ls : List MatchTask) → KB w n p ks → KB w n p ls → ks ≡ ls
  kids_by Leaf n p ks ls k l = cc
  kids_by (Body id) n p ks ls k l = let is : k.0 ≡ l.0 = cc (k.1, l.1) in cc (is, k.2, l.2)
  kids_by (Members ms) n p ks ls k l = elim k [
    | inl a ↦ elim l [ inl b ↦ cc (a.1, b.1) | inr b ↦ absurd (cc (a.0, b.1)) ]
    | inr a ↦ elim l [ inl b ↦ absurd (cc (b.0, a.1)) | inr b ↦ cc (a.2, b.2) ]
  ]
  kids_by (Alternatives ms) n p ks ls k l = elim k [
    | inl a ↦ elim l [ inl b ↦ cc (a.1, b.1) | inr b ↦ absurd (cc (a.0, b.1)) ]
    | inr a ↦ elim l [ inl b ↦ absurd (cc (b.0, a.1)) | inr b ↦ cc (a.2, b.2) ]
  ]
  kids_by (Iterations j s) n p ks ls k l = elim k [
    | inl a ↦ elim l [ inl b ↦ cc (a.1, b.1) | inr b ↦ absurd (not_both b.1 a.0) ]
    | inr a ↦ elim l [
      | inl b ↦ absurd (not_both a.1 b.0)
      | inr b ↦ let is = one_end a.1 b.1 in cc (is, a.2, b.2)
    ]
  ]
  kids_by (Operand j) n p ks ls k l = cc

  rest_kids_by : (w : Way) (n i p : ℕ) (ks ls : List MatchTask) → RK w n i p ks → RK w n i p ls → ks ≡ ls
  rest_kids_by Leaf n i p ks ls k l = absurd k
  rest_kids_by (Body id) n i p ks ls k l = absurd k
  rest_kids_by (Members ms) n i p ks ls k l =
      let is : l.0 ≡ k.0 = cc (k.1, l.1) in
      elim k.2 [
        | inl a ↦ elim l.2 [
          | inl b ↦ cc (is, a.1, b.1)
          | inr b ↦ elim a.0 [
            | inl f ↦ absurd (not_both (subst (λ v. NT v p b.1) is b.3) f)
            | inr f ↦ absurd (cc (f, b.2))
          ]
        ]
        | inr a ↦ elim l.2 [
          | inl b ↦ elim b.0 [
            | inl f ↦ absurd (not_both a.3 (subst (λ v. NF v p) is f))
            | inr f ↦ absurd (cc (f, a.2))
          ]
          | inr b ↦ let at = one_end (subst (λ v. NT v p b.1) is b.3) a.3 in cc (is, at, a.4, b.4)
        ]
      ]
  rest_kids_by (Alternatives ms) n i p ks ls k l =
      let is : l.0 ≡ k.0 = cc (k.1, l.1) in
      elim k.2 [
        | inl a ↦ elim l.2 [
          | inl b ↦ cc (is, a.1, b.1)
          | inr b ↦ elim a.0 [
            | inl f ↦ absurd (not_both f.1 (subst (λ v. NF v p) is b.2))
            | inr f ↦ absurd (cc (f, b.1))
          ]
        ]
        | inr a ↦ elim l.2 [
          | inl b ↦ elim b.0 [
            | inl f ↦ absurd (not_both (subst (λ v. NT v p f.0) is f.1) a.2)
            | inr f ↦ absurd (cc (f, a.1))
          ]
          | inr b ↦ cc (is, a.3, b.3)
        ]
      ]
  rest_kids_by (Iterations j s) n i p ks ls k l = absurd k
  rest_kids_by (Operand j) n i p ks ls k l = absurd k

  one_kids : (a : MatchTask) (ks ls : List MatchTask) → Kids rules nodes bodies x a ks → Kids rules nodes bodies x a ls
      → ks ≡ ls
  one_kids (Eval n p) ks ls k l =
      let is : l.0 ≡ k.0 = cc (k.1, l.1) in
      kids_by (way_of n k.0) n p ks ls k.2 (subst (λ v. KB (way_of n v) n p ls) is l.2)
  one_kids (Tail n i p) ks ls k l =
      let is : l.0 ≡ k.0 = cc (k.1, l.1) in
      rest_kids_by (way_of n k.0) n i p ks ls k.2 (subst (λ v. RK (way_of n v) n i p ls) is l.2)

  abbrev IF : ℕ → ℕ → Found → Type 0
  IF n p f = IsFound rules start nodes bodies x more n p f

  pub one_found : (n p : ℕ) (f h : Found) → IsFound rules start nodes bodies x more n p f
      → IsFound rules start nodes bodies x more n p h → f ≡ h
  one_found n p Failed Failed a b = refl
  one_found n p Failed (Took q) a b =
      absurd (let s = (same_node rules nodes sound.defined bodies x a.gives b.gives).outcome in cc s)
  one_found n p (Took q) Failed a b =
      absurd (let s = (same_node rules nodes sound.defined bodies x a.gives b.gives).outcome in cc s)
  one_found n p (Took q) (Took r) a b =
      let s = (same_node rules nodes sound.defined bodies x a.gives b.gives).outcome in
      let is : q ≡ r = cc s in
      cc

  one_cells : {xs ys : List MatchTask} {cs ds : List Entry} → CellsOf rules start nodes bodies x more xs cs
      → CellsOf rules start nodes bodies x more ys ds → xs ≡ ys → cs ≡ ds
  one_cells cells_none cells_none is = refl
  one_cells cells_none (cells_rest d) is = absurd (cc is)
  one_cells cells_none (cells_eval f d) is = absurd (cc is)
  one_cells (cells_rest c) cells_none is = absurd (cc is)
  one_cells (cells_rest c) (cells_rest d) is = one_cells c d (cc is)
  one_cells (cells_rest c) (cells_eval f d) is = absurd (cc is)
  one_cells (cells_eval f c) cells_none is = absurd (cc is)
  one_cells (cells_eval f c) (cells_rest d) is = absurd (cc is)
  one_cells (cells_eval {n = n} {p = p} {f = f} a c) (cells_eval {n = m} {p = q} {f = h} b d) is =
      let one : m ≡ n = cc is in
      let two : q ≡ p = cc is in
      let moved : IF n p h = subst (λ v. IF v p h) one (subst (λ v. IF m v h) two b) in
      let same = one_found n p f h a moved in
      let rest = one_cells c d (cc is) in
      cc (one, two, same, rest)

  pub one_view_of : (marks : ℕ → Bool) (tails : ℕ → ℕ → Bool) (stored : List MatchTask) (cs ds : List Entry)
      → AreImplied rules start nodes bodies x more marks tails stored cs
      → AreImplied rules start nodes bodies x more marks tails stored ds → cs ≡ ds
  one_view_of marks tails stored cs ds c d = one_cells c.cells_of d.cells_of
      (one_whole MatchTask (Kids rules nodes bodies x) (is_key marks tails) one_kids c.whole d.whole refl)
