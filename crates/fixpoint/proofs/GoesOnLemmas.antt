-- What holds at each iteration of the search.
-- Serves: on_cycle (marks)
use Rattle.std.proofs.Common.{◌≡◌, ℕ, ◌+◌, ◌-◌, ◌<◌, ◌≤◌, List, [], ◌∷◌, ◌++◌, length, refl, sym, ap, subst, ⊎_elim}
use Rattle.std.proofs.Common.{arith, length-append, ◌∙◌, Contains, take}
use Rattle.std.proofs.lemmas.Option.{slice_get_within}
use Rattle.fixpoint.proofs.ContainsLemmas.{get_in}
use Rattle.fixpoint.specs.StepRows.{AreStepsWithin}
use Rattle.fixpoint.specs.Way.{Way, At, IsWay, IsLast, AreShort}
use Rattle.fixpoint.specs.declared.cycles.Part.{Part}
use Rattle.fixpoint.specs.declared.cycles.SearchPosition.TheVariants as position
use Rattle.fixpoint.proofs.AtLemmas.{at_push, at_push_cases}

take_all : (xs ys : List Part) → take (length xs) (xs ++ ys) ≡ xs
take_all [] ys = refl
take_all (x ∷ xs) ys = ap (λ v. x ∷ v) (take_all xs ys)

module _ (rows : List (List ℕ)) (w : Way) where
  pub target_within : (ahead : List ℕ) (t : ℕ) → AreStepsWithin rows → IsWay rows w →
      w.ahead ≡ ahead ++ t ∷ [] → t < length rows
  target_within ahead t r g e = let f =
      g.kept.from (length ahead) t (subst (λ v. At v (length ahead) t) (sym e) (at_push ahead t)) in
      r.within f.number t f.step

  pub still_short : (last : Part) (ahead : List ℕ) (t : ℕ) → IsWay rows w → IsLast w.parts last →
      w.ahead ≡ ahead ++ t ∷ [] → last.rest < length w.ahead →
      AreShort (record w { ahead = ahead })
  still_short last ahead t g l e lt = record { short = short }
    where
      size : length w.ahead ≡ length ahead + 1
      size = ap length e ∙ length-append ahead (t ∷ [])

      the_last : At w.parts (length l.others) last
      the_last = subst (λ v. At v (length l.others) last) (sym l.is) (at_push l.others last)

      short : (k : ℕ) (s : Part) → At w.parts k s → s.rest ≤ length ahead
      short k s at = ⊎_elim
          (λ old. let le = (g.kept.ascend k (length l.others) s last
          (slice_get_within l.others k s old) at the_last).1 in let e = size in omega (arith, le, lt, e))
          (λ new. let is : s.rest ≡ last.rest = subst (λ (v : Part). v.rest ≡ last.rest) (sym new.1) refl in
          let e = size in omega (arith, is, lt, e))
          (at_push_cases l.others last k s (subst (λ v. At v k s) l.is at))

  pub first_within : (last : Part) → IsWay rows w → IsLast w.parts last → last.first < length w.path
  first_within last g l = g.kept.filled (length l.others) last
      (subst (λ v. At v (length l.others) last) (sym l.is) (at_push l.others last))

  pub path_below : IsWay rows w → (m : ℕ) → Contains w.path m → m < length w.positions
  path_below g m h = let at = get_in w.path m h in slice_get_within w.positions m (position.On at.0)
      (g.kept.here at.0 m at.1)

-- the last part leaves
pub others_left : (parts left : List Part) (s : Part) (m : ℕ) → (l : IsLast parts s) → m ≡ length parts →
    left ≡ take (m - 1) parts → left ≡ l.others
others_left parts left s m l size e =
    let n : length parts ≡ length l.others + 1 = ap length l.is ∙ length-append l.others (s ∷ []) in
    let k : m - 1 ≡ length l.others = omega (arith, size, n) in
    e ∙ (ap (λ v. take v parts) k ∙ (ap (λ v. take (length l.others) v) l.is ∙ take_all l.others (s ∷ [])))
