-- The farthest failing position lies within the text, and so does what fails there.
-- Serves: farthest_is_within
use Rattle.std.proofs.Common.{ℕ, zero, suc, ◌+◌, ◌≤◌, List, length, ◌∙◌, arith}
use Rattle.std.proofs.lemmas.Option.{slice_get_within, slice_get-get_or}
use Rattle.pegread.specs.Pattern.{Rule}
use Rattle.pegnodes.specs.Nodes as node
use Rattle.pegnodes.specs.Nodes.{Shape}
use Rattle.gramcheck.specs.Sound.{IsRanked}
use Rattle.pegmatch.proofs.AsksLemmas.{visited_there}
use Rattle.matchfailure.specs.declared.farthest.visit.Visit.{Visit}
use Rattle.matchfailure.specs.Farthest.{PartsAt, StopsBy, IsFarthest}
use Rattle.matchfailure.specs.VisitLists.{AreWithin}
use Rattle.matchfailure.proofs.OutsideLemmas.{is_visited}

parts_within : (x bs : List ℕ) (p k : ℕ) → PartsAt x p bs k → p ≤ length x → p + k ≤ length x
parts_within x bs p zero parts here = omega arith
parts_within x bs p (suc k) parts here =
    let there = slice_get-get_or bs k 0 (let low = parts.inside in omega (arith, low)) in
    let in_text = slice_get_within x (p + k) _ (parts.agree k (omega arith) ∙ there) in
    omega (arith, in_text)

by_shape : (x : List ℕ) (shape : Shape) (p f : ℕ) → StopsBy x shape p f → p ≤ length x → f ≤ length x
by_shape x node.Any p f s here = let same = s.1 in omega (arith, same)
by_shape x (node.Bytes bs) p f s here = let inside = parts_within x bs p s.0 s.1 here in let same = s.2 in
    omega (arith, inside, same)
by_shape x (node.Set b) p f s here = let same = s.1 in omega (arith, same)
by_shape x (node.Name id) p f s here = absurd s
by_shape x (node.Seq ms) p f s here = absurd s
by_shape x (node.Choice ms) p f s here = absurd s
by_shape x (node.Star k) p f s here = absurd s
by_shape x (node.Plus k j) p f s here = absurd s
by_shape x (node.Opt k) p f s here = absurd s
by_shape x (node.And k) p f s here = absurd s
by_shape x (node.Not k) p f s here = absurd s
by_shape x (node.Act t) p f s here = absurd s
by_shape x node.Open p f s here = absurd s
by_shape x node.Close p f s here = absurd s

module _ (rules : List Rule) (start : ℕ) (nodes : List Shape) (bodies ranks x : List ℕ)
    (sound : IsRanked rules start nodes bodies ranks) (f : ℕ) (vs : List Visit)
    (far : IsFarthest rules nodes bodies x start f vs) where
  pub position_within : f ≤ length x
  position_within =
      let fails = far.some.2 in
      let there = visited_there rules start nodes bodies ranks x sound far.some.0 far.some.1 (is_visited fails.0) in
      by_shape x fails.1.shape far.some.1 f fails.1.by there.1

  pub all_within : AreWithin (length nodes) (length x) vs
  all_within v listed =
      let fails = (far.exact v).0 listed in
      visited_there rules start nodes bodies ranks x sound v.node v.position (is_visited fails.0)
