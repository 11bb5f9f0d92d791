-- The rules so far.
use Rattle.std.proofs.Common.{◌≡◌, ℕ, ◌<◌, length, Some}
use Rattle.std.specs.Prelude.{slice_get}
use Rattle.abnfread.specs.AbnfViews.{rules_of}
use Rattle.abnfread.specs.Element.{Element, bodies}
use Rattle.coverlines.specs.KnownWords.{AreKnownOf}
use Rattle.coverlines.specs.RuleContexts.{sites_at}
use Rattle.coverlines.specs.Sites.{AreSites}
use Rattle.coverlines.proofs.cover.rule_sites.Given as goal

abbrev pub invariant-loop-id : goal.invariant-loop-id
invariant-loop-id l = record {
  count : length l.all.items ≡ l.id;
  each : AreKnownOf l.words (rules_of l.rules) → (id : ℕ) (body : Element) → id < l.id
      → slice_get (bodies (rules_of l.rules)) id ≡ Some body
      → AreSites l.words.bounds (rules_of l.rules) body (sites_at l.all.items id);
}
