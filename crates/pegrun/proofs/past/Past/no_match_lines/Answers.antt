-- What is kept and what is held is what is taken from the unit before on.
use Rattle.std.proofs.Common.{◌≡◌, ◌++◌, ◌∙◌, [], ◌∷◌, ℕ, List, false, length, rules, arith, refl, subst, sym}
use Rattle.feed.specs.Feed.{bytes_of}
use Rattle.pegread.specs.PegViews.{rules_of}
use Rattle.pegrun.proofs.FollowsLemmas.{reported_after_kept}
use Rattle.pegrun.proofs.past.Past.no_match_lines.Goals as goal

none_kept : (bytes : List ℕ) → length bytes ≡ 0 → bytes ≡ []
none_kept [] h = refl
none_kept (b ∷ bytes) h = absurd (omega (arith, h))

-- where nothing is kept, what is held is all
pub returns-then-last-eq0-clause-reported : goal.returns-then-last-eq0-clause-reported
returns-then-last-eq0-clause-reported g c =
    let kept : c.args.self.now.lost ≡ false = search rules in
    let last : c.len-last.result ≡ length c.args.self.now.bytes.items = search rules in
    let zero : c.len-last.result ≡ 0 = search rules in
    let none : c.args.self.now.bytes.items ≡ [] = none_kept _ (sym last ∙ zero) in
    let seen : c.window.result.now ≡ c.args.self.now.bytes.items ++ bytes_of c.args.feed.now =
    subst (λ (v : List ℕ). c.window.result.now ≡ v ++ bytes_of c.args.feed.now) (sym none)
    c.window.ensures.value in
    reported_after_kept (rules_of c.args.peg.now.rules) c.args.peg.now.start c.args.self.now (bytes_of c.args.feed.now)
    c.window.result.now c.len-last.result c.explain_no_match.result kept seen last
    c.explain_no_match.ensures.lines

pub returns-clause-reported : goal.returns-clause-reported
returns-clause-reported g c =
    let kept : c.args.self.now.lost ≡ false = search rules in
    let seen : c.as_slice.result.now ≡ c.args.self.now.bytes.items ++ bytes_of c.args.feed.now = search rules in
    let last : c.len-last.result ≡ length c.args.self.now.bytes.items = search rules in
    reported_after_kept (rules_of c.args.peg.now.rules) c.args.peg.now.start c.args.self.now (bytes_of c.args.feed.now)
    c.as_slice.result.now c.len-last.result c.explain_no_match-2.result kept seen last
    c.explain_no_match-2.ensures.lines
