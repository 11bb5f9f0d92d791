-- The lines that explain that no unit goes on.
use Rattle.feed.specs.Feed.{bytes_of}
use Rattle.pegread.specs.PegViews.{rules_of}
use Rattle.pegrun.proofs.FollowsLemmas.{ends_unmatched}
use Rattle.pegrun.proofs.past.explained_stop.Goals as goal

pub returns-in-NoMatch-clause-reported : goal.returns-in-NoMatch-clause-reported
returns-in-NoMatch-clause-reported g c = λ before follows. rw c.in-NoMatch.is
    (ends_unmatched (rules_of c.args.peg.now.rules) c.args.peg.now.start c.args.past.now before
    (bytes_of c.args.feed.now) c.in-NoMatch.field-0 c.no_match_lines.result c.with_lines.result
    c.no_match_lines.ensures.reported follows (rw c.in-NoMatch.is at c.with_lines.ensures))
