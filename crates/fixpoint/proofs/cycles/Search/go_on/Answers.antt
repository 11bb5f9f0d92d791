use Rattle.std.proofs.Common.{arith, sym, ◌∙◌, ap}
use Rattle.fixpoint.specs.Way.{way_of, tally_of, Tally}
use Rattle.fixpoint.proofs.GoesOnLemmas as g
use Rattle.fixpoint.proofs.AtLemmas as s
use Rattle.fixpoint.proofs.TallyLemmas as y
use Rattle.fixpoint.proofs.IterationsLemmas as t
use Rattle.fixpoint.proofs.cycles.Search.go_on.Goals as goal

pub look-requires-clause-within : goal.look-requires-clause-within
look-requires-clause-within c = g.target_within _ _ _ _ c.requires.within c.requires.way (c.in-Some.ensures).items

pub look-requires-clause-short : goal.look-requires-clause-short
look-requires-clause-short c =
    let lt = c.if-len-last.true in
    let l = c.len.ensures in
    let ok = c.args.self.now.ahead.ok.0 in
    g.still_short _ _ _ _ _ c.requires.way c.requires.last (c.in-Some.ensures).items (omega (arith, lt, l, ok))

pub close-requires-clause-first : goal.close-requires-clause-first
close-requires-clause-first c = let lt = g.first_within _ _ _ c.requires.way c.requires.last in omega (arith, lt)

pub close-requires-clause-positions : goal.close-requires-clause-positions
close-requires-clause-positions c = g.path_below _ _ c.requires.way

pub close-requires-clause-marks : goal.close-requires-clause-marks
close-requires-clause-marks c = λ m h. let lt = g.path_below _ _ c.requires.way m h in
    let a = c.requires.way.kept.positions in let b = c.requires.way.kept.marks in omega (arith, lt, a, b)

pub returns-else-len-last-clause-goes : goal.returns-else-len-last-clause-goes
returns-else-len-last-clause-goes c =
    let le = c.if-len-last.false in
    let l = c.len.ensures in
    let ok = c.args.self.now.ahead.ok.0 in
    let size = c.args.self.now.parts.ok.0 in
    let parts = g.others_left _ _ _ _ c.requires.last (omega (arith, size)) c.pop-else-len-last.ensures.rest in
    t.on_end _ _ _ _ _ c.requires.way c.requires.last.is (omega (arith, le, l, ok))
    (c.close.ensures.closes.parts ∙ parts) (rw parts at c.close.ensures.closes)

pub close-requires-clause-ranks : goal.close-requires-clause-ranks
close-requires-clause-ranks c = λ m h. let lt = g.path_below _ _ c.requires.way m h in
    let a = c.requires.way.kept.positions in let b = c.requires.ranked.count in omega (arith, lt, a, b)

pub close-requires-clause-room : goal.close-requires-clause-room
close-requires-clause-room c =
    let at = s.at_some c.args.self.now.path.items c.args.last.first
    (g.first_within _ (way_of c.args.self.now) _ c.requires.way c.requires.last) in
    y.ranks_have_room _ _ _ _ at.0 c.requires.way c.requires.ranked at.1

pub returns-in_ok-look-clause-ranked : goal.returns-in_ok-look-clause-ranked
returns-in_ok-look-clause-ranked c =
    let goes = c.in_ok-look.ensures.goes in
    let a = goes.way.kept.positions in
    let b = c.requires.way.kept.positions in
    let e = c.in_ok-look.ensures.tally in
    y.ranked_kept _ (way_of c.args.self.now) (way_of c.look.new.self) (tally_of c.args.self.now)
    (tally_of c.look.new.self) (a ∙ sym b) (ap (λ (t : Tally). t.ranks) e) (ap (λ (t : Tally). t.parts) e)
    (record {
      back = c.in_ok-look.ensures.keeps.back;
      there = c.in_ok-look.ensures.keeps.there;
      marks = c.in_ok-look.ensures.keeps.marks;
    }) c.requires.ranked

pub returns-else-len-last-clause-ranked : goal.returns-else-len-last-clause-ranked
returns-else-len-last-clause-ranked c =
    let le = c.if-len-last.false in
    let l = c.len.ensures in
    let ok = c.args.self.now.ahead.ok.0 in
    let size = c.args.self.now.parts.ok.0 in
    let parts = g.others_left _ _ _ _ c.requires.last (omega (arith, size)) c.pop-else-len-last.ensures.rest in
    y.ranked_close _ _ _ _ _ _ _ c.requires.way c.requires.last.is (omega (arith, le, l, ok))
    (rw parts at c.close.ensures.closes) c.close.ensures.ranks c.requires.ranked
