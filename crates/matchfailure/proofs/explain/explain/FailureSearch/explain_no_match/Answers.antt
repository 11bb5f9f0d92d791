use Rattle.std.proofs.Common.{◌+◌, ◌++◌, List, ap, arith, ◌∙◌, add-zero, length, refl, subst, ℕ}
use Rattle.std.specs.Prelude.{IfSome}
use Rattle.std.proofs.lemmas.Result.{IfOk-weaker}
use Rattle.pegnodes.specs.Nodes.{shapes_of}
use Rattle.pegread.specs.PegViews.{rules_of}
use Rattle.matchfailure.specs.FittingFailures.{IsFitting}
use Rattle.matchfailure.specs.FoundFailures.{IsFound, failure_found}
use Rattle.matchfailure.specs.NoMatches.{AreReportedOf, lines_of_failure}
use Rattle.matchfailure.specs.UnitEnds.{EndsSo}
use Rattle.matchfailure.proofs.FoundFailuresLemmas.{no-match-reported, position-fits, room-from}
use Rattle.matchfailure.proofs.FoundLinesLemmas.{byte-is, slice-from}
use Rattle.matchfailure.proofs.explain.explain.FailureSearch.explain_no_match.Goals as goal

pub byte_of-failing-requires : goal.byte_of-failing-requires
byte_of-failing-requires c =
    let stands = c.requires.stands in
    position-fits c.in_ok-latest.latest.farthest _ _ (c.args.at.byte + c.args.last)
    (room-from stands.0 c.args.seen.now _ c.args.at c.args.last stands.1 stands.2 c.requires.last
    (slice-from c.args.seen.now c.args.last)) c.in_ok-latest.ensures.fitting

pub byte_of-requires : goal.byte_of-requires
byte_of-requires c =
    let stands = c.requires.stands in
    let byte = byte-is stands.0 c.args.at stands.1 in
    position-fits c.in_ok-before.before _ _ c.args.at.byte (omega (arith, byte, stands.2))
    c.in_ok-before.ensures.fitting

pub lines_of_found-requires-clause-fitting : goal.lines_of_found-requires-clause-fitting
lines_of_found-requires-clause-fitting c =
    let stands = c.requires.stands in
    c.in_ok-before.ensures.fitting (c.args.at.byte + 0)
    (room-from stands.0 c.args.seen.now _ c.args.at 0 stands.1 stands.2 (omega arith) refl)

pub lines_of_found-requires-in-Last-clause-fitting : goal.lines_of_found-requires-in-Last-clause-fitting
lines_of_found-requires-in-Last-clause-fitting c =
    let stands = c.requires.stands in
    let rest = slice-from c.args.seen.now c.args.last in
    subst (λ (w : List ℕ). IfSome c.in_ok-latest.latest.farthest (IsFitting (length c.args.peg.now.nodes) (length w)
    (c.args.at.byte + c.args.last))) rest
    (c.in_ok-latest.ensures.fitting (c.args.at.byte + c.args.last)
    (room-from stands.0 c.args.seen.now _ c.args.at c.args.last stands.1 stands.2 c.requires.last rest))

pub returns-in-Before-clause-lines : goal.returns-in-Before-clause-lines
returns-in-Before-clause-lines c = IfOk-weaker c.opened.result _ _ (λ why whole front is.
    let found = c.in_ok-lines-in-Before.ensures in
    no-match-reported (rules_of c.args.peg.now.rules) c.args.peg.now.start (shapes_of c.args.peg.now.nodes)
    c.args.peg.now.bodies front c.args.seen.now c.args.at is c.in_ok-latest.ensures.numbered c.args.last
    c.in_ok-before.before c.in_ok-latest.latest.farthest c.in_ok-before.ensures.found
    (subst (λ w. IsFound (rules_of c.args.peg.now.rules) c.args.peg.now.start (shapes_of c.args.peg.now.nodes)
    c.args.peg.now.bodies w c.in_ok-latest.latest.farthest) (slice-from c.args.seen.now c.args.last)
    c.in_ok-latest.ensures.found) _ _ _ _ _ c.reported_unit.ensures c.byte_of.ensures
    c.byte_of-failing.ensures c.in-Before.is found.0
    (subst (λ (b : ℕ). AreReportedOf (rules_of c.args.peg.now.rules) c.args.peg.now.start
    (shapes_of c.args.peg.now.nodes) c.args.peg.now.bodies (failure_found b c.in_ok-before.before) found.0)
    (add-zero c.args.at.byte) found.1)
    (c.deref.ensures.value ∙ found.2 front is
    ∙ ap (λ (b : ℕ). lines_of_failure (rules_of c.args.peg.now.rules) (shapes_of c.args.peg.now.nodes)
    c.args.peg.now.bodies (front ++ c.args.seen.now) (failure_found b c.in_ok-before.before) found.0)
    (add-zero c.args.at.byte))
    c.in_ok-latest.latest.end
    (subst (λ w. EndsSo (rules_of c.args.peg.now.rules) c.args.peg.now.start w c.in_ok-latest.latest.end)
    (slice-from c.args.seen.now c.args.last) c.in_ok-latest.ensures.end)
    c.is_stuck-stuck.result c.is_stuck-stuck.ensures why.items whole)
    c.opened.ensures

pub returns-clause-lines : goal.returns-clause-lines
returns-clause-lines c = IfOk-weaker c.opened-in-Last.result _ _ (λ why whole front is.
    let found = c.in_ok-lines-in-Last.ensures in
    no-match-reported (rules_of c.args.peg.now.rules) c.args.peg.now.start (shapes_of c.args.peg.now.nodes)
    c.args.peg.now.bodies front c.args.seen.now c.args.at is c.in_ok-latest.ensures.numbered c.args.last
    c.in_ok-before.before c.in_ok-latest.latest.farthest c.in_ok-before.ensures.found
    (subst (λ w. IsFound (rules_of c.args.peg.now.rules) c.args.peg.now.start (shapes_of c.args.peg.now.nodes)
    c.args.peg.now.bodies w c.in_ok-latest.latest.farthest) (slice-from c.args.seen.now c.args.last)
    c.in_ok-latest.ensures.found) _ _ _ _ _ c.reported_unit.ensures c.byte_of.ensures
    c.byte_of-failing.ensures c.in-Last.is found.0 found.1
    (c.deref-in-Last.ensures.value ∙ found.2 front is)
    c.in_ok-latest.latest.end
    (subst (λ w. EndsSo (rules_of c.args.peg.now.rules) c.args.peg.now.start w c.in_ok-latest.latest.end)
    (slice-from c.args.seen.now c.args.last) c.in_ok-latest.ensures.end)
    c.is_stuck-stuck.result c.is_stuck-stuck.ensures why.items whole)
    c.opened-in-Last.ensures
