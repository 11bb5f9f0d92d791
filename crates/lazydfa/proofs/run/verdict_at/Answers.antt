use Rattle.std.proofs.Common.{◌<◌, length, subst, arith}
use Rattle.std.specs.Prelude.{if◌then◌else◌}
use Rattle.flatgrammar.specs.NodeSteps.{flat_of}
use Rattle.flatgrammar.specs.declared.verdict.Verdict.TheVariants.{Yes, No}
use Rattle.lazydfa.specs.Conts.{last_of}
use Rattle.lazydfa.specs.RunVerdicts.{IsRunVerdict}
use Rattle.lazydfa.proofs.IsRunVerdictLemmas.{dead_verdict}
use Rattle.lazydfa.proofs.IsTrackLemmas.{stop_verdict}
use Rattle.lazydfa.proofs.run.verdict_at.Goals as goal

pub returns-then-stop-letters : goal.returns-then-stop-letters
returns-then-stop-letters c = λ tables x memo size is.
    let lt = c.if-stop-letters.true in
    let less : c.args.stop.at < length x = omega (arith, lt, size) in
    dead_verdict (flat_of tables) (last_of tables) x c.args.stop.at less is.tracks.reached (is.dead less)

pub returns-then-ends_at : goal.returns-then-ends_at
returns-then-ends_at c = λ tables x memo size is.
    let past = c.if-stop-letters.false in
    subst (λ v. IsRunVerdict (flat_of tables) (last_of tables) x (if v then Yes else No c.args.stop.at))
    c.if-ends_at.true
    (stop_verdict tables c.args.samples.now c.args.memo.now x memo c.args.stop is (omega (arith, past, size))
    c.ends_at.result c.ends_at.ensures)

pub returns-else-ends_at : goal.returns-else-ends_at
returns-else-ends_at c = λ tables x memo size is.
    let past = c.if-stop-letters.false in
    subst (λ v. IsRunVerdict (flat_of tables) (last_of tables) x (if v then Yes else No c.args.stop.at))
    c.if-ends_at.false
    (stop_verdict tables c.args.samples.now c.args.memo.now x memo c.args.stop is (omega (arith, past, size))
    c.ends_at.result c.ends_at.ensures)
