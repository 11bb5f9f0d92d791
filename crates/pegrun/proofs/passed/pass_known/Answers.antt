-- What was let go and read, by how the run goes on.
use Rattle.std.proofs.Common.{arith, ap, refl, rules, ◌∙◌}
use Rattle.std.proofs.lemmas.Result.{err_from_is_err_and}
use Rattle.pegrun.specs.PassedUnits.{can_run}
use Rattle.pegrun.proofs.PassedLemmas.{nothing_passed, passed_all, passed_to_fault, passed_to_write_fault}
use Rattle.pegrun.proofs.passed.pass_known.Goals as goal

pub returns-then-settings-clause-passed : goal.returns-then-settings-clause-passed
returns-then-settings-clause-passed g c =
    nothing_passed g.R.Source.remaining c.args.units.now c.args.settings.now c.args.feed.now
    (g.O.Sink.contents c.args.out.now)

pub returns-then-options-2-clause-passed : goal.returns-then-options-2-clause-passed
returns-then-options-2-clause-passed g c =
    nothing_passed g.R.Source.remaining c.args.units.now c.args.settings.now c.args.feed.now
    (g.O.Sink.contents c.args.out.now)

pub returns-in_default-clause-passed : goal.returns-in_default-clause-passed
returns-in_default-clause-passed g c =
    nothing_passed g.R.Source.remaining c.args.units.now c.args.settings.now c.args.feed.now
    (g.O.Sink.contents c.args.out.now)

pub returns-in_err-write-clause-passed : goal.returns-in_err-write-clause-passed
returns-in_err-write-clause-passed g c =
    let fault = err_from_is_err_and c.from_residual.result c.from_residual.ensures.1 in
    rw fault.1 (passed_to_write_fault g.R.Source.remaining c.args.units.now c.args.settings.now c.args.feed.now
    c.skip.new.self
    c.fill-why.new.self c.in-Some.bytes.items c.in-Some.ensures.some c.in-Some.ensures.first c.in-Some.ensures.known
    c.len-count.result (search rules)
    (let l = c.if-settings-eq0.false in omega (arith, l), c.if-options.false, search rules)
    (rw c.if-options-2.false refl) c.requires.capacity
    c.skip.ensures.bytes
    c.skip.ensures.reader c.skip.ensures.flow c.skip.ensures.allowance c.skip.ensures.capacity
    c.fill-why.ensures.grows c.fill-why.result c.fill-why.ensures.held
    (g.O.Sink.contents c.args.out.now) (g.O.Sink.contents c.write.new.out) fault.0 c.runnable-run.result
    (c.runnable-run.ensures ∙ ap (λ n. can_run c.fill-why.result c.len-count.result n
    c.args.settings.now.limit) c.len.ensures.len)
    (rw c.deref.ensures.value at c.in_err-write.ensures.bytes))

pub returns-then-run-count-clause-passed : goal.returns-then-run-count-clause-passed
returns-then-run-count-clause-passed g c =
    passed_to_fault g.R.Source.remaining c.args.units.now c.args.settings.now c.args.feed.now c.skip.new.self
    c.fill-why.new.self c.in-Some.bytes.items c.in-Some.ensures.some c.in-Some.ensures.first c.in-Some.ensures.known
    c.len-count.result (search rules)
    (let l = c.if-settings-eq0.false in omega (arith, l), c.if-options.false, search rules)
    (rw c.if-options-2.false refl) c.requires.capacity
    c.skip.ensures.bytes
    c.skip.ensures.reader c.skip.ensures.flow c.skip.ensures.allowance c.skip.ensures.capacity
    c.fill-why.ensures.grows c.fill-why.result c.fill-why.ensures.held
    (g.O.Sink.contents c.args.out.now) (g.O.Sink.contents c.write.new.out) c.runnable-run.result
    (c.runnable-run.ensures ∙ ap (λ n. can_run c.fill-why.result c.len-count.result n
    c.args.settings.now.limit) c.len.ensures.len)
    (let l = c.if-run-count.true in omega (arith, l)) (rw c.deref.ensures.value at c.in_ok-write.ensures.bytes)

pub returns-clause-passed : goal.returns-clause-passed
returns-clause-passed g c =
    passed_all g.R.Source.remaining c.args.units.now c.args.settings.now c.args.feed.now c.skip.new.self
    c.fill-why.new.self c.in-Some.bytes.items c.in-Some.ensures.some c.in-Some.ensures.first c.in-Some.ensures.known
    c.len-count.result (search rules)
    (let l = c.if-settings-eq0.false in omega (arith, l), c.if-options.false, search rules)
    (rw c.if-options-2.false refl) c.requires.capacity
    c.skip.ensures.bytes
    c.skip.ensures.reader c.skip.ensures.flow c.skip.ensures.allowance c.skip.ensures.capacity
    c.fill-why.ensures.grows c.fill-why.result c.fill-why.ensures.held
    c.skip-2.new.self c.skip-2.ensures.bytes c.skip-2.ensures.reader c.skip-2.ensures.flow c.skip-2.ensures.allowance
    c.skip-2.ensures.capacity (g.O.Sink.contents c.args.out.now) (g.O.Sink.contents c.write.new.out)
    c.runnable-run.result
    (c.runnable-run.ensures ∙ ap (λ n. can_run c.fill-why.result c.len-count.result n
    c.args.settings.now.limit) c.len.ensures.len)
    (let l = c.if-run-count.false in omega (arith, l)) (rw c.deref.ensures.value at c.in_ok-write.ensures.bytes)
