use Rattle.std.proofs.Common.{◌∙◌, ◌++◌, ◌∷◌, [], ap, sym, arith, refl}
use Rattle.refusedlines.proofs.LetterRunLemmas.{join_apart, join_before, join_same, put_apart, put_same}
use Rattle.refusedlines.proofs.letterruns.merged.join_run.Goals as goal

pub returns-then-run-saturating_add-clause-apart : goal.returns-then-run-saturating_add-clause-apart
returns-then-run-saturating_add-clause-apart c =
    let near = c.if-run-saturating_add.true in let cap = c.saturating_add.ensures in
    join_apart c.args.merged.now.items c.pop.new.self.items c.in-Some.last c.args.run c.in-Some.ensures.items
    c.requires.apart c.requires.before c.requires.some _ _ c.in_ok-push-2.ensures.items refl c.max.ensures
    (omega arith)

pub returns-then-run-saturating_add-clause-before : goal.returns-then-run-saturating_add-clause-before
returns-then-run-saturating_add-clause-before c =
    let near = c.if-run-saturating_add.true in let cap = c.saturating_add.ensures in
    join_before c.args.merged.now.items c.pop.new.self.items c.in-Some.last c.args.run c.in-Some.ensures.items
    c.requires.apart c.requires.before c.requires.some _ _ c.in_ok-push-2.ensures.items refl c.max.ensures
    (omega arith)

pub returns-then-run-saturating_add-clause-same : goal.returns-then-run-saturating_add-clause-same
returns-then-run-saturating_add-clause-same c =
    let near = c.if-run-saturating_add.true in let cap = c.saturating_add.ensures in
    join_same c.args.merged.now.items c.pop.new.self.items c.in-Some.last c.args.run c.in-Some.ensures.items
    c.requires.apart c.requires.before c.requires.some _ _ c.in_ok-push-2.ensures.items refl c.max.ensures
    (omega arith)

pub returns-clause-apart : goal.returns-clause-apart
returns-clause-apart c =
    let far = c.if-run-saturating_add.false in let cap = c.saturating_add.ensures in
    put_apart c.args.merged.now.items c.pop.new.self.items c.in-Some.last c.args.run c.in-Some.ensures.items
    c.requires.apart c.requires.before c.requires.some c.push-3.new.self.items
    (c.in_ok-push-4.ensures.items ∙ ap (λ v. v ++ c.args.run ∷ []) c.in_ok-push-3.ensures.items) (omega arith)

pub returns-clause-same : goal.returns-clause-same
returns-clause-same c =
    put_same c.args.merged.now.items c.push-3.new.self.items c.args.run
    (c.in_ok-push-4.ensures.items ∙ ap (λ v. v ++ c.args.run ∷ [])
    (c.in_ok-push-3.ensures.items ∙ sym c.in-Some.ensures.items))
