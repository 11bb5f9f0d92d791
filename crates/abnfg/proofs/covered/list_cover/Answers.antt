-- The first lines are written, and the end says what they are for; or there is no memory, or the output fails.
use Rattle.std.proofs.Common.{◌≡◌, ◌∙◌, ap, arith, ℕ, length, min, refl}
use Rattle.abnfread.specs.AbnfViews.{rules_of}
use Rattle.abnfg.proofs.CoverReplyLemmas.{cover_cut, cover_ends, cover_unroomed, cover_unwritten}
use Rattle.ruletable.proofs.AppendsLemmas.{Appends-same}
use Rattle.toolrun.specs.declared.ending.Ending.TheVariants.{Plain}
use Rattle.toolrun.specs.declared.stop.Stop.TheVariants.{NoMemory}
use Rattle.abnfg.proofs.covered.list_cover.Goals as goal

pub returns-in_default : goal.returns-in_default
returns-in_default g c =
    cover_unroomed c.args.settings.now (rules_of c.args.grammar.now.rules) c.args.grammar.now.judged _ _ _ _
    c.requires.mode (Plain NoMemory) (Appends-same (g.O.Sink.contents c.args.out.now)) (refl, refl) refl

pub returns-in-Ok-true : goal.returns-in-Ok-true
returns-in-Ok-true g c =
    let s = c.args.settings.now in
    let lines = c.in-Ok.cover.lines.items in
    let n = c.min-count.result in
    let size : c.len.result ≡ length lines = omega (arith, c.len.ensures, c.in-Ok.cover.lines.ok.0) in
    let is : n ≡ min (length lines) s.count = c.min-count.ensures ∙ ap (λ (k : ℕ). min k s.count) size in
    let all = rw (c.in-Ok-true.field-0-test) at c.in-Ok-true.ensures.lines in
    let same = rw (c.deref.ensures.value) at all in
    cover_ends s (rules_of c.args.grammar.now.rules) c.args.grammar.now.judged _ _ _ _ c.requires.mode lines
    c.in-Ok.cover.missed.items c.in-Ok.ensures.lines c.in-Ok.ensures.missed n is c.cover_ending.result same
    c.cover_ending.ensures c.in-Ok-true.ensures.flag

pub returns-in-Ok-false : goal.returns-in-Ok-false
returns-in-Ok-false g c =
    let s = c.args.settings.now in
    let lines = c.in-Ok.cover.lines.items in
    let n = c.min-count.result in
    let size : c.len.result ≡ length lines = omega (arith, c.len.ensures, c.in-Ok.cover.lines.ok.0) in
    let is : n ≡ min (length lines) s.count = c.min-count.ensures ∙ ap (λ (k : ℕ). min k s.count) size in
    let some = rw (c.in-Ok-false.field-0-test) at c.in-Ok-false.ensures.lines in
    let same = rw (c.deref.ensures.value) at some in
    cover_unwritten s (rules_of c.args.grammar.now.rules) c.args.grammar.now.judged _ _ _ _ c.requires.mode lines
    c.in-Ok.cover.missed.items c.in-Ok.ensures.lines c.in-Ok.ensures.missed n is (Plain NoMemory) same.0 same.1
    (refl, refl) c.in-Ok-false.ensures.flag

pub returns : goal.returns
returns g c =
    let s = c.args.settings.now in
    let lines = c.in-Ok.cover.lines.items in
    let n = c.min-count.result in
    let size : c.len.result ≡ length lines = omega (arith, c.len.ensures, c.in-Ok.cover.lines.ok.0) in
    let is : n ≡ min (length lines) s.count = c.min-count.ensures ∙ ap (λ (k : ℕ). min k s.count) size in
    let part = rw (c.deref.ensures.value) at c.in-Err.ensures.lines in
    cover_cut s (rules_of c.args.grammar.now.rules) c.args.grammar.now.judged _ _ _ _ c.requires.mode lines
    c.in-Ok.cover.missed.items c.in-Ok.ensures.lines c.in-Ok.ensures.missed n is c.in-Err.fault part
    c.in-Err.ensures.flag
