-- One rule more.
use Rattle.std.proofs.Common.{◌∙◌, ◌<◌, ℕ, List, Option, Vec, Global, length, map, arith, ap, subst, sym}
use Rattle.coverlines.specs.NeededLines.{AreNamedWords, AreRowIds}
use Rattle.coverlines.specs.Sites.{Stood, stood_of}
use Rattle.coverlines.proofs.RuleBasesLemmas as b
use Rattle.coverlines.proofs.RuleContextsLemmas.{context_index, sites_index}
use Rattle.coverlines.proofs.WordsLemmas.{known_index}
use Rattle.coverlines.proofs.needed.rule_bases.Goals as goal

pub loop-id-init : goal.loop-id-init
loop-id-init c = rw (c.new-rows.ensures.items, c.new-lines.ensures.items) (b.no_bases c.args.words.now
    c.args.sites.now c.args.contexts.now)

pub loop-id-preserved : goal.loop-id-preserved
loop-id-preserved c =
    let lt = c.loop-id-test.true in
    let n = c.requires.sites in
    let o = c.requires.contexts in
    let k = c.requires.words.count in
    let one : c.loop-id.id < length c.args.words.now.known.now = omega (arith, lt, n, k) in
    let two : c.loop-id.id < length c.args.contexts.now = omega (arith, lt, n, o) in
    let three : c.loop-id.id < length c.args.sites.now = omega (arith, lt) in
    b.next_bases c.args.words.now c.args.sites.now c.args.contexts.now c.loop-id.id c.in_ok-named.named.items
    c.index-words-id.result c.index-contexts-id.result c.in_ok-row_ids.field-0 c.loop-id.rows.items
    c.push.new.self.items c.loop-id.lines.items c.add_named_lines.new.found.items
    (known_index c.args.words.now.known.now c.loop-id.id c.index-words-id.result one c.index-words-id.is)
    (context_index c.args.contexts.now c.loop-id.id c.index-contexts-id.result two c.index-contexts-id.is)
    (subst (λ (xs : List Stood). AreNamedWords c.args.words.now xs c.in_ok-named.named.items)
    (ap (map stood_of) c.deref.ensures.value ∙ sym (sites_index c.args.sites.now c.loop-id.id c.index-sites-id.result
    three c.index-sites-id.is)) c.in_ok-named.ensures)
    (subst (λ (x : Option (Vec ℕ Global)). AreRowIds x c.in_ok-named.named.items c.in_ok-row_ids.field-0.items)
    (sym c.index-words-id.is) (rw c.deref-in-loop-id.ensures.value at c.in_ok-row_ids.ensures))
    c.in_ok-push.ensures.items
    (rw c.deref-in-loop-id-2.ensures.value at c.in_ok-add_named_lines.ensures) c.loop-id.invariant

pub returns : goal.returns
returns c = b.all_bases c.args.words.now c.args.sites.now c.args.contexts.now c.loop-id.id
    (record { rows = c.loop-id.rows; lines = c.loop-id.lines }) c.loop-id-test.false c.loop-id.auto.id-end
    c.loop-id.invariant
