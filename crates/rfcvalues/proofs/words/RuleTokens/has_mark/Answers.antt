use Rattle.std.proofs.Common.{◌∙◌, ◌-◌, ap, drop, length, take}
use Rattle.rfcvalues.proofs.RuleSketchLemmas.{mark-adding, mark-count, mark-end, mark-marking}
use Rattle.rfcvalues.proofs.words.RuleTokens.has_mark.Goals as goal

pub returns-then-has_adding : goal.returns-then-has_adding
returns-then-has_adding c =
    mark-adding c.args.has_list c.args.self.now.end c.args.self.now.tokens.items c.items_before.result.now
    c.items_after-words.result.now c.items_before.result.now c.has_adding.result c.has_adding.ensures
    (c.items_before.ensures ∙ ap (take 2) c.deref-2.ensures.value) c.if-has_adding.true

pub returns-then-has_marking : goal.returns-then-has_marking
returns-then-has_marking c =
    mark-marking c.args.has_list c.args.self.now.end c.args.self.now.tokens.items c.items_before.result.now
    c.items_after-words.result.now c.items_before.result.now c.has_marking.result c.has_marking.ensures
    (c.items_after-words.ensures ∙ ap (drop 2) c.deref.ensures.value) c.if-has_marking.true

pub returns-then-has_starred : goal.returns-then-has_starred
returns-then-has_starred c =
    mark-count c.args.has_list c.args.self.now.end c.args.self.now.tokens.items c.items_before.result.now
    c.items_after-words.result.now c.items_before-2.result.now c.has_starred.result c.has_starred.ensures
    (c.items_after-words.ensures ∙ ap (drop 2) c.deref.ensures.value)
    (c.items_before-2.ensures ∙ ap (λ n. take n c.items_after-words.result.now) c.saturating_sub.ensures)
    c.if-has_starred.true

pub returns : goal.returns
returns c =
    mark-end c.args.has_list c.args.self.now.end c.args.self.now.tokens.items c.items_before.result.now
    c.items_after-words.result.now c.items_before-2.result.now c.has_adding.result c.has_marking.result
    c.has_starred.result c.end_marks.result c.has_adding.ensures
    (c.items_before.ensures ∙ ap (take 2) c.deref-2.ensures.value) c.has_marking.ensures c.has_starred.ensures
    (c.items_after-words.ensures ∙ ap (drop 2) c.deref.ensures.value)
    (c.items_before-2.ensures ∙ ap (λ n. take n c.items_after-words.result.now) c.saturating_sub.ensures)
    c.end_marks.ensures c.if-has_adding.false c.if-has_marking.false c.if-has_starred.false
