-- The marks of what is left.
use Rattle.std.proofs.Common.{◌<◌, arith, length, refl}
use Rattle.fixpoint.proofs.IsMarkedLemmas.{marked_lt}
use Rattle.ruletable.specs.Letters.{has}
use Rattle.abnfread.specs.AbnfViews.{rules_of}
use Rattle.abnfhints.specs.LineEnds.{end_byte}
use Rattle.abnfhints.proofs.DerivesOnlyWithLemmas.{end_low, only_reported}
use Rattle.abnfhints.proofs.WithoutLemmas.{left_marks}
use Rattle.abnfhints.proofs.lineless.is_lineless.Goals as goal

pub returns : goal.returns
returns c =
    let rules = rules_of c.args.hinted.now.rules.now in
    let sound_on = rw c.deref.ensures.value at (c.if-not-is_marked.ensures.0 refl) in
    let some_on = rw c.deref-else-not-is_marked.ensures.value at (c.if-not-is_marked-2.ensures.0 refl) in
    let lt : c.args.id < length rules = (let l = marked_lt c.args.marks.now.sound.items c.args.id sound_on in
    let k = c.requires.sound.count_is in omega (arith, l, k)) in
    let kept = rw c.deref-2.ensures.value at c.is_marked-2.ensures in
    let left = left_marks c.args.hinted.now.letters (end_byte c.args.hinted.now.end) (end_low c.args.hinted.now.end)
    rules (rules_of c.in_ok-left.left) (rw c.byte.ensures at c.in_ok-left.ensures.left) c.in_ok-kept.kept.items
    c.in_ok-kept.ensures c.args.id lt in
    only_reported (has c.args.hinted.now.letters) (end_byte c.args.hinted.now.end) rules c.args.id c.is_marked-2.result
    ((c.requires.sound.exact c.args.id lt).0 sound_on) ((c.requires.productive.exact c.args.id lt).0 some_on)
    ((λ on. left.0 (kept.0 on)), (λ s. kept.1 (left.1 s)))
