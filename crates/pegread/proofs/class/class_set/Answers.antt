use Rattle.std.proofs.Common.{sym, arith}
use Rattle.pegread.proofs.SpellsBytesLemmas.{paired-after_plain}
use Rattle.pegread.proofs.SpellsSetLemmas.{class-bracketed, class-positive, class-negative}
use Rattle.pegread.proofs.class.class_set.Goals as goal

pub items_set-requires : goal.items_set-requires
items_set-requires c =
    let q = class-bracketed c.requires in
    let e = c.inside-text.ensures 91 93 q.inside q.cut in
    let text = rw (sym e) at q.paired in
    paired-after_plain (omega arith) (rw (c.in-Some.ensures) at text)

pub items_set-requires-in-None : goal.items_set-requires-in-None
items_set-requires-in-None c = let q = class-bracketed c.requires in rw (c.inside-text.ensures 91 93 q.inside q.cut)
    q.paired

pub returns-in-Some : goal.returns-in-Some
returns-in-Some c =
    let q = class-bracketed c.requires in
    let e = c.inside-text.ensures 91 93 q.inside q.cut in
    class-negative _ _ (rw (sym e) at q.cut) c.in-Some.ensures c.complement.ensures.count c.items_set.ensures.items
    c.complement.ensures.members

pub returns-in-None : goal.returns-in-None
returns-in-None c =
    let q = class-bracketed c.requires in
    let e = c.inside-text.ensures 91 93 q.inside q.cut in
    class-positive _ (rw (sym e) at q.cut) c.in-None.ensures c.items_set-in-None.ensures.count
    c.items_set-in-None.ensures.items
