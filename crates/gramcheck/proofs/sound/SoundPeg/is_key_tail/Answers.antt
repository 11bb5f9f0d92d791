use Rattle.std.proofs.Common.{◌<◌, ◌∙◌, length, sym, ap, get_or, false}
use Rattle.std.proofs.lemmas.Bool.{ltb-true}
use Rattle.gramcheck.specs.Grammar.{Grammar}
use Rattle.pegnodes.specs.KeyLists.{tail_marks, tails_of}
use Rattle.pegnodes.specs.Nodes.{shape_of, shapes_of}
use Rattle.pegnodes.proofs.HasShapeLemmas.{node_at}
use Rattle.pegnodes.proofs.KeyNeedsLemmas.{tails_at}
use Rattle.gramcheck.proofs.sound.SoundPeg.is_key_tail.Goals as goal

pub returns-in-Some : goal.returns-in-Some
returns-in-Some c =
    let found = rw c.deref.ensures.value at c.in-Some.ensures.lookup in
    let low : c.args.n < length c.self.inside.nodes.items = ltb-true c.args.n (length c.self.inside.nodes.items)
    (sym found.0) in
    let at = node_at c.self.inside.nodes.items c.args.n c.in-Some.node.now low found.1 in
    c.is_key_from.ensures ∙ ap (λ v. get_or (tails_of v (shape_of c.in-Some.node.now)) c.args.i false)
    c.deref-in-Some.ensures.value
    ∙ tails_at (shapes_of c.self.inside.nodes.items) c.self.inside.keys.nodes.items c.self.inside.keys.after.items
    c.args.n c.args.i (shape_of c.in-Some.node.now) at
    ∙ ap (λ (g : Grammar). tail_marks g.keys c.args.n c.args.i) c.self.view_is
