use Rattle.std.proofs.Common.{◌≡◌, ◌<◌, ℕ, List, length, Some, ap, arith}
use Rattle.std.specs.Prelude.{slice_get}
use Rattle.pegnodes.specs.declared.node.Node.{Node}
use Rattle.pegnodes.specs.declared.template.Template.{Template}
use Rattle.pegnodes.specs.Nodes.{Act, shapes_of}
use Rattle.pegnodes.specs.Slots.{AreCuts, HasCut}
use Rattle.pegnodes.proofs.AreCutsLemmas.{position_within, cut_within, cut_is_read}
use Rattle.gramcheck.proofs.sound.SoundPeg.template.Goals as goal

has_cut : (nodes seen : List Node) (positions : List ℕ) (cuts : List Template)
    → AreCuts (shapes_of nodes) positions cuts
    → nodes ≡ seen → (n : ℕ) (text : List ℕ) → slice_get (shapes_of seen) n ≡ Some (Act text)
    → HasCut positions cuts n text
has_cut nodes seen positions cuts are same n text at = are n text (rw same at)

pub index-requires : goal.index-requires
index-requires c =
    let has = has_cut _ _ _ _ c.self.invariant.2 (ap (λ g. g.nodes) c.self.view_is) _ c.requires.0 c.requires.1 in
    let less : c.args.n < length c.self.inside.templates.positions.items = position_within _ _ _ _ has in
    omega arith

pub index-requires-2 : goal.index-requires-2
index-requires-2 c =
    let has = has_cut _ _ _ _ c.self.invariant.2 (ap (λ g. g.nodes) c.self.view_is) _ c.requires.0 c.requires.1 in
    let less : c.index.result.now < length c.self.inside.templates.cuts.items = cut_within _ _ _ _ has _
    c.index.ensures in
    omega arith

pub returns : goal.returns
returns c = λ text at.
    let has = has_cut _ _ _ _ c.self.invariant.2 (ap (λ g. g.nodes) c.self.view_is) _ text at in
    cut_is_read _ _ _ _ has _ c.index.ensures _ c.index-2.ensures
