use Rattle.std.proofs.Common.{sym, ap, ◌∙◌}
use Rattle.std.proofs.lemmas.Option.{slice_get-map}
use Rattle.std.proofs.lemmas.Result.{IfOk-weaker}
use Rattle.std.specs.Prelude.{option_map}
use Rattle.pegnodes.specs.Nodes.{shape_of}
use Rattle.matchfailure.specs.NodeTexts.{leaf_text}
use Rattle.matchfailure.proofs.explain.node_texts.leaf_at.Goals as goal

pub returns : goal.returns
returns c =
    let node = slice_get-map shape_of c.args.peg.now.nodes c.args.n ∙ ap (option_map shape_of) c.node.ensures in
    IfOk-weaker c.leaf_of.result _ _ (λ _ is. is ∙ ap leaf_text (sym node)) c.leaf_of.ensures
