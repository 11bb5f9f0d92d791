use Rattle.std.proofs.Common.{◌≡◌, ◌∙◌, ap, Some, length, sym, subst, rules, arith}
use Rattle.std.specs.Prelude.{slice_get}
use Rattle.std.proofs.lemmas.Grind.{common_steps}
use Rattle.std.proofs.lemmas.Option.{IfSome_then, gets}
use Rattle.pegnodes.specs.Nodes.{shape_of}
use Rattle.pegnodes.specs.Width.{width_any, width_set, width_bytes, width_act, width_open, width_close, width_and}
use Rattle.pegnodes.specs.Width.{width_not, width_opt, width_name, width_seq, width_choice, Width, WidthSum, WidthEach}
use Rattle.pegnodes.proofs.WidthsLemmas as o
use Rattle.pegnodes.proofs.widths.node_width.Goals as goal

pub returns-in-Any : goal.returns-in-Any
returns-in-Any c = λ nodes n at are. width_any (at ∙ ap (λ v. Some (shape_of v)) c.in-Any.is)

pub returns-in-Set : goal.returns-in-Set
returns-in-Set c = λ nodes n at are. width_set (at ∙ ap (λ v. Some (shape_of v)) c.in-Set.is)

pub returns-in-Act : goal.returns-in-Act
returns-in-Act c = λ nodes n at are. width_act (at ∙ ap (λ v. Some (shape_of v)) c.in-Act.is)

pub returns-in-Open : goal.returns-in-Open
returns-in-Open c = λ nodes n at are. width_open (at ∙ ap (λ v. Some (shape_of v)) c.in-Open.is)

pub returns-in-Close : goal.returns-in-Close
returns-in-Close c = λ nodes n at are. width_close (at ∙ ap (λ v. Some (shape_of v)) c.in-Close.is)

pub returns-in-And : goal.returns-in-And
returns-in-And c = λ nodes n at are. width_and (at ∙ ap (λ v. Some (shape_of v)) c.in-And.is)

pub returns-in-Not : goal.returns-in-Not
returns-in-Not c = λ nodes n at are. width_not (at ∙ ap (λ v. Some (shape_of v)) c.in-Not.is)

pub returns-in-Bytes : goal.returns-in-Bytes
returns-in-Bytes c = λ nodes n at are.
    let is : length c.in-Bytes.bytes.items ≡ c.len.result = search rules in
    subst (Width nodes c.args.bodies.now n) is (width_bytes (at ∙ ap (λ v. Some (shape_of v)) c.in-Bytes.is))

pub returns-in_ok-get-in-Name : goal.returns-in_ok-get-in-Name
returns-in_ok-get-in-Name c = λ nodes n at are.
    let found = c.in_ok-get-in-Name.ensures.lookup in
    let body : slice_get c.args.bodies.now c.in-Name.id ≡ Some c.in_ok-get-in-Name.field-0.now =
    grind (arith, common_steps, gets, found) in
    IfSome_then c.width_of.result
    (o.width_known nodes c.args.bodies.now c.args.widths.now c.in_ok-get-in-Name.field-0.now c.width_of.result
    c.width_of.ensures are)
    (λ w known. width_name (at ∙ ap (λ v. Some (shape_of v)) c.in-Name.is) body known)

pub returns-in-Seq : goal.returns-in-Seq
returns-in-Seq c = λ nodes n at are. IfSome_then c.sum_width.result (c.sum_width.ensures nodes c.args.bodies.now are)
    (λ w sum. width_seq (at ∙ ap (λ v. Some (shape_of v)) c.in-Seq.is)
    (subst (λ v. WidthSum nodes c.args.bodies.now v w) c.deref.ensures.value sum))

pub returns-in-Choice : goal.returns-in-Choice
returns-in-Choice c = λ nodes n at are. IfSome_then c.each_width.result (c.each_width.ensures nodes c.args.bodies.now
    are)
    (λ w each. width_choice (at ∙ ap (λ v. Some (shape_of v)) c.in-Choice.is)
    (subst (λ v. WidthEach nodes c.args.bodies.now v w) c.deref-in-Choice.ensures.value each))

pub returns-then-width-eq0 : goal.returns-then-width-eq0
returns-then-width-eq0 c = λ nodes n at are.
    width_opt (at ∙ ap (λ v. Some (shape_of v)) c.in-Opt.is)
    (are _ 0 (sym c.in_ok-width-in-Opt.ensures ∙ ap Some c.if-width-eq0.true))
