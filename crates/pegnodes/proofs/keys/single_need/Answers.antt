use Rattle.std.proofs.Common.{sym, subst, arith}
use Rattle.std.proofs.lemmas.Bool.{both_ways}
use Rattle.std.proofs.lemmas.List.{length-map}
use Rattle.std.proofs.lemmas.Option.{slice_get_within}
use Rattle.fixpoint.proofs.ContainsLemmas.{only_one}
use Rattle.pegnodes.specs.KeyMarks.{Single}
use Rattle.pegnodes.specs.Nodes.{shape_of, shapes_of}
use Rattle.pegnodes.specs.declared.namers.Namer.TheVariants.{Nobody, By}
use Rattle.pegnodes.proofs.KeyNeedsLemmas as o
use Rattle.pegnodes.proofs.keys.single_need.Goals as goal

pub returns-then-not-is_star-clause-justified : goal.returns-then-not-is_star-clause-justified
returns-then-not-is_star-clause-justified c = λ start bodies known.
    let found = c.in-Some-Nobody.ensures.lookup in
    let nobody = o.namer_read c.args.namers.now c.args.m _ Nobody found.0 found.1 c.in-Some-Nobody.field-0-is in
    o.is_single_root start (shapes_of c.args.nodes.now) bodies c.args.root c.args.namers.now known c.args.m nobody
    c.if-m-root.true (λ k at. both_ways c.is_star.result c.if-not-is_star.true (c.is_star.ensures.1 (k, at)))

pub returns-then-goes_once-clause-within : goal.returns-then-goes_once-clause-within
returns-then-goes_once-clause-within c = λ a h.
    let may = c.may_be_plain.ensures c.if-may_be_plain.true in
    let low = slice_get_within (shapes_of c.args.nodes.now) c.in-Some-By.namer may.shape may.at in
    let count = length-map c.args.nodes.now shape_of in
    let is = only_one c.in-Some-By.namer a (rw c.from_ref.ensures.value at h) in
    omega (arith, low, count, is)

pub returns-then-goes_once-clause-justified : goal.returns-then-goes_once-clause-justified
returns-then-goes_once-clause-justified c = λ start bodies known a h single.
    let found = c.in-Some-By.ensures.lookup in
    let by = o.namer_read c.args.namers.now c.args.m _ (By c.in-Some-By.namer) found.0 found.1 c.in-Some-By.field-0-is
    in
    let is = only_one c.in-Some-By.namer a (rw c.from_ref.ensures.value at h) in
    o.below_single start (shapes_of c.args.nodes.now) bodies c.args.root c.args.namers.now known c.args.m
    c.in-Some-By.namer by c.if-m-root-2.true (c.may_be_plain.ensures c.if-may_be_plain.true)
    (c.goes_once.ensures c.if-goes_once.true)
    (subst (Single start (shapes_of c.args.nodes.now) bodies) (sym is) single)
