use Rattle.std.proofs.Common.{◌≡◌, length, arith, subst}
use Rattle.std.proofs.lemmas.Option.{slice_get-get_or}
use Rattle.pegnodes.specs.Namers.{AreNamersTo}
use Rattle.pegnodes.proofs.NamersLemmas as o
use Rattle.pegnodes.proofs.namers.add_names.Goals as goal

pub loop-named-preserved : goal.loop-named-preserved
loop-named-preserved c = λ rows there h. o.names_next rows c.args.n c.loop-named.named-index _ c.args.names.now _ _
    there
    (slice_get-get_or c.args.names.now c.loop-named.named-index 0 c.loop-named-test.true) c.add_name.ensures.named
    (c.loop-named.invariant rows there h)

pub returns-clause-named : goal.returns-clause-named
returns-clause-named c = λ rows there h.
    let end : c.loop-named.named-index ≡ length c.args.names.now = omega (
      arith,
      c.loop-named-test.false,
      c.loop-named.auto.named-index-end,
    ) in
    subst (λ v. AreNamersTo rows c.args.n v c.loop-named.namers) end (c.loop-named.invariant rows there h)
