-- The bytes that this write took follow those before it.
use Rattle.std.proofs.Common.{rules, take}
use Rattle.std.proofs.lemmas.List.{take_rest}
use Rattle.ruletable.proofs.AppendsLemmas.{Appends-more, Appends-kept, IsProperPrefix-take}
use Rattle.ruletable.proofs.sink.write_whole.Goals as goal

pub loop-at-preserved : goal.loop-at-preserved
loop-at-preserved g c = record {
  within = search rules;
  taken = Appends-more _ _ _ c.loop-at.at c.in-Ok.n c.args.bytes.now c.loop-at.invariant.taken
      (rw take_rest at c.in-Ok.ensures.bytes);
  flag = search rules;
}

pub returns-in-Err : goal.returns-in-Err
returns-in-Err g c = record {
  bytes = (
    take c.loop-at.at c.args.bytes.now,
    IsProperPrefix-take _ _ c.loop-at-test.true,
    Appends-kept _ _ _ _ c.loop-at.invariant.taken c.in-Err.ensures.bytes,
  );
  flag = search rules;
}
