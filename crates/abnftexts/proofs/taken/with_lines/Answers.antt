use Rattle.std.proofs.Common.{ap, map, refl, option_map}
use Rattle.abnfblocks.specs.TextLines.{numbered}
use Rattle.abnftexts.proofs.RulesTakenLemmas.{rows-with, rows-without}
use Rattle.abnftexts.proofs.taken.with_lines.Goals as goal

pub returns-in_ok-lines-in-Some : goal.returns-in_ok-lines-in-Some
returns-in_ok-lines-in-Some c = record {
  name = refl;
  kept_are = refl;
  lists_are = rows-with c.one_masking.ensures (ap (option_map (λ v. v.items)) c.in-Some.is)
      (rw (c.deref.ensures.value, c.deref-in-Some.ensures.value) at c.in_ok-lines-in-Some.ensures);
}

pub returns-in_ok-lines-in-None : goal.returns-in_ok-lines-in-None
returns-in_ok-lines-in-None c = record {
  name = refl;
  kept_are = refl;
  lists_are = rows-without (ap (option_map (λ v. v.items)) c.in-None.is)
      (ap (map numbered) (rw c.deref-in-None.ensures.value at c.in_ok-lines-in-None.ensures.items));
}
