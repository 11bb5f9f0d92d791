-- The next line of each kind.
use Rattle.std.proofs.Common.{subst, sym}
use Rattle.abnfg.proofs.ReturnedLinesLemmas.{Returns, derived_returns, drawn_returns, missed_returns}
use Rattle.abnfg.specs.declared.source.LineSource.{LineSource}
use Rattle.abnfg.specs.declared.source.LineSource.TheVariants.{Derived, Drawn, Missed}
use Rattle.abnfg.proofs.source.LineSource.next.Goals as goal

pub returns-in-Derived : goal.returns-in-Derived
returns-in-Derived c =
    subst (λ (v : LineSource). Returns v (Derived c.next.new.self) c.next.result) (sym c.in-Derived.is)
    (derived_returns c.in-Derived.derived c.next.new.self c.next.ensures.same c.next.result c.next.ensures.next)

pub returns-in-Missed : goal.returns-in-Missed
returns-in-Missed c =
    subst (λ (v : LineSource). Returns v (Missed c.next-in-Missed.new.self) c.next-in-Missed.result)
    (sym c.in-Missed.is)
    (missed_returns c.in-Missed.misses c.next-in-Missed.new.self c.next-in-Missed.ensures.same c.next-in-Missed.result
    c.next-in-Missed.ensures.next)

pub returns-in-Drawn : goal.returns-in-Drawn
returns-in-Drawn c =
    subst (λ (v : LineSource). Returns v (Drawn c.by_lot.new.self c.by_lot.new.lots) c.by_lot.result)
    (sym c.in-Drawn.is)
    (drawn_returns c.in-Drawn.lines c.by_lot.new.self c.in-Drawn.lots c.by_lot.new.lots c.by_lot.ensures.same
    c.by_lot.result c.by_lot.ensures.is)
