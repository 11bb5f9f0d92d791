use Rattle.std.proofs.Common.{◌∙◌, ap, subst, sym, refl}
use Rattle.rulelines.specs.MissLists.{AreLinesReported, MissList, waiting_lines}
use Rattle.rulelines.proofs.MissLinesLemmas.{one_reported, waiting_more}
use Rattle.rulelines.proofs.miss.lines.Misses.next.Goals as goal

pub returns-in-Some-clause-next : goal.returns-in-Some-clause-next
returns-in-Some-clause-next c = λ rules id rule ws reported.
    let list : MissList = record {
      prefixes = c.self.inside.prefixes;
      waiting = waiting_lines c.self.inside.left.items;
    } in
    let new : MissList = record { prefixes = c.self.inside.prefixes; waiting = waiting_lines c.pop.new.self.items } in
    one_reported rules id list ws
    (subst (λ v. AreLinesReported rules id v ws) (sym c.self.view_is)
    (c.loop.invariant.reported rules id rule ws reported)) new
    c.in-Some.line.items refl
    (ap waiting_lines c.in-Some.ensures.items ∙ waiting_more c.pop.new.self.items c.in-Some.line)
