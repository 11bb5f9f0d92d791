use Rattle.std.proofs.Common.{ℕ, List, subst, true, false}
use Rattle.abnfread.specs.Element.{Rule}
use Rattle.rulelines.specs.MissLists.{IsRefilled, AreOfRule, MissList, waiting_lines}
use Rattle.rulelines.proofs.MissLinesLemmas.{all_reported, lines_refilled}
use Rattle.rulelines.proofs.miss.lines.Misses.refill.Goals as goal

pub returns-in-Some-Done-clause-filled : goal.returns-in-Some-Done-clause-filled
returns-in-Some-Done-clause-filled c =
    let list : MissList = record {
      prefixes = c.self.inside.prefixes;
      waiting = waiting_lines c.self.inside.left.items;
    } in
    let step = rw c.in-Some-Done.field-0-is at (rw c.in-Some-Done.is at c.in_ok-next.ensures.next) in
    subst (λ v. (rules : List Rule) (id : ℕ) → AreOfRule rules id v → IsRefilled rules id v v false) c.self.view_is
    (λ rules id rule ws none reported. all_reported rules id list ws reported none
    (step rules id rule reported.prefixes reported.reported))

pub returns-in_ok-self-inside-in-Some-Prefix-clause-filled : goal.returns-in_ok-self-inside-in-Some-Prefix-clause-filled
returns-in_ok-self-inside-in-Some-Prefix-clause-filled c =
    let list : MissList = record {
      prefixes = c.self.inside.prefixes;
      waiting = waiting_lines c.self.inside.left.items;
    } in
    let new : MissList = record {
      prefixes = c.next.new.self;
      waiting = waiting_lines c.in_ok-self-inside-in-Some-Prefix.field-0.items;
    } in
    let step = rw c.in-Some-Prefix.field-0-is at (rw c.in-Some-Prefix.is at c.in_ok-next.ensures.next) in
    subst (λ v. (rules : List Rule) (id : ℕ) → AreOfRule rules id v → IsRefilled rules id v new true) c.self.view_is
    (λ rules id rule ws none reported. lines_refilled rules id list ws reported new c.in-Some-Prefix.prefix none
    (step rules id rule reported.prefixes reported.reported) c.in_ok-self-inside-in-Some-Prefix.ensures)
