use Rattle.std.proofs.Common.{◌≡◌, ◌++◌, map, take, drop}
use Rattle.std.specs.List.{enumerate_from, flat_map}
use Rattle.abnftexts.specs.GivenRules.{text_rule}
use Rattle.abnftexts.specs.JoinedRules.{joined_order, printed_at}
use Rattle.abnftexts.specs.ListedRules.{ListNames}
use Rattle.abnftexts.specs.declared.join.by_name.Listed.TheVariants.{Additions}
use Rattle.abnftexts.proofs.join.order.find_order.Given as goal

-- what the rules to come give completes what those so far gave, and what adds is listed of those so far
abbrev pub invariant-loop-number : goal.invariant-loop-number
invariant-loop-number l = record {
  order : l.order.items ++ flat_map (λ p. printed_at (map text_rule l.rules) p.0 p.1)
      (enumerate_from l.number (drop l.number (map text_rule l.rules)))
      ≡ joined_order (map text_rule l.rules);
  listed : ListNames Additions (take l.number l.rules) l.added;
}
