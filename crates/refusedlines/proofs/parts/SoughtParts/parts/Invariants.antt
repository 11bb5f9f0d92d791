use Rattle.std.proofs.Common.{◌≡◌, ◌++◌, drop, map}
use Rattle.abnfread.specs.AbnfViews.{rule_of, rules_of}
use Rattle.refusedlines.specs.ShownParts.{awaited_part}
use Rattle.refusedlines.specs.SoughtParts.{is_sought, operand_of, sought_from}
use Rattle.refusedlines.proofs.parts.SoughtParts.parts.Given as goal

-- the parts so far, and those of the rules that are left
abbrev pub invariant-loop-id : goal.invariant-loop-id
invariant-loop-id l = map awaited_part l.parts.items
    ++ sought_from (operand_of l.self.flat.now) (is_sought l.self) l.self.flat.now.bodies l.id
    (map rule_of (drop l.id l.rules.rules))
    ≡ sought_from (operand_of l.self.flat.now) (is_sought l.self) l.self.flat.now.bodies 0
    (rules_of l.rules)
