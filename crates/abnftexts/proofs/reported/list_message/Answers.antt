use Rattle.std.proofs.Common.{◌≡◌, ◌∙◌, ℕ, List, ◌++◌, ap, append_assoc, codes, map}
use Rattle.ruletable.specs.Faults.{at_line}
use Rattle.abnfblocks.specs.TextLines.{numbered}
use Rattle.abnftexts.specs.TextPositions.{number_at, position_shown}
use Rattle.abnftexts.proofs.reported.list_message.Goals as goal

three-pushed : (a b c d p q r : List ℕ) → b ≡ a ++ p → c ≡ b ++ q → d ≡ c ++ r → d ≡ a ++ (p ++ (q ++ r))
three-pushed a b c d p q r e f g =
    g ∙ ap (λ (z : List ℕ). z ++ r) (f ∙ ap (λ (z : List ℕ). z ++ q) e ∙ append_assoc a p q)
    ∙ append_assoc a (p ++ q) r ∙ ap (λ (z : List ℕ). a ++ z) (append_assoc p q r)

pub returns : goal.returns
returns c =
    let rows = map numbered c.args.lines.now in
    let start = position_shown c.args.name.now (number_at rows 1) in
    let fault = at_line (number_at rows c.args.n) (codes "list of RFC 9110: use --expand") in
    let here = rw c.number_at.ensures at c.in_ok-push_position.ensures in
    let there = rw c.number_at-2.ensures at c.in_ok-push_at_line.ensures in
    three-pushed c.new-message.result.items c.push_position.new.out.items c.extend_from_slice.new.self.items
    c.push_at_line.new.out.items start (codes ": not ABNF: ") fault here
    c.in_ok-extend_from_slice.ensures.items there
    ∙ ap (λ (z : List ℕ). z ++ (start ++ (codes ": not ABNF: " ++ fault))) c.new-message.ensures.items
