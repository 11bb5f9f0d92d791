use Rattle.std.proofs.Common.{◌≡◌, ◌∙◌, ◌++◌, ℕ, List, [], ◌∷◌, ap, append_assoc, codes, decimal, length, map, sym}
use Rattle.abnfblocks.specs.TextLines.{numbered}
use Rattle.abnfblocks.specs.declared.found.RuleSearch.{RuleSearch}
use Rattle.abnftexts.specs.TextPositions.{position_shown}
use Rattle.abnftexts.specs.ValueRuns.{last_found, rule_number, run_reported}
use Rattle.abnftexts.proofs.values.run_message.Goals as goal

pushed : (x y p rest : List ℕ) → y ≡ x ++ p → y ++ rest ≡ x ++ (p ++ rest)
pushed x y p rest e = ap (λ (z : List ℕ). z ++ rest) e ∙ append_assoc x p rest

six-pushed : (a b c d e f g p q r s t u : List ℕ) → a ≡ [] → b ≡ a ++ p → c ≡ b ++ q → d ≡ c ++ r → e ≡ d ++ s
    → f ≡ e ++ t → g ≡ f ++ u → g ≡ p ++ (q ++ (r ++ (s ++ (t ++ u))))
six-pushed a b c d e f g p q r s t u ea eb ec ed ee ef eg =
    eg ∙ pushed e f t u ef ∙ pushed d e s (t ++ u) ee ∙ pushed c d r (s ++ (t ++ u)) ed
    ∙ pushed b c q (r ++ (s ++ (t ++ u))) ec ∙ pushed a b p (q ++ (r ++ (s ++ (t ++ u)))) eb
    ∙ ap (λ (z : List ℕ). z ++ (p ++ (q ++ (r ++ (s ++ (t ++ u)))))) ea

pub returns : goal.returns
returns c =
    let name = c.args.rows.now.name.now in
    let lines = map numbered c.args.rows.now.lines.items in
    let first = c.in-Some.first.now in
    let others = c.in-Some.others.now in
    let run = (let s = c.in-Some.ensures.cases in s.0) in
    let start = rw c.number_of.ensures at c.in_ok-push_position.ensures in
    let count = rw run at c.in_ok-push_number.ensures in
    let end = rw (c.number_of-2.ensures, c.last_of-last.ensures) at c.in_ok-push_number-2.ensures in
    six-pushed c.new-message.result.items c.push_position.new.out.items c.extend_from_slice.new.self.items
    c.push_number.new.out.items c.extend_from_slice-2.new.self.items c.push_number-2.new.out.items
    c.extend_from_slice-3.new.self.items (position_shown name (rule_number lines first)) (codes ": no ABNF: ")
    (decimal (length (first ∷ others))) (codes " lines up to line ")
    (decimal (rule_number lines (last_found first others))) (codes " assign values\n") c.new-message.ensures.items start
    c.in_ok-extend_from_slice.ensures.items count c.in_ok-extend_from_slice-2.ensures.items end
    c.in_ok-extend_from_slice-3.ensures.items
    ∙ ap (λ (its : List RuleSearch). run_reported name lines its) (sym run)
