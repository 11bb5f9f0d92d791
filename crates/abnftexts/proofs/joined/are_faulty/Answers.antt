use Rattle.std.proofs.Common.{◌≡◌, ◌∙◌, ◌||◌, Bool, List, [], ◌∷◌, ap, length, map, nat_lt, refl}
use Rattle.std.specs.List.{list_any}
use Rattle.abnftexts.specs.JoinedGrammar.{has_lines}
use Rattle.abnftexts.specs.RulesGathered.{reported_rule}
use Rattle.abnftexts.specs.declared.gathered.RuleReport.{RuleReport}
use Rattle.abnftexts.proofs.joined.are_faulty.Goals as goal

any-map : (reports : List RuleReport) → list_any (λ report. has_lines (reported_rule report)) reports
    ≡ list_any has_lines (map reported_rule reports)
any-map [] = refl
any-map (report ∷ reports) =
    ap (λ (b : Bool). has_lines (reported_rule report) || b) (any-map reports)

pub returns : goal.returns
returns c =
    (rw c.has_fault.ensures at c.either.ensures)
    ∙ ap (λ (b : Bool). b || nat_lt 0 (length c.args.clashes.now)) (any-map c.args.reports.now)
