-- The reports of rules, one after another.
-- Serves: run_join
use Rattle.std.proofs.Common.{◌≡◌, ℕ, ◌+◌, ◌<◌, ◌≤◌, Bool, List, [], ◌∷◌, ◌++◌, length, get_or, map, drop, sym, ap}
use Rattle.std.proofs.Common.{◌∙◌, append-nil, append_assoc, subst}
use Rattle.std.proofs.lemmas.List.{at_drop_all}
use Rattle.abnftexts.specs.RuleReports.{AreReports, ExplainsIfAsked, next_report, no_reports}
use Rattle.abnftexts.specs.RulesGathered.{ReportedRule, reported_rule}
use Rattle.abnftexts.specs.declared.gathered.RuleReport.{RuleReport}
use Rattle.abnftexts.proofs.RulesTakenLemmas.{one-after}

module _ (explains : Bool) (reports : List RuleReport) (i : ℕ) where
  -- the reports from that number on follow those so far
  abbrev pub Completes : List ℕ → Type 0
  Completes out = (more : List ℕ) → AreReports explains (map reported_rule (drop i reports)) more
      → AreReports explains (map reported_rule reports) (out ++ more)

  pub report-more : (d : RuleReport) (old new why : List ℕ) → i < length reports → d ≡ get_or reports i d
      → ExplainsIfAsked explains (reported_rule d).lines why
      → new ≡ old ++ ((reported_rule d).message ++ why) → Completes old → (more : List ℕ)
      → AreReports explains (map reported_rule (drop (i + 1) reports)) more
      → AreReports explains (map reported_rule reports) (new ++ more)
  report-more d old new why lt is explained pushed so_far more rest =
      let message : List ℕ = (reported_rule d).message in
      let others : List ReportedRule = map reported_rule (drop (i + 1) reports) in
      let front : map reported_rule (drop i reports) ≡ reported_rule d ∷ others =
      ap (λ (xs : List RuleReport). map reported_rule xs) (one-after reports i d lt)
      ∙ ap (λ (x : RuleReport). reported_rule x ∷ others) (sym is) in
      let here : AreReports explains (map reported_rule (drop i reports)) (message ++ (why ++ more)) =
      subst (λ (rs : List ReportedRule). AreReports explains rs (message ++ (why ++ more))) (sym front)
      (next_report why explained rest) in
      let same : old ++ (message ++ (why ++ more)) ≡ new ++ more =
      ap (λ (t : List ℕ). old ++ t) (sym (append_assoc message why more))
      ∙ sym (append_assoc old (message ++ why) more) ∙ ap (λ (t : List ℕ). t ++ more) (sym pushed) in
      subst (λ (t : List ℕ). AreReports explains (map reported_rule reports) t) same (so_far _ here)

  pub reports-all : (out : List ℕ) → length reports ≤ i → Completes out
      → AreReports explains (map reported_rule reports) out
  reports-all out le so_far =
      let done : map reported_rule (drop i reports) ≡ [] =
      ap (λ (xs : List RuleReport). map reported_rule xs) (at_drop_all (λ xs. xs) reports i le) in
      let none : AreReports explains (map reported_rule (drop i reports)) [] =
      subst (λ (rs : List ReportedRule). AreReports explains rs []) (sym done) no_reports in
      subst (λ (t : List ℕ). AreReports explains (map reported_rule reports) t) (append-nil out) (so_far [] none)
