use Rattle.std.proofs.Common.{rules, ◌≢◌, List, ℕ, subst, sym}
use Rattle.ruletable.specs.declared.fault.ReadFault.TheVariants as faults
use Rattle.abnftexts.specs.RuleReports.{ExplainsText, it_reads, its_fault}
use Rattle.abnftexts.proofs.JoinedGrammarLemmas.{ok-more}
use Rattle.abnfx.proofs.reports.explained.Goals as goal
use Rattle.abnfx.proofs.reports.explained.Goals.{in-Ok, in-Err-Memory, in-Err}

pub returns : goal.returns
returns c = elim c.match-read_definitions.branch [
  | in-Ok w ↦ rw w.result-is (subst (λ (t : List ℕ). ExplainsText c.args.text.now t) (sym w.new.ensures.items)
      (it_reads w.in-Ok.ensures.found))
  | in-Err-Memory w ↦ rw w.result-is tt
  | in-Err w ↦
      let no_memory : w.in-Err.fault ≢ faults.Memory = search rules in
      rw w.result-is (ok-more _ (λ v. ExplainsText c.args.text.now v.items) w.explain_abnf_fault.result
      (λ v e. its_fault w.in-Err.ensures.fault no_memory e) w.explain_abnf_fault.ensures)
]
