use Rattle.std.proofs.Common.{sym, ap, ◌++◌, ◌∙◌, [], List, ℕ, Some, None, slice_index_or}
use Rattle.std.proofs.lemmas.List.{append-nil}
use Rattle.ruletable.specs.Rules.{names_of}
use Rattle.abnfcheck.specs.NameChains.{names_at}
use Rattle.abnfrun.proofs.AbnfExplainedNotesLemmas.{line_of_ends}
use Rattle.abnfrun.proofs.note_positions.push_reached.Goals as goal

pub returns-in_ok-push_chain : goal.returns-in_ok-push_chain
returns-in_ok-push_chain c = λ rules given are.
    let names = names_of c.args.chains.now.names in
    let w = rw c.in-Some.is at (c.in_ok-ends.ensures rules given are) in
    let pushed = (let k = c.in_ok-push_chain.ensures in rw c.deref.ensures.value at k) in (
      Some (names_at names w.0),
      w.1,
      pushed ∙ ap (λ (z : List ℕ). c.args.out.now.items ++ z)
          (line_of_ends (λ id. slice_index_or names id []) w.0 c.in-Some.ends w.2),
    )

pub returns-in_default : goal.returns-in_default
returns-in_default c = λ rules given are. (
  None,
  rw c.in_default.is at (c.in_ok-ends.ensures rules given are),
  sym (append-nil c.args.out.now.items),
)
