use Rattle.std.proofs.Common.{subst}
use Rattle.lazydfa.specs.Memos.{IsKnown}
use Rattle.lazydfa.proofs.IsOverLemmas.{resume_known}
use Rattle.lazydfa.proofs.memo.resumed.Goals as goal

pub returns-in-Some-clause-is : goal.returns-in-Some-clause-is
returns-in-Some-clause-is c =
    resume_known c.args.tables.now c.args.memo.now.cache.conts.items.items c.args.memo.now.cache.states.items
    c.args.memo.now.resumes.items c.args.state c.args.suffix c.in-Some.known c.requires.memo.resumes
    (subst (λ v. IsKnown v c.args.state c.args.suffix c.in-Some.known) c.deref.ensures.value c.in-Some.ensures)
