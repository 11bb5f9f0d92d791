use Rattle.std.proofs.Common.{refl, subst}
use Rattle.std.specs.Prelude.{IfSome}
use Rattle.lazydfa.specs.Memos.{IsResumedBy}
use Rattle.lazydfa.proofs.IsOverLemmas.{resumed_self, resumes_kept, resumes_pushed}
use Rattle.lazydfa.proofs.AreTransitionsLemmas.{transitions_kept, memo_kept}
use Rattle.lazydfa.proofs.KernelsLemmas.{leads_grown}
use Rattle.lazydfa.proofs.memo.resume_anew.Goals as goal

pub returns-in_default-clause-memo : goal.returns-in_default-clause-memo
returns-in_default-clause-memo c =
    memo_kept c.args.tables.now c.args.samples.now c.args.memo.now
    (record c.args.memo.now { cache = c.state_over.new.cache }) c.requires.memo c.in_ok-reported.ensures.cached
    c.in_ok-reported.ensures.grows refl refl refl

pub returns-clause-memo : goal.returns-clause-memo
returns-clause-memo c = record {
  cached = c.in_ok-reported.ensures.cached;
  resumes = resumes_pushed c.args.tables.now c.state_over.new.cache.conts.items.items
      c.state_over.new.cache.states.items c.args.memo.now.resumes.items c.push.new.self.items
      c.in-Some.known c.in_ok-push.ensures.items
      (resumed_self c.args.tables.now c.state_over.new.cache.conts.items.items c.state_over.new.cache.states.items
      c.args.state c.args.suffix c.in-Some.known
      (subst (λ v. IfSome v (IsResumedBy c.args.tables.now c.state_over.new.cache.conts.items.items
      c.state_over.new.cache.states.items c.args.state c.args.suffix)) c.in-Some.is c.in_ok-reported.ensures.is))
      (resumes_kept c.args.tables.now c.args.memo.now.cache.conts.items.items
      c.state_over.new.cache.conts.items.items c.args.memo.now.cache.states.items
      c.state_over.new.cache.states.items c.in_ok-reported.ensures.grows.conts c.in_ok-reported.ensures.grows.states
      c.requires.memo.cached.within c.args.memo.now.resumes.items c.requires.memo.resumes);
  transitions = transitions_kept c.args.tables.now c.args.samples.now c.args.memo.now.cache.conts.items.items
      c.state_over.new.cache.conts.items.items c.args.memo.now.cache.states.items
      c.state_over.new.cache.states.items c.in_ok-reported.ensures.grows.conts c.in_ok-reported.ensures.grows.states
      c.requires.memo.cached.within c.args.memo.now.transitions.items c.requires.memo.transitions;
  leads = leads_grown c.args.tables.now c.args.memo.now.cache.conts.items.items
      c.state_over.new.cache.conts.items.items c.args.memo.now.cache.states.items
      c.state_over.new.cache.states.items c.args.memo.now.leads.items.items c.in_ok-reported.ensures.grows.conts
      c.in_ok-reported.ensures.grows.states c.requires.memo.leads;
}
