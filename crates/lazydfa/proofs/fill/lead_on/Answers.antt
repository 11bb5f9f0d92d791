use Rattle.std.proofs.Common.{refl, subst}
use Rattle.std.specs.Prelude.{Contains}
use Rattle.lazydfa.specs.Cached.{Grows, IsCache}
use Rattle.lazydfa.specs.Kernels.{IsKernel, IsLeadCell, IsLeadKnown}
use Rattle.lazydfa.specs.Memos.{IsMemo}
use Rattle.lazydfa.proofs.AreCachedLemmas.{grown_same}
use Rattle.lazydfa.proofs.AreTransitionsLemmas.{memo_kept}
use Rattle.lazydfa.proofs.ContsLemmas.{kept_same, kept_within}
use Rattle.lazydfa.proofs.KernelsLemmas.{kernel_leads, kernel_within, lead_found, lead_to_kept, leads_kernel}
use Rattle.lazydfa.proofs.KernelsLemmas.{leads_noted, ok_both}
use Rattle.lazydfa.proofs.fill.lead_on.Goals as goal

pub returns-then-len-gt-KERNEL-clause-memo : goal.returns-then-len-gt-KERNEL-clause-memo
returns-then-len-gt-KERNEL-clause-memo c =
    ok_both (λ cell. IsCache c.args.tables.now c.args.samples.now c.lead_anew.new.cache)
    (λ cell. Grows c.args.memo.now.cache c.lead_anew.new.cache)
    (λ cell. IsMemo c.args.tables.now c.args.samples.now
    (record c.args.memo.now { cache = c.lead_anew.new.cache })) c.lead_anew.result c.lead_anew.ensures.cached
    c.lead_anew.ensures.grows (λ cell cached grows. memo_kept c.args.tables.now c.args.samples.now c.args.memo.now
    (record c.args.memo.now { cache = c.lead_anew.new.cache }) c.requires.memo cached grows refl refl refl)

pub kernel_of-requires-clause-within : goal.kernel_of-requires-clause-within
kernel_of-requires-clause-within c id h = c.requires.within id (subst (λ v. Contains v id) c.deref.ensures.value h)

pub returns-in-Some-clause-is : goal.returns-in-Some-clause-is
returns-in-Some-clause-is c =
    leads_kernel c.args.tables.now c.args.memo.now.cache.conts.items.items c.args.memo.now.cache.ids.items.items
    c.in_ok-kernel.kernel.items
    (subst (λ v. IsKernel c.args.tables.now c.args.memo.now.cache.conts.items.items v c.in_ok-kernel.kernel.items)
    c.deref.ensures.value c.in_ok-kernel.ensures) c.args.memo.now.cache.conts.items.items
    c.args.memo.now.cache.states.items c.in-Some.t
    (lead_found c.args.tables.now c.args.memo.now.cache.conts.items.items c.args.memo.now.cache.states.items
    c.args.memo.now.leads.items.items c.in_ok-kernel.kernel.items c.in-Some.t c.requires.memo.leads
    (subst (λ v. IsLeadKnown c.args.memo.now.leads.items.items v c.in-Some.t) c.deref-2.ensures.value
    c.in-Some.ensures))

pub returns-in_default-cell : goal.returns-in_default-cell
returns-in_default-cell c = record {
  memo = memo_kept c.args.tables.now c.args.samples.now c.args.memo.now
      (record c.args.memo.now { cache = c.lead_anew-2.new.cache }) c.requires.memo c.in_ok-cell.ensures.cached
      c.in_ok-cell.ensures.grows refl refl refl;
  grows = c.in_ok-cell.ensures.grows;
  suffixes = refl;
  is = c.in_ok-cell.ensures.is;
}

pub returns-then-len-lt-VISITED-clause-memo : goal.returns-then-len-lt-VISITED-clause-memo
returns-then-len-lt-VISITED-clause-memo c =
    memo_kept c.args.tables.now c.args.samples.now c.args.memo.now
    (record c.args.memo.now { cache = c.lead_anew-2.new.cache }) c.requires.memo c.in_ok-cell.ensures.cached
    c.in_ok-cell.ensures.grows refl refl refl

pub returns-clause-memo : goal.returns-clause-memo
returns-clause-memo c =
    let memo = memo_kept c.args.tables.now c.args.samples.now c.args.memo.now
    (record c.args.memo.now { cache = c.lead_anew-2.new.cache }) c.requires.memo c.in_ok-cell.ensures.cached
    c.in_ok-cell.ensures.grows refl refl refl in
    let kernel = subst (λ v. IsKernel c.args.tables.now c.args.memo.now.cache.conts.items.items v
    c.in_ok-kernel.kernel.items) c.deref.ensures.value c.in_ok-kernel.ensures in
    let within = kernel_within c.args.tables.now c.args.memo.now.cache.conts.items.items
    c.args.memo.now.cache.ids.items.items c.in_ok-kernel.kernel.items kernel in
    record {
      cached = memo.cached;
      resumes = memo.resumes;
      transitions = memo.transitions;
      leads = leads_noted c.args.tables.now c.lead_anew-2.new.cache.conts.items.items
          c.lead_anew-2.new.cache.states.items c.args.memo.now.leads.items.items c.note_lead.new.leads.items.items
          c.in_ok-kernel.kernel.items c.in-To.t c.in_ok-note_lead.ensures
          (λ id h. kept_within c.args.memo.now.cache.conts.items.items c.lead_anew-2.new.cache.conts.items.items
          c.in_ok-cell.ensures.grows.conts id (within id h))
          (lead_to_kept c.args.tables.now c.args.memo.now.cache.conts.items.items
          c.lead_anew-2.new.cache.conts.items.items c.lead_anew-2.new.cache.conts.items.items
          c.lead_anew-2.new.cache.conts.items.items c.in_ok-kernel.kernel.items c.lead_anew-2.new.cache.states.items
          c.lead_anew-2.new.cache.states.items c.in-To.t c.in_ok-cell.ensures.grows.conts
          (kept_same c.lead_anew-2.new.cache.conts.items.items) (grown_same c.lead_anew-2.new.cache.states.items) within
          (kernel_leads c.args.tables.now c.args.memo.now.cache.conts.items.items
          c.args.memo.now.cache.ids.items.items c.in_ok-kernel.kernel.items kernel
          c.lead_anew-2.new.cache.conts.items.items c.lead_anew-2.new.cache.states.items c.in-To.t
          (subst (λ v. IsLeadCell c.args.tables.now c.args.memo.now.cache.conts.items.items
          c.args.memo.now.cache.ids.items.items c.lead_anew-2.new.cache.conts.items.items
          c.lead_anew-2.new.cache.states.items v) c.in-To.is c.in_ok-cell.ensures.is)))
          memo.leads;
    }
