use Rattle.std.proofs.Common.{refl, subst, sym, ◌∙◌}
use Rattle.lazydfa.specs.Cached.{AreGrown}
use Rattle.lazydfa.specs.Conts.{AreKept}
use Rattle.lazydfa.proofs.AreCachedLemmas.{grown_same}
use Rattle.lazydfa.proofs.AreTransitionsLemmas.{memo_kept}
use Rattle.lazydfa.proofs.ContsLemmas.{kept_same}
use Rattle.lazydfa.proofs.fill.fill.Goals as goal

pub returns-clause-memo : goal.returns-clause-memo
returns-clause-memo c =
    memo_kept c.args.tables.now c.args.samples.now c.lead.new.memo
    (record c.lead.new.memo { cache = c.charge.new.cache }) c.in_ok-cell.ensures.memo
    (rw (c.charge.ensures.conts, c.charge.ensures.states, c.charge.ensures.cells)
    (c.write.ensures.cached c.args.tables.now c.in_ok-cell.ensures.memo.cached c.in_ok-cell.ensures.is))
    (record {
      conts = subst (λ v. AreKept c.lead.new.memo.cache.conts.items.items v.items.items)
          (sym (c.charge.ensures.conts ∙ c.write.ensures.conts)) (kept_same c.lead.new.memo.cache.conts.items.items);
      states = subst (λ v. AreGrown c.lead.new.memo.cache.states.items v.items)
          (sym (c.charge.ensures.states ∙ c.write.ensures.states)) (grown_same c.lead.new.memo.cache.states.items);
    })
    refl refl refl
