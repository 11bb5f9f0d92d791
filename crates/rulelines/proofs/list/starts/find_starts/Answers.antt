use Rattle.std.proofs.Common.{subst}
use Rattle.flatgrammar.proofs.AreClassesLemmas.{ascended_rise}
use Rattle.rulelines.specs.LineSets.{is_line_symbol}
use Rattle.rulelines.specs.Starts.{HaveKeys}
use Rattle.rulelines.proofs.StartsLemmas.{both_keys, sorted_keys, starts_made}
use Rattle.rulelines.proofs.list.starts.find_starts.Goals as goal

pub returns-clause-starts : goal.returns-clause-starts
returns-clause-starts c =
    starts_made c.args.flat.now c.args.inner.alphabet c.args.inner.terminator c.in_ok-bounds.bounds.items
    c.in_ok-bounds.ensures.bounds c.dedup.new.self.items
    (sorted_keys (is_line_symbol c.args.inner.alphabet c.args.inner.terminator) c.in_ok-bounds.bounds.items
    c.in_ok-keys.keys.items c.sort_unstable.new.self.items c.dedup.new.self.items
    (subst (λ v. HaveKeys (is_line_symbol c.args.inner.alphabet c.args.inner.terminator) v c.in_ok-keys.keys.items)
    c.deref.ensures.value c.in_ok-keys.ensures) c.sort_unstable.ensures.permutation c.dedup.ensures.filtered)

pub returns-clause-rise : goal.returns-clause-rise
returns-clause-rise c =
    ascended_rise c.sort_unstable.new.self.items c.dedup.new.self.items c.sort_unstable.ensures.sorted
    c.dedup.ensures.filtered

pub returns-clause-ends : goal.returns-clause-ends
returns-clause-ends c = λ asked.
    both_keys c.args.flat.now (is_line_symbol c.args.inner.alphabet c.args.inner.terminator)
    c.in_ok-bounds.bounds.items c.dedup.new.self.items (c.in_ok-bounds.ensures.ends asked)
    (sorted_keys (is_line_symbol c.args.inner.alphabet c.args.inner.terminator) c.in_ok-bounds.bounds.items
    c.in_ok-keys.keys.items c.sort_unstable.new.self.items c.dedup.new.self.items
    (subst (λ v. HaveKeys (is_line_symbol c.args.inner.alphabet c.args.inner.terminator) v c.in_ok-keys.keys.items)
    c.deref.ensures.value c.in_ok-keys.ensures) c.sort_unstable.ensures.permutation c.dedup.ensures.filtered)
