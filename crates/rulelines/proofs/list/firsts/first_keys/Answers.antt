use Rattle.std.proofs.Common.{List, ℕ, length, subst}
use Rattle.abnfcheck.specs.AlikeSymbols.{AreAlikeInRules}
use Rattle.abnfcheck.specs.NewSymbols.{AreNewTo}
use Rattle.abnfread.specs.AbnfViews.{rules_of}
use Rattle.flatgrammar.proofs.AreClassesLemmas.{ascended_rise}
use Rattle.ruletable.specs.Letters.{has as has_letter}
use Rattle.rulelines.specs.Samples.{AreKeysOf}
use Rattle.rulelines.specs.StateTables.{line_symbols}
use Rattle.rulelines.proofs.AlikeSpellsLemmas.{lowered_alike}
use Rattle.rulelines.proofs.FirstSamplesLemmas.{firsts_are}
use Rattle.rulelines.proofs.LineOrderLemmas.{inner_has}
use Rattle.rulelines.proofs.SampleLinesLemmas.{rules_join}
use Rattle.rulelines.proofs.SamplesLemmas.{keys_kept}
use Rattle.rulelines.proofs.list.firsts.first_keys.Goals as goal

pub returns-clause-rise : goal.returns-clause-rise
returns-clause-rise c =
    ascended_rise c.sort_unstable.new.self.items c.dedup.new.self.items c.sort_unstable.ensures.sorted
    c.dedup.ensures.filtered

pub returns-clause-firsts : goal.returns-clause-firsts
returns-clause-firsts c = λ judged lowered.
    let rules = rules_of c.args.rules.now in
    let flat = c.args.flat.now in
    let inner = c.args.inner in
    let alike = AreAlikeInRules rules in
    let samples = c.in_ok-samples.samples.items in
    firsts_are flat (line_symbols inner) alike samples c.in_ok-samples.ensures.each c.in_ok-samples.ensures.order
    (λ d e same. lowered_alike rules flat e d
    (λ q r set read. ((same q r set read).1, (same q r set read).0)) judged lowered)
    (rules_join rules) c.in_ok-news.news.items
    (subst (λ (v : List ℕ). AreNewTo alike v (length v) c.in_ok-news.news.items) c.deref.ensures.value
    c.in_ok-news.ensures)
    (has_letter inner.alphabet) (inner_has inner.alphabet inner.terminator) c.dedup.new.self.items
    (keys_kept c.sort_unstable.new.self.items c.dedup.new.self.items c.dedup.ensures.filtered
    (has_letter inner.alphabet) c.in_ok-news.news.items c.in_ok-keys.keys.items c.sort_unstable.ensures.permutation
    (subst (λ (v : List ℕ). AreKeysOf (has_letter inner.alphabet) v c.in_ok-keys.keys.items) c.deref-2.ensures.value
    c.in_ok-keys.ensures))
