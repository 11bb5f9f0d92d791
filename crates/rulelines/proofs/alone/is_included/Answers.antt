use Rattle.std.proofs.Common.{subst, sym}
use Rattle.std.specs.Prelude.{IfSome}
use Rattle.lazydfa.specs.StateSets.{grammar_of}
use Rattle.rulelines.specs.Alone.{IsBegun}
use Rattle.rulelines.specs.StatePairs.{AreSamples}
use Rattle.rulelines.proofs.CutSearchLemmas.{cut_begun, none_alone}
use Rattle.rulelines.proofs.OldAloneLemmas.{still_of}
use Rattle.rulelines.proofs.alone.is_included.Goals as goal

pub returns : goal.returns
returns c = λ has old_rules new_rules old_rule new_rule yes each old_derives new_derives.
    let begun = subst (λ v. IfSome v (IsBegun c.args.old.now c.args.new.now)) c.in-Some.is c.in_ok-search.ensures in
    let searched = c.in_ok-included.ensures.done yes
    (cut_begun c.in-Some.search begun.starts c.args.samples.now) in
    let olds_are = still_of c.args.old.now c.in-Some.search.olds c.search_by_cuts.new.search.olds
    c.in_ok-included.ensures.more.olds.same begun.olds_are in
    let news_are = still_of c.args.new.now c.in-Some.search.news c.search_by_cuts.new.search.news
    c.in_ok-included.ensures.more.news.same begun.news_are in
    none_alone c.args.old.now c.args.new.now has c.args.samples.now c.search_by_cuts.new.search old_rules new_rules
    old_rule new_rule olds_are news_are
    (subst (λ v. AreSamples v (grammar_of c.search_by_cuts.new.search.news) has c.args.samples.now) (sym olds_are.is)
    (subst (λ v. AreSamples c.args.old.now v has c.args.samples.now) (sym news_are.is) each)) old_derives new_derives
    searched.0 searched.1 searched.2
