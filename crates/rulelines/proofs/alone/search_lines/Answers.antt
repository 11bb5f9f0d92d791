use Rattle.std.proofs.Common.{subst, sym}
use Rattle.std.proofs.lemmas.Result.{IfOk-weaker}
use Rattle.std.specs.Prelude.{IfSome}
use Rattle.lazydfa.specs.StateSets.{grammar_of}
use Rattle.rulelines.specs.Alone.{IsBegun}
use Rattle.rulelines.specs.StatePairs.{AreSamples}
use Rattle.rulelines.proofs.OldAloneLemmas.{still_of}
use Rattle.rulelines.proofs.alone.search_lines.Goals as goal

pub returns : goal.returns
returns c =
    let begun = subst (λ v. IfSome v (IsBegun c.args.old.now c.args.new.now)) c.in-Some.is c.in_ok-search.ensures in
    let olds_are = still_of c.args.old.now c.in-Some.search.olds c.search_all.new.search.olds
    c.in_ok-outcome.ensures.same.0 begun.olds_are in
    let news_are = still_of c.args.new.now c.in-Some.search.news c.search_all.new.search.news
    c.in_ok-outcome.ensures.same.1 begun.news_are in
    IfOk-weaker c.conclude.result _ _ (λ alone says has old_rules new_rules old_rule new_rule in_order each old_lines
    new_lines. says c.args.old.now c.args.new.now has c.args.samples.now old_rules new_rules old_rule new_rule (record {
      olds_are = olds_are;
      news_are = news_are;
      each = subst (λ v. AreSamples v (grammar_of c.search_all.new.search.news) has c.args.samples.now)
          (sym olds_are.is)
          (subst (λ v. AreSamples c.args.old.now v has c.args.samples.now) (sym news_are.is) each);
      ended = c.in_ok-outcome.ensures.outcome has in_order (begun.starts has c.args.samples.now);
    }) old_lines new_lines) c.conclude.ensures
