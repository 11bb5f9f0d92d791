use Rattle.std.proofs.Common.{subst, arith}
use Rattle.std.specs.Prelude.{IfSome}
use Rattle.rulelines.specs.FoundPairs.{IsWordOf}
use Rattle.rulelines.specs.Search.{found_pairs, IsSearchOutcome}
use Rattle.lazydfa.specs.StateSets.{StateSets}
use Rattle.rulelines.proofs.OldAloneLemmas.{first_is, never_is, up_to_is}
use Rattle.rulelines.proofs.alone.conclude.Goals as goal

pub returns-in-Some : goal.returns-in-Some
returns-in-Some c = λ old new has samples old_rules new_rules old_rule new_rule s old_derives new_derives.
    let ended = subst (λ v. IsSearchOutcome v has samples c.args.search.now) c.in-First.is s.ended in
    let word = subst (λ v. IfSome v (λ word. (olds news : StateSets) → IsWordOf
    (found_pairs olds news c.deref.result.now) c.in-First.n word.items)) c.in-Some.is c.in_ok-word-in-First.ensures in
    first_is old new has samples c.args.search.now old_rules new_rules old_rule new_rule s.olds_are s.news_are s.each
    old_derives new_derives c.in-First.n ended.0 ended.1 c.in-Some.word.items
    (subst (λ v. IsWordOf (found_pairs c.args.search.now.olds c.args.search.now.news v) c.in-First.n
    c.in-Some.word.items) c.deref.ensures.value (word c.args.search.now.olds c.args.search.now.news))

pub returns-in-Nothing : goal.returns-in-Nothing
returns-in-Nothing c = λ old new has samples old_rules new_rules old_rule new_rule s old_derives new_derives.
    let ended = subst (λ v. IsSearchOutcome v has samples c.args.search.now) c.in-Nothing.is s.ended in
    never_is old new has samples c.args.search.now old_rules new_rules old_rule new_rule s.olds_are s.news_are s.each
    old_derives new_derives ended.0 ended.1 ended.2

pub returns-in-Some-checked_sub : goal.returns-in-Some-checked_sub
returns-in-Some-checked_sub c = λ old new has samples old_rules new_rules old_rule new_rule s old_derives new_derives.
    let ended = subst (λ v. IsSearchOutcome v has samples c.args.search.now) c.in-Over.is s.ended in
    let word = subst (λ v. IfSome v (λ word. (olds news : StateSets) → IsWordOf (found_pairs olds news
    c.deref-in-Over.result.now) c.in-Over.n word.items)) c.in-Some-2.is c.in_ok-word-in-Over.ensures in
    up_to_is old new has samples c.args.search.now old_rules new_rules old_rule new_rule s.olds_are s.news_are s.each
    old_derives new_derives c.in-Over.n ended.0 ended.1 ended.2 ended.3 c.in-Some-2.word.items
    (subst (λ v. IsWordOf (found_pairs c.args.search.now.olds c.args.search.now.news v) c.in-Over.n
    c.in-Some-2.word.items) c.deref-in-Over.ensures.value (word c.args.search.now.olds c.args.search.now.news))
    c.in-Some-checked_sub.most
    (let e = c.in-Some-checked_sub.ensures in let l = c.len.ensures in let o = c.in-Some-2.word.ok.0 in
    omega (arith, e, l, o))
