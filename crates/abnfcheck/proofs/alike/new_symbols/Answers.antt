-- One symbol more.
use Rattle.std.proofs.Common.{◌+◌, arith, get_or, subst, sym}
use Rattle.std.proofs.lemmas.Option.{slice_get-get_or}
use Rattle.abnfread.specs.AbnfViews.{rules_of}
use Rattle.abnfcheck.specs.AlikeSymbols.{AreAlikeInRules}
use Rattle.abnfcheck.specs.NewSymbols.{AreNewTo}
use Rattle.abnfcheck.proofs.NewSymbolsLemmas.{none_new, taken_passed, taken_pushed}
use Rattle.abnfcheck.proofs.alike.new_symbols.Goals as goal
use Rattle.abnfcheck.proofs.alike.new_symbols.Goals.{then-not-has_alike+in_ok-push, else-not-has_alike}

pub loop-index-init : goal.loop-index-init
loop-index-init c =
    none_new (AreAlikeInRules (rules_of c.args.rules.now)) c.args.symbols.now _ c.new-news.ensures.items

pub returns : goal.returns
returns c = subst (λ v. AreNewTo (AreAlikeInRules (rules_of c.args.rules.now)) c.args.symbols.now v
    c.loop-index.news.items) (let ge = c.loop-index-test.false in let le = c.loop-index.auto.index-end in
    omega (arith, ge, le)) c.loop-index.invariant

pub loop-index-preserved : goal.loop-index-preserved
loop-index-preserved c =
    let alike = AreAlikeInRules (rules_of c.args.rules.now) in
    let symbols = c.args.symbols.now in
    let n = c.loop-index.index in
    let lt = c.loop-index-test.true in
    let at_n = slice_get-get_or symbols n 0 lt in
    elim c.if-not-has_alike.branch [
      | then-not-has_alike+in_ok-push w ↦
          subst (λ v. AreNewTo alike symbols (n + 1) v.items) (sym w.news-is)
          (taken_pushed alike symbols n (get_or symbols n 0) at_n c.loop-index.news.items c.loop-index.invariant
          w.push.new.self.items (omega (arith, lt))
          (λ h. let e = c.has_alike.ensures.1 h in let no = w.if-not-has_alike.true in cc (e, no))
          w.in_ok-push.ensures.items)
      | else-not-has_alike w ↦
          subst (λ v. AreNewTo alike symbols (n + 1) v.items) (sym w.news-is)
          (taken_passed alike symbols n (get_or symbols n 0) at_n c.loop-index.news.items c.loop-index.invariant
          (omega (arith, lt)) (c.has_alike.ensures.0 w.if-not-has_alike.false))
    ]
