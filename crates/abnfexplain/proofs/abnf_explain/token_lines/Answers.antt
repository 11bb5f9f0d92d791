use Rattle.std.proofs.lemmas.Result.{IfOk-weaker, MatchResult-weaker}
use Rattle.abnfread.specs.MarkedTokens.{marked_of}
use Rattle.abnfexplain.proofs.AbnfExplainedLemmas.{start-within, origin-within, hopeless-why, deep-why, large-why}
use Rattle.abnfexplain.proofs.abnf_explain.token_lines.Goals as goal

pub hopeless_lines-requires-clause-first : goal.hopeless_lines-requires-clause-first
hopeless_lines-requires-clause-first c =
    let d = rw c.in-Hopeless.is at c.requires.decides in
    origin-within c.args.text.now (λ ts are. c.tokens_make_up.ensures.slices c.args.text.now ts are)
    c.in-Hopeless.refused d

pub hopeless_lines-requires-clause-within : goal.hopeless_lines-requires-clause-within
hopeless_lines-requires-clause-within c =
    let d = rw c.in-Hopeless.is at c.requires.decides in
    start-within c.args.text.now (λ ts are. c.tokens_make_up.ensures.slices c.args.text.now ts are)
    (marked_of c.in-Hopeless.refused.token) _ d

pub limit_lines-requires : goal.limit_lines-requires
limit_lines-requires c =
    let d = rw c.in-TooDeep.is at c.requires.decides in
    start-within c.args.text.now (λ ts are. c.tokens_make_up.ensures.slices c.args.text.now ts are)
    (marked_of c.in-TooDeep.token) _ d

pub limit_lines-requires-in-TooLarge : goal.limit_lines-requires-in-TooLarge
limit_lines-requires-in-TooLarge c =
    let d = rw c.in-TooLarge.is at c.requires.decides in
    start-within c.args.text.now (λ ts are. c.tokens_make_up.ensures.slices c.args.text.now ts are)
    (marked_of c.in-TooLarge.token) _ d

pub returns-in-Hopeless : goal.returns-in-Hopeless
returns-in-Hopeless c =
    let d = rw c.in-Hopeless.is at c.requires.decides in
    MatchResult-weaker c.hopeless_lines.result c.hopeless_lines.ensures (λ why said.
    hopeless-why c.args.text.now c.requires.within c.in-Hopeless.refused said.0 _ d said.1 said.2)
    (λ _ _. tt)

pub returns-in-TooDeep : goal.returns-in-TooDeep
returns-in-TooDeep c =
    let d = rw c.in-TooDeep.is at c.requires.decides in
    IfOk-weaker c.limit_lines.result _ _
    (λ why. deep-why c.args.text.now c.requires.within (marked_of c.in-TooDeep.token) _ d) c.limit_lines.ensures

pub returns-in-TooLarge : goal.returns-in-TooLarge
returns-in-TooLarge c =
    let d = rw c.in-TooLarge.is at c.requires.decides in
    IfOk-weaker c.limit_lines-in-TooLarge.result _ _
    (λ why. large-why c.args.text.now c.requires.within (marked_of c.in-TooLarge.token) _ d)
    c.limit_lines-in-TooLarge.ensures
