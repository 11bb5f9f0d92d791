use Rattle.std.proofs.lemmas.Result.{IfOk-weaker, MatchResult-weaker}
use Rattle.lexer.specs.TokenLists.{tok_of}
use Rattle.pegprint.proofs.PegExplainedLemmas.{start-within, hopeless-why, deep-why}
use Rattle.pegprint.proofs.faults.explain.explain_token.Goals as goal

pub hopeless_lines-requires-clause-within : goal.hopeless_lines-requires-clause-within
hopeless_lines-requires-clause-within c =
    let d = rw c.in-Hopeless.is at c.in-Some.ensures.0 in
    start-within c.args.text.now (tok_of c.in-Hopeless.token) _
    (λ all are. c.tokens_make_up.ensures.slices c.args.text.now all are) d.0

pub deep_lines-requires : goal.deep_lines-requires
deep_lines-requires c =
    let d = rw c.in-TooDeep.is at c.in-Some.ensures.0 in
    start-within c.args.text.now (tok_of c.in-TooDeep.token) _
    (λ all are. c.tokens_make_up.ensures.slices c.args.text.now all are) d

pub returns-in-Hopeless : goal.returns-in-Hopeless
returns-in-Hopeless c =
    let d = rw c.in-Hopeless.is at c.in-Some.ensures.0 in
    MatchResult-weaker c.hopeless_lines.result c.hopeless_lines.ensures (λ why said.
    hopeless-why c.args.text.now
    (tok_of c.in-Hopeless.token) c.requires.within c.in-Hopeless.position said.0 _
    d.0 said.1 said.2) (λ _ _. tt)

pub returns-in-TooDeep : goal.returns-in-TooDeep
returns-in-TooDeep c =
    let d = rw c.in-TooDeep.is at c.in-Some.ensures.0 in
    IfOk-weaker c.deep_lines.result _ _
    (λ why. deep-why c.args.text.now (tok_of c.in-TooDeep.token) c.requires.within _ d) c.deep_lines.ensures
