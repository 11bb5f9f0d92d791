use Rattle.std.proofs.Common.{◌+◌, map, refl}
use Rattle.std.proofs.lemmas.List.{map-append}
use Rattle.lexer.specs.TokenLists.{tok_of}
use Rattle.diagnostics.proofs.KeptTokenLemmas.{AreFrom, from-end, from-next}
use Rattle.diagnostics.proofs.HeadsTakenLemmas.{none-taken, token-taken, head-taken, opens-after, all-taken}
use Rattle.diagnostics.proofs.noteplaces.heads.heads_of.Goals as goal
use Rattle.diagnostics.proofs.noteplaces.heads.heads_of.Goals.{in-Some+in_ok-name+in_ok-push, in_default}

pub loop-token-init : goal.loop-token-init
loop-token-init g c =
    let all = map tok_of c.args.tokens.now in
    rw c.new-heads.ensures.items (none-taken g.K.Kind.white g.K.Kind.first g.K.Kind.is_end g.S.Signs.sign_of
    c.args.rule c.args.text.now (AreFrom c.args.tokens.now 0) all refl c.requires
    (c.tokens_make_up.ensures.slices c.args.text.now all c.requires)
    (c.tokens_make_up.ensures.order c.args.text.now all c.requires))

pub loop-token-preserved : goal.loop-token-preserved
loop-token-preserved g c =
    let h = c.loop-token.invariant in
    let given = from-next c.args.tokens.now c.loop-token.token-index h.are_left c.token-item.result
    c.loop-token-test.true c.token-item.is in
    elim c.match-opening.branch [
      | in-Some+in_ok-name+in_ok-push w ↦ (
          let o = (let k = w.in-Some.ensures in rw c.sign.ensures at k) in
          let pushed = w.in_ok-push.ensures.items in
          let name = w.in_ok-name.ensures.items in
          rw (w.heads-is, w.at-is, w.line-is, c.sign.ensures, pushed, map-append, name)
          (head-taken g.K.Kind.white g.K.Kind.first g.K.Kind.is_end g.S.Signs.sign_of c.args.rule
          c.args.text.now h (AreFrom c.args.tokens.now (c.loop-token.token-index + 1))
          (tok_of c.token-item.result) given.0 given.1 given.2 _ _ _ o w.line_after-line.result
          w.line_after-line.ensures)
          )
      | in_default w ↦ (
          let none = (let n = w.in_default.ensures in rw c.sign.ensures at n) in
          rw (w.heads-is, w.at-is, w.line-is, c.sign.ensures)
          (token-taken g.K.Kind.white g.K.Kind.first g.K.Kind.is_end g.S.Signs.sign_of c.args.rule
          c.args.text.now h (AreFrom c.args.tokens.now (c.loop-token.token-index + 1))
          (tok_of c.token-item.result) given.0 given.1 given.2 none)
          )
    ]

pub line_after-line-requires-clause-line : goal.line_after-line-requires-clause-line
line_after-line-requires-clause-line g c = c.loop-token.invariant.line_is

pub line_after-line-requires-clause-order : goal.line_after-line-requires-clause-order
line_after-line-requires-clause-order g c =
    let h = c.loop-token.invariant in
    let given = from-next c.args.tokens.now c.loop-token.token-index h.are_left c.token-item.result
    c.loop-token-test.true c.token-item.is in
    let o = (let k = c.in-Some.ensures in rw c.sign.ensures at k) in
    (opens-after g.K.Kind.white g.K.Kind.first g.K.Kind.is_end g.S.Signs.sign_of c.args.rule
    c.args.text.now h (AreFrom c.args.tokens.now (c.loop-token.token-index + 1))
    (tok_of c.token-item.result) given.0 given.1 given.2 _ _ _ o).0

pub line_after-line-requires-clause-within : goal.line_after-line-requires-clause-within
line_after-line-requires-clause-within g c =
    let h = c.loop-token.invariant in
    let given = from-next c.args.tokens.now c.loop-token.token-index h.are_left c.token-item.result
    c.loop-token-test.true c.token-item.is in
    let o = (let k = c.in-Some.ensures in rw c.sign.ensures at k) in
    (opens-after g.K.Kind.white g.K.Kind.first g.K.Kind.is_end g.S.Signs.sign_of c.args.rule
    c.args.text.now h (AreFrom c.args.tokens.now (c.loop-token.token-index + 1))
    (tok_of c.token-item.result) given.0 given.1 given.2 _ _ _ o).1

pub returns : goal.returns
returns g c =
    let h = c.loop-token.invariant in
    all-taken g.K.Kind.white g.K.Kind.first g.K.Kind.is_end g.S.Signs.sign_of c.args.rule c.args.text.now h
    (from-end c.args.tokens.now c.loop-token.token-index h.are_left c.loop-token-test.false)
