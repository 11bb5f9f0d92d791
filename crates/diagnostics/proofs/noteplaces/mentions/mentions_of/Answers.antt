use Rattle.std.proofs.Common.{◌+◌, ap, map, refl}
use Rattle.std.specs.Prelude.{option_map}
use Rattle.lexer.specs.TokenLists.{tok_of}
use Rattle.diagnostics.proofs.KeptTokenLemmas.{AreFrom, from-end, from-next}
use Rattle.diagnostics.specs.DefinitionHeads.{signed_at}
use Rattle.diagnostics.proofs.MentionsTakenLemmas.{none-mentioned, all-mentioned, first-mentioned, last-after}
use Rattle.diagnostics.proofs.MentionsTakenLemmas.{name-mentioned, token-mentioned}
use Rattle.diagnostics.proofs.noteplaces.mentions.mentions_of.Goals as goal
use Rattle.diagnostics.proofs.noteplaces.mentions.mentions_of.Goals.{in-Some+in-Some-opening, in_default}
use Rattle.diagnostics.proofs.noteplaces.mentions.mentions_of.Goals.{in-Some+in-None+in_ok-push_mention-in-None}

pub loop-token-init : goal.loop-token-init
loop-token-init g c =
    let all = map tok_of c.args.tokens.now in
    rw c.new-found.ensures.items (none-mentioned g.K.Kind.white g.K.Kind.first g.K.Kind.is_end g.S.Signs.sign_of
    c.args.rule c.args.text.now (AreFrom c.args.tokens.now 0) all refl c.requires
    (c.tokens_make_up.ensures.slices c.args.text.now all c.requires)
    (c.tokens_make_up.ensures.order c.args.text.now all c.requires))

pub returns : goal.returns
returns g c =
    let h = c.loop-token.invariant in
    all-mentioned g.K.Kind.white g.K.Kind.first g.K.Kind.is_end g.S.Signs.sign_of c.args.rule c.args.text.now h
    (from-end c.args.tokens.now c.loop-token.token-index h.are_left c.loop-token-test.false)

pub loop-token-preserved : goal.loop-token-preserved
loop-token-preserved g c =
    let h = c.loop-token.invariant in
    let given = from-next c.args.tokens.now c.loop-token.token-index h.are_left c.token-item.result
    c.loop-token-test.true c.token-item.is in
    elim c.match-last.branch [
      | in-Some+in-Some-opening w ↦ (
          let o = (let k = w.in-Some-opening.ensures in rw c.sign.ensures at k) in
          rw (w.found-is, w.at-is, w.line-is, w.within-is, c.sign.ensures) (name-mentioned
          g.K.Kind.white g.K.Kind.first g.K.Kind.is_end g.S.Signs.sign_of c.args.rule
          c.args.text.now h (AreFrom c.args.tokens.now (c.loop-token.token-index + 1))
          (tok_of c.token-item.result) given.0 given.1 given.2
          (signed_at w.in-Some.last) (ap (option_map signed_at) w.in-Some.is) _ _ _
          w.line_after-line.result o w.line_after-line.ensures)
          )
      | in-Some+in-None+in_ok-push_mention-in-None w ↦ (
          let none = (let k = w.in-None.ensures in rw c.sign.ensures at k) in
          let pushed = w.in_ok-push_mention-in-None.ensures in
          rw (w.found-is, w.at-is, w.line-is, w.within-is, c.sign.ensures, pushed) (token-mentioned
          g.K.Kind.white g.K.Kind.first g.K.Kind.is_end g.S.Signs.sign_of c.args.rule
          c.args.text.now h (AreFrom c.args.tokens.now (c.loop-token.token-index + 1))
          (tok_of c.token-item.result) given.0 given.1 given.2
          (signed_at w.in-Some.last) (ap (option_map signed_at) w.in-Some.is)
          w.line_after-line.result _ none w.line_after-line.ensures refl)
          )
      | in_default w ↦ rw (w.found-is, w.at-is, w.line-is, w.within-is, c.sign.ensures) (first-mentioned
          g.K.Kind.white g.K.Kind.first g.K.Kind.is_end g.S.Signs.sign_of c.args.rule
          c.args.text.now h (AreFrom c.args.tokens.now (c.loop-token.token-index + 1))
          (tok_of c.token-item.result) given.0 given.1 given.2
          (ap (option_map signed_at) w.in_default.is))
    ]

pub push_mention-requires : goal.push_mention-requires
push_mention-requires g c =
    let h = c.loop-token.invariant in
    let given = from-next c.args.tokens.now c.loop-token.token-index h.are_left c.token-item.result
    c.loop-token-test.true c.token-item.is in
    (last-after g.K.Kind.white g.K.Kind.first g.K.Kind.is_end g.S.Signs.sign_of c.args.rule c.args.text.now
    c.loop-token.invariant (AreFrom c.args.tokens.now (c.loop-token.token-index + 1))
    (tok_of c.token-item.result) given.0 given.1 given.2
    (signed_at c.in-Some.last) (ap (option_map signed_at) c.in-Some.is)).1

pub line_after-line-requires-clause-line : goal.line_after-line-requires-clause-line
line_after-line-requires-clause-line g c = c.loop-token.invariant.line_is

pub line_after-line-requires-clause-order : goal.line_after-line-requires-clause-order
line_after-line-requires-clause-order g c =
    let h = c.loop-token.invariant in
    let given = from-next c.args.tokens.now c.loop-token.token-index h.are_left c.token-item.result
    c.loop-token-test.true c.token-item.is in
    (last-after g.K.Kind.white g.K.Kind.first g.K.Kind.is_end g.S.Signs.sign_of c.args.rule c.args.text.now
    c.loop-token.invariant (AreFrom c.args.tokens.now (c.loop-token.token-index + 1))
    (tok_of c.token-item.result) given.0 given.1 given.2
    (signed_at c.in-Some.last) (ap (option_map signed_at) c.in-Some.is)).0

pub line_after-line-requires-clause-within : goal.line_after-line-requires-clause-within
line_after-line-requires-clause-within g c =
    let h = c.loop-token.invariant in
    let given = from-next c.args.tokens.now c.loop-token.token-index h.are_left c.token-item.result
    c.loop-token-test.true c.token-item.is in
    (last-after g.K.Kind.white g.K.Kind.first g.K.Kind.is_end g.S.Signs.sign_of c.args.rule c.args.text.now
    c.loop-token.invariant (AreFrom c.args.tokens.now (c.loop-token.token-index + 1))
    (tok_of c.token-item.result) given.0 given.1 given.2
    (signed_at c.in-Some.last) (ap (option_map signed_at) c.in-Some.is)).1
