use Rattle.std.proofs.Common.{refl}
use Rattle.lexer.proofs.TokenListLemmas.{left-at_start, left-first}
use Rattle.abnfread.specs.AbnfKinds.{ends_list}
use Rattle.abnfread.specs.AbnfSlices.{White, First}
use Rattle.abnfread.proofs.IndentLemmas.{margin-is}
use Rattle.abnfread.proofs.marked.abnf_tokens.Goals as goal

pub returns-clause-left : goal.returns-clause-left
returns-clause-left c = λ ts h. record {
  tokens = ts;
  left = rw c.new.ensures.inner (left-at_start White First ends_list c.tokens.result c.tokens.ensures h);
  same = rw (
    c.new.ensures.text,
    c.new.ensures.margin,
    c.new.ensures.end,
    c.indent_at.ensures,
    margin-is c.args.text.now c.after_white.result.now ts h c.after_white.ensures.white c.after_white.ensures.all,
  )
      refl;
}

pub returns-clause-all : goal.returns-clause-all
returns-clause-all c = λ ms h.
    let l = h.left in
    let are = left-first White First ends_list c.tokens.result c.args.text.now h.tokens c.tokens.ensures
    (rw c.new.ensures.inner at l) in
    let margin = margin-is c.args.text.now c.after_white.result.now h.tokens are c.after_white.ensures.white
    c.after_white.ensures.all in
    let same = h.same in
    record {
      tokens = h.tokens;
      are_tokens = are;
      same =
          rw margin
          (rw (c.new.ensures.text, c.new.ensures.margin, c.new.ensures.end, c.indent_at.ensures) at same);
    }
