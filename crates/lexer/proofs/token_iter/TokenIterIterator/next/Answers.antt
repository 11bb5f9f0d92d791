use Rattle.std.proofs.Common.{arith}
use Rattle.lexer.proofs.TokenListLemmas.{end-shorter, next-made, gives-first}
use Rattle.lexer.proofs.token_iter.TokenIterIterator.next.Goals as goal

pub overflow_sub-size : goal.overflow_sub-size
overflow_sub-size g c = end-shorter (c.are_cut.ensures.ends _ _ _ c.first_token-kind.ensures)

pub overflow_sub-start : goal.overflow_sub-start
overflow_sub-start g c = end-shorter (c.are_cut.ensures.white _ _ c.after_white-text.ensures.white).part

pub overflow_add-end : goal.overflow_add-end
overflow_add-end g c =
    let a = end-shorter (c.are_cut.ensures.ends _ _ _ c.first_token-kind.ensures) in
    let b = end-shorter (c.are_cut.ensures.white _ _ c.after_white-text.ensures.white).part in
    let f = c.args.self.now.fits in
    omega arith

pub invariant_of-self : goal.invariant_of-self
invariant_of-self g c =
    let a = end-shorter (c.are_cut.ensures.ends _ _ _ c.first_token-kind.ensures) in
    let b = end-shorter (c.are_cut.ensures.white _ _ c.after_white-text.ensures.white).part in
    let f = c.args.self.now.fits in
    record { fits = omega arith }

pub returns-clause-steps : goal.returns-clause-steps
returns-clause-steps g c =
    let laws = c.are_cut.ensures in
    let w = (laws.white _ _ c.after_white-text.ensures.white).part in
    let f = laws.ends _ _ _ c.first_token-kind.ensures in
    let a = end-shorter w in
    let b = end-shorter f in
    gives-first g.K.Kind.white g.K.Kind.first g.K.Kind.is_end laws.one (
      omega arith,
      (
        c.if-self.false,
        next-made g.K.Kind.white g.K.Kind.first g.K.Kind.is_end c.args.self.now.start w f
            c.after_white-text.ensures.white c.first_token-kind.ensures,
        c.is_last-self.ensures,
      ),
    )
