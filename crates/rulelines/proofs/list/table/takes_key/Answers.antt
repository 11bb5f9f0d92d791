use Rattle.std.proofs.Common.{sym, ◌∙◌}
use Rattle.std.proofs.lemmas.Option.{IfSome_then}
use Rattle.rulelines.proofs.FirstKeyLemmas.{never_reported, taken_reported}
use Rattle.rulelines.proofs.list.table.takes_key.Goals as goal
use Rattle.rulelines.proofs.list.table.takes_key.Goals.{then-not-has-via-then-not-has}
use Rattle.rulelines.proofs.list.table.takes_key.Goals.{then-not-has-via-else-not-has+then-key_of-key}

pub returns : goal.returns
returns c =
    IfSome_then c.can_end.result c.can_end.ensures (λ can reported.
    taken_reported c.args.table.now c.args.state c.in_ok-next.next c.symbol_at-symbol.result c.args.key c.args.rest can
    c.symbol_at-symbol.ensures (sym c.key_of.ensures ∙ c.if-key_of-key.false) c.in_ok-next.ensures reported)

pub returns-then-not-has : goal.returns-then-not-has
returns-then-not-has c = λ s is.
    never_reported c.args.table.now c.symbol_at-symbol.result c.args.key c.args.rest c.symbol_at-symbol.ensures
    (λ on same. elim c.then-not-has.branch [
      | then-not-has-via-then-not-has w ↦ (let off = sym c.has.ensures ∙ w.if-not-has.true in cc (on, off))
      | then-not-has-via-else-not-has+then-key_of-key w ↦ w.if-key_of-key.true (w.key_of.ensures ∙ same)
    ]) s
