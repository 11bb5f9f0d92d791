use Rattle.std.proofs.Common.{map}
use Rattle.std.specs.Prelude.{option_map}
use Rattle.diagnostics.specs.DefinitionHeads.{defined_at, signed_at}
use Rattle.diagnostics.proofs.KeptTokenLemmas.{AreFrom}
use Rattle.diagnostics.proofs.HeadsTakenLemmas.{HasTaken}
use Rattle.diagnostics.proofs.noteplaces.heads.heads_of.Given as goal

abbrev pub invariant-loop-token : goal.invariant-loop-token
invariant-loop-token g l = HasTaken g.K.Kind.white g.K.Kind.first g.K.Kind.is_end g.S.Signs.sign_of l.rule l.text
    (AreFrom l.tokens l.token-index) (option_map signed_at l.before) l.at l.line
    (map defined_at l.heads.items)
