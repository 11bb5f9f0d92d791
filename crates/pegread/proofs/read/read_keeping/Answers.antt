use Rattle.std.proofs.Common.{ap, length, arith}
use Rattle.std.proofs.lemmas.List.{length-map}
use Rattle.pegread.specs.Steps.{rule_from}
use Rattle.pegread.proofs.GrammarMachineLemmas.{grammar-some}
use Rattle.pegread.proofs.read.read_keeping.Goals as goal

pub unreachable-requires : goal.unreachable-requires
unreachable-requires c =
    let read = c.in_ok-take_tokens.ensures.found in
    c.in_default.ensures.done read.0 read.2

pub peg_of-requires : goal.peg_of-requires
peg_of-requires c =
    let read = c.in_ok-take_tokens.ensures.found in
    let same = c.in-Some.ensures.done read.0 read.2 in
    omega (
      arith,
      grammar-some read.1.grammar,
      ap length same,
      length-map c.in-Some.definitions.items rule_from,
    )
