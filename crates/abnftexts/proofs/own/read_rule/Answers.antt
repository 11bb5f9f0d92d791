use Rattle.std.proofs.Common.{◌≡◌, List, [], ◌∷◌, ◌++◌, ap, arith, length, length-append, rules}
use Rattle.std.proofs.lemmas.List.{length-map}
use Rattle.abnfread.specs.declared.definition.Definition.{Definition as CodeDefinition}
use Rattle.abnfread.specs.AbnfViews.{definition_from, definitions_from}
use Rattle.abnftexts.proofs.own.read_rule.Goals as goal

-- the last of one definition is that one
last-one : (front all : List CodeDefinition) (d : CodeDefinition) → all ≡ front ++ d ∷ [] → length all ≡ 1
    → definitions_from all ≡ definition_from d ∷ []
last-one [] all d e h = ap definitions_from e
last-one (x ∷ front) all d e h =
    let whole = ap length e in
    absurd (omega (arith, h, whole, length-append front (d ∷ [])))

pub returns-in-Err : goal.returns-in-Err
returns-in-Err c = λ d reads. c.one_reading.ensures.no_fault c.args.text.now (d ∷ []) c.in-Err._fault
    c.in-Err.ensures.fault (search rules) reads

pub returns-then-len-ne1 : goal.returns-then-len-ne1
returns-then-len-ne1 c = λ d reads.
    let same = c.one_reading.ensures.definitions c.args.text.now (definitions_from c.in-Ok.definitions.items)
    (d ∷ []) c.in-Ok.ensures.found reads in
    let size = ap length same in
    c.if-len-ne1.true (omega (
      arith,
      c.len.ensures,
      size,
      length-map c.in-Ok.definitions.items definition_from,
      c.in-Ok.definitions.ok,
    ))
