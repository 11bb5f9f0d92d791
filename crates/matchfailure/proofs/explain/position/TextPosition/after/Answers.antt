use Rattle.std.proofs.Common.{length, arith}
use Rattle.matchfailure.proofs.PositionAfterLemmas.{ends-within, same-line, later-line, moved-position, line-within}
use Rattle.matchfailure.proofs.PositionAfterLemmas.{column-within, before-within}
use Rattle.matchfailure.proofs.explain.position.TextPosition.after.Goals as goal

pub overflow_add-result-2 : goal.overflow_add-result-2
overflow_add-result-2 c =
    let (front, is, less) = c.requires in
    let within = line-within front c.args.self is in
    let lines = ends-within c.args.bytes.now (length c.args.bytes.now) in
    let count = c.line_of-lines.ensures in
    omega (arith, within, lines, count, less)

pub overflow_add-result-else-before-bytes : goal.overflow_add-result-else-before-bytes
overflow_add-result-else-before-bytes c =
    let (front, is, less) = c.requires in
    let within = column-within front c.args.self is in
    let before = before-within c.args.bytes.now _ c.line_around-before.ensures.before in
    omega (arith, within, before, less)

pub returns-then-before-bytes : goal.returns-then-before-bytes
returns-then-before-bytes c front is =
    moved-position front c.args.bytes.now c.args.self _ _ is c.line_of-lines.ensures
    (later-line front c.args.bytes.now _ c.line_around-before.ensures.before c.if-before-bytes.true)

pub returns-else-before-bytes : goal.returns-else-before-bytes
returns-else-before-bytes c front is =
    moved-position front c.args.bytes.now c.args.self _ _ is c.line_of-lines.ensures
    (same-line front c.args.bytes.now c.args.self _ is c.line_around-before.ensures.before c.if-before-bytes.false)
