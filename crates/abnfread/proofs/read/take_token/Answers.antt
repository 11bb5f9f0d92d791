use Rattle.std.proofs.Common.{sym, ◌∙◌}
use Rattle.abnfread.specs.AbnfReader.{config_of}
use Rattle.abnfread.proofs.HasTakenLemmas.{taken-said, large-taken, large-hopeless, none-said, some-not_bad}
use Rattle.abnfread.proofs.HasTakenLemmas.{fault-not_bad}
use Rattle.abnfread.proofs.SaysKindLemmas.{said-there}
use Rattle.abnfread.proofs.read.take_token.Goals as goal

pub returns-in-Ok-Some : goal.returns-in-Ok-Some
returns-in-Ok-Some c =
    let t = c.args.token in
    let reported = rw c.in-Ok-Some.field-0-is at c.in-Ok-Some.is in
    let there = said-there t.token.kind t.token.slice.now t.token.span c.requires
    (some-not_bad c.said_in.ensures.bad reported) in
    taken-said (config_of c.args.reader.now) t.token.kind t.token.slice.now t.token.span t.gap t.first c.in-Ok-Some.said
    there.0 _ c.take.new.self there.1
    (rw reported at c.said_in.ensures.says there.0 there.1) c.take.ensures

pub returns-in-Ok-None : goal.returns-in-Ok-None
returns-in-Ok-None c =
    let t = c.args.token in
    let reported = rw c.in-Ok-None.field-0-is at c.in-Ok-None.is in
    none-said (config_of c.args.reader.now) t.token.kind t.token.slice.now t.token.span t.gap t.first
    (λ s h. (rw reported at c.said_in.ensures.says s h))

pub returns-then-takes_number : goal.returns-then-takes_number
returns-then-takes_number c =
    let t = c.args.token in
    let reported = rw c.in-Err-TooLarge.field-0-is at c.in-Err-TooLarge.is in
    let there = said-there t.token.kind t.token.slice.now t.token.span c.requires
    (fault-not_bad c.said_in.ensures.bad reported) in
    let takes = rw c.is_repeat.ensures at c.takes_number.ensures in
    large-taken (config_of c.args.reader.now) t.token.kind t.token.slice.now t.token.span t.gap t.first there.0 there.1
    (rw reported at c.said_in.ensures.says there.0 there.1) (sym takes ∙ c.if-takes_number.true)

pub returns-else-takes_number : goal.returns-else-takes_number
returns-else-takes_number c =
    let t = c.args.token in
    let reported = rw c.in-Err-TooLarge.field-0-is at c.in-Err-TooLarge.is in
    let there = said-there t.token.kind t.token.slice.now t.token.span c.requires
    (fault-not_bad c.said_in.ensures.bad reported) in
    let takes = rw c.is_repeat.ensures at c.takes_number.ensures in
    large-hopeless (config_of c.args.reader.now) t.token.kind t.token.slice.now t.token.span t.gap t.first there.0
    there.1
    (rw reported at c.said_in.ensures.says there.0 there.1) (sym takes ∙ c.if-takes_number.false)
