use Rattle.abnfread.specs.AbnfViews.{rules_of}
use Rattle.abnftexts.specs.JoinRun.{grammar_form}
use Rattle.abnftexts.specs.JoinedViews.{grammar_joined}
use Rattle.abnftexts.specs.declared.joined.JoinForm.TheVariants.{Plain}
use Rattle.abnfx.proofs.JoinRunLemmas.{canonical-written, fault-stops, grammar-no_list, plain-written}
use Rattle.abnfx.proofs.join.write_grammar.Goals as goal

pub write_canonical-requires-clause-text : goal.write_canonical-requires-clause-text
write_canonical-requires-clause-text g c =
    let found = c.in-Ok.ensures.found in
    canonical-written (grammar_joined c.args.joined.now) c.deref.result.now found.0 (rules_of c.in-Ok.abnf.rules)
    c.requires.some c.deref.ensures.value found.1 found.2.kept

pub returns-in-Ok : goal.returns-in-Ok
returns-in-Ok g c =
    let found = c.in-Ok.ensures.found in
    rw c.if-is_canonical.false (c.write_text.ensures Plain
    (plain-written (grammar_joined c.args.joined.now) c.deref.result.now c.deref-else-is_canonical.result.now found.0
    c.requires.some c.deref.ensures.value found.1 c.deref-else-is_canonical.ensures.value))

pub returns : goal.returns
returns g c = fault-stops (grammar_form c.args.is_canonical) (grammar_joined c.args.joined.now) c.deref.result.now
    c.in-Err.fault c.stop_at.result _ _ (grammar-no_list c.args.is_canonical) c.requires.some c.deref.ensures.value
    c.in-Err.ensures.fault c.stop_at.ensures
