-- The automaton is of the flat grammar, or of one with loops, which judges alike.
use Rattle.std.proofs.Common.{◌∙◌, sym, subst}
use Rattle.std.specs.Prelude.{IfSome}
use Rattle.std.proofs.lemmas.Option.{IfSome_then}
use Rattle.abnfrun.proofs.JudgedAlikeLemmas.{judged_alike}
use Rattle.abnfrun.specs.JudgedAlike.{AreJudgedAlike, DeriveAlike}
use Rattle.abnfrun.proofs.line_judge.automaton_for.Goals as goal
use Rattle.ruletable.specs.Letters.{has}

pub returns-in-Ok : goal.returns-in-Ok
returns-in-Ok c =
    let asked = c.args.settings.now.options in
    let flat = c.args.flat.now in
    let same = c.in-Ok.ensures.limit ∙ sym c.requires.limit in
    let derive = subst (λ v. IfSome v (DeriveAlike c.args.grammar.now)) c.in-Ok-Some.field-0-is c.in-Ok-Some.ensures in
    let alike = judged_alike (has asked.letters) c.args.grammar.now c.in-Ok-Some.made derive
    c.items_decide.ensures.derives flat c.in-Ok.fast same asked.viable c.requires.lowered c.requires.prefixes
    c.in-Ok.ensures.lowered c.in-Ok.ensures.prefixes in
    IfSome_then c.automaton_of.result c.automaton_of.ensures
    (λ a is. subst (λ v. AreJudgedAlike (has asked.letters) asked.viable flat v) (sym is) alike)
