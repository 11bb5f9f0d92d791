-- All rules begin with those of the file.
use Rattle.std.proofs.Common.{◌∙◌, ap, arith, length, subst, sym, length-append}
use Rattle.std.specs.Prelude.{option_copied}
use Rattle.std.proofs.lemmas.List.{length-map}
use Rattle.ruletable.specs.Rules.{names_of}
use Rattle.abnfread.specs.AbnfViews.{rule_of, rules_of}
use Rattle.abnfcheck.specs.AbnfGrammar.{IsSound}
use Rattle.abnfcheck.specs.AbnfNotes.{judged_in, IsRefused}
use Rattle.abnfcheck.proofs.AbnfNotesLemmas.{judged_where, sound_unless_refused}
use Rattle.abnfcheck.proofs.WithCoreLemmas.{extends_file, names_begin}
use Rattle.abnfcheck.proofs.abnf_check.judge_abnf.Goals as goal

pub found_in-requires-clause-folds : goal.found_in-requires-clause-folds
found_in-requires-clause-folds c = ap (λ t. t.names) c.in_ok-rules.ensures
    ∙ (extends_file c.args.abnf.rules c.args.abnf.core.rules).names ∙ c.args.abnf.folds

pub found_in-requires-clause-count : goal.found_in-requires-clause-count
found_in-requires-clause-count c =
    let e = extends_file c.args.abnf.rules c.args.abnf.core.rules in
    let l = ap (λ t. length t.rules) c.in_ok-rules.ensures ∙ ap length e.is
    ∙ length-append c.args.abnf.rules.rules e.more in
    omega (arith, l, c.len-count.ensures.len)

pub returns-then-found-clause-notes : goal.returns-then-found-clause-notes
returns-then-found-clause-notes c =
    let e = extends_file c.args.abnf.rules c.args.abnf.core.rules in
    rw (c.in_ok-rules.ensures, c.deref.ensures.value, c.deref-2.ensures.value) at
    (c.in_ok-found.ensures.notes (rules_of c.args.abnf.rules) _ (length-map c.args.abnf.rules.rules rule_of
    ∙ sym c.len-count.ensures.len)
    (ap names_of c.in_ok-rules.ensures ∙ names_begin c.args.abnf.rules _ e))

pub returns-then-found-clause-judged : goal.returns-then-found-clause-judged
returns-then-found-clause-judged c =
    let reports = c.in_ok-found.ensures.refused (rules_of c.args.abnf.rules) (length-map c.args.abnf.rules.rules rule_of
    ∙ sym c.len-count.ensures.len) in
    rw c.deref.ensures.value at (reports.0 c.if-found.true)

pub returns-clause-notes : goal.returns-clause-notes
returns-clause-notes c =
    let e = extends_file c.args.abnf.rules c.args.abnf.core.rules in
    rw (c.in_ok-rules.ensures, c.deref.ensures.value, c.deref-2.ensures.value) at
    (c.in_ok-found.ensures.notes (rules_of c.args.abnf.rules) _ (length-map c.args.abnf.rules.rules rule_of
    ∙ sym c.len-count.ensures.len)
    (ap names_of c.in_ok-rules.ensures ∙ names_begin c.args.abnf.rules _ e))

pub returns-clause-judged : goal.returns-clause-judged
returns-clause-judged c =
    let reports = rw c.deref.ensures.value at
    (c.in_ok-found.ensures.refused (rules_of c.args.abnf.rules) (length-map c.args.abnf.rules.rules rule_of
    ∙ sym c.len-count.ensures.len)) in
    let passes : IsRefused (rules_of c.args.abnf.rules) (rules_of c.in_ok-rules.rules) c.args.abnf.redefined.items
    (judged_in (option_copied c.args.rule) (rules_of c.in_ok-rules.rules)) → ⊥ =
    λ h. let yes = reports.1 h in let no = c.if-found.false in absurd (cc (yes, no)) in
    let sound = sound_unless_refused (rules_of c.args.abnf.rules) (rules_of c.in_ok-rules.rules) _
    (option_copied c.args.rule) passes in
    let at = judged_where _ _ _ sound.judged_is_rule c.in_ok-found.ensures.judged in (
      passes,
      sym at,
      record {
        folds = ap (λ t. t.names) c.in_ok-rules.ensures
            ∙ (extends_file c.args.abnf.rules c.args.abnf.core.rules).names ∙ c.args.abnf.folds;
        sound = subst (λ v. IsSound (rules_of c.in_ok-rules.rules) v) at sound;
      },
    )
