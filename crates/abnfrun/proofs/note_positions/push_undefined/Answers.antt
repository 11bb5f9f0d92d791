use Rattle.std.proofs.Common.{List, ℕ, ◌++◌, append_assoc, ap, length, refl, sym, ◌∙◌}
use Rattle.std.proofs.lemmas.List.{length-map}
use Rattle.std.specs.Prelude.{option_copied}
use Rattle.abnfexplain.specs.AbnfNoteLines.{sign_of}
use Rattle.abnfexplain.specs.ChainLines.{chain_reported}
use Rattle.abnfread.specs.AbnfKinds.{ends_list}
use Rattle.abnfread.specs.AbnfSlices.{White, First}
use Rattle.abnfread.specs.AbnfViews.{rule_of}
use Rattle.diagnostics.proofs.ExplainedNoteLemmas.{positions-form}
use Rattle.ruletable.specs.declared.lines.LineRule.TheVariants.{Lf}
use Rattle.ruletable.specs.declared.table.NameCase.TheVariants.{Fold}
use Rattle.abnfrun.specs.AbnfNoted.{all_rules}
use Rattle.abnfrun.proofs.note_positions.push_undefined.Goals as goal

pub returns : goal.returns
returns c = λ text are.
    let start = option_copied c.args.start in
    let found = c.args.found.now in
    let rules = found.all.rules.rules in
    let many = c.len.ensures.len ∙ sym (length-map rules rule_of) ∙ ap length are.all in
    let m = c.in_ok-push_perhaps.ensures (all_rules are.definitions) start are.chains many in
    let w = c.in_ok-push_reached.ensures (all_rules are.definitions) start are.chains in (
      m.0 ++ chain_reported w.0,
      record {
        definitions = are.definitions;
        reads = are.reads;
        form = c.in_ok-form.form;
        meant = m.0;
        reach = chain_reported w.0;
        is_form = positions-form White First ends_list sign_of Lf Fold text found.positions start c.args.name.now
            c.in_ok-form.form are.positions c.in_ok-form.ensures;
        is_meant = m.1;
        is_reach = record {
          definitions = are.definitions;
          reads = are.reads;
          chain = w.0;
          is_chain = w.1;
          is = refl;
        };
        is = refl;
      },
      w.2 ∙ ap (λ (z : List ℕ). z ++ chain_reported w.0) m.2
          ∙ append_assoc c.args.out.now.items m.0 (chain_reported w.0),
    )
