use Rattle.std.proofs.Common.{List, ℕ, ◌++◌, append_assoc, ap, refl, ◌∙◌, Option}
use Rattle.std.proofs.lemmas.Result.{on_ok_weaker}
use Rattle.std.specs.Prelude.{option_map}
use Rattle.abnfexplain.specs.AbnfNoteLines.{sign_of}
use Rattle.abnfexplain.specs.ChainLines.{chain_reported}
use Rattle.abnfread.specs.AbnfKinds.{ends_list}
use Rattle.abnfread.specs.AbnfSlices.{White, First}
use Rattle.abnfread.specs.AbnfViews.{rules_of}
use Rattle.abnfread.specs.Element.{Rule}
use Rattle.diagnostics.proofs.ExplainedNoteLemmas.{positions-prose}
use Rattle.diagnostics.specs.BodyMentions.{MentionedAt}
use Rattle.diagnostics.specs.ExplainedNotes.{prose_by}
use Rattle.ruletable.specs.declared.lines.LineRule.TheVariants.{Lf}
use Rattle.ruletable.specs.declared.table.NameCase.TheVariants.{Fold}
use Rattle.abnfrun.specs.AbnfExplainedNotes.{named_line}
use Rattle.abnfrun.specs.AbnfNoted.{all_rules}
use Rattle.abnfrun.proofs.AbnfExplainedNotesLemmas.{prose_text}
use Rattle.abnfrun.proofs.note_positions.push_after_prose.Goals as goal

pub returns : goal.returns
returns c =
    let positions = c.args.found.now.positions in
    let name : List ℕ = c.args.name.now in
    let out : List ℕ = c.args.out.now.items in
    let prose : Option (List ℕ) = option_map (λ (m : MentionedAt). m.text) (prose_by positions name) in
    on_ok_weaker c.push_reached.result
    (λ reached text start are.
    let w = reached (all_rules are.definitions) start are.chains in
    let own = prose_text c.in_ok-prose.prose
    ∙ ap (option_map (λ (m : MentionedAt). m.text)) c.in_ok-prose.ensures in
    let pushed = c.in_ok-push_named.ensures
    ∙ ap (λ (p : Option (List ℕ)). out ++ named_line (rules_of c.args.found.now.all.rules) p) own
    ∙ ap (λ (rs : List Rule). out ++ named_line rs prose) are.all in (
      named_line (all_rules are.definitions) prose ++ chain_reported w.0,
      record {
        definitions = are.definitions;
        reads = are.reads;
        prose = prose;
        reach = chain_reported w.0;
        is_prose = positions-prose White First ends_list sign_of Lf Fold text positions name are.positions;
        is_reach = record {
          definitions = are.definitions;
          reads = are.reads;
          chain = w.0;
          is_chain = w.1;
          is = refl;
        };
        is = refl;
      },
      w.2 ∙ ap (λ (z : List ℕ). z ++ chain_reported w.0) pushed
          ∙ append_assoc out (named_line (all_rules are.definitions) prose) (chain_reported w.0),
    )) c.push_reached.ensures
