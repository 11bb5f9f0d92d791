-- The names of the rules are there first, and each mention adds its name if it is used.
use Rattle.std.proofs.Common.{◌≡◌, ap, append-nil, sym, ◌∙◌, true, false}
use Rattle.diagnostics.specs.BodyMentions.{is_kind}
use Rattle.diagnostics.specs.declared.noteplaces.mentions.Mention.{Mention}
use Rattle.diagnostics.specs.declared.noteplaces.mentions.MentionKind.TheVariants.{Use}
use Rattle.ruletable.specs.Rules.{names_of}
use Rattle.pegexplain.proofs.MeantRulesLemmas.{names-more, names-same-on}
use Rattle.pegexplain.proofs.meant.all_names.Goals as goal
use Rattle.pegexplain.proofs.meant.all_names.Goals.{then-is_use+in_ok-add_name, else-is_use}

pub loop-mention-init : goal.loop-mention-init
loop-mention-init c = record {
  compares = c.in_ok-names.ensures.case;
  all = c.in_ok-names.ensures.names ∙ sym (append-nil (names_of c.args.rules.now));
}

pub loop-mention-preserved : goal.loop-mention-preserved
loop-mention-preserved c =
    let so_far = c.loop-mention.invariant in
    let within = c.loop-mention-test.true in
    let mention = c.mention-item.result in
    let at = c.loop-mention.mention-index in
    let ms = c.args.mentions.now in
    let old = c.loop-mention.names in
    let known = names_of c.args.rules.now in
    elim c.if-is_use.branch [
      | then-is_use+in_ok-add_name w ↦
          let used : is_kind Use mention.kind ≡ true = sym c.is_use.ensures ∙ w.if-is_use.true in
          let next = names-more ms at mention within known old w.add_name.new.names w.in_ok-add_name.field-0
          so_far.compares so_far.all (ap (λ (m : Mention). is_kind Use m.kind) (sym c.mention-item.is) ∙ used)
          w.deref.result.now (w.deref.ensures.value ∙ ap (λ (m : Mention). m.text.items) c.mention-item.is)
          w.in_ok-add_name.ensures in
          record {
            compares = ap (λ t. t.names) w.names-is ∙ next.0;
            all = ap names_of w.names-is ∙ next.1;
          }
      | else-is_use w ↦
          let unused : is_kind Use mention.kind ≡ false = sym c.is_use.ensures ∙ w.if-is_use.false in
          record {
            compares = ap (λ t. t.names) w.names-is ∙ so_far.compares;
            all = ap names_of w.names-is
                ∙ names-same-on ms at mention within known (names_of old) so_far.all
                (ap (λ (m : Mention). is_kind Use m.kind) (sym c.mention-item.is) ∙ unused);
          }
    ]
