-- The uses so far are listed, and one mention more.
use Rattle.std.proofs.Common.{◌≡◌, ◌<◌, ◌&&◌, ◌++◌, ◌∷◌, [], length, ◌∙◌, ap, arith, append-nil, sym}
use Rattle.std.proofs.Common.{Bool, true, false, ℕ, List}
use Rattle.std.proofs.Common.{if◌then◌else◌}
use Rattle.ruletable.specs.Rules.{same_name}
use Rattle.ruletable.specs.declared.table.NameCase.{NameCase}
use Rattle.diagnostics.specs.BodyMentions.{is_kind}
use Rattle.diagnostics.specs.NameIndexes.{uses_name}
use Rattle.diagnostics.specs.NumberLists.{numbers_for}
use Rattle.diagnostics.specs.declared.noteplaces.mentions.MentionKind.TheVariants.{Use}
use Rattle.diagnostics.proofs.NumberListsLemmas.{lists-more, lists-none}
use Rattle.diagnostics.proofs.noteplaces.name_index.uses_by_name.Goals as goal
use Rattle.diagnostics.proofs.noteplaces.name_index.uses_by_name.Goals.{then-is_kind+in_ok-add_number, else-is_kind}

pub loop-position-init : goal.loop-position-init
loop-position-init c = record {
  compares = c.new-lists.ensures.names;
  each = lists-none (uses_name c.args.names) c.args.mentions.now c.new-lists.result c.new-lists.ensures.rules;
}

pub loop-position-preserved : goal.loop-position-preserved
loop-position-preserved c =
    let so_far = c.loop-position.invariant in
    let within : c.loop-position.position < length c.args.mentions.now = omega arith in
    let mention = c.index-mentions-position.result in
    let old = c.loop-position.lists in
    let at = c.loop-position.position in
    elim c.if-is_kind.branch [
      | then-is_kind+in_ok-add_number w ↦
          let used : is_kind Use mention.kind ≡ true = sym c.is_kind.ensures ∙ w.if-is_kind.true in
          record {
            compares = ap (λ t. t.names) w.lists-is ∙ w.in_ok-add_number.ensures.names ∙ so_far.compares;
            each = λ name. ap (λ t. numbers_for t name) w.lists-is
                ∙ lists-more (uses_name c.args.names) c.args.mentions.now old w.add_number.new.lists at mention within
                c.index-mentions-position.is so_far.each
                (λ other. w.in_ok-add_number.ensures.added other
                ∙ ap (λ (same : Bool). numbers_for old other ++ (if same then at ∷ [] else []))
                (ap (λ (word : List ℕ). same_name old.names other word) w.deref.ensures.value
                ∙ ap (λ (case : NameCase). same_name case other mention.text.items) so_far.compares
                ∙ ap (λ (b : Bool). b && same_name c.args.names other mention.text.items) (sym used))) name;
          }
      | else-is_kind w ↦
          let unused : is_kind Use mention.kind ≡ false = sym c.is_kind.ensures ∙ w.if-is_kind.false in
          record {
            compares = ap (λ t. t.names) w.lists-is ∙ so_far.compares;
            each = λ name. ap (λ t. numbers_for t name) w.lists-is
                ∙ lists-more (uses_name c.args.names) c.args.mentions.now old old at mention within
                c.index-mentions-position.is so_far.each
                (λ other. sym (append-nil (numbers_for old other))
                ∙ ap (λ (b : Bool). numbers_for old other
                ++ (if b && same_name c.args.names other mention.text.items then at ∷ [] else [])) (sym unused)) name;
          }
    ]
