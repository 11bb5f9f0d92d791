-- The mentions so far are listed, and one more.
use Rattle.std.proofs.Common.{◌<◌, ◌++◌, ◌∷◌, [], length, ◌∙◌, ap, arith, append-nil, sym, Bool, ℕ, List}
use Rattle.std.proofs.Common.{if◌then◌else◌}
use Rattle.ruletable.specs.Rules.{same_name}
use Rattle.ruletable.specs.declared.table.NameCase.{NameCase}
use Rattle.diagnostics.specs.NameIndexes.{is_called, stands_under}
use Rattle.diagnostics.specs.NumberLists.{numbers_for}
use Rattle.diagnostics.specs.declared.noteplaces.heads.Head.{Head}
use Rattle.diagnostics.proofs.NumberListsLemmas.{lists-more, lists-none}
use Rattle.diagnostics.proofs.RisingStartsLemmas.{any-found, passes_if}
use Rattle.diagnostics.proofs.noteplaces.name_index.bodies_by_name.Goals as goal
use Rattle.diagnostics.proofs.noteplaces.name_index.bodies_by_name.Goals.{in-Some+in_ok-add_number, in_default}

pub loop-position-init : goal.loop-position-init
loop-position-init c = record {
  compares = c.new-lists.ensures.names;
  each = lists-none (stands_under c.args.names c.args.heads.now) c.args.mentions.now c.new-lists.result
      c.new-lists.ensures.rules;
}

pub loop-position-preserved : goal.loop-position-preserved
loop-position-preserved c =
    let so_far = c.loop-position.invariant in
    let within : c.loop-position.position < length c.args.mentions.now = omega arith in
    let mention = c.index-mentions-position.result in
    let heads = c.args.heads.now in
    let old = c.loop-position.lists in
    let at = c.loop-position.position in
    let found = λ (name : List ℕ). any-found (λ (h : Head). h.start) mention.within (is_called c.args.names name) 0
    heads c.requires in
    elim c.match-head_at.branch [
      | in-Some+in_ok-add_number w ↦ record {
        compares = ap (λ t. t.names) w.lists-is ∙ w.in_ok-add_number.ensures.names ∙ so_far.compares;
        each = λ name. ap (λ t. numbers_for t name) w.lists-is
            ∙ lists-more (stands_under c.args.names heads) c.args.mentions.now old w.add_number.new.lists at mention
            within c.index-mentions-position.is so_far.each
            (λ other. w.in_ok-add_number.ensures.added other
            ∙ ap (λ (same : Bool). numbers_for old other ++ (if same then at ∷ [] else []))
            (ap (λ (word : List ℕ). same_name old.names other word) w.deref.ensures.value
            ∙ ap (λ (case : NameCase). same_name case other w.in-Some.head.now.name.items) so_far.compares
            ∙ sym (found other ∙ ap (passes_if (is_called c.args.names other)) (sym w.in-Some.ensures)))) name;
      }
      | in_default w ↦ record {
        compares = ap (λ t. t.names) w.lists-is ∙ so_far.compares;
        each = λ name. ap (λ t. numbers_for t name) w.lists-is
            ∙ lists-more (stands_under c.args.names heads) c.args.mentions.now old old at mention within
            c.index-mentions-position.is so_far.each
            (λ other. sym (append-nil (numbers_for old other))
            ∙ ap (λ (b : Bool). numbers_for old other ++ (if b then at ∷ [] else []))
            (sym (found other ∙ ap (passes_if (is_called c.args.names other)) (sym w.in_default.ensures)))) name;
      }
    ]
