-- The definitions so far are listed, and one more.
use Rattle.std.proofs.Common.{◌<◌, ◌++◌, ◌∷◌, [], Bool, List, ℕ, ap, length, sym, ◌∙◌, arith, if◌then◌else◌}
use Rattle.ruletable.specs.Rules.{same_name}
use Rattle.ruletable.specs.declared.table.NameCase.{NameCase}
use Rattle.diagnostics.specs.NameIndexes.{is_called}
use Rattle.diagnostics.specs.NumberLists.{numbers_for}
use Rattle.diagnostics.specs.declared.noteplaces.heads.Head.{Head}
use Rattle.diagnostics.proofs.NumberListsLemmas.{lists-more, lists-none}
use Rattle.diagnostics.proofs.noteplaces.name_index.heads_by_name.Goals as goal

pub loop-position-init : goal.loop-position-init
loop-position-init c = record {
  compares = c.new-lists.ensures.names;
  each = lists-none (is_called c.args.names) c.args.heads.now c.new-lists.result c.new-lists.ensures.rules;
}

pub loop-position-preserved : goal.loop-position-preserved
loop-position-preserved c =
    let so_far = c.loop-position.invariant in
    let within : c.loop-position.position < length c.args.heads.now = omega arith in
    record {
      compares = c.in_ok-add_number.ensures.names ∙ so_far.compares;
      each = lists-more (is_called c.args.names) c.args.heads.now c.loop-position.lists c.add_number.new.lists
          c.loop-position.position c.index-heads-position.result within c.index-heads-position.is so_far.each
          (λ name. c.in_ok-add_number.ensures.added name
          ∙ ap (λ (same : Bool). numbers_for c.loop-position.lists name
          ++ (if same then c.loop-position.position ∷ [] else []))
          (ap (λ (word : List ℕ). same_name c.loop-position.lists.names name word)
          (c.deref.ensures.value ∙ ap (λ (h : Head). h.name.items) (sym c.index-heads-position.is))
          ∙ ap (λ (case : NameCase). same_name case name c.index-heads-position.result.name.items) so_far.compares));
    }
