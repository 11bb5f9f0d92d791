use Rattle.std.proofs.Common.{◌++◌, ◌∙◌, ap, append_assoc, ℕ, List}
use Rattle.diagnostics.specs.MentionLines.{mention_lines_by}
use Rattle.pegread.specs.PegViews.{rules_of}
use Rattle.pegexplain.specs.BodyLeaves.{lone_ends}
use Rattle.pegexplain.specs.HeldDefinitions.{held_definitions}
use Rattle.pegexplain.specs.PegHints.{ends_reported, helds_reported}
use Rattle.pegexplain.proofs.PegHintsLemmas.{positions-hint}
use Rattle.pegexplain.proofs.hints.reported.peg_hints.Goals as goal

pub returns : goal.returns
returns c =
    let positions = c.args.positions.now in
    let hidden = rw (
      c.new-reported.ensures.items,
      c.deref-3.ensures.value,
      c.in_ok-hints.ensures,
      c.deref.ensures.value,
      c.deref-2.ensures.value,
    ) at c.in_ok-push_first_hints.ensures in
    let lines = mention_lines_by positions.positions in
    let helds = helds_reported lines (held_definitions (rules_of positions.rules)) in
    let ends = ends_reported lines (lone_ends (rules_of positions.rules)) in
    λ text are. positions-hint text positions are c.push_lone_ends.new.out.items
    (c.in_ok-push_lone_ends.ensures
    ∙ ap (λ (z : List ℕ). z ++ ends) (c.in_ok-push_held_definitions.ensures ∙ ap (λ (z : List ℕ). z ++ helds) hidden)
    ∙ append_assoc _ helds ends)
