use Rattle.std.proofs.Common.{None, [], map, sym, ◌∙◌, append-nil, refl}
use Rattle.diagnostics.specs.DefinitionHeads.{defined_at}
use Rattle.diagnostics.specs.MentionLines.{mention_lines_by}
use Rattle.diagnostics.specs.NoteLines.{defined_line}
use Rattle.diagnostics.specs.declared.noteplaces.mentions.MentionKind.TheVariants as kinds
use Rattle.pegread.specs.PegViews.{rules_of}
use Rattle.pegexplain.specs.LeftLines.{way_reported}
use Rattle.pegexplain.specs.NullTests.{null_mark_of, nullable_by}
use Rattle.pegexplain.proofs.LeftNotesLemmas.{early-by, late-by, left-reported, reported-defined, reported-way}
use Rattle.pegexplain.proofs.left_notes.push_left.Goals as goal

pub returns-in_default : goal.returns-in_default
returns-in_default c = λ text are. (
  [],
  left-reported text c.args.positions.now are c.args.name.now [] None (sym c.in_ok-id.ensures.found ∙ c.in_default.is)
      refl,
  sym (append-nil c.args.out.now.items),
)

pub returns-in_ok-push_way : goal.returns-in_ok-push_way
returns-in_ok-push_way c = λ text are.
    let w = c.in_ok-push_way.ensures in (
      way_reported (rules_of c.args.positions.now.rules)
          (nullable_by (null_mark_of c.args.positions.now.rules c.args.positions.now.nulls.items))
          (mention_lines_by c.args.positions.now.positions kinds.Use) c.in-Some.id w.0,
      reported-way text c.args.positions.now are c.args.name.now _ c.in-Some.id w.0
          (sym c.in_ok-id.ensures.found ∙ c.in-Some.is)
          (early-by text c.args.positions.now are c.args.name.now c.in-Some.id
          (sym c.in_ok-id.ensures.found ∙ c.in-Some.is) c.if-id-positions.true) w.1 refl,
      w.2,
    )

pub returns-in_ok-push_definition : goal.returns-in_ok-push_definition
returns-in_ok-push_definition c = λ text are. (
  defined_line c.args.positions.now.positions.names
      (map defined_at c.args.positions.now.positions.heads.items) c.args.name.now,
  reported-defined text c.args.positions.now are c.args.name.now _ c.in-Some.id
      (sym c.in_ok-id.ensures.found ∙ c.in-Some.is)
      (late-by text c.args.positions.now are c.args.name.now c.in-Some.id
      (sym c.in_ok-id.ensures.found ∙ c.in-Some.is) c.if-id-positions.false) refl,
  c.in_ok-push_definition.ensures,
)
