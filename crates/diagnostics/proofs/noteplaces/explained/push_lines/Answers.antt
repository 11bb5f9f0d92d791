-- The first use of its name, whatever the kind of the note.
use Rattle.std.proofs.Common.{◌≡◌, ◌++◌, ℕ, List, Option, map, ap, ◌∙◌, sym, refl}
use Rattle.std.proofs.lemmas.Result.{on_ok_weaker}
use Rattle.std.specs.Prelude.{option_copied}
use Rattle.diagnostics.specs.BodyMentions.{mentioned_at}
use Rattle.diagnostics.specs.DefinitionHeads.{defined_at}
use Rattle.diagnostics.specs.ExplainedNotes.{AreReportedBy, prose_by}
use Rattle.diagnostics.specs.FirstMentions.{RuleMention, uses_of}
use Rattle.diagnostics.specs.NoteLines.{lines_of, named}
use Rattle.diagnostics.specs.UseLines.{lines_by, prose_line}
use Rattle.diagnostics.specs.declared.noteplaces.positions.Positions.{Positions}
use Rattle.diagnostics.proofs.FirstMentionLemmas.{first-some}
use Rattle.ruletable.specs.Notes.{said}
use Rattle.ruletable.specs.declared.note.NoteKind.{NoteKind}
use Rattle.ruletable.specs.declared.note.NoteKind.TheVariants.{Undefined, Prose}
use Rattle.diagnostics.proofs.noteplaces.explained.push_lines.Goals as goal

module _ (positions : Positions) (start : Option (List ℕ)) (kind : NoteKind) (name : List ℕ) where
  abbrev reported : Option RuleMention → NoteKind → List ℕ
  reported first k = lines_by positions.names (map defined_at positions.heads.items)
      (map mentioned_at positions.mentions.items)
      start first k name

  reported-after : (why : List ℕ) → ((first : Option RuleMention) → why ≡ reported first kind)
      → AreReportedBy positions start (said kind name) why
  reported-after why e =
      let first = first-some positions.names (map defined_at positions.heads.items)
      (uses_of positions.names name (map mentioned_at positions.mentions.items)) in
      record { first = first.0; is_first = first.1; is = e first.0 }

  other-lines : (k : NoteKind) → (k ≡ Undefined → ⊥) → (k ≡ Prose → ⊥) → (first : Option RuleMention)
      → lines_of k (named positions.names name (map defined_at positions.heads.items)) ≡ reported first k
  other-lines Undefined n p first = absurd (n refl)
  other-lines Prose n p first = absurd (p refl)
  other-lines k n p first = refl

pub returns-in_ok-found-in-Prose : goal.returns-in_ok-found-in-Prose
returns-in_ok-found-in-Prose c =
    let positions = c.args.positions.now in
    let name : List ℕ = c.args.name.now in
    on_ok_weaker c.push_prose.result
    (λ e. (
      prose_line (prose_by positions name),
      reported-after positions (option_copied c.args.start) c.args.kind name _ (λ first.
          ap (reported positions (option_copied c.args.start) c.args.kind name first) (sym c.in-Prose.is)),
      e ∙ ap (λ m. c.args.out.now.items ++ prose_line m) c.in_ok-found-in-Prose.ensures,
    ))
    c.push_prose.ensures

pub returns-in_ok-heads-in_default : goal.returns-in_ok-heads-in_default
returns-in_ok-heads-in_default c =
    let positions = c.args.positions.now in
    let name : List ℕ = c.args.name.now in
    let heads = ap (map (λ h. defined_at h.now)) c.deref.ensures.value ∙ c.in_ok-heads-in_default.ensures in
    on_ok_weaker c.push_by_heads.result
    (λ e. (
      lines_of c.args.kind (named positions.names name (map defined_at positions.heads.items)),
      reported-after positions (option_copied c.args.start) c.args.kind name _
          (other-lines positions (option_copied c.args.start) c.args.kind name c.args.kind c.in_default.not-Undefined
          c.in_default.not-Prose),
      e ∙ ap (λ l. c.args.out.now.items ++ lines_of c.args.kind l) heads,
    ))
    c.push_by_heads.ensures
