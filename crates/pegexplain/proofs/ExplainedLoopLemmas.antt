-- The line of a rule's first loop, and that what explains a note is one text.
-- Serves: explain_peg_note, one_note_explanation
use Rattle.std.proofs.Common.{◌≡◌, ℕ, List, [], ◌++◌, length, Option, Some, None, refl, sym, ◌∙◌, ap, subst}
use Rattle.std.proofs.Common.{⊎_elim}
use Rattle.std.specs.Prelude.{slice_get}
use Rattle.std.proofs.lemmas.Bool.{cases_order}
use Rattle.diagnostics.specs.ExplainedNotes.{IsNoteExplained}
use Rattle.diagnostics.specs.MentionLines.{mention_lines_by}
use Rattle.diagnostics.specs.declared.noteplaces.mentions.MentionKind.TheVariants as kinds
use Rattle.diagnostics.specs.NearNames.{IsMeantIf}
use Rattle.diagnostics.proofs.ExplainedNoteLemmas.{positions-mention}
use Rattle.diagnostics.proofs.NearNamesLemmas.{meant-line-one}
use Rattle.gramcheck.specs.Uses.{rule_names}
use Rattle.pegread.specs.Definitions.{firsts}
use Rattle.pegread.specs.Kinds.{is_end}
use Rattle.pegread.specs.Pattern.{Pattern, Rule, body_of}
use Rattle.pegread.specs.PegViews.{pattern_of, rules_of}
use Rattle.pegread.specs.Reading.{Reads}
use Rattle.pegread.specs.Slices.{White, First}
use Rattle.pegread.specs.Tokens.{Tok, AreTokens}
use Rattle.pegread.specs.declared.expr.Expr.{Expr}
use Rattle.ruletable.specs.Notes.{Said}
use Rattle.ruletable.specs.Rules.{bodies_of, find_in}
use Rattle.ruletable.specs.declared.lines.LineRule.TheVariants.{Any}
use Rattle.ruletable.specs.declared.note.NoteKind.{NoteKind}
use Rattle.ruletable.specs.declared.note.NoteKind.TheVariants.{Redefined, ExtendedEarly, Undefined, Prose, Unused}
use Rattle.ruletable.specs.declared.note.NoteKind.TheVariants.{LeftRecursion, Loop}
use Rattle.ruletable.specs.declared.table.NameCase.TheVariants.{Exact}
use Rattle.pegexplain.specs.MeantRules.{is_early_name}
use Rattle.pegexplain.specs.NullTests.{IsLoopBy, null_mark_of}
use Rattle.pegexplain.specs.PegLoops.{IsFirstLoop, IsLoopLineIf, IsLoopOf, RepeatAt, repeat_reported, repeats_in}
use Rattle.pegexplain.specs.PegNotes.{
  ArePegPositions,
  ExplainsNote,
  IsFollowingLine,
  IsLoopReported,
  IsMeantReported,
  marked_lines,
  names_mentioned,
  sign_of,
}
use Rattle.pegexplain.specs.declared.positions.PegPositions.{PegPositions}
use Rattle.pegexplain.proofs.LeftNotesLemmas.{RoundsAreOne, left-reported-one}
use Rattle.pegexplain.proofs.NullTestsLemmas.{body-none, body-some, loop-reported}

module _ (rules : List Rule) (repeats : List Pattern) where
  first-one : (a b : RepeatAt) → IsFirstLoop rules repeats a → IsFirstLoop rules repeats b → a ≡ b
  first-one a b g h = ⊎_elim
      (λ (same : a.position ≡ b.position).
      let at : Some a.repeat ≡ Some b.repeat = sym g.there ∙ (ap (slice_get repeats) same ∙ h.there) in
      let e : a.repeat ≡ b.repeat = cc at in
      rw (same, e) refl)
      (λ less. ⊎_elim (λ lt. absurd (h.first a.position a.repeat lt g.there g.loops))
      (λ lt. absurd (g.first b.position b.repeat lt h.there h.loops)) less)
      (cases_order a.position b.position)

  loop-one : (a b : Option RepeatAt) → IsLoopOf rules repeats a → IsLoopOf rules repeats b → a ≡ b
  loop-one None None g h = refl
  loop-one None (Some b) g h = absurd (g b.position b.repeat h.there h.loops)
  loop-one (Some a) None g h = absurd (h a.position a.repeat g.there g.loops)
  loop-one (Some a) (Some b) g h = ap Some (first-one a b g h)

line-one : (rules : List Rule) (lines : List ℕ) (body : Option Pattern) (a b : List ℕ)
    → IsLoopLineIf rules lines body a → IsLoopLineIf rules lines body b → a ≡ b
line-one rules lines None a b g h = g ∙ sym h
line-one rules lines (Some body) a b g h =
    g.is ∙ (ap (repeat_reported lines) (loop-one rules _ g.found h.found g.is_first h.is_first) ∙ sym h.is)

-- the lines of positions are one text
abbrev pub LinesAreOne : Type 0
LinesAreOne = (text : List ℕ) (start : Option (List ℕ)) (note : Said) (a b : List ℕ)
    → IsNoteExplained White First is_end sign_of Any Exact text start note a
    → IsNoteExplained White First is_end sign_of Any Exact text start note b → a ≡ b

module _ (listing : (text : List ℕ) (a b : List Tok) → AreTokens (length text) text a → AreTokens (length text) text b
    → a ≡ b) (reading : (text : List ℕ) (a b : List Rule) → Reads text a → Reads text b → a ≡ b)
    (rounds : RoundsAreOne) (text : List ℕ) where
  reported-one : (name a b : List ℕ) → IsLoopReported text name a → IsLoopReported text name b → a ≡ b
  reported-one name a b g h =
      let tokens = listing text h.tokens g.tokens h.are_tokens g.are_tokens in
      let rules = reading text h.definitions g.definitions h.reads g.reads in
      line-one (firsts [] g.definitions) (marked_lines text g.tokens name) (body_of (firsts [] g.definitions) name) a b
      g.is
      (subst (λ ds. IsLoopLineIf (firsts [] ds) (marked_lines text g.tokens name) (body_of (firsts [] ds) name) b) rules
      (subst (λ ts. IsLoopLineIf (firsts [] h.definitions) (marked_lines text ts name)
      (body_of (firsts [] h.definitions) name) b) tokens h.is))

  meant-reported-one : (start : Option (List ℕ)) (name a b : List ℕ) → IsMeantReported text start name a
      → IsMeantReported text start name b → a ≡ b
  meant-reported-one start name a b g h =
      let tokens = listing text h.tokens g.tokens h.are_tokens g.are_tokens in
      let rules = reading text h.definitions g.definitions h.reads g.reads in
      meant-line-one _ (rule_names (firsts [] g.definitions)) name a b g.is
      (subst (λ ds. IsMeantIf (is_early_name start (rule_names (firsts [] ds)) (names_mentioned text g.tokens) name)
      (rule_names (firsts [] ds)) name b) rules
      (subst (λ ts. IsMeantIf (is_early_name start (rule_names (firsts [] h.definitions)) (names_mentioned text ts)
      name) (rule_names (firsts [] h.definitions)) name b) tokens h.is))

  after-one : (start : Option (List ℕ)) (kind : NoteKind) (name a b : List ℕ) → IsFollowingLine text start kind name a
      → IsFollowingLine text start kind name b → a ≡ b
  after-one start Redefined name a b g h = g ∙ sym h
  after-one start ExtendedEarly name a b g h = g ∙ sym h
  after-one start Undefined name a b g h = meant-reported-one start name a b g h
  after-one start Prose name a b g h = g ∙ sym h
  after-one start Unused name a b g h = g ∙ sym h
  after-one start LeftRecursion name a b g h = left-reported-one listing reading rounds text name a b g h
  after-one start Loop name a b g h = reported-one name a b g h

  pub peg-explained-one : LinesAreOne → (start : Option (List ℕ)) (note : Said) (a b : List ℕ)
      → ExplainsNote text start note a → ExplainsNote text start note b → a ≡ b
  peg-explained-one lines start note a b g h =
      g.is
      ∙ (ap (λ z. z ++ g.line) (lines text start note g.lines h.lines g.explains h.explains)
      ∙ (ap (λ z. h.lines ++ z) (after-one start note.kind note.name g.line h.line g.after h.after) ∙ sym h.is))

-- the line for a rule that the code finds, or not
module _ (text : List ℕ) (found : PegPositions) (name : List ℕ) (are : ArePegPositions text found) where
  pub reported-none : find_in found.rules name ≡ None → IsLoopReported text name []
  reported-none is = record {
    tokens = are.positions.tokens;
    are_tokens = are.positions.are_tokens;
    definitions = are.rules.definitions;
    reads = are.rules.reads;
    is = subst (λ (rs : List Rule). IsLoopLineIf rs (marked_lines text are.positions.tokens name) (body_of rs name) [])
        are.rules.rules_are
        (subst (λ (b : Option Pattern). IsLoopLineIf (rules_of found.rules)
        (marked_lines text are.positions.tokens name)
        b []) (sym (body-none found.rules are.rules.exact name is)) refl);
  }

  pub reported-some : (id : ℕ) (e : Expr) (lines : List ℕ) (loop : Option RepeatAt) → find_in found.rules name ≡ Some id
      → slice_get (bodies_of found.rules) id ≡ Some e → lines ≡ mention_lines_by found.positions kinds.Repeat name
      → IsLoopBy (null_mark_of found.rules found.nulls.items) (repeats_in (pattern_of e)) loop
      → IsLoopReported text name (repeat_reported lines loop)
  reported-some id e lines loop is at marked first = record {
    tokens = are.positions.tokens;
    are_tokens = are.positions.are_tokens;
    definitions = are.rules.definitions;
    reads = are.rules.reads;
    is = subst (λ (rs : List Rule). IsLoopLineIf rs (marked_lines text are.positions.tokens name) (body_of rs name)
        (repeat_reported lines loop)) are.rules.rules_are
        (subst (λ (b : Option Pattern). IsLoopLineIf (rules_of found.rules)
        (marked_lines text are.positions.tokens name)
        b (repeat_reported lines loop)) (sym (body-some found.rules are.rules.exact name id e is at)) (record {
          found = loop;
          is_first = loop-reported found.rules found.nulls.items are.rules.exact are.marks
              (repeats_in (pattern_of e)) loop
              first;
          is = ap (λ (ls : List ℕ). repeat_reported ls loop) (marked
              ∙ positions-mention White First is_end sign_of Any Exact text
              found.positions kinds.Repeat name are.positions);
        }));
  }

-- the line follows notes of one kind
pub line-after : (text : List ℕ) (start : Option (List ℕ)) (kind : NoteKind) (name line : List ℕ) → kind ≡ Loop
    → IsLoopReported text name line → IsFollowingLine text start kind name line
line-after text start kind name line is reported = rw is reported
