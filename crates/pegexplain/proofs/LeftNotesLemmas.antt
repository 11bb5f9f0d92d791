-- What follows a note on a left-recursive rule, and that it is one text.
-- Serves: explain_peg_note, one_note_explanation
use Rattle.std.proofs.Common.{◌≡◌, ◌<◌, ◌≤◌, ◌+◌, ℕ, zero, suc, Bool, true, false, List, [], ◌∷◌, length, map}
use Rattle.std.proofs.Common.{Option, Some, None, refl, sym, ap, ◌∙◌, subst, arith, bytes_eq, if◌then◌else◌, nat_lt}
use Rattle.std.specs.Prelude.{slice_get, slice_index_or}
use Rattle.std.proofs.lemmas.Bool.{le-ltb, lt-ltb}
use Rattle.std.proofs.lemmas.List.{length-map}
use Rattle.fixpoint.specs.NumberMarks.{IsMarked}
use Rattle.fixpoint.proofs.IsMarkedLemmas.{marked_lt}
use Rattle.diagnostics.specs.DefinitionHeads.{defined_at, definitions_in, sign_at}
use Rattle.diagnostics.specs.MentionLines.{mention_lines_by}
use Rattle.diagnostics.specs.NoteLines.{defined_line}
use Rattle.diagnostics.specs.declared.noteplaces.mentions.MentionKind.TheVariants as kinds
use Rattle.diagnostics.proofs.ExplainedNoteLemmas.{positions-mention}
use Rattle.ruletable.specs.Rules.{find_in}
use Rattle.ruletable.specs.declared.lines.LineRule.TheVariants.{Any}
use Rattle.ruletable.specs.declared.note.NoteKind.{NoteKind}
use Rattle.ruletable.specs.declared.note.NoteKind.TheVariants.{LeftRecursion}
use Rattle.ruletable.specs.declared.table.NameCase.{NameCase}
use Rattle.ruletable.specs.declared.table.NameCase.TheVariants.{Exact}
use Rattle.ruletable.proofs.TableLemmas.{position-map}
use Rattle.gramcheck.specs.GrammarNotes.{AreMarks}
use Rattle.gramcheck.specs.Left.{IsLeftRecursive}
use Rattle.pegread.specs.Definitions.{firsts, id_in}
use Rattle.pegread.specs.Kinds.{is_end}
use Rattle.pegread.specs.Pattern.{Pattern, Rule}
use Rattle.pegread.specs.PegViews.{pattern_of, rule_of, rules_of}
use Rattle.pegread.specs.Reading.{Reads}
use Rattle.pegread.specs.Slices.{White, First}
use Rattle.pegread.specs.Tokens.{Tok, AreTokens}
use Rattle.fixpoint.specs.ShortChains.{IsRoundIfAny}
use Rattle.pegexplain.specs.LeftLines.{left_steps, way_reported}
use Rattle.pegexplain.specs.LeftNotes.{AreLeftLines, IsWayOr, SettlesNullable, is_early, set_before}
use Rattle.pegexplain.specs.LeftUses.{left_row}
use Rattle.pegexplain.specs.NullTests.{null_mark_of, nullable_by}
use Rattle.pegexplain.specs.PegNotes.{
  ArePegPositions,
  IsLeftReported,
  IsFollowingLine,
  defined_lines,
  named_lines,
  sign_of,
}
use Rattle.pegexplain.specs.declared.left_notes.TheConstants.{MAX_WAYS}
use Rattle.pegexplain.specs.declared.positions.PegPositions.{PegPositions}
use Rattle.pegexplain.proofs.LeftSameLemmas.{own-rows, rows-same, way-same}
use Rattle.pegexplain.proofs.LeftWithinLemmas.{found-below}
use Rattle.pegexplain.proofs.NullTestsLemmas.{null-reported, reported-null}

-- one truth value holds as the other does
pub bits-same : (a b : Bool) → (a ≡ true → b ≡ true) → (b ≡ true → a ≡ true) → a ≡ b
bits-same true b f g = sym (f refl)
bits-same false true f g = g refl
bits-same false false f g = refl

-- one way back is reported at most
abbrev pub RoundsAreOne : Type 0
RoundsAreOne = (rows : List (List ℕ)) (id : ℕ) (a b : Option (List ℕ)) → IsRoundIfAny rows id a
    → IsRoundIfAny rows id b → a ≡ b

module _ (rules : List Rule) where
  null-same : (null other : Pattern → Bool) → SettlesNullable rules null → SettlesNullable rules other → (e : Pattern)
      → null e ≡ other e
  null-same null other g h e =
      bits-same (null e) (other e) (λ t. (h e).1 ((g e).0 t)) (λ t. (g e).1 ((h e).0 t))

  mark-goes : (P : Rule → Type 0) (marks others : List Bool) → AreMarks P rules marks → AreMarks P rules others
      → (id : ℕ) → IsMarked marks id → IsMarked others id
  mark-goes P marks others g h id marked =
      let lt = marked_lt marks id marked in
      let count = g.count in
      let there = at rules id (omega (arith, lt, count)) in
      (h.exact id there.0 there.1).1 ((g.exact id there.0 there.1).0 marked)
    where
      at : (rs : List Rule) (i : ℕ) → i < length rs → (r : Rule) × (slice_get rs i ≡ Some r)
      at [] i less = absurd (omega (arith, less))
      at (r ∷ rs) zero less = (r, refl)
      at (r ∷ rs) (suc i) less = at rs i (omega (arith, less))

  module _ (P : Rule → Type 0) (marks others : List Bool) (g : AreMarks P rules marks)
      (h : AreMarks P rules others) where
    before-one : (n : ℕ) → set_before marks n ≡ set_before others n
    before-one zero = refl
    before-one (suc n) =
        ap (λ (k : ℕ). k + (if slice_index_or marks n false then 1 else 0)) (before-one n)
        ∙ ap (λ (b : Bool). set_before others n + (if b then 1 else 0)) (bits-same (slice_index_or marks n false)
        (slice_index_or others n false) (mark-goes P marks others g h n) (mark-goes P others marks h g n))

    early-one : (id : ℕ) → is_early marks id ≡ is_early others id
    early-one id = ap (λ (k : ℕ). nat_lt k MAX_WAYS) (before-one id)

  module _ (rounds : RoundsAreOne) (null other : Pattern → Bool) (reports : SettlesNullable rules null)
      (same : SettlesNullable rules other) (lines : List ℕ → List ℕ) (defined : List ℕ) where
    way-one : (id : ℕ) (early : Bool) (a b : List ℕ) → IsWayOr rules null lines defined id early a
        → IsWayOr rules other lines defined id early b → a ≡ b
    way-one id true a b g h =
        let alike = null-same null other reports same in
        let steps : left_steps rules null ≡ left_steps rules other =
        rows-same null other alike (id_in rules) (id_in rules) (λ n. refl) rules in
        let chains = rounds (left_steps rules other) id g.chain h.chain
        (subst (λ (rows : List (List ℕ)). IsRoundIfAny rows id g.chain) steps g.is_round) h.is_round in
        g.is ∙ ap (way_reported rules null lines id) chains
        ∙ way-same null other alike lines lines (λ n. refl) rules id h.chain ∙ sym h.is
    way-one id false a b g h = g ∙ sym h

    left-lines-one : (marks others : List Bool) → AreMarks (IsLeftRecursive rules) rules marks
        → AreMarks (IsLeftRecursive rules) rules others → (id : Option ℕ) (a b : List ℕ)
        → AreLeftLines rules null lines defined marks id a → AreLeftLines rules other lines defined others id b → a ≡ b
    left-lines-one marks others m n None a b g h = g ∙ sym h
    left-lines-one marks others m n (Some id) a b g h =
        way-one id (is_early others id) a b
        (subst (λ (early : Bool). IsWayOr rules null lines defined id early a)
        (early-one (IsLeftRecursive rules) marks others m n id) g) h

module _ (listing : (text : List ℕ) (a b : List Tok) → AreTokens (length text) text a → AreTokens (length text) text b
    → a ≡ b) (reading : (text : List ℕ) (a b : List Rule) → Reads text a → Reads text b → a ≡ b)
    (rounds : RoundsAreOne) (text : List ℕ) where
  pub left-reported-one : (name a b : List ℕ) → IsLeftReported text name a → IsLeftReported text name b → a ≡ b
  left-reported-one name a b g h =
      let tokens = listing text h.tokens g.tokens h.are_tokens g.are_tokens in
      let rules = reading text h.definitions g.definitions h.reads g.reads in
      left-lines-one (firsts [] g.definitions) rounds g.null h.null g.reports
      (subst (λ (ds : List Rule). SettlesNullable (firsts [] ds) h.null) rules h.reports) (named_lines text g.tokens)
      (defined_lines text g.tokens name) g.recursive h.recursive g.are_recursive
      (subst (λ (ds : List Rule). AreMarks (IsLeftRecursive (firsts [] ds)) (firsts [] ds) h.recursive) rules
      h.are_recursive) (id_in (firsts [] g.definitions) name) a b g.is
      (subst (λ (ds : List Rule). AreLeftLines (firsts [] ds) h.null (named_lines text g.tokens)
      (defined_lines text g.tokens name) h.recursive (id_in (firsts [] ds) name) b) rules
      (subst (λ (ts : List Tok). AreLeftLines (firsts [] h.definitions) h.null (named_lines text ts)
      (defined_lines text ts name) h.recursive (id_in (firsts [] h.definitions) name) b) tokens h.is))

-- what the code finds for a rule
module _ (text : List ℕ) (found : PegPositions) (are : ArePegPositions text found) where
  abbrev null_by : Pattern → Bool
  null_by = nullable_by (null_mark_of found.rules found.nulls.items)

  ids-agree : (name : List ℕ) → find_in found.rules name ≡ id_in (rules_of found.rules) name
  ids-agree name = (let exact = are.rules.exact in
      rw exact (sym (position-map rule_of (λ (rule : Rule). bytes_eq name rule.name) found.rules.rules)))

  -- whether a rule is among the first ones
  module _ (name : List ℕ) (id : ℕ) (is : find_in found.rules name ≡ Some id) where
    id-marked : id < length found.recursive.items
    id-marked =
        let lt = found-below found.rules name id is in
        let count = are.recursive.count in
        let rows = length-map found.rules.rules rule_of in
        omega (arith, lt, count, rows)

    pub early-by : id < found.ways → is_early found.recursive.items id ≡ true
    early-by lt = sym (are.ways id id-marked) ∙ lt-ltb id found.ways lt

    pub late-by : found.ways ≤ id → is_early found.recursive.items id ≡ false
    late-by le = sym (are.ways id id-marked) ∙ le-ltb id found.ways le

  module _ (name reported : List ℕ) where
    pub left-reported : (o : Option ℕ) → find_in found.rules name ≡ o → AreLeftLines (rules_of found.rules) null_by
        (named_lines text are.positions.tokens) (defined_lines text are.positions.tokens name) found.recursive.items o
        reported
        → IsLeftReported text name reported
    left-reported o is lines = record {
      tokens = are.positions.tokens;
      are_tokens = are.positions.are_tokens;
      definitions = are.rules.definitions;
      reads = are.rules.reads;
      null = null_by;
      reports = subst (λ (rs : List Rule). SettlesNullable rs null_by) are.rules.rules_are (λ e. (
        null-reported found.rules found.nulls.items are.rules.exact are.marks e,
        (λ t. reported-null found.rules found.nulls.items are.rules.exact are.marks t),
      ));
      recursive = found.recursive.items;
      are_recursive = subst (λ (rs : List Rule). AreMarks (IsLeftRecursive rs) rs found.recursive.items)
          are.rules.rules_are are.recursive;
      is = subst (λ (rs : List Rule). AreLeftLines rs null_by (named_lines text are.positions.tokens)
          (defined_lines text are.positions.tokens name) found.recursive.items (id_in rs name) reported)
          are.rules.rules_are
          (subst (λ (id : Option ℕ). AreLeftLines (rules_of found.rules) null_by (named_lines text are.positions.tokens)
          (defined_lines text are.positions.tokens name) found.recursive.items id reported)
          (sym is ∙ ids-agree name) lines);
    }

    positions-defined : defined_line found.positions.names (map defined_at found.positions.heads.items) name
        ≡ defined_lines text are.positions.tokens name
    positions-defined =
        ap (λ ds. defined_line found.positions.names ds name) are.positions.heads_are
        ∙ ap (λ (c : NameCase). defined_line c
        (definitions_in Any text (map (sign_at sign_of) are.positions.tokens)) name)
        are.positions.names_are

    -- where it is defined
    pub reported-defined : (id : ℕ) → find_in found.rules name ≡ Some id → is_early found.recursive.items id ≡ false
        → reported ≡ defined_line found.positions.names (map defined_at found.positions.heads.items) name
        → IsLeftReported text name reported
    reported-defined id is late e =
        left-reported (Some id) is
        (subst (λ (early : Bool). IsWayOr (rules_of found.rules) null_by (named_lines text are.positions.tokens)
        (defined_lines text are.positions.tokens name) id early reported) (sym late) (e ∙ positions-defined))

    -- the way back
    pub reported-way : (id : ℕ) (chain : Option (List ℕ)) → find_in found.rules name ≡ Some id
        → is_early found.recursive.items id ≡ true
        → IsRoundIfAny (map (λ rule. left_row (find_in found.rules) null_by (pattern_of rule.body)) found.rules.rules)
        id chain → reported ≡ way_reported (rules_of found.rules) null_by
        (mention_lines_by found.positions kinds.Use) id chain
        → IsLeftReported text name reported
    reported-way id chain is early round e =
        let steps : map (λ rule. left_row (find_in found.rules) null_by (pattern_of rule.body)) found.rules.rules
        ≡ left_steps (rules_of found.rules) null_by =
        own-rows null_by null_by (λ d. refl) (find_in found.rules) (id_in (rules_of found.rules)) ids-agree
        found.rules.rules in
        left-reported (Some id) is
        (subst (λ (b : Bool). IsWayOr (rules_of found.rules) null_by (named_lines text are.positions.tokens)
        (defined_lines text are.positions.tokens name) id b reported) (sym early) (record {
          chain = chain;
          is_round = subst (λ (rows : List (List ℕ)). IsRoundIfAny rows id chain) steps round;
          is = e ∙ way-same null_by null_by (λ d. refl)
              (mention_lines_by found.positions kinds.Use) (named_lines text are.positions.tokens)
              (λ n. positions-mention White First is_end sign_of Any Exact text found.positions kinds.Use n
              are.positions)
              (rules_of found.rules) id chain;
        }))

-- it follows notes on such rules
pub left-after : (text : List ℕ) (start : Option (List ℕ)) (kind : NoteKind) (name line : List ℕ)
    → kind ≡ LeftRecursion → IsLeftReported text name line → IsFollowingLine text start kind name line
left-after text start kind name line is reported = rw is reported
