-- The names that a text mentions, and the line of the rule that is perhaps meant.
-- Serves: peg_positions, explain_peg_note
use Rattle.std.proofs.Common.{◌≡◌, ◌+◌, ◌<◌, ◌||◌, ℕ, Bool, true, false, List, [], ◌∷◌, ◌++◌, length, map, take}
use Rattle.std.proofs.Common.{Option, refl, sym, ap, ◌∙◌, subst, get_or, add-one, append_assoc, append-nil}
use Rattle.std.proofs.Common.{arith, ◌≤◌}
use Rattle.std.specs.List.{filter}
use Rattle.std.specs.Prelude.{position}
use Rattle.std.proofs.Math.Seq.{take-suc}
use Rattle.std.proofs.lemmas.List.{length-map, map-append, take_all}
use Rattle.std.proofs.lemmas.List.Elements.{filter-append}
use Rattle.diagnostics.specs.BodyMentions.{MentionedAt, is_kind, mentioned_at}
use Rattle.diagnostics.specs.NearNames.{IsMeant, IsMeantIf, is_before_limit, meant_reported}
use Rattle.diagnostics.specs.UseLines.{is_given}
use Rattle.diagnostics.specs.declared.noteplaces.mentions.Mention.{Mention}
use Rattle.diagnostics.specs.declared.noteplaces.mentions.MentionKind.TheVariants.{Use}
use Rattle.gramcheck.proofs.RuleNameLemmas.{names-same}
use Rattle.gramcheck.specs.Uses.{rule_names}
use Rattle.pegread.specs.Pattern.{Rule}
use Rattle.pegread.specs.PegViews.{rules_of}
use Rattle.fixpoint.proofs.IsAddedLemmas.{found_in}
use Rattle.fixpoint.proofs.IsScannedLemmas.{news_append}
use Rattle.fixpoint.specs.FirstUses.{news}
use Rattle.fixpoint.specs.NameUses.{IsAdded}
use Rattle.ruletable.specs.Rules.{Rules, names_of, same_name}
use Rattle.ruletable.specs.declared.note.NoteKind.{NoteKind}
use Rattle.ruletable.specs.declared.note.NoteKind.TheVariants.{Undefined}
use Rattle.ruletable.specs.declared.table.NameCase.{NameCase}
use Rattle.ruletable.specs.declared.table.NameCase.TheVariants.{Exact}
use Rattle.pegexplain.specs.MeantRules.{all_names, is_early_name, used_names}
use Rattle.pegexplain.specs.PegNotes.{ArePegPositions, IsFollowingLine, IsMeantReported, is_early_by, names_mentioned}
use Rattle.pegexplain.specs.declared.positions.PegPositions.{PegPositions}

abbrev text_at : MentionedAt → List ℕ
text_at m = m.text

abbrev is_use : MentionedAt → Bool
is_use m = is_kind Use m.kind

used-one : (m : MentionedAt) → is_kind Use m.kind ≡ true → used_names (m ∷ []) ≡ m.text ∷ []
used-one m h = rw h refl

used-none : (m : MentionedAt) → is_kind Use m.kind ≡ false → used_names (m ∷ []) ≡ []
used-none m h = rw h refl

-- the names of some mentions, and of one more
module _ (mentions : List Mention) (i : ℕ) (d : Mention) (lt : i < length mentions) where
  abbrev now : List MentionedAt
  now = map mentioned_at (take i mentions)

  abbrev more : MentionedAt
  more = mentioned_at (get_or mentions i d)

  used-more : used_names (map mentioned_at (take (i + 1) mentions)) ≡ used_names now ++ used_names (more ∷ [])
  used-more =
      ap (λ (k : ℕ). used_names (map mentioned_at (take k mentions))) (add-one i)
      ∙ ap (λ (ms : List Mention). used_names (map mentioned_at ms)) (take-suc mentions i d lt)
      ∙ ap used_names (map-append mentioned_at (take i mentions) (get_or mentions i d ∷ []))
      ∙ ap (λ (ms : List MentionedAt). map text_at ms) (filter-append is_use now (more ∷ []))
      ∙ map-append text_at (filter is_use now) (filter is_use (more ∷ []))

  -- a name that is used
  pub names-more : (known : List (List ℕ)) (old new : Rules (Unit {0})) (id : ℕ) → old.names ≡ Exact
      → names_of old ≡ all_names known (used_names now) → is_kind Use more.kind ≡ true
      → (word : List ℕ) → word ≡ more.text → IsAdded old new word id
      → (new.names ≡ Exact)
      × (names_of new ≡ all_names known (used_names (map mentioned_at (take (i + 1) mentions))))
  names-more known old new id exact are kind word same put =
      let added = subst (λ (v : List ℕ). IsAdded old new v id) same put in (
        added.case ∙ exact,
        added.all
            ∙ ap (λ (c : NameCase). names_of old ++ news c (names_of old) (more.text ∷ [])) exact
            ∙ ap (λ (ns : List (List ℕ)). ns ++ news Exact ns (more.text ∷ [])) are
            ∙ append_assoc known (news Exact known (used_names now)) (news Exact (all_names known (used_names now))
            (more.text ∷ []))
            ∙ ap (λ (ns : List (List ℕ)). known ++ ns) (sym (news_append Exact known (used_names now) (more.text ∷ [])))
            ∙ ap (λ (ns : List (List ℕ)). all_names known (used_names now ++ ns)) (sym (used-one more kind))
            ∙ ap (all_names known) (sym used-more),
      )

  -- what is none
  pub names-same-on : (known names : List (List ℕ)) → names ≡ all_names known (used_names now)
      → is_kind Use more.kind ≡ false
      → names ≡ all_names known (used_names (map mentioned_at (take (i + 1) mentions)))
  names-same-on known names are kind =
      are
      ∙ ap (all_names known) (sym (append-nil (used_names now)))
      ∙ ap (λ (ns : List (List ℕ)). all_names known (used_names now ++ ns)) (sym (used-none more kind))
      ∙ ap (all_names known) (sym used-more)

-- the line that the code adds
module _ (text : List ℕ) (start : Option (List ℕ)) (found : PegPositions) (name : List ℕ)
    (are : ArePegPositions text found) where
  early-is : is_early_by start found name ≡ is_early_name start (rule_names (rules_of found.rules))
      (names_mentioned text are.positions.tokens) name
  early-is =
      ap (λ (o : Option ℕ). is_given Exact start name || is_before_limit (length found.rules.rules) o)
      (found_in found.names name
      ∙ ap (λ (c : NameCase). position (same_name c name) (names_of found.names)) are.compares
      ∙ ap (λ (ns : List (List ℕ)). position (same_name Exact name) ns) (are.named
      ∙ ap (λ (ms : List MentionedAt). all_names (names_of found.rules) (used_names ms)) are.positions.mentions_are
      ∙ ap (λ (ns : List (List ℕ)). all_names ns (names_mentioned text are.positions.tokens))
      (sym (names-same found.rules))))
      ∙ ap (λ (n : ℕ). is_given Exact start name || is_before_limit n (position (same_name Exact name)
      (all_names (rule_names (rules_of found.rules)) (names_mentioned text are.positions.tokens))))
      (sym (length-map found.rules.rules (λ rule. rule.name)) ∙ ap length (sym (names-same found.rules)))

  reported-line : (line : List ℕ)
      → IsMeantIf (is_early_by start found name) (rule_names (rules_of found.rules)) name line
      → IsMeantReported text start name line
  reported-line line is = record {
    tokens = are.positions.tokens;
    are_tokens = are.positions.are_tokens;
    definitions = are.rules.definitions;
    reads = are.rules.reads;
    is = subst (λ (rs : List Rule). IsMeantIf (is_early_name start (rule_names rs)
        (names_mentioned text are.positions.tokens) name) (rule_names rs) name line) are.rules.rules_are
        (subst (λ (b : Bool). IsMeantIf b (rule_names (rules_of found.rules)) name line) early-is is);
  }

  pub late-reported : is_early_by start found name ≡ false → IsMeantReported text start name []
  late-reported late = reported-line [] (subst (λ (b : Bool). IsMeantIf b (rule_names (rules_of found.rules)) name [])
      (sym late) refl)

  pub near-reported : (count : ℕ) (o : Option (List ℕ)) → count ≡ length found.rules.rules
      → is_early_by start found name ≡ true → IsMeant name (take count (names_of found.rules)) o
      → IsMeantReported text start name (meant_reported o)
  near-reported count o many soon meant = reported-line (meant_reported o)
      (subst (λ (b : Bool). IsMeantIf b (rule_names (rules_of found.rules)) name (meant_reported o)) (sym soon)
      (o, subst (λ (ns : List (List ℕ)). IsMeant name ns o) (take-whole ∙ sym (names-same found.rules)) meant, refl))
    where
      whole : length (names_of found.rules) ≤ count
      whole = omega (arith, many, length-map found.rules.rules (λ rule. rule.name))

      take-whole : take count (names_of found.rules) ≡ names_of found.rules
      take-whole = take_all count (names_of found.rules) whole

-- it follows notes of one kind
pub near-after : (text : List ℕ) (start : Option (List ℕ)) (kind : NoteKind) (name line : List ℕ) → kind ≡ Undefined
    → IsMeantReported text start name line → IsFollowingLine text start kind name line
near-after text start kind name line is reported = rw is reported
