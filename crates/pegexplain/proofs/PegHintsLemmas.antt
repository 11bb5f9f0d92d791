-- What is reported of hints, and that it is one text.
-- Serves: peg_hints, one_text_of_hints
use Rattle.std.proofs.Common.{◌≡◌, ℕ, zero, suc, ◌+◌, ◌-◌, ◌<◌, min, Bool, List, [], ◌∷◌, ◌++◌, length, get_or, map}
use Rattle.std.proofs.Common.{take}
use Rattle.std.proofs.Common.{refl, Option, Some, None}
use Rattle.std.proofs.Common.{sym, ap, subst, ◌∙◌, append_assoc, append-nil, arith, add-one}
use Rattle.std.proofs.lemmas.List.{length-map, take-map, take_min}
use Rattle.std.proofs.lemmas.Option.{slice_get-map}
use Rattle.std.specs.List.{flat_map}
use Rattle.std.specs.Prelude.{option_map, slice_get}
use mathlib.Core.Path.{fun_ext}
use Rattle.diagnostics.specs.MentionLines.{mention_lines_by}
use Rattle.diagnostics.specs.NoteLines.{more_reported}
use Rattle.diagnostics.specs.declared.noteplaces.mentions.MentionKind.{MentionKind}
use Rattle.diagnostics.proofs.ExplainedNoteLemmas.{positions-mention}
use Rattle.pegnodes.proofs.OwnIdLemmas.{body_at_id}
use Rattle.pegread.specs.Definitions.{firsts}
use Rattle.pegread.specs.Kinds.{is_end}
use Rattle.pegread.specs.Pattern.{Pattern, Rule, body_of}
use Rattle.pegread.specs.PegViews.{pattern_of, rule_of, rules_of}
use Rattle.pegread.specs.Reading.{Reads}
use Rattle.pegread.specs.Slices.{White, First}
use Rattle.pegread.specs.Tokens.{Tok, AreTokens}
use Rattle.pegread.specs.declared.expr.Expr.{Expr}
use Rattle.ruletable.specs.Rules as table
use Rattle.ruletable.specs.Rules.{bodies_of, find_in}
use Rattle.ruletable.specs.declared.lines.LineRule.TheVariants.{Any}
use Rattle.ruletable.specs.declared.table.NameCase.TheVariants.{Exact}
use Rattle.pegexplain.specs.CodeHints.{literal_at, pattern_at}
use Rattle.pegexplain.specs.FailsNowhere.{SettlesSure}
use Rattle.pegexplain.specs.HiddenAlternatives.{HiddenBy, literal_if, named_literal}
use Rattle.pegexplain.specs.LeftNotes.{SettlesNullable}
use Rattle.pegexplain.specs.NullTests.{null_mark_of, nullable_by}
use Rattle.pegexplain.specs.BodyLeaves.{lone_ends}
use Rattle.pegexplain.specs.HeldDefinitions.{held_definitions}
use Rattle.pegexplain.specs.PegHints.{ArePegHints, ends_reported, helds_reported, hint_line, hints_of, hints_reported}
use Rattle.pegexplain.specs.PegHints.{kind_lines}
use Rattle.pegexplain.specs.PegHints.{rule_reported}
use Rattle.pegexplain.specs.PegNotes.{ArePegPositions, sign_of}
use Rattle.pegexplain.specs.SureNodes.{sure_by}
use Rattle.pegexplain.specs.declared.hints.lines.TheConstants.{MAX_HINTS}
use Rattle.pegexplain.specs.declared.positions.PegPositions.{PegPositions}
use Rattle.pegexplain.proofs.LeftNotesLemmas.{bits-same}
use Rattle.pegexplain.proofs.NullTestsLemmas.{body-none, is-id, null-reported, reported-null}
use Rattle.pegexplain.proofs.SureTestsLemmas.{reported-sure, sure-reported}

module _ {C A : Type 0} (found : C → A) (f : A → List ℕ) where
  reported-after : (hints : List C) (n : ℕ) (d : C) → n < length hints → flat_map f (map found (take (suc n) hints))
      ≡ flat_map f (map found (take n hints)) ++ f (found (get_or hints n d))
  reported-after [] n d lt = absurd (omega (arith, lt))
  reported-after (h ∷ hints) zero d lt = append-nil (f (found h))
  reported-after (h ∷ hints) (suc n) d lt =
      ap (λ (z : List ℕ). f (found h) ++ z) (reported-after hints n d (omega (arith, lt)))
      ∙ sym (append_assoc (f (found h)) (flat_map f (map found (take n hints))) (f (found (get_or hints n d))))

  -- one hint more
  pub reported-more : (hints : List C) (n : ℕ) (d : C) (all old new : List ℕ) → n < length hints
      → new ≡ old ++ f (found (get_or hints n d)) → old ≡ all ++ flat_map f (map found (take n hints))
      → new ≡ all ++ flat_map f (map found (take (n + 1) hints))
  reported-more hints n d all old new lt more before =
      let here = f (found (get_or hints n d)) in
      more ∙ ap (λ (z : List ℕ). z ++ here) before
      ∙ append_assoc all (flat_map f (map found (take n hints))) here
      ∙ ap (λ (z : List ℕ). all ++ z) (sym (reported-after hints n d lt))
      ∙ ap (λ (k : ℕ). all ++ flat_map f (map found (take k hints))) (sym (add-one n))

  min-turned : (a b : ℕ) → min a b ≡ min b a
  min-turned a b = omega arith

  -- the first ones, and how many more there are
  pub first-reported : (hints : List C) (k : ℕ) (old out new : List ℕ) → k ≡ min (length hints) MAX_HINTS
      → out ≡ old ++ flat_map f (map found (take k hints)) → new ≡ out ++ more_reported (length hints - k)
      → new ≡ old ++ (flat_map f (take MAX_HINTS (map found hints))
      ++ more_reported (length (map found hints) - MAX_HINTS))
  first-reported hints k old out new shown first rest =
      let long = length-map hints found in
      let left : length hints - k ≡ length (map found hints) - MAX_HINTS = omega (arith, shown, long) in
      let front : flat_map f (map found (take k hints)) ≡ flat_map f (take MAX_HINTS (map found hints)) =
      ap (λ (n : ℕ). flat_map f (map found (take n hints))) (shown ∙ min-turned (length hints) MAX_HINTS)
      ∙ ap (λ (hs : List C). flat_map f (map found hs)) (take_min MAX_HINTS hints)
      ∙ ap (λ (hs : List A). flat_map f hs) (sym (take-map found MAX_HINTS hints)) in
      rest ∙ ap (λ (z : List ℕ). z ++ more_reported (length hints - k)) (first
      ∙ ap (λ (z : List ℕ). old ++ z) front)
      ∙ append_assoc old (flat_map f (take MAX_HINTS (map found hints))) (more_reported (length hints - k))
      ∙ ap (λ (n : ℕ). old ++ (flat_map f (take MAX_HINTS (map found hints)) ++ more_reported n)) left

-- pieces, one after the other
pub three-join : (o a b c x y z : List ℕ) → a ≡ o ++ x → b ≡ a ++ y → c ≡ b ++ z → c ≡ o ++ (x ++ (y ++ z))
three-join o a b c x y z f g h =
    let whole : c ≡ ((o ++ x) ++ y) ++ z = rw (h, g, f) refl in
    whole ∙ simp append_assoc

pub four-join : (o a b c d x y z u : List ℕ) → a ≡ o ++ x → b ≡ a ++ y → c ≡ b ++ z → d ≡ c ++ u
    → d ≡ o ++ (x ++ (y ++ (z ++ u)))
four-join o a b c d x y z u f g h k =
    let whole : d ≡ (((o ++ x) ++ y) ++ z) ++ u = rw (k, h, g, f) refl in
    whole ∙ simp append_assoc

pub seven-join : (o a b c d e f g s t u v w x y : List ℕ) → a ≡ o ++ s → b ≡ a ++ t → c ≡ b ++ u → d ≡ c ++ v
    → e ≡ d ++ w → f ≡ e ++ x → g ≡ f ++ y → g ≡ o ++ (s ++ (t ++ (u ++ (v ++ (w ++ (x ++ y))))))
seven-join o a b c d e f g s t u v w x y i j k l m n p =
    four-join o c d e g (s ++ (t ++ u)) v w (x ++ y) (three-join o a b c s t u i j k) l m
    (rw n at p ∙ append_assoc e x y) ∙ simp append_assoc

-- the rule of a hint, and its line after it
pub hint-join : (named : List ℕ → Option (List ℕ)) (o a b rule : List ℕ) (hidden : HiddenBy) (line known : Option ℕ)
    → a ≡ o ++ rule_reported rule → b ≡ a ++ hint_line named line hidden → line ≡ known
    → b ≡ o ++ (rule_reported rule ++ hint_line named known hidden)
hint-join named o a b rule hidden line known f g is =
    g ∙ ap (λ (z : List ℕ). z ++ hint_line named line hidden) f
    ∙ append_assoc o (rule_reported rule) (hint_line named line hidden)
    ∙ ap (λ (l : Option ℕ). o ++ (rule_reported rule ++ hint_line named l hidden)) is

-- a table's literals of names are those of its rules
module _ (rules : table.Rules Expr) (exact : rules.names ≡ Exact) where
  bodies-twice : (o : Option (table.Rule Expr)) → option_map (λ (r : Rule). r.body) (option_map rule_of o)
      ≡ option_map pattern_of (option_map (λ (r : table.Rule Expr). r.body) o)
  bodies-twice None = refl
  bodies-twice (Some r) = refl

  body-same : (name : List ℕ) (o : Option ℕ) → find_in rules name ≡ o
      → pattern_at (bodies_of rules) o ≡ body_of (rules_of rules) name
  body-same name None is = sym (body-none rules exact name is)
  body-same name (Some id) is =
      ap (option_map pattern_of) (slice_get-map (λ (r : table.Rule Expr). r.body) rules.rules id)
      ∙ sym (bodies-twice (slice_get rules.rules id))
      ∙ sym (ap (option_map (λ (r : Rule). r.body)) (slice_get-map rule_of rules.rules id))
      ∙ sym (slice_get-map (λ (r : Rule). r.body) (rules_of rules) id)
      ∙ ap (slice_get (map (λ (r : Rule). r.body) (rules_of rules))) (is-id rules exact name (Some id) is)
      ∙ sym (body_at_id (rules_of rules) name)

  literals-same : literal_at rules ≡ named_literal (rules_of rules)
  literals-same = fun_ext (λ (name : List ℕ). ap literal_if (body-same name (find_in rules name) refl))

-- all hints, by the rules and the lines of what stands in them
abbrev whole : (List ℕ → Option (List ℕ)) → (MentionKind → List ℕ → List ℕ) → (Pattern → Bool) → (Pattern → Bool)
    → List Rule → List ℕ
whole named lines sure null rules = hints_reported named lines (hints_of named sure null rules)
    ++ (helds_reported lines (held_definitions rules) ++ ends_reported lines (lone_ends rules))

-- what the code reports by its positions
module _ (text : List ℕ) (found : PegPositions) (are : ArePegPositions text found) where
  abbrev sure_found : Pattern → Bool
  sure_found = sure_by (null_mark_of found.rules found.sure.items)

  abbrev null_found : Pattern → Bool
  null_found = nullable_by (null_mark_of found.rules found.nulls.items)

  lines-same : mention_lines_by found.positions ≡ kind_lines text are.positions.tokens
  lines-same = fun_ext (λ (kind : MentionKind). fun_ext (λ (name : List ℕ).
      positions-mention White First is_end sign_of Any Exact text found.positions kind name are.positions))

  pub positions-hint : (reported : List ℕ)
      → reported ≡ hints_reported (literal_at found.rules) (mention_lines_by found.positions)
      (hints_of (literal_at found.rules) sure_found null_found (rules_of found.rules))
      ++ (helds_reported (mention_lines_by found.positions) (held_definitions (rules_of found.rules))
      ++ ends_reported (mention_lines_by found.positions) (lone_ends (rules_of found.rules)))
      → ArePegHints text reported
  positions-hint reported e = record {
    tokens = are.positions.tokens;
    are_tokens = are.positions.are_tokens;
    definitions = are.rules.definitions;
    reads = are.rules.reads;
    sure = sure_found;
    is_sure = subst (λ (rs : List Rule). SettlesSure rs sure_found) are.rules.rules_are (λ d. (
      sure-reported found.rules found.sure.items are.rules.exact are.sure d,
      (λ t. reported-sure found.rules found.sure.items are.rules.exact are.sure t),
    ));
    null = null_found;
    is_null = subst (λ (rs : List Rule). SettlesNullable rs null_found) are.rules.rules_are (λ d. (
      null-reported found.rules found.nulls.items are.rules.exact are.marks d,
      (λ t. reported-null found.rules found.nulls.items are.rules.exact are.marks t),
    ));
    is = e
        ∙ ap (λ (named : List ℕ → Option (List ℕ)). whole named (mention_lines_by found.positions) sure_found null_found
        (rules_of found.rules)) (literals-same found.rules are.rules.exact)
        ∙ ap (λ (lines : MentionKind → List ℕ → List ℕ). whole (named_literal (rules_of found.rules)) lines sure_found
        null_found (rules_of found.rules)) lines-same
        ∙ ap (λ (rules : List Rule). whole (named_literal rules) (kind_lines text are.positions.tokens) sure_found
        null_found rules) are.rules.rules_are;
  }

pub hints-one : ((text : List ℕ) (a b : List Tok) → AreTokens (length text) text a → AreTokens (length text) text b
    → a ≡ b) → ((text : List ℕ) (a b : List Rule) → Reads text a → Reads text b → a ≡ b)
    → (text a b : List ℕ) → ArePegHints text a → ArePegHints text b → a ≡ b
hints-one listing reading text a b g h =
    let rules = reading text g.definitions h.definitions g.reads h.reads in
    let sure_too : SettlesSure (firsts [] g.definitions) h.sure =
    subst (λ (ds : List Rule). SettlesSure (firsts [] ds) h.sure) (sym rules) h.is_sure in
    let null_too : SettlesNullable (firsts [] g.definitions) h.null =
    subst (λ (ds : List Rule). SettlesNullable (firsts [] ds) h.null) (sym rules) h.is_null in
    let sures : g.sure ≡ h.sure = fun_ext (λ (e : Pattern). bits-same (g.sure e) (h.sure e)
    (λ t. (sure_too e).1 ((g.is_sure e).0 t)) (λ t. (g.is_sure e).1 ((sure_too e).0 t))) in
    let nulls : g.null ≡ h.null = fun_ext (λ (e : Pattern). bits-same (g.null e) (h.null e)
    (λ t. (null_too e).1 ((g.is_null e).0 t)) (λ t. (g.is_null e).1 ((null_too e).0 t))) in
    g.is
    ∙ ap (λ (ts : List Tok). whole (named_literal (firsts [] g.definitions)) (kind_lines text ts) g.sure g.null
    (firsts [] g.definitions)) (listing text g.tokens h.tokens g.are_tokens h.are_tokens)
    ∙ ap (λ (sure : Pattern → Bool). whole (named_literal (firsts [] g.definitions)) (kind_lines text h.tokens) sure
    g.null (firsts [] g.definitions)) sures
    ∙ ap (λ (null : Pattern → Bool). whole (named_literal (firsts [] g.definitions)) (kind_lines text h.tokens) h.sure
    null (firsts [] g.definitions)) nulls
    ∙ ap (λ (ds : List Rule). whole (named_literal (firsts [] ds)) (kind_lines text h.tokens) h.sure h.null
    (firsts [] ds)) rules
    ∙ sym h.is
