-- The definition at a position, of a name, stands exactly if it is the first of that name or adds to it.
-- Serves: explain_note
use Rattle.std.proofs.Common.{◌≡◌, ℕ, suc, Bool, true, false, cond, ◌||◌, ◌&&◌, ◌==◌, Option, Some, None, List, []}
use Rattle.std.proofs.Common.{◌∷◌, map, refl, sym, ap, ◌∙◌}
use Rattle.std.specs.List.{filter, find, list_any}
use Rattle.std.specs.Borrow.{Bor}
use Rattle.std.specs.Prelude.{option_map}
use Rattle.std.proofs.lemmas.Bool.{eq-eqb, eqb-true, false≢true, ne_eqb}
use Rattle.ruletable.specs.Rules.{same_name}
use Rattle.ruletable.specs.declared.table.NameCase.{NameCase}
use Rattle.diagnostics.specs.BodyMentions.{MentionedAt, is_kind}
use Rattle.diagnostics.specs.DefinitionHeads.{DefinedAt, defined_at}
use Rattle.diagnostics.specs.FirstMentions.{first_prose, is_standing, rule_named, standing_definitions, stands_by}
use Rattle.diagnostics.specs.NameIndexes.{Rises, starts_of}
use Rattle.diagnostics.specs.NoteLines.{named}
use Rattle.diagnostics.specs.declared.noteplaces.heads.Head.{Head}
use Rattle.diagnostics.specs.declared.noteplaces.mentions.MentionKind.TheVariants.{Prose}
use Rattle.diagnostics.proofs.MentionsUnderLemmas.{find-mapped, is_under, prose-under}
use Rattle.diagnostics.proofs.NumberListsLemmas.{map-twice}
use Rattle.diagnostics.proofs.RisingStartsLemmas.{any-found, passes_if}

module _ (w : ℕ) where
  abbrev is_at : DefinedAt → Bool
  is_at d = d.start == w

  found_is_at : (ds : List DefinedAt) (d : DefinedAt) → find is_at ds ≡ Some d → d.start ≡ w
  found_is_at [] d e = absurd (cc e)
  found_is_at (x ∷ ds) d e = by (found_is_at ds d) (is_at x) refl e
    where
      by : (find is_at ds ≡ Some d → d.start ≡ w) → (t : Bool) → is_at x ≡ t
          → cond t (Some x) (find is_at ds) ≡ Some d → d.start ≡ w
      by deep true at h = (let same : x ≡ d = cc h in sym (ap (λ z. z.start) same) ∙ eqb-true x.start w at)
      by deep false at h = deep h

  -- one that does not start where the rule does stands if it adds
  stands_if_adds : (rule : DefinedAt) (found : Option DefinedAt) → ((d : DefinedAt) → found ≡ Some d → d.start ≡ w)
      → is_at rule ≡ false → passes_if (λ d. d.adds) found ≡ stands_by rule found
  stands_if_adds rule None at apart = refl
  stands_if_adds rule (Some d) at apart = by d.adds
    where
      elsewhere : (d.start == rule.start) ≡ false
      elsewhere = ne_eqb d.start rule.start
          (λ e. false≢true (sym apart ∙ eq-eqb rule.start w (sym e ∙ at d refl)))

      by : (b : Bool) → b ≡ (b || (d.start == rule.start))
      by true = refl
      by false = sym elsewhere

  module _ (same : DefinedAt → Bool) where
    adds_too : (found : Option DefinedAt) → passes_if same found ≡ true
        → passes_if (λ d. same d && d.adds) found ≡ passes_if (λ d. d.adds) found
    adds_too None h = refl
    adds_too (Some d) h = rw h refl

    filter_both : (ds : List DefinedAt) → filter (λ d. d.adds) (filter same ds) ≡ filter (λ d. same d && d.adds) ds
    filter_both [] = refl
    filter_both (d ∷ ds) = by (same d) (filter_both ds)
      where
        by : (t : Bool) → filter (λ e. e.adds) (filter same ds) ≡ filter (λ e. same e && e.adds) ds
            → filter (λ e. e.adds) (cond t (d ∷ filter same ds) (filter same ds))
            ≡ cond (t && d.adds) (d ∷ filter (λ e. same e && e.adds) ds) (filter (λ e. same e && e.adds) ds)
        by true h = ap (λ (l : List DefinedAt). cond d.adds (d ∷ l) l) h
        by false h = h

    or_true : (b c : Bool) → c ≡ true → (b || c) ≡ true
    or_true true c e = refl
    or_true false c e = e

    pub standing_at : (n : ℕ) (ds : List DefinedAt) (rule : DefinedAt) → Rises n (map (λ d. d.start) ds)
        → find same ds ≡ Some rule → list_any is_at (filter same ds) ≡ true
        → list_any is_at (standing_definitions (filter same ds)) ≡ is_standing ds rule w
    standing_at n [] rule rise e any = absurd (cc e)
    standing_at n (d ∷ ds) rule rise e any =
        by (standing_at (suc d.start) ds rule rise.1) (same d) refl (is_at d) refl e any
      where
        later : is_at d ≡ false → list_any is_at (filter same ds) ≡ true
            → list_any is_at (filter (λ e. e.adds) (filter same ds)) ≡ stands_by d (find is_at ds)
        later apart h =
            ap (list_any is_at) (filter_both ds)
            ∙ any-found (λ e. e.start) w (λ e. same e && e.adds) (suc d.start) ds rise.1
            ∙ adds_too (find is_at ds) (sym (any-found (λ e. e.start) w same (suc d.start) ds rise.1) ∙ h)
            ∙ stands_if_adds d (find is_at ds) (found_is_at ds) apart

        by : (find same ds ≡ Some rule → list_any is_at (filter same ds) ≡ true
            → list_any is_at (standing_definitions (filter same ds)) ≡ stands_by rule (find is_at ds)) → (s : Bool)
            → same d ≡ s → (t : Bool) → is_at d ≡ t → cond s (Some d) (find same ds) ≡ Some rule
            → list_any is_at (cond s (d ∷ filter same ds) (filter same ds)) ≡ true
            → list_any is_at (standing_definitions (cond s (d ∷ filter same ds) (filter same ds)))
            ≡ stands_by rule (cond t (Some d) (find is_at ds))
        by deep true own true at h any =
            let one : d ≡ rule = cc h in
            rw (at, ← one) (sym (or_true d.adds (d.start == d.start) (eq-eqb d.start d.start refl)))
        by deep true own false at h any =
            let one : d ≡ rule = cc h in rw (at, ← one) (later at (rw at at any))
        by deep false own true at h any = absurd (false≢true (sym (any-found (λ e. e.start) w same n (d ∷ ds) rise
            ∙ rw (at, own) refl) ∙ rw own any))
        by deep false own false at h any = deep h any

-- tests that agree on what passes another one find the same there
module _ {A : Type 0} (p r q : A → Bool) where
  find_alike : ((x : A) → q x ≡ true → p x ≡ r x) → (xs : List A) → find p (filter q xs) ≡ find r (filter q xs)
  find_alike alike [] = refl
  find_alike alike (x ∷ xs) = by (find_alike alike xs) (q x) refl
    where
      by : find p (filter q xs) ≡ find r (filter q xs) → (t : Bool) → q x ≡ t
          → find p (cond t (x ∷ filter q xs) (filter q xs)) ≡ find r (cond t (x ∷ filter q xs) (filter q xs))
      by deep true e = ap (λ (b : Bool). cond b (Some x) (find p (filter q xs))) (alike x e)
          ∙ ap (λ (o : Option A). cond (r x) (Some x) o) deep
      by deep false e = deep

  pub none_filtered : (xs : List A) → find q xs ≡ None → filter q xs ≡ []
  none_filtered [] e = refl
  none_filtered (x ∷ xs) e = by (none_filtered xs) (q x) e
    where
      by : (find q xs ≡ None → filter q xs ≡ []) → (t : Bool) → cond t (Some x) (find q xs) ≡ None
          → cond t (x ∷ filter q xs) (filter q xs) ≡ []
      by deep true h = absurd (cc h)
      by deep false h = deep h

-- whether a mention is prose in a definition that begins a rule or adds to it
abbrev pub is_prose_in : List DefinedAt → DefinedAt → MentionedAt → Bool
is_prose_in definitions rule m = is_kind Prose m.kind && is_standing definitions rule m.within

module _ (names : NameCase) (name : List ℕ) (definitions : List DefinedAt) where
  abbrev has_name : DefinedAt → Bool
  has_name d = same_name names name d.name

  pub prose_found : (rule : DefinedAt) (mentions : List MentionedAt) → Rises 0 (map (λ d. d.start) definitions)
      → rule_named names definitions name ≡ Some rule
      → find (is_prose_in definitions rule) (filter (is_under names definitions name) mentions)
      ≡ first_prose (standing_definitions (named names name definitions)) mentions
  prose_found rule mentions rise own =
      find_alike (is_prose_in definitions rule)
      (λ m. is_kind Prose m.kind
      && list_any (λ d. d.start == m.within) (standing_definitions (named names name definitions)))
      (is_under names definitions name)
      (λ m under. ap (λ (b : Bool). is_kind Prose m.kind && b)
      (sym (standing_at m.within has_name 0 definitions rule rise own under))) mentions
      ∙ prose-under names definitions name mentions

  none_in_none : (mentions : List MentionedAt) → first_prose [] mentions ≡ None
  none_in_none [] = refl
  none_in_none (m ∷ mentions) = by (none_in_none mentions) (is_kind Prose m.kind)
    where
      by : first_prose [] mentions ≡ None → (t : Bool)
          → cond (t && false) (Some m) (first_prose [] mentions) ≡ None
      by deep true = deep
      by deep false = deep

  pub prose_nowhere : (mentions : List MentionedAt) → rule_named names definitions name ≡ None
      → first_prose (standing_definitions (named names name definitions)) mentions ≡ None
  prose_nowhere mentions none =
      ap (λ (ds : List DefinedAt). first_prose (standing_definitions ds) mentions)
      (none_filtered has_name has_name has_name definitions none) ∙ none_in_none mentions

-- the definition that a search finds
pub head_stands : (heads : List Head) (rule : Head) (w : ℕ) (found : Option (Bor Head))
    → option_map (λ h. h.now) found ≡ find (λ h. h.start == w) heads
    → is_standing (map defined_at heads) (defined_at rule) w
    ≡ stands_by (defined_at rule) (option_map (λ h. defined_at h.now) found)
head_stands heads rule w found e = ap (stands_by (defined_at rule))
    (find-mapped defined_at (λ d. d.start == w) heads ∙ ap (option_map defined_at) (sym e)
    ∙ sym (map-twice defined_at found))

pub starts_rise_too : (n : ℕ) (heads : List Head) → Rises n (starts_of heads)
    → Rises n (map (λ d. d.start) (map defined_at heads))
starts_rise_too n [] h = tt
starts_rise_too n (x ∷ heads) h = (h.0, starts_rise_too (suc x.start) heads h.1)
