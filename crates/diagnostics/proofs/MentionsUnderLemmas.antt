-- The mentions in the definitions of a name are those that matter to its notes.
-- Serves: explain_note, mention_lines
use Rattle.std.proofs.Common.{◌≡◌, ℕ, Bool, true, false, cond, ◌||◌, ◌&&◌, ◌==◌, Some, List, [], ◌∷◌, map}
use Rattle.std.proofs.Common.{refl, sym, ap, ◌∙◌, ⊎_elim}
use Rattle.std.specs.Prelude.{option_map}
use Rattle.std.specs.List.{filter, find, list_any}
use Rattle.std.proofs.lemmas.Bool.{and_parts, eq-eqb, eqb-true, false≢true, or_cases}
use Rattle.ruletable.specs.declared.table.NameCase.{NameCase}
use Rattle.diagnostics.specs.BodyMentions.{MentionedAt, is_kind}
use Rattle.diagnostics.specs.DefinitionHeads.{DefinedAt}
use Rattle.diagnostics.specs.FirstMentions.{first_prose, rule_named, standing_definitions}
use Rattle.diagnostics.specs.MentionLines.{mentions_within}
use Rattle.diagnostics.specs.NoteLines.{named}
use Rattle.diagnostics.specs.declared.noteplaces.mentions.MentionKind.{MentionKind}
use Rattle.diagnostics.specs.declared.noteplaces.mentions.MentionKind.TheVariants.{Prose}

-- what passes one test passes another one
module _ {A : Type 0} (p q : A → Bool) (implies : (x : A) → p x ≡ true → q x ≡ true) where
  never-passes : {P : Type 0} (x : A) → p x ≡ true → q x ≡ false → P
  never-passes x e g = absurd (false≢true (sym g ∙ implies x e))

  filter-implied : (xs : List A) → filter p (filter q xs) ≡ filter p xs
  filter-implied [] = refl
  filter-implied (x ∷ xs) = by (filter-implied xs) (p x) refl (q x) refl
    where
      by : filter p (filter q xs) ≡ filter p xs → (s : Bool) → p x ≡ s → (t : Bool) → q x ≡ t
          → filter p (cond t (x ∷ filter q xs) (filter q xs)) ≡ cond s (x ∷ filter p xs) (filter p xs)
      by deep true e true g =
          ap (λ (b : Bool). cond b (x ∷ filter p (filter q xs)) (filter p (filter q xs))) e
          ∙ ap (λ (l : List A). x ∷ l) deep
      by deep true e false g = never-passes x e g
      by deep false e true g =
          ap (λ (b : Bool). cond b (x ∷ filter p (filter q xs)) (filter p (filter q xs))) e ∙ deep
      by deep false e false g = deep

  find-implied : (xs : List A) → find p (filter q xs) ≡ find p xs
  find-implied [] = refl
  find-implied (x ∷ xs) = by (find-implied xs) (p x) refl (q x) refl
    where
      by : find p (filter q xs) ≡ find p xs → (s : Bool) → p x ≡ s → (t : Bool) → q x ≡ t
          → find p (cond t (x ∷ filter q xs) (filter q xs)) ≡ cond s (Some x) (find p xs)
      by deep true e true g = ap (λ (b : Bool). cond b (Some x) (find p (filter q xs))) e
      by deep true e false g = never-passes x e g
      by deep false e true g = ap (λ (b : Bool). cond b (Some x) (find p (filter q xs))) e ∙ deep
      by deep false e false g = deep

or-left : (x y : Bool) → x ≡ true → (x || y) ≡ true
or-left true y e = refl
or-left false y e = cc

or-right : (x y : Bool) → y ≡ true → (x || y) ≡ true
or-right true y e = refl
or-right false y e = e

module _ {A : Type 0} (test : A → Bool) where
  -- the first that passes is among those that do
  found-among : (p : A → Bool) (xs : List A) (d : A) → find p xs ≡ Some d → test d ≡ true
      → list_any test (filter p xs) ≡ true
  found-among p [] d e t = absurd (cc e)
  found-among p (x ∷ xs) d e t = by (λ g. found-among p xs d g t) (p x) e
    where
      by : (find p xs ≡ Some d → list_any test (filter p xs) ≡ true) → (s : Bool) → cond s (Some x) (find p xs) ≡ Some d
          → list_any test (cond s (x ∷ filter p xs) (filter p xs)) ≡ true
      by deep true g = (let same : x ≡ d = cc g in
          or-left (test x) (list_any test (filter p xs)) (ap test same ∙ t))
      by deep false g = deep g

  any-filtered : (p : A → Bool) (xs : List A) → list_any test (filter p xs) ≡ true → list_any test xs ≡ true
  any-filtered p [] h = h
  any-filtered p (x ∷ xs) h = by (λ g. any-filtered p xs g) (p x) h
    where
      by : (list_any test (filter p xs) ≡ true → list_any test xs ≡ true) → (s : Bool)
          → list_any test (cond s (x ∷ filter p xs) (filter p xs)) ≡ true
          → (test x || list_any test xs) ≡ true
      by deep true g = ⊎_elim (λ e. or-left (test x) (list_any test xs) e)
          (λ e. or-right (test x) (list_any test xs) (deep e))
          (or_cases (test x) (list_any test (filter p xs)) g)
      by deep false g = or-right (test x) (list_any test xs) (deep g)

-- those that stand are among all
standing-any : (test : DefinedAt → Bool) (ds : List DefinedAt)
    → list_any test (standing_definitions ds) ≡ true → list_any test ds ≡ true
standing-any test [] h = h
standing-any test (d ∷ ds) h =
    ⊎_elim (λ e. or-left (test d) (list_any test ds) e)
    (λ e. or-right (test d) (list_any test ds) (any-filtered test (λ e. e.adds) ds e))
    (or_cases (test d) (list_any test (filter (λ e. e.adds) ds)) h)

pub filter-mapped : {A B : Type 0} (f : A → B) (p : B → Bool) (xs : List A)
    → map f (filter (λ x. p (f x)) xs) ≡ filter p (map f xs)
filter-mapped f p [] = refl
filter-mapped {A} {B} f p (x ∷ xs) = by (filter-mapped f p xs) (p (f x))
  where
    by : map f (filter (λ x. p (f x)) xs) ≡ filter p (map f xs) → (t : Bool)
        → map f (cond t (x ∷ filter (λ x. p (f x)) xs) (filter (λ x. p (f x)) xs))
        ≡ cond t (f x ∷ filter p (map f xs)) (filter p (map f xs))
    by deep true = ap (λ (l : List B). f x ∷ l) deep
    by deep false = deep

pub find-mapped : {A B : Type 0} (f : A → B) (p : B → Bool) (xs : List A)
    → find p (map f xs) ≡ option_map f (find (λ x. p (f x)) xs)
find-mapped f p [] = refl
find-mapped f p (x ∷ xs) = by (find-mapped f p xs) (p (f x))
  where
    by : find p (map f xs) ≡ option_map f (find (λ x. p (f x)) xs) → (t : Bool)
        → cond t (Some (f x)) (find p (map f xs))
        ≡ option_map f (cond t (Some x) (find (λ x. p (f x)) xs))
    by deep true = refl
    by deep false = deep

pub any-mapped : {A B : Type 0} (f : A → B) (p : B → Bool) (xs : List A)
    → list_any p (map f xs) ≡ list_any (λ x. p (f x)) xs
any-mapped f p [] = refl
any-mapped f p (x ∷ xs) = ap (λ (b : Bool). p (f x) || b) (any-mapped f p xs)

module _ (names : NameCase) (definitions : List DefinedAt) (name : List ℕ) where
  -- whether a mention stands in a definition of the name
  abbrev pub is_under : MentionedAt → Bool
  is_under m = list_any (λ d. d.start == m.within) (named names name definitions)

  pub within-under : (mentions : List MentionedAt) (kind : MentionKind) (d : DefinedAt)
      → rule_named names definitions name ≡ Some d
      → mentions_within kind d.start (filter is_under mentions) ≡ mentions_within kind d.start mentions
  within-under mentions kind d is =
      filter-implied (λ m. is_kind kind m.kind && (m.within == d.start)) is_under
      (λ m h. found-among (λ e. e.start == m.within) _ definitions d is
      (eq-eqb d.start m.within (sym (eqb-true m.within d.start (and_parts _ _ h).1)))) mentions

  pub prose-under : (mentions : List MentionedAt)
      → first_prose (standing_definitions (named names name definitions)) (filter is_under mentions)
      ≡ first_prose (standing_definitions (named names name definitions)) mentions
  prose-under mentions =
      find-implied (λ m. is_kind Prose m.kind
      && list_any (λ d. d.start == m.within) (standing_definitions (named names name definitions))) is_under
      (λ m h. standing-any (λ d. d.start == m.within) (named names name definitions) (and_parts _ _ h).1) mentions
