-- Names that are used and not defined, one by one.
-- Serves: join_texts
use Rattle.std.proofs.Common.{◌≡◌, ℕ, suc, ◌+◌, ◌<◌, ◌≤◌, Bool, true, false, List, [], ◌∷◌, ◌++◌, length, get_or, map}
use Rattle.std.proofs.Common.{take, drop, refl, sym, ap, ◌∙◌, arith, append_assoc, append-nil, subst, Option}
use Rattle.std.proofs.Common.{Some, None, cond, not, ◌||◌, ◌&&◌, ◌==◌, nat_lt, if◌then◌else◌, Vec, Global}
use Rattle.std.proofs.Math.Seq.{drop-cons}
use Rattle.std.proofs.lemmas.List.{at_drop_all, get_or-map, length-map, map-append, take-map, take_more}
use Rattle.std.proofs.lemmas.List.Folds.{list_any-append}
use Rattle.std.proofs.lemmas.Bool.Decides.{nat_tests}
use Rattle.std.specs.List.{enumerate_from, flat_map, list_any, position_or_len}
use Rattle.std.specs.Option.{is_some}
use Rattle.std.specs.Prelude.{position, slice_get}
use Rattle.diagnostics.specs.BodyMentions.{MentionedAt, mentioned_at}
use Rattle.diagnostics.specs.declared.noteplaces.positions.Positions.{Positions}
use Rattle.ruletable.specs.Rules as table
use Rattle.ruletable.specs.Rules.{same_name}
use Rattle.ruletable.specs.declared.table.NameCase.{NameCase}
use Rattle.ruletable.specs.declared.table.NameCase.TheVariants.{Fold}
use Rattle.abnfread.specs.AbnfTable.{IsCoreTable}
use Rattle.abnfread.specs.AbnfViews.{rule_of}
use Rattle.abnfread.specs.CoreRules.{core_names}
use Rattle.abnfread.specs.Element.{Rule}
use Rattle.abnfread.specs.declared.elem.Elem.{Elem}
use Rattle.abnfexplain.specs.AbnfNoteLines.{AreAbnfPositions}
use Rattle.diagnostics.specs.NumberLists.{numbers_for}
use Rattle.abnftexts.specs.GivenRules.{RuleGiven, text_rule}
use Rattle.abnftexts.specs.JoinedGrammar.{ordered_rules}
use Rattle.abnftexts.specs.CodeUses.{AddsUses, ListKnown, ListsMore, is_defined, name_used, unknown_reported}
use Rattle.abnftexts.specs.ListedRules.{ListNames, has_list, has_some, is_listed_for}
use Rattle.abnftexts.specs.RulesGathered.{RuleLines}
use Rattle.abnftexts.specs.UsedNames.{AreNameUses, UsedName, next_uses, no_rules, undefined_line, undefined_reported}
use Rattle.abnftexts.specs.UsedNames.{use_reported, used_at}
use Rattle.abnftexts.specs.declared.join.by_name.Listed.TheVariants as kinds
use Rattle.abnftexts.specs.declared.join.given.GivenRule.{GivenRule}
use Rattle.abnftexts.specs.declared.uses.NameUse.{NameUse}
use Rattle.abnftexts.proofs.ListNamesLemmas.{any-listed}
use Rattle.abnftexts.proofs.RulesTakenLemmas.{one-after}

-- what the uses from that number on report
abbrev pub reported-from : List RuleGiven → List UsedName → ℕ → List UsedName → List ℕ
reported-from rules uses n some = flat_map (λ p. use_reported rules (take p.0 uses) p.1) (enumerate_from n some)

use-after : (uses : List NameUse) (n : ℕ) (x : NameUse) → n < length uses → x ≡ get_or uses n x
    → drop n (map name_used uses) ≡ name_used x ∷ drop (n + 1) (map name_used uses)
use-after uses n x lt e =
    let next : suc n ≡ n + 1 = omega arith in
    let here : get_or (map name_used uses) n (name_used x) ≡ name_used x =
    get_or-map name_used uses n x (name_used x) lt ∙ ap name_used (sym e) in
    drop-cons (map name_used uses) n (name_used x) (omega (arith, length-map uses name_used))
    ∙ ap (λ (u : UsedName). u ∷ drop (suc n) (map name_used uses)) here
    ∙ ap (λ (k : ℕ). name_used x ∷ drop k (map name_used uses)) next

pub reported-more : (rules : List RuleGiven) (uses : List NameUse) (n : ℕ) (x : NameUse) (old new all : List ℕ)
    → n < length uses → x ≡ get_or uses n x
    → new ≡ old ++ use_reported rules (map name_used (take n uses)) (name_used x)
    → old ++ reported-from rules (map name_used uses) n (drop n (map name_used uses)) ≡ all
    → new ++ reported-from rules (map name_used uses) (n + 1) (drop (n + 1) (map name_used uses)) ≡ all
reported-more rules uses n x old new all lt e more h =
    let rows : List UsedName = map name_used uses in
    let rest = reported-from rules rows (n + 1) (drop (n + 1) rows) in
    let same : map name_used (take n uses) ≡ take n rows = sym (take-map name_used n uses) in
    let here = use_reported rules (take n rows) (name_used x) in
    let step : reported-from rules rows n (drop n rows) ≡ here ++ rest =
    ap (λ (us : List UsedName). reported-from rules rows n us) (use-after uses n x lt e) in
    ap (λ (z : List ℕ). z ++ rest) (more ∙ ap (λ (us : List UsedName). old ++ use_reported rules us (name_used x)) same)
    ∙ append_assoc old here rest ∙ ap (λ (z : List ℕ). old ++ z) (sym step) ∙ h

pub reported-all : (rules : List RuleGiven) (uses : List NameUse) (n : ℕ) (start now : List ℕ) → length uses ≤ n
    → now ++ reported-from rules (map name_used uses) n (drop n (map name_used uses))
    ≡ start ++ undefined_reported rules (map name_used uses)
    → now ≡ start ++ undefined_reported rules (map name_used uses)
reported-all rules uses n start now le h =
    let rows : List UsedName = map name_used uses in
    let done : drop n rows ≡ [] = at_drop_all (λ xs. xs) rows n (omega (arith, length-map uses name_used)) in
    let none : reported-from rules rows n (drop n rows) ≡ [] =
    ap (λ (us : List UsedName). reported-from rules rows n us) done in
    sym (append-nil now) ∙ ap (λ (z : List ℕ). now ++ z) (sym none) ∙ h

-- a position is found where some element passes
found-some : {A : Type 0} (p : A → Bool) (xs : List A) → is_some (position p xs) ≡ list_any p xs
found-some {A} p xs = there (nat_lt (position_or_len p xs) (length xs)) (position_or_len p xs) ∙ below xs
  where
    there : (b : Bool) (k : ℕ) → is_some (cond b (Some k) None) ≡ b
    there true k = refl
    there false k = refl

    step : (b c : Bool) (k n : ℕ) → nat_lt k n ≡ c → nat_lt (cond (not b) (1 + k) 0) (suc n) ≡ (b || c)
    step true c k n h = grind (arith, nat_tests)
    step false true k n h = grind (arith, nat_tests)
    step false false k n h = grind (arith, nat_tests)

    below : (xs : List A) → nat_lt (position_or_len p xs) (length xs) ≡ list_any p xs
    below [] = refl
    below (x ∷ xs) = step (p x) (list_any p xs) (position_or_len p xs) (length xs) (below xs)

any-named : (name : List ℕ) (rules : List (table.Rule Elem))
    → list_any (λ rule. same_name Fold name rule.name) rules
    ≡ list_any (same_name Fold name) (map (λ (rule : Rule). rule.name) (map rule_of rules))
any-named name [] = refl
any-named name (rule ∷ rules) = ap (λ (b : Bool). same_name Fold name rule.name || b) (any-named name rules)

pub core-any : (name : List ℕ) (core : table.Rules Elem) (found : Option ℕ) → IsCoreTable core
    → found ≡ table.find_in core name → is_some found ≡ list_any (same_name Fold name) core_names
core-any name core found is e =
    ap (λ (o : Option ℕ). is_some o)
    (e ∙ ap (λ (c : NameCase). position (λ rule. same_name c name rule.name) core.rules) is.names)
    ∙ found-some (λ rule. same_name Fold name rule.name) core.rules ∙ any-named name core.rules
    ∙ ap (λ (rules : List Rule). list_any (same_name Fold name) (map (λ rule. rule.name) rules)) is.listed

-- one name more in lists
some-both : (a b : List ℕ) → has_some (a ++ b) ≡ (has_some a || has_some b)
some-both [] b = refl
some-both (n ∷ a) b = refl

some-if : (t : Bool) (n : ℕ) → has_some (if t then n ∷ [] else []) ≡ t
some-if true n = refl
some-if false n = refl

pub none-listed : (numbers : List ℕ) → (length numbers == 0) ≡ not (has_some numbers)
none-listed [] = refl
none-listed (n ∷ ns) = grind (arith, nat_tests)

pub name-listed : (old new : table.Rules (Vec ℕ Global)) (name : List ℕ) (n : ℕ) → old.names ≡ Fold
    → new.names ≡ old.names → ((other : List ℕ) → numbers_for new other
    ≡ numbers_for old other ++ (if same_name old.names other name then n ∷ [] else [])) → ListsMore name old new
name-listed old new name n folds same more = (
  same ∙ folds,
  λ other. ap has_some (more other)
      ∙ some-both (numbers_for old other) (if same_name old.names other name then n ∷ [] else [])
      ∙ ap (λ (t : Bool). has_list old other || t)
      (some-if (same_name old.names other name) n ∙ ap (λ (c : NameCase). same_name c other name) folds),
)

no-some : (b : Bool) → true ≡ not b → b ≡ false
no-some true e = cc
no-some false e = refl

-- a name that is not listed is known if it is that of a core rule
pub known-core : (names : table.Rules (Vec ℕ Global)) (name numbers : List ℕ) (is_empty found : Bool)
    → numbers ≡ numbers_for names name → is_empty ≡ (length numbers == 0) → is_empty ≡ true
    → found ≡ list_any (same_name Fold name) core_names → found ≡ is_defined names name
known-core names name numbers is_empty found listed e empty core =
    let none : has_list names name ≡ false =
    no-some (has_list names name) (sym empty ∙ e ∙ ap (λ (ns : List ℕ). length ns == 0) listed
    ∙ none-listed (numbers_for names name)) in
    rw none core

or-moved : (g b c : Bool) → not ((g || b) || c) ≡ (not (g || c) && not b)
or-moved true b c = refl
or-moved false true true = refl
or-moved false true false = refl
or-moved false false true = refl
or-moved false false false = refl

or-more : (g b t : Bool) → ((g || b) || t) ≡ (g || (b || t))
or-more true b t = refl
or-more false b t = refl

or-none : (t : Bool) → (t || false) ≡ t
or-none true = refl
or-none false = refl

-- what is listed nowhere is neither that of a rule nor that of a use before
pub known-reported : (rules : List RuleGiven) (before : List UsedName) (names : table.Rules (Vec ℕ Global))
    (u : UsedName)
    → ListKnown rules before names → unknown_reported names u ≡ use_reported rules before u
known-reported rules before names u known =
    let given = list_any (λ rule. same_name Fold u.name rule.name) rules in
    let used = list_any (λ other. same_name Fold u.name other.name) before in
    let core = list_any (same_name Fold u.name) core_names in
    ap (λ (t : Bool). if t then undefined_line u else [])
    (ap (λ (t : Bool). not (t || core)) (known.1 u.name) ∙ or-moved given used core)

pub known-none : (rules : List GivenRule) (names : table.Rules (Vec ℕ Global)) → ListNames kinds.Rules rules names
    → ListKnown (map text_rule rules) [] names
known-none rules names listed = (
  listed.0,
  λ name. any-listed (is_listed_for kinds.Rules) rules name (numbers_for names name) (listed.1 name)
      ∙ sym (or-none (list_any (λ rule. same_name Fold name rule.name) (map text_rule rules))),
)

pub known-more : (rules : List RuleGiven) (uses : List NameUse) (n : ℕ) (x : NameUse)
    (old new : table.Rules (Vec ℕ Global)) → n < length uses → x ≡ get_or uses n x
    → ListKnown rules (map name_used (take n uses)) old → ListsMore x.name.items old new
    → ListKnown rules (map name_used (take (n + 1) uses)) new
known-more rules uses n x old new lt e known more =
    let front : map name_used (take (n + 1) uses) ≡ map name_used (take n uses) ++ name_used x ∷ [] =
    ap (map name_used) (take_more uses n x lt ∙ ap (λ (u : NameUse). take n uses ++ u ∷ []) (sym e))
    ∙ map-append name_used (take n uses) (x ∷ []) in (
      more.0,
      λ name.
          let given = list_any (λ rule. same_name Fold name rule.name) rules in
          let used = λ (us : List UsedName). list_any (λ u. same_name Fold name u.name) us in
          more.1 name
          ∙ ap (λ (t : Bool). t || same_name Fold name x.name.items) (known.1 name)
          ∙ or-more given (used (map name_used (take n uses))) (same_name Fold name x.name.items)
          ∙ ap (λ (t : Bool). given || (used (map name_used (take n uses)) || t))
          (sym (or-none (same_name Fold name x.name.items)))
          ∙ ap (λ (t : Bool). given || t)
          (sym (list_any-append (λ (u : UsedName). same_name Fold name u.name) (map name_used (take n uses))
          (name_used x ∷ [])))
          ∙ ap (λ (us : List UsedName). given || used us) (sym front),
    )

-- the uses of a rule
pub uses-added : (position : RuleLines) (text : List ℕ) (positions : Positions) (mentions : List MentionedAt)
    (old new : List UsedName) → AreAbnfPositions text positions → text ≡ position.text
    → mentions ≡ map mentioned_at positions.mentions.items
    → new ≡ old ++ flat_map (used_at position) mentions → AddsUses position old new
uses-added position text positions mentions old new are same all more =
    let here : AreAbnfPositions position.text positions =
    subst (λ (t : List ℕ). AreAbnfPositions t positions) same are in (
      flat_map (used_at position) mentions,
      record {
        tokens = here.tokens;
        are_tokens = here.are_tokens;
        are = ap (λ (ms : List MentionedAt). flat_map (used_at position) ms) (all ∙ here.mentions_are);
      },
      more,
    )

module _ (positions : List RuleLines) (order : List ℕ) (i : ℕ) where
  pub position-used : (position : RuleLines) (old new more : List UsedName) → i < length order
      → slice_get positions (get_or order i 0) ≡ Some position → AddsUses position old new
      → ((rest : List UsedName) → AreNameUses (ordered_rules positions (drop i order)) rest
      → AreNameUses (ordered_rules positions order) (old ++ rest))
      → AreNameUses (ordered_rules positions (drop (i + 1) order)) more
      → AreNameUses (ordered_rules positions order) (new ++ more)
  position-used position old new more lt is added before rest =
      let rows = ordered_rules positions (drop (i + 1) order) in
      let front : ordered_rules positions (drop i order)
      ≡ ordered_rules positions (get_or order i 0 ∷ drop (i + 1) order) =
      ap (λ (ns : List ℕ). ordered_rules positions ns) (one-after order i 0 lt) in
      let here : ordered_rules positions (get_or order i 0 ∷ drop (i + 1) order) ≡ position ∷ rows = rw is refl in
      let whole : AreNameUses (ordered_rules positions (drop i order)) (added.0 ++ more) =
      subst (λ (ps : List RuleLines). AreNameUses ps (added.0 ++ more)) (sym (front ∙ here)) (next_uses added.1 rest) in
      subst (λ (us : List UsedName). AreNameUses (ordered_rules positions order) us)
      (sym (ap (λ (us : List UsedName). us ++ more) added.2 ∙ append_assoc old added.0 more))
      (before (added.0 ++ more) whole)

  pub no_position-used : (old new more : List UsedName) → i < length order
      → slice_get positions (get_or order i 0) ≡ None → new ≡ old
      → ((rest : List UsedName) → AreNameUses (ordered_rules positions (drop i order)) rest
      → AreNameUses (ordered_rules positions order) (old ++ rest))
      → AreNameUses (ordered_rules positions (drop (i + 1) order)) more
      → AreNameUses (ordered_rules positions order) (new ++ more)
  no_position-used old new more lt is same before rest =
      let rows = ordered_rules positions (drop (i + 1) order) in
      let front : ordered_rules positions (drop i order)
      ≡ ordered_rules positions (get_or order i 0 ∷ drop (i + 1) order) =
      ap (λ (ns : List ℕ). ordered_rules positions ns) (one-after order i 0 lt) in
      let here : ordered_rules positions (get_or order i 0 ∷ drop (i + 1) order) ≡ rows = rw is refl in
      subst (λ (us : List UsedName). AreNameUses (ordered_rules positions order) (us ++ more)) (sym same)
      (before more (subst (λ (ps : List RuleLines). AreNameUses ps more) (sym (front ∙ here)) rest))

  pub uses-done : (old : List UsedName) → length order ≤ i
      → ((rest : List UsedName) → AreNameUses (ordered_rules positions (drop i order)) rest
      → AreNameUses (ordered_rules positions order) (old ++ rest)) → AreNameUses (ordered_rules positions order) old
  uses-done old le before =
      let none : AreNameUses (ordered_rules positions (drop i order)) [] =
      subst (λ (ns : List ℕ). AreNameUses (ordered_rules positions ns) []) (sym (at_drop_all (λ xs. xs) order i le))
      no_rules in
      subst (λ (us : List UsedName). AreNameUses (ordered_rules positions order) us) (append-nil old) (before [] none)

-- four pieces, one after another
pub four-after : (out a b c d one two three four : List ℕ) → one ≡ out ++ a → two ≡ one ++ b → three ≡ two ++ c
    → four ≡ three ++ d → four ≡ out ++ (a ++ (b ++ (c ++ d)))
four-after out a b c d one two three four h i j k =
    k ∙ ap (λ (z : List ℕ). z ++ d) (j ∙ ap (λ (z : List ℕ). z ++ c) (i ∙ ap (λ (z : List ℕ). z ++ b) h))
    ∙ append_assoc ((out ++ a) ++ b) c d ∙ append_assoc (out ++ a) b (c ++ d) ∙ append_assoc out a (b ++ (c ++ d))
