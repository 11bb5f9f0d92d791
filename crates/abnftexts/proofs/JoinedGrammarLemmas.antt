-- What stands, and how it is printed, one by one.
-- Serves: join_texts
use Rattle.std.proofs.Common.{◌≡◌, ℕ, ◌+◌, ◌<◌, List, [], ◌∷◌, ◌++◌, length, get_or, map, drop, refl, sym, ap, subst}
use Rattle.std.proofs.Common.{◌∙◌, append_assoc, arith, Option, Some, None, inl, inr, true, false, option_map}
use Rattle.std.proofs.Math.Dec.{ltb}
use Rattle.std.proofs.lemmas.Bool.{cases_Bool, ltb-true}
use Rattle.std.proofs.lemmas.Option.{slice_get-get_or, slice_get-map, slice_get_past}
use Rattle.std.specs.Prelude.{Result, Ok, Err, IfOk, OnOk, slice_get}
use Rattle.abnftexts.specs.GivenRules.{RuleGiven, fates_of, text_rule}
use Rattle.abnftexts.specs.declared.join.fate.Fate.{Fate}
use Rattle.abnftexts.specs.declared.join.given.GivenRule.{GivenRule}
use Rattle.abnftexts.specs.JoinedGrammar.{GrammarJoined, fate_reported, has_stayed, numbered_position, ordered_rules}
use Rattle.abnftexts.specs.JoinedGrammar.{printed_after, rule_printed}
use Rattle.abnftexts.specs.JoinedGrammar.{rules_listed, standing}
use Rattle.abnftexts.specs.JoinedViews.{IsGatheredJoined, IsStandingJoined}
use Rattle.abnftexts.specs.RulesGathered.{ListEntry, ReportedRule, RuleLines, lines_placed}
use Rattle.abnftexts.specs.declared.gathered.RulePosition.{RulePosition}
use Rattle.abnftexts.proofs.RulesTakenLemmas.{one-after}

-- what stands of rows that are seen otherwise
pub standing-seen : {A B : Type 0} (f : A → B) (fates : List Fate) (xs : List A)
    → map f (standing fates xs) ≡ standing fates (map f xs)
standing-seen f fates [] = refl
standing-seen f [] (x ∷ xs) = refl
standing-seen f (fate ∷ fates) (x ∷ xs) = elim (cases_Bool (has_stayed fate)) [
  | inl e ↦ rw e (ap (λ zs. f x ∷ zs) (standing-seen f fates xs))
  | inr e ↦ rw e (standing-seen f fates xs)
]

-- the row at a position, seen otherwise
pub position-there : (positions : List RulePosition) (n : ℕ) (position : RulePosition) → true ≡ ltb n (length positions)
    → position ≡ get_or positions n position → slice_get (map lines_placed positions) n ≡ Some (lines_placed position)
position-there positions n position low is =
    slice_get-map lines_placed positions n
    ∙ ap (λ (o : Option RulePosition). option_map lines_placed o)
    (slice_get-get_or positions n position (ltb-true n (length positions) (sym low)) ∙ ap Some (sym is))

pub no_position-there : (positions : List RulePosition) (n : ℕ) → false ≡ ltb n (length positions)
    → slice_get (map lines_placed positions) n ≡ None
no_position-there positions n high =
    slice_get-map lines_placed positions n
    ∙ ap (λ (o : Option RulePosition). option_map lines_placed o)
    (slice_get_past positions n (grind (arith, high)))

module _ (positions : List RuleLines) (order : List ℕ) (i : ℕ) where
  pub position-printed : (before after : Option RuleLines) (position : RuleLines) (old new all : List ℕ)
      → i < length order
      → slice_get positions (get_or order i 0) ≡ Some position → after ≡ Some position
      → new ≡ old ++ rule_printed before position
      → old ++ printed_after before (ordered_rules positions (drop i order)) ≡ all
      → new ++ printed_after after (ordered_rules positions (drop (i + 1) order)) ≡ all
  position-printed before after position old new all lt is last more h =
      let rows = ordered_rules positions (drop (i + 1) order) in
      let rest = printed_after (Some position) rows in
      let front : ordered_rules positions (drop i order)
      ≡ ordered_rules positions (get_or order i 0 ∷ drop (i + 1) order) =
      ap (λ (ns : List ℕ). ordered_rules positions ns) (one-after order i 0 lt) in
      let here : ordered_rules positions (get_or order i 0 ∷ drop (i + 1) order) ≡ position ∷ rows = rw is refl in
      let step : printed_after before (ordered_rules positions (drop i order)) ≡ rule_printed before position ++ rest =
      ap (λ (ps : List RuleLines). printed_after before ps) (front ∙ here) in
      ap (λ (o : Option RuleLines). new ++ printed_after o rows) last
      ∙ ap (λ (z : List ℕ). z ++ rest) more ∙ append_assoc old (rule_printed before position) rest
      ∙ ap (λ (z : List ℕ). old ++ z) (sym step) ∙ h

  pub no_position-printed : (before after : Option RuleLines) (old new all : List ℕ) → i < length order
      → slice_get positions (get_or order i 0) ≡ None → after ≡ before → new ≡ old
      → old ++ printed_after before (ordered_rules positions (drop i order)) ≡ all
      → new ++ printed_after after (ordered_rules positions (drop (i + 1) order)) ≡ all
  no_position-printed before after old new all lt is last same h =
      let rows = ordered_rules positions (drop (i + 1) order) in
      let front : ordered_rules positions (drop i order)
      ≡ ordered_rules positions (get_or order i 0 ∷ drop (i + 1) order) =
      ap (λ (ns : List ℕ). ordered_rules positions ns) (one-after order i 0 lt) in
      let here : ordered_rules positions (get_or order i 0 ∷ drop (i + 1) order) ≡ rows = rw is refl in
      ap (λ (o : Option RuleLines). new ++ printed_after o rows) last
      ∙ ap (λ (z : List ℕ). z ++ printed_after before rows) same
      ∙ ap (λ (ps : List RuleLines). old ++ printed_after before ps) (sym (front ∙ here)) ∙ h

-- what stands of what was gathered is joined
pub gathered-all : (positions sp : List RulePosition) (rules sr : List GivenRule) (reported : List ReportedRule)
    (entries : List ListEntry) (listed : List ℕ) (fates : List Fate) (joined : GrammarJoined)
    → fates ≡ fates_of (map text_rule rules)
    → listed ≡ rules_listed (map lines_placed positions) (map text_rule rules) fates entries
    → sp ≡ standing fates positions → sr ≡ standing fates rules
    → IsStandingJoined (map lines_placed sp) (map text_rule sr) reported listed joined
    → IsGatheredJoined (record {
      positions = map lines_placed positions;
      rules = map text_rule rules;
      reported = reported;
      list = entries;
    })
    joined
gathered-all positions sp rules sr reported entries listed fates joined are list stand_positions stand_rules h =
    let rows : List RuleLines = map lines_placed positions in
    let given : List RuleGiven = map text_rule rules in
    let a : map lines_placed sp ≡ standing (fates_of given) rows =
    ap (λ (xs : List RulePosition). map lines_placed xs) stand_positions ∙ standing-seen lines_placed fates positions
    ∙ ap (λ (fs : List Fate). standing fs rows) are in
    let b : map text_rule sr ≡ standing (fates_of given) given =
    ap (λ (xs : List GivenRule). map text_rule xs) stand_rules ∙ standing-seen text_rule fates rules
    ∙ ap (λ (fs : List Fate). standing fs given) are in
    let c : listed ≡ rules_listed rows given (fates_of given) entries =
    list ∙ ap (λ (fs : List Fate). rules_listed rows given fs entries) are in
    let one : IsStandingJoined (standing (fates_of given) rows) (map text_rule sr) reported listed joined =
    subst (λ (ps : List RuleLines). IsStandingJoined ps (map text_rule sr) reported listed joined) a h in
    let two : IsStandingJoined (standing (fates_of given) rows) (standing (fates_of given) given) reported listed joined
    =
    subst (λ (rs : List RuleGiven). IsStandingJoined (standing (fates_of given) rows) rs reported listed joined) b one
    in
    subst (λ (l : List ℕ). IsStandingJoined (standing (fates_of given) rows)
    (standing (fates_of given) given) reported l
    joined) c two

-- what is known of a result implies something else
pub ok-more : {T E : Type 0} (P Q : T → Type 0) (r : Result T E) → ((x : T) → P x → Q x) → IfOk r P → IfOk r Q
ok-more P Q (Ok x) more h = more x h
ok-more P Q (Err e) more h = tt

-- what becomes of a rule, where a word and the position of another one say it
pub fate-reported : {T E : Type 0} (r : Result T E) (positions : List RuleLines) (fate : Fate) (n : ℕ)
    (word old middle new : List ℕ) → fate_reported positions fate ≡ word ++ numbered_position positions n → middle
    ≡ old ++ word
    → OnOk r (new ≡ middle ++ numbered_position positions n) → OnOk r (new ≡ old ++ fate_reported positions fate)
fate-reported (Ok x) positions fate n word old middle new is mid h =
    h ∙ ap (λ (z : List ℕ). z ++ numbered_position positions n) mid
    ∙ append_assoc old word (numbered_position positions n)
    ∙ ap (λ (z : List ℕ). old ++ z) (sym is)
fate-reported (Err e) positions fate n word old middle new is mid h = tt
