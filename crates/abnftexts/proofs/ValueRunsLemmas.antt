-- Runs of values, one after another.
-- Serves: join_texts
use Rattle.std.proofs.Common.{◌≡◌, ℕ, zero, suc, ◌+◌, ◌-◌, ◌<◌, ◌≤◌, Bool, true, false, List, [], ◌∷◌, ◌++◌, Option}
use Rattle.std.proofs.Common.{append-nil, get_or, ◌&&◌, None, length, take, drop, map, cond, refl, sym, ap, ◌∙◌}
use Rattle.std.proofs.Common.{inl, inr, arith, subst, true≢false}
use Rattle.std.proofs.lemmas.Bool.{cases_Bool}
use Rattle.std.proofs.lemmas.List.{drop-drop, drop-map, drop_all, length-drop, length-take-le, take-append-drop}
use Rattle.std.proofs.lemmas.List.{take-map}
use Rattle.std.specs.List.{zip}
use Rattle.std.specs.Prelude.{OnOk, Ok, Err, Result}
use Rattle.abnfblocks.specs.FoundRules.{AreFound}
use Rattle.abnfblocks.specs.MaskedLines.{AreRead}
use Rattle.abnfblocks.specs.TextLines.{NumberedLine}
use Rattle.abnfblocks.specs.declared.found.RuleSearch.{RuleSearch}
use Rattle.rfcforms.specs.declared.lists.written.ListForm.{ListForm}
use Rattle.rfcvalues.specs.AssignedValues.{is_no_abnf}
use Rattle.rfcvalues.specs.RuleSketches.{SketchedRule, rule_sketched}
use Rattle.rfcvalues.specs.declared.sketch.RuleSketch.{RuleSketch}
use Rattle.abnftexts.specs.RulesGathered.{ListEntry, ReportedRule, RulesGathered, both_given}
use Rattle.abnftexts.specs.TakenRules.{IsGroupSize, TakesFound, TakesGroup, TakesMore, TextRows, join_first}
use Rattle.abnftexts.specs.TextRules.{GivesFound, GivesGroup, GivesGroups, a_run, each_alone, next_group, no_groups}
use Rattle.abnftexts.specs.ValueRuns.{FoundRule, assigns_values, before_groups, found_rules, groups_of, join_values}
use Rattle.abnftexts.specs.ValueRuns.{run_given, run_reported, stand_together, value_entry}
use Rattle.abnftexts.specs.WrittenLists.{AreExpanded}
use Rattle.abnftexts.proofs.RulesTakenLemmas.{more-taken, none-taken}

module _ (lines : List NumberedLine) where
  -- how many rules of these go on the run of that one
  abbrev more_values : FoundRule → List FoundRule → ℕ
  more_values rule [] = 0
  more_values rule (next ∷ rules) = cond (join_values lines rule next) (suc (more_values next rules)) 0

  -- and of the first one
  abbrev pub more_first : List FoundRule → ℕ
  more_first [] = 0
  more_first (rule ∷ rules) = more_values rule rules

  -- the first group of rules, and those after it
  groups-first : (rule : FoundRule) (rules : List FoundRule)
      → groups_of lines (rule ∷ rules) ≡ (rule ∷ take (more_values rule rules) rules)
      ∷ groups_of lines (drop (more_values rule rules) rules)
  groups-first rule [] = refl
  groups-first rule (next ∷ rules) =
      let rest = groups-first next rules in
      ap (before_groups lines rule) rest ∙ elim (cases_Bool (join_values lines rule next)) [
        | inl e ↦ rw e refl
        | inr e ↦ rw e (ap (λ (groups : List (List FoundRule)). (rule ∷ []) ∷ groups) (sym rest))
      ]

  pub first-joins : (rules : List FoundRule) → join_first lines rules ≡ true
      → more_first rules ≡ suc (more_first (drop 1 rules))
  first-joins [] e = absurd (true≢false (sym e))
  first-joins (rule ∷ []) e = absurd (true≢false (sym e))
  first-joins (rule ∷ next ∷ rules) e = rw e refl

  pub last-alone : (rules : List FoundRule) → length rules ≤ 1 → more_first rules ≡ 0
  last-alone [] le = refl
  last-alone (rule ∷ []) le = refl
  last-alone (rule ∷ next ∷ rules) le = absurd (omega (arith, le))

  pub first-alone : (rules : List FoundRule) → join_first lines rules ≡ false → more_first rules ≡ 0
  first-alone [] e = refl
  first-alone (rule ∷ []) e = refl
  first-alone (rule ∷ next ∷ rules) e = rw e refl

  pub size-first : (rules : List FoundRule) (size : ℕ) → 0 < length rules → size ≡ suc (more_first rules)
      → groups_of lines rules ≡ take size rules ∷ groups_of lines (drop size rules)
  size-first [] size lt e = absurd (omega (arith, lt))
  size-first (rule ∷ rules) size lt e = rw e (groups-first rule rules)

no-sketches : (found : List RuleSearch) (marks : List Bool) → found_rules found [] marks ≡ []
no-sketches [] marks = refl
no-sketches (it ∷ found) marks = refl

no-marks : (found : List RuleSearch) (sketches : List SketchedRule) → found_rules found sketches [] ≡ []
no-marks [] sketches = refl
no-marks (it ∷ found) [] = refl
no-marks (it ∷ found) (s ∷ sketches) = refl

-- the rules from one on, and so many of them
pub rules-drop : (n : ℕ) (found : List RuleSearch) (sketches : List SketchedRule) (marks : List Bool)
    → found_rules (drop n found) (drop n sketches) (drop n marks) ≡ drop n (found_rules found sketches marks)
rules-drop zero found sketches marks = refl
rules-drop (suc n) [] sketches marks = refl
rules-drop (suc n) (it ∷ found) [] marks = no-sketches (drop n found) (drop (suc n) marks)
rules-drop (suc n) (it ∷ found) (s ∷ sketches) [] = no-marks (drop n found) (drop n sketches)
rules-drop (suc n) (it ∷ found) (s ∷ sketches) (m ∷ marks) = rules-drop n found sketches marks

rules-take : (n : ℕ) (found : List RuleSearch) (sketches : List SketchedRule) (marks : List Bool)
    → found_rules (take n found) (take n sketches) (take n marks) ≡ take n (found_rules found sketches marks)
rules-take zero found sketches marks = refl
rules-take (suc n) [] sketches marks = refl
rules-take (suc n) (it ∷ found) [] marks = refl
rules-take (suc n) (it ∷ found) (s ∷ sketches) [] = refl
rules-take (suc n) (it ∷ found) (s ∷ sketches) (m ∷ marks) =
    ap (λ (rules : List FoundRule). record { it = it; sketch = s; is_value = m } ∷ rules)
    (rules-take n found sketches marks)

pub rules-length : (found : List RuleSearch) (sketches : List SketchedRule) (marks : List Bool)
    → length found ≤ length sketches → length found ≤ length marks
    → length (found_rules found sketches marks) ≡ length found
rules-length [] sketches marks s m = refl
rules-length (it ∷ found) [] marks s m = absurd (omega (arith, s))
rules-length (it ∷ found) (x ∷ sketches) [] s m = absurd (omega (arith, m))
rules-length (it ∷ found) (x ∷ sketches) (y ∷ marks) s m =
    ap suc (rules-length found sketches marks (omega (arith, s)) (omega (arith, m)))

-- what is found, and the sketches, where there are as many
pub its-all : (found : List RuleSearch) (sketches : List SketchedRule) (marks : List Bool)
    → length found ≡ length sketches → length found ≤ length marks
    → map (λ rule. rule.it) (found_rules found sketches marks) ≡ found
its-all [] sketches marks s m = refl
its-all (it ∷ found) [] marks s m = absurd (omega (arith, s))
its-all (it ∷ found) (x ∷ sketches) [] s m = absurd (omega (arith, m))
its-all (it ∷ found) (x ∷ sketches) (y ∷ marks) s m =
    ap (λ (its : List RuleSearch). it ∷ its) (its-all found sketches marks (omega (arith, s)) (omega (arith, m)))

sketches-all : (found : List RuleSearch) (sketches : List SketchedRule) (marks : List Bool)
    → length found ≡ length sketches → length found ≤ length marks
    → map (λ rule. rule.sketch) (found_rules found sketches marks) ≡ sketches
sketches-all [] [] marks s m = refl
sketches-all [] (x ∷ sketches) marks s m = absurd (omega (arith, s))
sketches-all (it ∷ found) [] marks s m = absurd (omega (arith, s))
sketches-all (it ∷ found) (x ∷ sketches) [] s m = absurd (omega (arith, m))
sketches-all (it ∷ found) (x ∷ sketches) (y ∷ marks) s m =
    ap (λ (xs : List SketchedRule). x ∷ xs) (sketches-all found sketches marks (omega (arith, s)) (omega (arith, m)))

-- what each gives of its own
pub entries-all : (entry : RuleSearch → SketchedRule → ListEntry) (found : List RuleSearch) (sketches : List RuleSketch)
    (marks : List Bool) → length found ≤ length marks → map (λ p. entry p.0 (rule_sketched p.1)) (zip found sketches)
    ≡ map (λ rule. entry rule.it rule.sketch) (found_rules found (map rule_sketched sketches) marks)
entries-all entry [] sketches marks m = refl
entries-all entry (it ∷ found) [] marks m = refl
entries-all entry (it ∷ found) (x ∷ sketches) [] m = absurd (omega (arith, m))
entries-all entry (it ∷ found) (x ∷ sketches) (y ∷ marks) m =
    ap (λ (entries : List ListEntry). entry it (rule_sketched x) ∷ entries)
    (entries-all entry found sketches marks (omega (arith, m)))

-- the first two of what is found
pub few-found : (lines : List NumberedLine) (found : List RuleSearch) (sketches : List SketchedRule) (marks : List Bool)
    → length found < 2 → false ≡ join_first lines (found_rules found sketches marks)
few-found lines [] sketches marks lt = refl
few-found lines (it ∷ []) [] marks lt = refl
few-found lines (it ∷ []) (s ∷ sketches) [] lt = refl
few-found lines (it ∷ []) (s ∷ sketches) (m ∷ marks) lt = refl
few-found lines (it ∷ next ∷ found) sketches marks lt = absurd (omega (arith, lt))

pub few-marks : (lines : List NumberedLine) (found : List RuleSearch) (sketches : List SketchedRule) (marks : List Bool)
    → length marks < 2 → false ≡ join_first lines (found_rules found sketches marks)
few-marks lines [] sketches marks lt = refl
few-marks lines (it ∷ found) [] marks lt = refl
few-marks lines (it ∷ found) (s ∷ sketches) [] lt = refl
few-marks lines (it ∷ found) (s ∷ sketches) (m ∷ []) lt = rw (no-marks found sketches) refl
few-marks lines (it ∷ found) (s ∷ sketches) (m ∷ n ∷ marks) lt = absurd (omega (arith, lt))

pub first-two : (lines : List NumberedLine) (found : List RuleSearch) (sketches : List SketchedRule) (marks : List Bool)
    (it next : RuleSearch) (m n : Bool) → 2 ≤ length found → 2 ≤ length marks → length found ≤ length sketches
    → (get_or marks 0 m && get_or marks 1 n && stand_together lines (get_or found 0 it) (get_or found 1 next))
    ≡ join_first lines (found_rules found sketches marks)
first-two lines [] sketches marks it next m n f k few = absurd (omega (arith, f))
first-two lines (a ∷ []) sketches marks it next m n f k few = absurd (omega (arith, f))
first-two lines (a ∷ b ∷ found) [] marks it next m n f k few = absurd (omega (arith, few))
first-two lines (a ∷ b ∷ found) (s ∷ []) marks it next m n f k few = absurd (omega (arith, few))
first-two lines (a ∷ b ∷ found) (s ∷ t ∷ sketches) [] it next m n f k few = absurd (omega (arith, k))
first-two lines (a ∷ b ∷ found) (s ∷ t ∷ sketches) (x ∷ []) it next m n f k few = absurd (omega (arith, k))
first-two lines (a ∷ b ∷ found) (s ∷ t ∷ sketches) (x ∷ y ∷ marks) it next m n f k few = refl

-- how far the first run is known
module _ (lines : List NumberedLine) (found : List RuleSearch) (sketches : List SketchedRule) (marks : List Bool)
    (size : ℕ) where
  abbrev pub IsRunSoFar : Type 0
  IsRunSoFar = length found ≤ length sketches → length found ≤ length marks
      → more_first lines (found_rules found sketches marks)
      ≡ (size - 1) + more_first lines (drop (size - 1) (found_rules found sketches marks))

  -- what the code finds of the rest
  joins-there : (joins : Bool) → joins ≡ join_first lines (found_rules (drop (size - 1) found)
      (drop (size - 1) sketches) (drop (size - 1) marks))
      → join_first lines (drop (size - 1) (found_rules found sketches marks)) ≡ joins
  joins-there joins e =
      sym (e ∙ ap (join_first lines) (rules-drop (size - 1) found sketches marks))

  pub run-grows : (joins : Bool) → 1 ≤ size → joins ≡ true → joins ≡ join_first lines
      (found_rules (drop (size - 1) found) (drop (size - 1) sketches) (drop (size - 1) marks)) → IsRunSoFar
      → length found ≤ length sketches → length found ≤ length marks
      → more_first lines (found_rules found sketches marks)
      ≡ ((size + 1) - 1) + more_first lines (drop ((size + 1) - 1) (found_rules found sketches marks))
  run-grows joins low yes_joins e so_far few enough =
      let rules = found_rules found sketches marks in
      let rest = drop (size - 1) rules in
      let step = first-joins lines rest (joins-there joins e ∙ yes_joins) in
      let after : drop 1 rest ≡ drop ((size + 1) - 1) rules =
      drop-drop 1 (size - 1) rules ∙ ap (λ (k : ℕ). drop k rules)
      (let k : (size - 1) + 1 ≡ (size + 1) - 1 = omega (arith, low) in k) in
      let known = so_far few enough in
      let same : more_first lines rest ≡ suc (more_first lines (drop ((size + 1) - 1) rules)) =
      step ∙ ap (λ (rs : List FoundRule). suc (more_first lines rs)) after in
      omega (arith, known, same, low)

  pub run-ends : (joins : Bool) → 1 ≤ size → joins ≡ false → joins ≡ join_first lines
      (found_rules (drop (size - 1) found) (drop (size - 1) sketches) (drop (size - 1) marks)) → IsRunSoFar
      → 0 < length found → length found ≤ length sketches → length found ≤ length marks
      → IsGroupSize lines found sketches marks size
  run-ends joins low no_joins e so_far some few enough =
      let rules = found_rules found sketches marks in
      let last = first-alone lines (drop (size - 1) rules) (joins-there joins e ∙ no_joins) in
      let known = so_far few enough in
      size-first lines rules size (omega (arith, some, rules-length found sketches marks few enough))
      (omega (arith, known, last, low))

  pub run-whole : length found ≤ size → (1 ≤ length found → size ≤ length found) → IsRunSoFar
      → 0 < length found → length found ≤ length sketches → length found ≤ length marks
      → IsGroupSize lines found sketches marks (length found)
  run-whole le within so_far some few enough =
      let rules = found_rules found sketches marks in
      let count = rules-length found sketches marks few enough in
      let same : size ≡ length found = (let k = within some in omega (arith, le, k)) in
      let one : length (drop (size - 1) rules) ≤ 1 = omega (arith, length-drop (size - 1) rules, count, same) in
      let last = last-alone lines (drop (size - 1) rules) one in
      let known = so_far few enough in
      size-first lines rules (length found) (omega (arith, some, count)) (omega (arith, known, last, same, some))

-- what a run of values gives stands after what was gathered
pub given-run : (g : RulesGathered) (name : List ℕ) (lines : List NumberedLine) (run : List FoundRule)
    (message : List ℕ) (reported : List ReportedRule) (list : List ListEntry)
    → message ≡ run_reported name lines (map (λ rule. rule.it) run)
    → reported ≡ g.reported ++ record { message = message; lines = None } ∷ []
    → list ≡ g.list ++ map (λ rule. value_entry name lines rule.it rule.sketch) run
    → record { positions = g.positions; rules = g.rules; reported = reported; list = list }
    ≡ both_given g (run_given name lines run)
given-run g name lines run message reported list a e f =
    rw (f, e, a, append-nil g.positions, append-nil g.rules) refl

-- what is known after a success implies something else
pub on-more : {T E : Type 0} (P Q : Type 0) (r : Result T E) → (P → Q) → OnOk r P → OnOk r Q
on-more P Q (Ok x) more h = more h
on-more P Q (Err e) more h = tt

-- a group is taken: a run that is no ABNF, or each rule alone
module _ (rows : TextRows) (group : List RuleSearch) (sketches : List SketchedRule) (g h : RulesGathered) where
  pub run-taken : is_no_abnf sketches ≡ true
      → ((marks : List Bool) → length group ≡ length sketches → length group ≤ length marks
      → h ≡ both_given g (run_given rows.name rows.lines (found_rules group sketches marks)))
      → TakesGroup rows group sketches g h
  run-taken none takes text lists front back marks keeps written are size enough =
      let run = found_rules group sketches marks in
      let is : assigns_values run ≡ true = ap is_no_abnf (sketches-all group sketches marks size enough) ∙ none in
      (run_given rows.name rows.lines run, a_run is, takes marks size enough)

  pub each-taken : is_no_abnf sketches ≡ false → TakesFound rows group g h → TakesGroup rows group sketches g h
  each-taken abnf takes text lists front back marks keeps written are size enough =
      let run = found_rules group sketches marks in
      let it = takes text lists front back keeps written are in
      let is : assigns_values run ≡ false = ap is_no_abnf (sketches-all group sketches marks size enough) ∙ abnf in (
        it.0,
        each_alone is (subst (λ (its : List RuleSearch). GivesFound rows.asks rows.name rows.kept rows.lines its it.0)
            (sym (its-all group sketches marks size enough)) it.1),
        it.2,
      )

-- one group after another is taken of what is found
module _ (rows : TextRows) (found : List RuleSearch) (sketches : List RuleSketch) (marks : List Bool) where
  -- what is given from that one on
  abbrev pub GivesFrom : ℕ → RulesGathered → Type 0
  GivesFrom at g = GivesGroups rows.asks rows.name rows.kept rows.lines
      (groups_of rows.lines (drop at (found_rules found (map rule_sketched sketches) marks))) g

  pub groups-more : (text : List ℕ) (lists : Option ListForm) (at size : ℕ) (g h end : RulesGathered)
      → AreRead text rows.kept → AreExpanded lists rows.kept rows.lines → AreFound 0 rows.lines found
      → length found ≤ length (map rule_sketched sketches) → length found ≤ length marks
      → at < length found → size ≤ length (drop at found)
      → ((own : List SketchedRule) → 0 < length (drop at found) → length (drop at found) ≤ length own
      → length (drop at found) ≤ length (drop at marks)
      → IsGroupSize rows.lines (drop at found) own (drop at marks) size)
      → TakesGroup rows (take size (drop at found)) (map rule_sketched (take size (drop at sketches))) g h
      → TakesMore (GivesFrom (at + size)) h end → TakesMore (GivesFrom at) g end
  groups-more text lists at size g h end keeps written are many enough lt within sizes takes more =
      let seen = map rule_sketched sketches in
      let rules = found_rules found seen marks in
      let there = drop at found in
      let own : map rule_sketched (take size (drop at sketches)) ≡ take size (drop at seen) =
      sym (take-map rule_sketched size (drop at sketches))
      ∙ ap (λ (xs : List SketchedRule). take size xs) (sym (drop-map rule_sketched at sketches)) in
      let split : take at found ++ (take size there ++ drop size there) ≡ found =
      ap (λ (xs : List RuleSearch). take at found ++ xs) (take-append-drop size there) ∙ take-append-drop at found in
      let few : length there ≤ length (drop at seen) =
      omega (arith, length-drop at found, length-drop at seen, many) in
      let marked : length there ≤ length (drop at marks) =
      omega (arith, length-drop at found, length-drop at marks, enough) in
      let low : 0 < length there = omega (arith, length-drop at found, lt) in
      let here : found_rules there (drop at seen) (drop at marks) ≡ drop at rules = rules-drop at found seen marks in
      let first : groups_of rows.lines (drop at rules)
      ≡ take size (drop at rules) ∷ groups_of rows.lines (drop size (drop at rules)) =
      subst (λ (rs : List FoundRule). groups_of rows.lines rs ≡ take size rs ∷ groups_of rows.lines (drop size rs))
      here (sizes (drop at seen) low few marked) in
      let after : drop size (drop at rules) ≡ drop (at + size) rules = drop-drop size at rules in
      let one : found_rules (take size there) (take size (drop at seen)) (take size (drop at marks))
      ≡ take size (drop at rules) =
      rules-take size there (drop at seen) (drop at marks)
      ∙ ap (λ (rs : List FoundRule). take size rs) here in
      let count : length (take size there) ≡ size = length-take-le size there within in
      let own_count : length (take size (drop at seen)) ≡ size =
      length-take-le size (drop at seen) (omega (arith, within, few)) in
      let mark_count : length (take size (drop at marks)) ≡ size =
      length-take-le size (drop at marks) (omega (arith, within, marked)) in
      let taken = subst (λ (xs : List SketchedRule). TakesGroup rows (take size there) xs g h) own takes in
      let group = taken text lists (take at found) (drop size there) (take size (drop at marks)) keeps written
      (subst (λ (its : List RuleSearch). AreFound 0 rows.lines its) (sym split) are)
      (count ∙ sym own_count) (omega (arith, count, mark_count)) in
      let Group : List FoundRule → RulesGathered → Type 0 =
      λ rs. GivesGroup rows.asks rows.name rows.kept rows.lines rs in
      let Groups : List (List FoundRule) → RulesGathered → Type 0 =
      λ gs. GivesGroups rows.asks rows.name rows.kept rows.lines gs in
      let rest = groups_of rows.lines (drop (at + size) rules) in
      let both : groups_of rows.lines (drop at rules) ≡ take size (drop at rules) ∷ rest =
      first ∙ ap (λ (rs : List FoundRule). take size (drop at rules) ∷ groups_of rows.lines rs) after in
      subst (λ (gs : List (List FoundRule)). TakesMore (Groups gs) g end) (sym both)
      (more-taken (Group (take size (drop at rules))) (Groups rest) (Groups (take size (drop at rules) ∷ rest)) g h end
      (λ a b x y. next_group x y) (subst (λ (rs : List FoundRule). TakesMore (Group rs) g h) one group) more)

  -- and none is left
  pub groups-end : (at : ℕ) (g : RulesGathered) → length found ≤ at → length found ≤ length (map rule_sketched sketches)
      → length found ≤ length marks → TakesMore (GivesFrom at) g g
  groups-end at g le many enough =
      let rules = found_rules found (map rule_sketched sketches) marks in
      let size : length rules ≤ at =
      omega (arith, rules-length found (map rule_sketched sketches) marks many enough, le) in
      subst (λ (rs : List FoundRule). TakesMore (GivesGroups rows.asks rows.name rows.kept rows.lines
      (groups_of rows.lines rs)) g g)
      (sym (drop_all at rules size))
      (none-taken (GivesGroups rows.asks rows.name rows.kept rows.lines []) g no_groups)
