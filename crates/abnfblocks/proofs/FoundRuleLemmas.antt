-- The longest cut of a rule that is ABNF.
-- Serves: find_rules
use Rattle.std.proofs.Common.{◌≡◌, ◌≢◌, ℕ, ◌+◌, ◌-◌, ◌<◌, ◌≤◌, Bool, true, false, List, [], ◌∷◌, ◌++◌, length}
use Rattle.std.proofs.Common.{map, take, drop, get_or, Option, None, Some, inl, inr, refl, sym, ◌∙◌, subst, ap, arith}
use Rattle.std.proofs.Common.{append_assoc, append-nil, not}
use Rattle.std.proofs.lemmas.Bool.{cases_eq, cases_lt, cases_order}
use Rattle.std.proofs.lemmas.List.{take-map, length-map, length-take, drop_all}
use Rattle.ruletable.specs.declared.fault.ReadFault.{ReadFault}
use Rattle.ruletable.specs.declared.fault.ReadFault.TheVariants as faults
use Rattle.abnfread.specs.AbnfReading.{Reads, IsFaultOf}
use Rattle.abnfread.specs.Element.{Definition}
use Rattle.abnfblocks.specs.TextLines.{NumberedLine, numbered}
use Rattle.abnfblocks.specs.declared.rfctext.text_line.TextLine.{TextLine}
use Rattle.abnfblocks.specs.RuleCuts.{IsCut, cut_text, ends_cut, first_rule, full_size, lines_text, margin_at}
use Rattle.abnfblocks.specs.RuleCuts.{rule_size}
use Rattle.abnfblocks.specs.FoundRules.{AreFound, IsAbnf, IsAbnfCut, IsFoundOf, IsLongestCut, IsNoAbnf}
use Rattle.abnfblocks.specs.FoundRules.{IsOutcome, IsShorter, none_left, no_rule, a_rule}
use Rattle.abnfblocks.specs.RuleLines.{margin_of, begins_rule_line}
use Rattle.abnfblocks.specs.declared.found.RuleSearch.{RuleSearch}
use Rattle.abnfblocks.specs.RuleEnds.{AreTests, IsCutLimit, line_bound}
use Rattle.abnfblocks.proofs.RuleEndLemmas.{tested-cut}
use Rattle.abnfblocks.proofs.FaultLineLemmas.{fault-bars}
use Rattle.abnfblocks.proofs.RuleCutLemmas.{cut-bound, full-cut, rest-rows, row-after}

-- a text with a fault reads as nothing
abbrev pub FaultsBar : Type 0
FaultsBar = (text : List ℕ) (definitions : List Definition) (fault : ReadFault) → IsFaultOf text fault
    → fault ≢ faults.Memory → Reads text definitions → ⊥

outcome-bars : FaultsBar → (text : List ℕ) (fault : ReadFault) → IsOutcome text (Some fault) → IsAbnf text → ⊥
outcome-bars bar text fault (is_fault, other) (definitions, read) = bar text definitions fault is_fault other read

pub no-cut : (n : ℕ) (rows : List NumberedLine) (b : Bool) → b ≡ ends_cut rows n → b ≡ false → IsAbnfCut rows n → ⊥
no-cut n rows b e f h =
    let cut = h.0 in
    let t : true ≡ false = sym cut.ends ∙ sym e ∙ f in
    cc

pub first-margin : (lines : List TextLine) (d : TextLine) (m : ℕ) → 0 < length lines
    → m ≡ margin_of (get_or lines 0 d).bytes.now → m ≡ margin_at (map numbered lines)
first-margin [] d m lt e = absurd (omega (arith, lt))
first-margin (line ∷ lines) d m lt e = e

bound-within : (fault : ReadFault) (n : ℕ) → line_bound fault n ≤ n
bound-within (faults.Syntax line) n = omega arith
bound-within (faults.Depth line) n = omega arith
bound-within (faults.NumberTooLarge line) n = omega arith
bound-within (faults.CodePredicate line) n = omega arith
bound-within faults.TooLong n = omega arith
bound-within faults.Memory n = omega arith

module _ (lines : List TextLine) (m : ℕ) (same : m ≡ margin_at (map numbered lines)) where
  abbrev rows : List NumberedLine
  rows = map numbered lines

  text-is : (n : ℕ) → lines_text m (map numbered (take n lines)) ≡ cut_text rows n
  text-is n = ap (λ (k : ℕ). lines_text k (map numbered (take n lines))) same
      ∙ ap (λ (xs : List NumberedLine). lines_text (margin_at rows) xs) (sym (take-map numbered n lines))

  outcome-at : (n : ℕ) (r : Option ReadFault) → IsOutcome (lines_text m (map numbered (take n lines))) r
      → IsOutcome (cut_text rows n) r
  outcome-at n r h = subst (λ (t : List ℕ). IsOutcome t r) (text-is n) h

  pub cut-reads : (n : ℕ) (b : Bool) → 0 < n → n ≤ length lines → b ≡ ends_cut rows n → b ≡ true
      → IsOutcome (lines_text m (map numbered (take n lines))) None → IsAbnfCut rows n
  cut-reads n b some within e t h = (
    record { some = some; within = omega (arith, within, length-map lines numbered); ends = sym e ∙ t },
    outcome-at n None h,
  )

  pub fault-limit : FaultsBar → (n : ℕ) (fault : ReadFault)
      → IsOutcome (lines_text m (map numbered (take n lines))) (Some fault)
      → (line_bound fault n ≤ n) × ((k : ℕ) → line_bound fault n ≤ k → k ≤ n → IsAbnfCut rows k → ⊥)
  fault-limit bar n fault h = (
    bound-within fault n,
    λ k le within (cut, read).
        let here = outcome-at n (Some fault) h in
        elim (cases_order k n) [
          | inl e ↦ outcome-bars bar (cut_text rows n) fault here (subst (λ (j : ℕ). IsAbnf (cut_text rows j)) e read)
          | inr (inl less) ↦ fault-bars (margin_at rows) rows n k cut.some less cut.within read.1 fault le here.0
          | inr (inr more) ↦ absurd (omega arith)
        ],
  )

  module _ (n : ℕ) (some : 0 < length lines) (size : n ≡ full_size rows) where
    whole-cut : IsCut rows n
    whole-cut = subst (IsCut rows) (sym size) (full-cut rows (omega (arith, some, length-map lines numbered)))

    pub whole-reads : IsOutcome (lines_text m (map numbered (take n lines))) None → IsLongestCut rows n
    whole-reads h = record {
      cut = whole-cut;
      reads = outcome-at n None h;
      longest = λ k lt cut read. absurd (omega (arith, lt, size, cut-bound rows k cut));
    }

    module _ (bar : FaultsBar) (fault : ReadFault) (k : ℕ) (shorter : IsShorter rows (line_bound fault n) k)
        (h : IsOutcome (lines_text m (map numbered (take n lines))) (Some fault)) where
      none-beyond : (i : ℕ) → k < i → IsCut rows i → IsAbnf (cut_text rows i) → ⊥
      none-beyond i lt cut read = elim (cases_lt i (line_bound fault n)) [
        | inl before ↦ shorter.1 i lt before (cut, read)
        | inr le ↦ (
            let bound = cut-bound rows i cut in
            (fault-limit bar n fault h).1 i le (omega (arith, size)) (cut, read))
      ]

      pub shorter-reads : 0 < k → IsLongestCut rows k
      shorter-reads lt =
          let here = shorter.0 lt in
          record { cut = here.0; reads = here.1; longest = none-beyond }

      pub none-reads : k ≡ 0 → IsNoAbnf rows n fault
      none-reads e = record {
        none = λ i cut read. none-beyond i (let more = cut.some in omega (arith, e, more)) cut read;
        size = size;
        fault_is = outcome-at n (Some fault) h;
      }

-- where so many lines are no cut that reads, they are the limit
pub limit-here : (rows : List NumberedLine) (n : ℕ) → (IsAbnfCut rows n → ⊥) → IsCutLimit rows n (Some n)
limit-here rows n none = (
  omega arith,
  λ k le within h. let e : k ≡ n = omega arith in
      none (subst (λ (j : ℕ). IsAbnfCut rows j) e h),
)

pub limit-more : (rows : List NumberedLine) (n lower limit : ℕ)
    → ((k : ℕ) → n < k → k < limit → IsAbnfCut rows k → ⊥) → IsCutLimit rows n (Some lower)
    → (k : ℕ) → lower - 1 < k → k < limit → IsAbnfCut rows k → ⊥
limit-more rows n lower limit none here k lt within h = elim (cases_lt n k) [
  | inl more ↦ none k more within h
  | inr le ↦ here.1 k (omega arith) le h
]

pub tests-within : (rule : List TextLine) (m limit : ℕ) (tests : List Bool)
    → AreTests m (map numbered (take (limit - 1) rule)) tests → length tests ≤ limit - 1
tests-within rule m limit tests h =
    let within = h.within in
    omega (arith, length-map (take (limit - 1) rule) numbered, length-take (limit - 1) rule)

-- more lines than were tested
pub untested-bars : (rule : List TextLine) (m limit : ℕ) (tests : List Bool) → m ≡ margin_at (map numbered rule)
    → limit ≤ length rule → AreTests m (map numbered (take (limit - 1) rule)) tests → (k : ℕ) → length tests < k
    → k < limit → IsAbnfCut (map numbered rule) k → ⊥
untested-bars rule m limit tests margin within h k more less (cut, read) =
    let size : length (map numbered (take (limit - 1) rule)) ≡ limit - 1 =
    omega (arith, length-map (take (limit - 1) rule) numbered, length-take (limit - 1) rule) in
    h.long k more (omega arith) (subst IsAbnf (sym (tested-cut rule m (limit - 1) k margin (omega arith))) read)

module _ (lines : List TextLine) (i : ℕ) (before : List RuleSearch) (lt : i < length lines)
    (all : (others : List RuleSearch) → AreFound i (drop i (map numbered lines)) others
    → AreFound 0 (map numbered lines) (before ++ others)) where
  abbrev next_lines : List NumberedLine
  next_lines = drop (i + 1) (map numbered lines)

  -- a line that begins no rule gives nothing
  pub nothing-more : (d : TextLine) → begins_rule_line (get_or lines i d).bytes.now ≡ false → (others : List RuleSearch)
      → AreFound (i + 1) next_lines others → AreFound 0 (map numbered lines) (before ++ others)
  nothing-more d e others more = all others
      (subst (λ (rows : List NumberedLine). AreFound i rows others) (sym (row-after lines i d lt)) (no_rule e more))

  abbrev rest_lines : List TextLine
  rest_lines = take (length lines - i) (drop i lines)

  -- one that does gives what is found of the rule
  pub rule-more : (d : TextLine) (size : ℕ) (it : RuleSearch) → begins_rule_line (get_or lines i d).bytes.now ≡ true
      → size ≡ rule_size (map numbered rest_lines) → IsFoundOf i (map numbered (take size rest_lines)) it
      → (others : List RuleSearch) → AreFound (i + 1) next_lines others
      → AreFound 0 (map numbered lines) ((before ++ it ∷ []) ++ others)
  rule-more d size it e count h others more =
      let rows = row-after lines i d lt in
      let whose : map numbered (take size rest_lines) ≡ first_rule (numbered (get_or lines i d) ∷ next_lines) =
      sym (take-map numbered size rest_lines) ∙ ap (λ (k : ℕ). take k (map numbered rest_lines)) count
      ∙ ap (λ (xs : List NumberedLine). first_rule xs) (rest-rows lines i ∙ rows) in
      let found = subst (λ (xs : List NumberedLine). IsFoundOf i xs it) whose h in
      let here : AreFound i (drop i (map numbered lines)) (it ∷ others) =
      subst (λ (xs : List NumberedLine). AreFound i xs (it ∷ others)) (sym rows) (a_rule e found more) in
      subst (λ (xs : List RuleSearch). AreFound 0 (map numbered lines) xs) (sym (append_assoc before (it ∷ []) others))
      (all (it ∷ others) here)

pub found-all : (lines : List TextLine) (i : ℕ) (before : List RuleSearch) → length lines ≤ i
    → ((others : List RuleSearch) → AreFound i (drop i (map numbered lines)) others
    → AreFound 0 (map numbered lines) (before ++ others))
    → AreFound 0 (map numbered lines) before
found-all lines i before le all =
    let none : AreFound i (drop i (map numbered lines)) [] =
    rw (drop_all i (map numbered lines) (omega (arith, le, length-map lines numbered))) none_left in
    rw (append-nil before) at (all [] none)
