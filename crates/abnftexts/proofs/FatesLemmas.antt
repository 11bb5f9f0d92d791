-- What becomes of rules, and in which order they are printed, one by one.
-- Serves: find_fates, find_order, find_clashes
use Rattle.std.proofs.Common.{◌≡◌, ℕ, suc, ◌+◌, ◌<◌, ◌≤◌, ◌==◌, nat_lt, not, Bool, true, false, List, [], ◌∷◌, ◌++◌}
use Rattle.std.proofs.Common.{length, get_or, map, take, drop, refl, sym, ap, ◌∙◌, arith, append_assoc}
use Rattle.std.proofs.Math.Seq.{drop-cons}
use Rattle.std.proofs.lemmas.Bool.Decides.{nat_tests}
use Rattle.std.proofs.lemmas.List.{get_or-map, length-map, take-map, length-take-le}
use Rattle.std.proofs.lemmas.List.Sums.{prefix_len-drop_yes, prefix_len-drop_no}
use Rattle.std.specs.List.{enumerate_from, flat_map, prefix_len}
use Rattle.abnftexts.specs.GivenRules.{RuleGiven, text_rule, first_wanted, first_same, fate_of}
use Rattle.abnftexts.specs.JoinedRules.{first_definition, adding_numbers, printed_at}
use Rattle.abnftexts.specs.declared.join.fate.Fate.{Fate}
use Rattle.abnftexts.specs.declared.join.fate.Fate.TheVariants.{Stands, Again}
use Rattle.abnftexts.specs.declared.join.given.GivenRule.{GivenRule}

pub given-at : (rules : List GivenRule) (n : ℕ) (x : GivenRule) → n < length rules → x ≡ get_or rules n x
    → get_or (map text_rule rules) n (text_rule x) ≡ text_rule x
given-at rules n x lt e = get_or-map text_rule rules n x (text_rule x) lt ∙ ap text_rule (sym e)

module _ (test : RuleGiven → Bool) where
  abbrev pub fails : RuleGiven → Bool
  fails rule = not (test rule)

  pub one-fails : (rules : List GivenRule) (n : ℕ) (x : GivenRule) (b : Bool) → n < length rules
      → x ≡ get_or rules n x → b ≡ test (text_rule x) → b ≡ false
      → prefix_len fails (drop n (map text_rule rules)) ≡ 1 + prefix_len fails (drop (n + 1) (map text_rule rules))
  one-fails rules n x b lt e found off =
      prefix_len-drop_yes fails (map text_rule rules) n (text_rule x) (omega (arith, length-map rules text_rule))
      (ap fails (given-at rules n x lt e) ∙ ap not (sym found ∙ off))

  pub one-passes : (rules : List GivenRule) (n : ℕ) (x : GivenRule) (b : Bool) → n < length rules
      → x ≡ get_or rules n x → b ≡ test (text_rule x) → b ≡ true
      → prefix_len fails (drop n (map text_rule rules)) ≡ 0
  one-passes rules n x b lt e found on =
      prefix_len-drop_no fails (map text_rule rules) n (text_rule x) (omega (arith, length-map rules text_rule))
      (ap fails (given-at rules n x lt e) ∙ ap not (sym found ∙ on))

lt-true : (m n : ℕ) → m < n → nat_lt m n ≡ true
lt-true m n h = grind (arith, nat_tests)

lt-false : (m n : ℕ) → n ≤ m → nat_lt m n ≡ false
lt-false m n h = grind (arith, nat_tests)

same-before : (rules : List GivenRule) (rule : RuleGiven) (n s : ℕ) → n ≤ length rules
    → s ≡ first_same rule (map text_rule (take n rules))
    → (s ≡ first_same rule (take n (map text_rule rules))) × (length (take n (map text_rule rules)) ≡ n)
same-before rules rule n s le e = (
  e ∙ ap (λ (xs : List RuleGiven). first_same rule xs) (sym (take-map text_rule n rules)),
  length-take-le n (map text_rule rules) (omega (arith, length-map rules text_rule)),
)

pub fate-again : (rules : List GivenRule) (rule : RuleGiven) (n w s : ℕ) → n ≤ length rules
    → w ≡ first_wanted rule (map text_rule rules) → length rules ≤ w
    → s ≡ first_same rule (map text_rule (take n rules)) → s < n
    → Again s ≡ fate_of (map text_rule rules) (take n (map text_rule rules)) rule
fate-again rules rule n w s le wanted none same lt =
    let before = same-before rules rule n s le same in
    let none_wanted : nat_lt (first_wanted rule (map text_rule rules)) (length (map text_rule rules)) ≡ false =
    lt-false _ _ (omega (arith, length-map rules text_rule)) in
    let some_same : nat_lt (first_same rule (take n (map text_rule rules)))
    (length (take n (map text_rule rules))) ≡ true =
    lt-true _ _ (omega (arith, before.0, before.1)) in
    rw (none_wanted, some_same) (ap (λ (k : ℕ). Again k) before.0)

pub fate-stands : (rules : List GivenRule) (rule : RuleGiven) (n w s : ℕ) → n ≤ length rules
    → w ≡ first_wanted rule (map text_rule rules) → length rules ≤ w
    → s ≡ first_same rule (map text_rule (take n rules)) → n ≤ s
    → Stands ≡ fate_of (map text_rule rules) (take n (map text_rule rules)) rule
fate-stands rules rule n w s le wanted none same ge =
    let before = same-before rules rule n s le same in
    let none_wanted : nat_lt (first_wanted rule (map text_rule rules)) (length (map text_rule rules)) ≡ false =
    lt-false _ _ (omega (arith, length-map rules text_rule)) in
    let none_same : nat_lt (first_same rule (take n (map text_rule rules)))
    (length (take n (map text_rule rules))) ≡ false =
    lt-false _ _ (omega (arith, before.0, before.1)) in
    rw (none_wanted, none_same) refl

-- what becomes of a rule with its number
abbrev pub fate_here : List GivenRule → ℕ × RuleGiven → Fate
fate_here rules p = fate_of (map text_rule rules) (take p.0 (map text_rule rules)) p.1

pub fates-more : (rules : List GivenRule) (n : ℕ) (x : GivenRule) (fate : Fate) (old all : List Fate)
    → n < length rules → x ≡ get_or rules n x
    → fate ≡ fate_of (map text_rule rules) (take n (map text_rule rules)) (text_rule x)
    → old ++ map (fate_here rules) (enumerate_from n (drop n (map text_rule rules))) ≡ all
    → (old ++ fate ∷ []) ++ map (fate_here rules) (enumerate_from (n + 1) (drop (n + 1) (map text_rule rules))) ≡ all
fates-more rules n x fate old all lt e is h =
    let rows = map text_rule rules in
    let within : n < length rows = omega (arith, length-map rules text_rule) in
    let here = given-at rules n x lt e in
    let next : suc n ≡ n + 1 = omega arith in
    let after : drop n rows ≡ text_rule x ∷ drop (n + 1) rows =
    drop-cons rows n (text_rule x) within
    ∙ ap (λ (row : RuleGiven). row ∷ drop (suc n) rows) here
    ∙ ap (λ (k : ℕ). text_rule x ∷ drop k rows) next in
    let step : map (fate_here rules) (enumerate_from n (drop n rows))
    ≡ fate ∷ map (fate_here rules) (enumerate_from (n + 1) (drop (n + 1) rows)) = rw (after, is) refl in
    append_assoc old (fate ∷ []) (map (fate_here rules) (enumerate_from (n + 1) (drop (n + 1) rows)))
    ∙ ap (λ (fates : List Fate). old ++ fates) (sym step) ∙ h

rows-after : (rules : List GivenRule) (n : ℕ) (x : GivenRule) → n < length rules → x ≡ get_or rules n x
    → drop n (map text_rule rules) ≡ text_rule x ∷ drop (n + 1) (map text_rule rules)
rows-after rules n x lt e =
    let next : suc n ≡ n + 1 = omega arith in
    drop-cons (map text_rule rules) n (text_rule x) (omega (arith, length-map rules text_rule))
    ∙ ap (λ (row : RuleGiven). row ∷ drop (suc n) (map text_rule rules)) (given-at rules n x lt e)
    ∙ ap (λ (k : ℕ). text_rule x ∷ drop k (map text_rule rules)) next

module _ {A : Type 0} (here : ℕ → RuleGiven → List A) where
  -- what the rules from that number on give, each with its own
  abbrev pub from : ℕ → List RuleGiven → List A
  from n rows = flat_map (λ p. here p.0 p.1) (enumerate_from n rows)

  pub one-more : (rules : List GivenRule) (n : ℕ) (x : GivenRule) (old new all : List A) → n < length rules
      → x ≡ get_or rules n x → new ≡ old ++ here n (text_rule x)
      → old ++ from n (drop n (map text_rule rules)) ≡ all
      → new ++ from (n + 1) (drop (n + 1) (map text_rule rules)) ≡ all
  one-more rules n x old new all lt e more h =
      let rest = from (n + 1) (drop (n + 1) (map text_rule rules)) in
      let step : from n (drop n (map text_rule rules)) ≡ here n (text_rule x) ++ rest =
      ap (λ (rows : List RuleGiven). from n rows) (rows-after rules n x lt e) in
      ap (λ (z : List A). z ++ rest) more ∙ append_assoc old (here n (text_rule x)) rest
      ∙ ap (λ (z : List A). old ++ z) (sym step) ∙ h

same-number : (m n : ℕ) → m ≡ n → (m == n) ≡ true
same-number m n e = grind (arith, nat_tests)

pub printed-first : (rules : List GivenRule) (rule : RuleGiven) (n first : ℕ) (added old middle new : List ℕ)
    → first ≡ first_definition rule (map text_rule rules) → rule.adds ≡ false → first ≡ n
    → added ≡ adding_numbers rule (map text_rule (take n rules))
    → middle ≡ old ++ n ∷ [] → new ≡ middle ++ added
    → new ≡ old ++ printed_at (map text_rule rules) n rule
printed-first rules rule n first added old middle new found defines same adds mid e =
    let here : (first_definition rule (map text_rule rules) == n) ≡ true =
    same-number _ _ (sym found ∙ same) in
    let rows : map text_rule (take n rules) ≡ take n (map text_rule rules) = sym (take-map text_rule n rules) in
    let printed : printed_at (map text_rule rules) n rule ≡ n ∷ adding_numbers rule (take n (map text_rule rules)) =
    rw (defines, here) refl in
    let joined : new ≡ (old ++ n ∷ []) ++ adding_numbers rule (take n (map text_rule rules)) =
    e ∙ ap (λ (z : List ℕ). z ++ added) mid ∙ ap (λ (z : List ℕ). (old ++ n ∷ []) ++ z) adds
    ∙ ap (λ (xs : List RuleGiven). (old ++ n ∷ []) ++ adding_numbers rule xs) rows in
    joined ∙ append_assoc old (n ∷ []) (adding_numbers rule (take n (map text_rule rules)))
    ∙ ap (λ (z : List ℕ). old ++ z) (sym printed)
