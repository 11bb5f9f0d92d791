-- How many lines a rule has, and where it can be cut.
-- Serves: find_rules
use Rattle.std.proofs.Common.{◌≡◌, ℕ, zero, suc, ◌+◌, ◌-◌, ◌<◌, ◌≤◌, ◌==◌, ◌&&◌, ◌||◌, not, cond, Bool, true, false}
use Rattle.std.proofs.Common.{List, [], ◌∷◌, ◌++◌, length, get_or, map, take, drop, reverse, refl, sym, ap, ◌∙◌, arith}
use Rattle.std.proofs.Common.{inl, inr, subst, nat_lt, length-append}
use Rattle.std.proofs.lemmas.Bool.{cases_Bool, cases_order, eqb-true}
use Rattle.std.proofs.lemmas.Bool.Decides.{nat_tests}
use Rattle.std.proofs.lemmas.List.{drop_all, drop-append-le, drop-map, drop_more, get_or-drop, get_or-map, length-drop}
use Rattle.std.proofs.lemmas.List.{length-map, length-take, reverse-append, reverse-reverse, take_all}
use Rattle.std.proofs.lemmas.List.Sums.{prefix_len-drop_yes, prefix_len-drop_no, prefix_len_passes}
use Rattle.std.proofs.lemmas.List.Sums.{suffix_len-take_yes, suffix_len-take_no, suffix_len-le-length}
use Rattle.std.specs.List.{prefix_len, suffix_len, zip}
use Rattle.abnfblocks.specs.KeptSteps.{is_blank_kind, cut_blanks}
use Rattle.abnfblocks.specs.TextLines.{NumberedLine, numbered}
use Rattle.abnfblocks.specs.declared.rfctext.text_line.TextLine.{TextLine}
use Rattle.abnfblocks.specs.RuleCuts.{IsCut, belongs, blanks_first, can_end, ends_cut, full_size, is_empty_line}
use Rattle.abnfblocks.specs.RuleCuts.{rule_size, slash_first}
use Rattle.abnfblocks.specs.RuleLines.{margin_of}
use Rattle.abnfblocks.proofs.CutBlanksLemmas.{cut-cut}

-- how many lines from there on belong to a rule of that margin
abbrev pub pairs_from : ℕ → List NumberedLine → ℕ → ℕ
pairs_from m rows n = prefix_len (λ p. belongs m p.0 p.1) (zip (drop (n - 1) rows) (drop n rows))

pub row-after : (lines : List TextLine) (n : ℕ) (d : TextLine) → n < length lines
    → drop n (map numbered lines) ≡ numbered (get_or lines n d) ∷ drop (n + 1) (map numbered lines)
row-after lines n d lt =
    drop_more (map numbered lines) n (numbered d) (omega (arith, length-map lines numbered))
    ∙ ap (λ (row : NumberedLine). row ∷ drop (n + 1) (map numbered lines))
    (get_or-map numbered lines n d (numbered d) lt)

module _ (m : ℕ) (lines : List TextLine) (n : ℕ) (d e : TextLine) (some : 0 < n) (lt : n < length lines) where
  abbrev before : NumberedLine
  before = numbered (get_or lines (n - 1) d)

  abbrev here : NumberedLine
  here = numbered (get_or lines n e)

  abbrev rows : List NumberedLine
  rows = map numbered lines

  abbrev next_pairs : ℕ
  next_pairs = prefix_len (λ p. belongs m p.0 p.1) (zip (drop n rows) (drop (n + 1) rows))

  pairs-are : pairs_from m rows n ≡ cond (belongs m before here) (1 + next_pairs) 0
  pairs-are =
      let last : n - 1 + 1 ≡ n = omega (arith, some) in
      let front : drop (n - 1) rows ≡ before ∷ drop n rows =
      row-after lines (n - 1) d (omega (arith, lt)) ∙ ap (λ (k : ℕ). before ∷ drop k rows) last in
      ap (λ (xs : List NumberedLine). prefix_len (λ p. belongs m p.0 p.1) (zip xs (drop n rows))) front
      ∙ ap (λ (xs : List NumberedLine). prefix_len (λ p. belongs m p.0 p.1) (zip (before ∷ drop n rows) xs))
      (row-after lines n e lt)

  pub pair-passes : belongs m before here ≡ true → pairs_from m rows n ≡ 1 + pairs_from m rows (n + 1)
  pair-passes goes =
      let next : n ≡ n + 1 - 1 = omega arith in
      let one : cond (belongs m before here) (1 + next_pairs) 0 ≡ 1 + next_pairs = rw goes refl in
      pairs-are ∙ one
      ∙ ap (λ (k : ℕ). 1 + prefix_len (λ p. belongs m p.0 p.1) (zip (drop k rows) (drop (n + 1) rows))) next

  pub pair-fails : belongs m before here ≡ false → pairs_from m rows n ≡ 0
  pair-fails stops =
      let none : cond (belongs m before here) (1 + next_pairs) 0 ≡ 0 = rw stops refl in
      pairs-are ∙ none

no-pairs : (m : ℕ) (xs : List NumberedLine) → prefix_len (λ p. belongs m p.0 p.1) (zip xs []) ≡ 0
no-pairs m [] = refl
no-pairs m (row ∷ others) = refl

pub pairs-left : (m : ℕ) (lines : List TextLine) (n : ℕ) → length lines ≤ n → pairs_from m (map numbered lines) n ≡ 0
pairs-left m lines n le =
    ap (λ (xs : List NumberedLine). prefix_len (λ p. belongs m p.0 p.1) (zip (drop (n - 1) (map numbered lines)) xs))
    (drop_all n (map numbered lines) (omega (arith, le, length-map lines numbered)))
    ∙ no-pairs m (drop (n - 1) (map numbered lines))

pub rule-begun : (lines : List TextLine) (d : TextLine) (m : ℕ) → 0 < length lines
    → m ≡ margin_of (get_or lines 0 d).bytes.now
    → 1 + pairs_from m (map numbered lines) 1 ≡ rule_size (map numbered lines)
rule-begun [] d m lt e = absurd (omega (arith, lt))
rule-begun (line ∷ lines) d m lt e = rw e (omega arith)

module _ (test : NumberedLine → Bool) where
  numbered-at : (lines : List TextLine) (n : ℕ) (d : TextLine) → n < length lines →
      test (get_or (map numbered lines) n (numbered d)) ≡ test (numbered (get_or lines n d))
  numbered-at lines n d lt = ap test (get_or-map numbered lines n d (numbered d) lt)

  pub one-passes : (lines : List TextLine) (n : ℕ) (d : TextLine) → n < length lines
      → test (numbered (get_or lines n d)) ≡ true →
      prefix_len test (drop n (map numbered lines)) ≡ 1 + prefix_len test (drop (n + 1) (map numbered lines))
  one-passes lines n d lt e = prefix_len-drop_yes test (map numbered lines) n (numbered d)
      (omega (arith, lt, length-map lines numbered)) (numbered-at lines n d lt ∙ e)

  pub one-fails : (lines : List TextLine) (n : ℕ) (d : TextLine) → n < length lines
      → test (numbered (get_or lines n d)) ≡ false → prefix_len test (drop n (map numbered lines)) ≡ 0
  one-fails lines n d lt e = prefix_len-drop_no test (map numbered lines) n (numbered d)
      (omega (arith, lt, length-map lines numbered)) (numbered-at lines n d lt ∙ e)

  last-passes : (lines : List TextLine) (n : ℕ) (d : TextLine) → 0 < n → n ≤ length lines
      → test (numbered (get_or lines (n - 1) d)) ≡ true →
      suffix_len test (take n (map numbered lines)) ≡ 1 + suffix_len test (take (n - 1) (map numbered lines))
  last-passes lines n d more within e = suffix_len-take_yes test (map numbered lines) n (numbered d) more
      (omega (arith, within, length-map lines numbered)) (numbered-at lines (n - 1) d (omega (arith, more, within)) ∙ e)

  last-fails : (lines : List TextLine) (n : ℕ) (d : TextLine) → 0 < n → n ≤ length lines
      → test (numbered (get_or lines (n - 1) d)) ≡ false → suffix_len test (take n (map numbered lines)) ≡ 0
  last-fails lines n d more within e = suffix_len-take_no test (map numbered lines) n (numbered d) more
      (omega (arith, within, length-map lines numbered)) (numbered-at lines (n - 1) d (omega (arith, more, within)) ∙ e)

not-zero : (n : ℕ) → (1 + n == 0) ≡ false
not-zero n = grind (arith, nat_tests)

kind-after : (line : TextLine) (lines : List TextLine) (n : ℕ) (d : TextLine) (b : Bool)
    → is_blank_kind (get_or (line ∷ lines) (suc (suc n) - 1) d).kind ≡ b
    → is_empty_line (numbered (get_or lines (suc n - 1) d)) ≡ b
kind-after line lines n d b e =
    let here : suc (suc n) - 1 ≡ suc n = omega arith in
    let there : n ≡ suc n - 1 = omega arith in
    let at : is_blank_kind (get_or (line ∷ lines) (suc n) d).kind ≡ b =
    subst (λ (k : ℕ). is_blank_kind (get_or (line ∷ lines) k d).kind ≡ b) here e in
    subst (λ (k : ℕ). is_blank_kind (get_or lines k d).kind ≡ b) there at

-- a blank line ends so many lines
pub blank-ends : (lines : List TextLine) (n : ℕ) (d : TextLine) → 1 < n → n ≤ length lines
    → is_blank_kind (get_or lines (n - 1) d).kind ≡ true → false ≡ ends_cut (map numbered lines) n
blank-ends [] n d more within e = absurd (omega (arith, more, within))
blank-ends (line ∷ lines) zero d more within e = absurd (omega (arith, more))
blank-ends (line ∷ lines) (suc zero) d more within e = absurd (omega (arith, more))
blank-ends (line ∷ lines) (suc (suc n)) d more within e =
    let more = last-passes is_empty_line lines (suc n) d (omega arith) (omega (arith, within))
    (kind-after line lines n d true e) in
    rw (more, not-zero) refl

-- no blank line does, so that the lines to come decide
pub full-ends : (lines : List TextLine) (n : ℕ) (d : TextLine) → 1 < n → n ≤ length lines
    → is_blank_kind (get_or lines (n - 1) d).kind ≡ false
    → ends_cut (map numbered lines) n ≡ can_end (drop n (map numbered lines))
full-ends [] n d more within e = absurd (omega (arith, more, within))
full-ends (line ∷ lines) zero d more within e = absurd (omega (arith, more))
full-ends (line ∷ lines) (suc zero) d more within e = absurd (omega (arith, more))
full-ends (line ∷ lines) (suc (suc n)) d more within e =
    let none = last-fails is_empty_line lines (suc n) d (omega arith) (omega (arith, within))
    (kind-after line lines n d false e) in
    rw none refl

-- nor does one end the first line
pub first-ends : (lines : List TextLine) (n : ℕ) → 0 < n → n ≤ 1 → n ≤ length lines
    → ends_cut (map numbered lines) n ≡ can_end (drop n (map numbered lines))
first-ends [] n some one within = absurd (omega (arith, some, within))
first-ends (line ∷ lines) zero some one within = absurd (omega (arith, some))
first-ends (line ∷ lines) (suc zero) some one within = refl
first-ends (line ∷ lines) (suc (suc n)) some one within = absurd (omega (arith, one))

-- the lines from a position on, as the code takes them
pub rest-rows : (lines : List TextLine) (n : ℕ)
    → map numbered (take (length lines - n) (drop n lines)) ≡ drop n (map numbered lines)
rest-rows lines n =
    ap (λ (xs : List TextLine). map numbered xs)
    (take_all (length lines - n) (drop n lines) (omega (arith, length-drop n lines)))
    ∙ sym (drop-map numbered n lines)

less-other : (m n : ℕ) → m < n → (m == n) ≡ false
less-other m n lt = grind (arith, lt, nat_tests)

some-more : (n : ℕ) → 0 < n → nat_lt 0 n ≡ true
some-more n lt = grind (arith, lt, nat_tests)

-- after blank lines the next line decides
pub slash-ends : (lines : List TextLine) (n : ℕ) (b : Bool) → n ≡ blanks_first (map numbered lines)
    → n < length lines → 0 < n → b ≡ slash_first (map numbered (take (length lines - n) (drop n lines)))
    → not b ≡ can_end (map numbered lines)
slash-ends lines n b count less some e =
    let rows : List NumberedLine = map numbered lines in
    let whole : (blanks_first rows == length rows) ≡ false =
    less-other (blanks_first rows) (length rows) (omega (arith, count, less, length-map lines numbered)) in
    let more : nat_lt 0 (blanks_first rows) ≡ true = some-more (blanks_first rows) (omega (arith, count, some)) in
    let same : b ≡ slash_first (drop (blanks_first rows) rows) =
    e ∙ ap (λ (xs : List NumberedLine). slash_first xs) (rest-rows lines n)
    ∙ ap (λ (k : ℕ). slash_first (drop k rows)) count in
    rw (whole, more) (ap not same)

module _ (p : NumberedLine → Bool) where
  abbrev full_before : List NumberedLine → ℕ
  full_before xs = length xs - suffix_len p xs

  pass-more : (xs : List NumberedLine) (line : NumberedLine) → prefix_len p xs ≡ length xs → p line ≡ true
      → prefix_len p (xs ++ line ∷ []) ≡ length (xs ++ line ∷ [])
  pass-more [] line h e = rw e refl
  pass-more (x ∷ xs) line h e = elim (cases_Bool (p x)) [
    | inl f ↦
        let here : prefix_len p (x ∷ xs) ≡ 1 + prefix_len p xs = rw f refl in
        let rest = pass-more xs line (omega (arith, h, here)) e in
        rw f (omega (arith, rest))
    | inr f ↦ absurd (let none : prefix_len p (x ∷ xs) ≡ 0 = rw f refl in omega (arith, h, none))
  ]

  suffix-push : (xs : List NumberedLine) (line : NumberedLine)
      → suffix_len p (xs ++ line ∷ []) ≡ prefix_len p (line ∷ reverse xs)
  suffix-push xs line = ap (λ (r : List NumberedLine). prefix_len p r) (reverse-append xs (line ∷ []))

  abbrev AllPass : List NumberedLine → Type 0
  AllPass xs = prefix_len p xs ≡ length xs

  pass-pushed : (xs : List NumberedLine) (line : NumberedLine) → AllPass (drop (full_before xs) xs)
      → AllPass (drop (full_before (xs ++ line ∷ [])) (xs ++ line ∷ []))
  pass-pushed xs line h = elim (cases_Bool (p line)) [
    | inl e ↦
        let more : prefix_len p (line ∷ reverse xs) ≡ 1 + suffix_len p xs = rw e refl in
        let size : full_before (xs ++ line ∷ []) ≡ full_before xs =
        omega (arith, suffix-push xs line, more, length-append xs (line ∷ [])) in
        let cut : drop (full_before (xs ++ line ∷ [])) (xs ++ line ∷ []) ≡ drop (full_before xs) xs ++ line ∷ [] =
        ap (λ (n : ℕ). drop n (xs ++ line ∷ [])) size ∙ drop-append-le (full_before xs) xs (line ∷ []) (omega arith) in
        subst AllPass (sym cut) (pass-more (drop (full_before xs) xs) line h e)
    | inr e ↦
        let none : prefix_len p (line ∷ reverse xs) ≡ 0 = rw e refl in
        let size : length (xs ++ line ∷ []) ≤ full_before (xs ++ line ∷ []) =
        omega (arith, suffix-push xs line, none) in
        subst AllPass (sym (drop_all (full_before (xs ++ line ∷ [])) (xs ++ line ∷ []) size)) refl
  ]

  pass-backward : (backward : List NumberedLine)
      → AllPass (drop (full_before (reverse backward)) (reverse backward))
  pass-backward [] = refl
  pass-backward (line ∷ backward) =
      subst (λ (xs : List NumberedLine). AllPass (drop (full_before xs) xs)) (sym (reverse-append (line ∷ []) backward))
      (pass-pushed (reverse backward) line (pass-backward backward))

  -- what stands after the last one that fails passes
  pub pass-after : (xs : List NumberedLine) → AllPass (drop (full_before xs) xs)
  pass-after xs = subst (λ (ys : List NumberedLine). AllPass (drop (full_before ys) ys)) (reverse-reverse xs)
      (pass-backward (reverse xs))

  -- so each of them does
  pub pass-at : (xs : List NumberedLine) (i : ℕ) (d : NumberedLine) → full_before xs ≤ i → i < length xs
      → p (get_or xs i d) ≡ true
  pass-at xs i d le lt =
      let n = full_before xs in
      let position : n + (i - n) ≡ i = omega (arith, le) in
      let passes = prefix_len_passes p (drop n xs) (i - n) d
      (omega (arith, le, lt, pass-after xs, length-drop n xs)) in
      sym (ap (λ (k : ℕ). p (get_or xs k d)) position) ∙ sym (ap p (get_or-drop n xs (i - n) d)) ∙ passes

none-ends : (others : List NumberedLine)
    → suffix_len is_empty_line (take (length others - suffix_len is_empty_line others) others) ≡ 0
none-ends others =
    let c = cut_blanks others in
    let same = ap (λ (xs : List NumberedLine). length xs) (cut-cut others) in
    omega (arith, same, length-take (length c - suffix_len is_empty_line c) c, suffix_len-le-length is_empty_line c)

same-number : (m n : ℕ) → m ≡ n → (m == n) ≡ true
same-number m n e = grind (arith, nat_tests)

or-first : (x y : Bool) → x ≡ true → (x || y) ≡ true
or-first true y e = refl
or-first false y e = cc

both-true : (x y : Bool) → x ≡ true → y ≡ true → (x && y) ≡ true
both-true x y e f = rw (e, f) refl

first-true : (x y : Bool) → (x && y) ≡ true → x ≡ true
first-true true y e = refl
first-true false y e = cc

-- the lines of a rule up to the last one that is not blank are a cut
pub full-cut : (rule : List NumberedLine) → 0 < length rule → IsCut rule (full_size rule)
full-cut [] lt = absurd (omega (arith, lt))
full-cut (line ∷ others) lt =
    let n = length others - suffix_len is_empty_line others in
    let rest = drop n others in
    let blank = pass-after is_empty_line others in
    record {
      some = omega arith;
      within = omega arith;
      ends = both-true _ _ (same-number _ 0 (none-ends others))
          (or-first (blanks_first rest == length rest)
          (nat_lt 0 (blanks_first rest) && not (slash_first (drop (blanks_first rest) rest)))
          (same-number (blanks_first rest) (length rest) blank));
    }

-- and no cut has more lines
pub cut-bound : (rule : List NumberedLine) (k : ℕ) → IsCut rule k → k ≤ full_size rule
cut-bound [] k cut = let within = cut.within in omega (arith, within)
cut-bound (line ∷ others) zero cut = omega arith
cut-bound (line ∷ others) (suc j) cut = elim (cases_order j (length others - suffix_len is_empty_line others)) [
  | inl e ↦ omega (arith, e)
  | inr (inl lt) ↦ omega (arith, lt)
  | inr (inr gt) ↦ absurd (
      let within = cut.within in
      let passes = pass-at is_empty_line others (j - 1) line (omega (arith, gt)) (omega (arith, gt, within)) in
      let more = suffix_len-take_yes is_empty_line others j line (omega (arith, gt)) (omega (arith, within)) passes in
      let none : suffix_len is_empty_line (take j others) ≡ 0 =
      eqb-true (suffix_len is_empty_line (take j others)) 0
      (first-true (suffix_len is_empty_line (take j others) == 0) (can_end (drop j others)) cut.ends) in
      omega (arith, more, none))
]
