-- Lines with blocks masked.
-- Serves: read_lines, one_masking
use Rattle.std.proofs.Common.{◌≡◌, ℕ, zero, suc, ◌+◌, ◌-◌, ◌<◌, ◌≤◌, ◌&&◌, nat_lt, max, Bool, true, false, List}
use Rattle.std.proofs.Common.{[], ◌∷◌, ◌++◌, length, get_or, map, take, drop, reverse, refl, sym, ap, ◌∙◌, arith}
use Rattle.std.proofs.Common.{inl, inr, subst, append_assoc, append-nil}
use Rattle.std.proofs.lemmas.Bool.{cases_Bool}
use Rattle.std.proofs.lemmas.Bool.Decides.{nat_tests}
use Rattle.std.proofs.lemmas.Grind.{take_at_read}
use Rattle.std.specs.List.{drop-map, flat_map}
use Rattle.std.proofs.lemmas.List.{drop_all, drop-drop, get_or-map, length-drop, length-map, length-take}
use Rattle.std.proofs.lemmas.List.{map-append, reverse-append, take_all}
use Rattle.std.proofs.lemmas.List.{take-map}
use Rattle.abnfblocks.specs.Fences.{opened_size, closing_length, fenced_size, hides_block, lines_inside}
use Rattle.abnfblocks.specs.Fences.{opening_length, title_size}
use Rattle.abnfblocks.specs.MaskSteps.{each_longest, line_shown, lines_shown, longest_closing}
use Rattle.abnfblocks.specs.MaskedLines.{AreRead, MasksBlocks, MasksMarkdown, MasksTags, none_left, no_block, stays}
use Rattle.abnfblocks.specs.MaskedLines.{ReadsLines, ReadsMarkdown, ReadsPlain, ShowsText}
use Rattle.abnfblocks.specs.MaskedLines.{after_blanks, hidden, masked_line}
use Rattle.abnfblocks.specs.OpenTags.{tag_size}
use Rattle.abnfblocks.specs.RuleCuts.{blanks_first}
use Rattle.abnfblocks.specs.TextLines.{NumberedLine, line_parts, numbered}
use Rattle.abnfblocks.specs.XmlLines.{HoldsXml, shown_part}
use Rattle.rfcforms.proofs.XmlPieceLemmas.{one-marking}
use Rattle.rfcforms.specs.XmlTags.{begins_xml}
use Rattle.abnfblocks.specs.declared.rfctext.text_line.TextLine.{TextLine}
use Rattle.abnfblocks.proofs.FurnitureLemmas.{one-kept}
use Rattle.abnfblocks.proofs.RuleCutLemmas.{one-fails, one-passes, rest-rows, row-after}

less-test : (a b : ℕ) → a < b → nat_lt a b ≡ true
less-test a b lt = grind (arith, nat_tests)

more-test : (a b : ℕ) → b ≤ a → nat_lt a b ≡ false
more-test a b le = grind (arith, nat_tests)

less-is : (a b : ℕ) → nat_lt a b ≡ true → a < b
less-is a b e = grind (arith, nat_tests)

-- a fence that is no longer than the longest one that closes a block is closed
closed-inside : (mark size : ℕ) (lines : List NumberedLine) → 0 < size → size ≤ longest_closing mark lines
    → lines_inside mark size lines < length lines
closed-inside mark size [] some le = absurd (omega (arith, some, le))
closed-inside mark size (line ∷ lines) some le = elim (cases_Bool (nat_lt (closing_length mark line.bytes) size)) [
  | inl e ↦
      let lt = less-is (closing_length mark line.bytes) size e in
      let more = closed-inside mark size lines some (omega (arith, le, lt)) in
      rw e (omega (arith, more))
  | inr e ↦ rw e (omega arith)
]

-- a longer one is not
open-inside : (mark size : ℕ) (lines : List NumberedLine) → longest_closing mark lines < size
    → lines_inside mark size lines ≡ length lines
open-inside mark size [] lt = refl
open-inside mark size (line ∷ lines) lt =
    let e = less-test (closing_length mark line.bytes) size (omega (arith, lt)) in
    let more = open-inside mark size lines (omega (arith, lt)) in
    rw e (omega (arith, more))

module _ (mark size : ℕ) (lines : List TextLine) (n : ℕ) (d : TextLine) (k : ℕ) (lt : n < length lines)
    (is : k ≡ closing_length mark (get_or lines n d).bytes.now) where
  pub inside-more : k < size → lines_inside mark size (drop n (map numbered lines))
      ≡ 1 + lines_inside mark size (drop (n + 1) (map numbered lines))
  inside-more less = one-passes (λ line. nat_lt (closing_length mark line.bytes) size) lines n d lt
      (less-test (closing_length mark (get_or lines n d).bytes.now) size (omega (arith, is, less)))

  pub inside-none : size ≤ k → lines_inside mark size (drop n (map numbered lines)) ≡ 0
  inside-none le = one-fails (λ line. nat_lt (closing_length mark line.bytes) size) lines n d lt
      (more-test (closing_length mark (get_or lines n d).bytes.now) size (omega (arith, is, le)))

-- the lines from a position on, as the code has them
abbrev pub lines_from_there : List TextLine → ℕ → List TextLine
lines_from_there lines i = take (length lines - i) (drop i lines)

pub rest-length : (lines : List TextLine) (i : ℕ) → length (lines_from_there lines i) ≡ length lines - i
rest-length lines i = omega (arith, length-take (length lines - i) (drop i lines), length-drop i lines)

-- the next lines are there
pub count-there : (lines : List TextLine) (i k n : ℕ) → i < length lines → n ≡ max k 1 → k ≤ length lines - i
    → n ≡ length (take n (lines_from_there lines i))
count-there lines i k n lt count le =
    omega (arith, length-take n (lines_from_there lines i), rest-length lines i, lt, count, le)

module _ (mark size longest : ℕ) where
  pub block-none : (lines : List TextLine) (d : TextLine) → 0 < length lines
      → size ≡ opening_length mark (get_or lines 0 d).bytes.now
      → longest ≡ longest_closing mark (drop 1 (map numbered lines)) → (0 < size → longest < size)
      → opened_size mark (map numbered lines) ≡ 0
  block-none [] d some opens is h = absurd (omega (arith, some))
  block-none (line ∷ lines) d some opens is h = elim (cases_Bool (nat_lt 0 size)) [
    | inl e ↦
        let lt = h (less-is 0 size e) in
        let all = open-inside mark size (map numbered lines) (omega (arith, is, lt)) in
        let no = more-test (lines_inside mark size (map numbered lines)) (length (map numbered lines))
        (omega (arith, all)) in
        rw (← opens, e, no) refl
    | inr e ↦ rw (← opens, e) refl
  ]

  pub block-some : (lines : List TextLine) (d : TextLine) → 0 < length lines
      → size ≡ opening_length mark (get_or lines 0 d).bytes.now
      → longest ≡ longest_closing mark (drop 1 (map numbered lines)) → 0 < size → size ≤ longest
      → (opened_size mark (map numbered lines) ≡ lines_inside mark size (drop 1 (map numbered lines)) + 2)
      × (lines_inside mark size (drop 1 (map numbered lines)) + 2 ≤ length lines)
  block-some [] d some opens is lt le = absurd (omega (arith, some))
  block-some (line ∷ lines) d some opens is lt le =
      let e = less-test 0 size lt in
      let within = closed-inside mark size (map numbered lines) lt (omega (arith, is, le)) in
      let yes = less-test (lines_inside mark size (map numbered lines)) (length (map numbered lines)) within in
      (rw (← opens, e, yes) refl, omega (arith, within, length-map lines numbered))

-- the longest fence from a line on
pub longest-at : (mark : ℕ) (rows : List NumberedLine) (i : ℕ) → i ≤ length rows
    → get_or (each_longest mark rows) i 0 ≡ longest_closing mark (drop i rows)
longest-at mark [] zero le = refl
longest-at mark [] (suc i) le = absurd (omega arith)
longest-at mark (row ∷ rows) zero le = refl
longest-at mark (row ∷ rows) (suc i) le = longest-at mark rows i (omega arith)

pub longest-step : (mark : ℕ) (lines : List TextLine) (i : ℕ) (d : TextLine) (longest more : ℕ)
    (before after : List ℕ) → 0 < i → i ≤ length lines → longest ≡ longest_closing mark (drop i (map numbered lines))
    → more ≡ max longest (closing_length mark (get_or lines (i - 1) d).bytes.now)
    → reverse before ≡ each_longest mark (drop i (map numbered lines)) → after ≡ before ++ more ∷ []
    → (more ≡ longest_closing mark (drop (i - 1) (map numbered lines)))
    × (reverse after ≡ each_longest mark (drop (i - 1) (map numbered lines)))
longest-step mark lines i d longest more before after some within is most each e =
    let rows : List NumberedLine = map numbered lines in
    let line : NumberedLine = numbered (get_or lines (i - 1) d) in
    let next : i - 1 + 1 ≡ i = omega (arith, some) in
    let at : drop (i - 1) rows ≡ line ∷ drop i rows =
    row-after lines (i - 1) d (omega (arith, some, within)) ∙ ap (λ (k : ℕ). line ∷ drop k rows) next in
    let here : more ≡ longest_closing mark (line ∷ drop i rows) =
    most ∙ ap (λ (k : ℕ). max k (closing_length mark line.bytes)) is in
    let all : reverse after ≡ more ∷ each_longest mark (drop i rows) =
    ap reverse e ∙ reverse-append before (more ∷ []) ∙ ap (λ (xs : List ℕ). more ∷ xs) each in (
      here ∙ ap (longest_closing mark) (sym at),
      all ∙ ap (λ (k : ℕ). k ∷ each_longest mark (drop i rows)) here ∙ ap (each_longest mark) (sym at),
    )

-- the longest fence after a line
pub longest-after : (mark : ℕ) (lines : List TextLine) (i k : ℕ) (all : List ℕ) → i < length lines
    → all ≡ each_longest mark (map numbered lines) → k ≡ get_or all (i + 1) 0
    → k ≡ longest_closing mark (drop 1 (map numbered (lines_from_there lines i)))
longest-after mark lines i k all lt are is =
    let rows : List NumberedLine = map numbered lines in
    let within : i + 1 ≤ length rows = omega (arith, lt, length-map lines numbered) in
    let there : drop (i + 1) rows ≡ drop 1 (map numbered (lines_from_there lines i)) =
    sym (drop-drop 1 i rows) ∙ ap (λ (xs : List NumberedLine). drop 1 xs) (sym (rest-rows lines i)) in
    is ∙ ap (λ (xs : List ℕ). get_or xs (i + 1) 0) are ∙ longest-at mark rows (i + 1) within
    ∙ ap (longest_closing mark) there

pub line-pushed : (masks : Bool) (lines : List TextLine) (i : ℕ) (d it : TextLine) (before after : List TextLine)
    (old : List NumberedLine) → i < length lines
    → map numbered before ≡ old ++ lines_shown masks (take i (map numbered lines)) → after ≡ before ++ it ∷ []
    → numbered it ≡ line_shown masks (numbered (get_or lines i d))
    → map numbered after ≡ old ++ lines_shown masks (take (i + 1) (map numbered lines))
line-pushed masks lines i d it before after old lt so_far e is =
    let rows : List NumberedLine = map numbered lines in
    let line : NumberedLine = numbered (get_or lines i d) in
    let at : get_or rows i (numbered d) ≡ line = get_or-map numbered lines i d (numbered d) lt in
    let more : take (i + 1) rows ≡ take i rows ++ line ∷ [] =
    (take_at_read rows i (numbered d) (omega (arith, lt, length-map lines numbered))).1
    ∙ ap (λ (x : NumberedLine). take i rows ++ x ∷ []) at in
    let pushed : map numbered after ≡ map numbered before ++ line_shown masks line ∷ [] =
    ap (λ (xs : List TextLine). map numbered xs) e ∙ map-append numbered before (it ∷ [])
    ∙ ap (λ (x : NumberedLine). map numbered before ++ x ∷ []) is in
    pushed ∙ ap (λ (xs : List NumberedLine). xs ++ line_shown masks line ∷ []) so_far
    ∙ append_assoc old (lines_shown masks (take i rows)) (line_shown masks line ∷ [])
    ∙ ap (λ (xs : List NumberedLine). old ++ xs) (shown-both masks (take i rows) line)
    ∙ ap (λ (xs : List NumberedLine). old ++ lines_shown masks xs) (sym more)
  where
    shown-both : (masks : Bool) (xs : List NumberedLine) (line : NumberedLine)
        → lines_shown masks xs ++ line_shown masks line ∷ [] ≡ lines_shown masks (xs ++ line ∷ [])
    shown-both true xs line = sym (map-append masked_line xs (line ∷ []))
    shown-both false xs line = refl

pub lines-pushed : (masks : Bool) (lines : List TextLine) (i : ℕ) (old new : List NumberedLine) → length lines ≤ i
    → new ≡ old ++ lines_shown masks (take i (map numbered lines))
    → new ≡ old ++ lines_shown masks (map numbered lines)
lines-pushed masks lines i old new le e = e ∙ ap (λ (xs : List NumberedLine). old ++ lines_shown masks xs)
    (take_all i (map numbered lines) (omega (arith, le, length-map lines numbered)))

module _ (size : List NumberedLine → ℕ) (hides : NumberedLine → Bool) where
  -- the block that the first line opens, or else that line, before the others
  block-shown : (line : NumberedLine) (lines : List NumberedLine) (k n : ℕ) (masks : Bool) → k ≡ size (line ∷ lines)
      → n ≡ max k 1 → masks ≡ (nat_lt 0 k && hides line) → (more : List NumberedLine)
      → MasksBlocks size hides (drop n (line ∷ lines)) more
      → MasksBlocks size hides (line ∷ lines) (lines_shown masks (take n (line ∷ lines)) ++ more)
  block-shown line lines zero n masks is count e more h =
      let one : n ≡ 1 = omega (arith, count) in
      let none : masks ≡ false = e in
      let rest : MasksBlocks size hides lines more = rw one at h in
      rw (one, none) (no_block (sym is) rest)
  block-shown line lines (suc k) n masks is count e more h =
      let all : n ≡ suc k = omega (arith, count) in
      let test : nat_lt 0 (suc k) ≡ true = less-test 0 (suc k) (omega arith) in
      let same : masks ≡ hides line = e ∙ ap (λ (b : Bool). b && hides line) test in
      let rest : MasksBlocks size hides (drop k lines) more = rw all at h in
      elim (cases_Bool (hides line)) [
        | inl f ↦ rw (all, same, f) (hidden (sym is) f rest)
        | inr f ↦ rw (all, same, f) (stays (sym is) f rest)
      ]

  one-blocks : {lines a b : List NumberedLine} → MasksBlocks size hides lines a → MasksBlocks size hides lines b → a ≡ b
  one-blocks none_left none_left = refl
  one-blocks (no_block {line} e h) (no_block f k) = ap (λ (xs : List NumberedLine). line ∷ xs) (one-blocks h k)
  one-blocks (no_block e h) (stays {n} f g k) = absurd (let no : 0 ≡ suc n = sym e ∙ f in omega arith)
  one-blocks (no_block e h) (hidden {n} f g k) = absurd (let no : 0 ≡ suc n = sym e ∙ f in omega arith)
  one-blocks (stays {n} e p h) (no_block f k) = absurd (let no : 0 ≡ suc n = sym f ∙ e in omega arith)
  one-blocks (hidden {n} e p h) (no_block f k) = absurd (let no : 0 ≡ suc n = sym f ∙ e in omega arith)
  one-blocks (stays e p h) (hidden f g k) = absurd (let no : false ≡ true = sym p ∙ g in cc)
  one-blocks (hidden e p h) (stays f g k) = absurd (let no : false ≡ true = sym g ∙ p in cc)
  one-blocks (stays {n} {line} {lines} {masked = x} e p h) (stays {n = m} {masked = y} f g k) =
      let same : m ≡ n = (let both : suc m ≡ suc n = sym f ∙ e in omega arith) in
      let rest : MasksBlocks size hides (drop n lines) y =
      subst (λ (i : ℕ). MasksBlocks size hides (drop i lines) y) same k in
      ap (λ (xs : List NumberedLine). take (suc n) (line ∷ lines) ++ xs) (one-blocks h rest)
      ∙ ap (λ (i : ℕ). take (suc i) (line ∷ lines) ++ y) (sym same)
  one-blocks (hidden {n} {line} {lines} {masked = x} e p h) (hidden {n = m} {masked = y} f g k) =
      let same : m ≡ n = (let both : suc m ≡ suc n = sym f ∙ e in omega arith) in
      let rest : MasksBlocks size hides (drop n lines) y =
      subst (λ (i : ℕ). MasksBlocks size hides (drop i lines) y) same k in
      ap (λ (xs : List NumberedLine). map masked_line (take (suc n) (line ∷ lines)) ++ xs) (one-blocks h rest)
      ∙ ap (λ (i : ℕ). map masked_line (take (suc i) (line ∷ lines)) ++ y) (sym same)

  -- the lines so far, and those to come with their blocks masked, are all lines with theirs masked
  abbrev pub Completes : List NumberedLine → List NumberedLine → List NumberedLine → List NumberedLine → Type 0
  Completes rows rest old new = (more : List NumberedLine) → MasksBlocks size hides rest more
      → (all : List NumberedLine) × MasksBlocks size hides rows all × (old ++ all ≡ new ++ more)

  pub block-more : (lines : List TextLine) (i : ℕ) (d : TextLine) (k n : ℕ) (masks : Bool)
      (old now new : List NumberedLine) → i < length lines → k ≡ size (drop i (map numbered lines)) → n ≡ max k 1
      → masks ≡ (nat_lt 0 k && hides (numbered (get_or lines i d)))
      → new ≡ now ++ lines_shown masks (map numbered (take n (lines_from_there lines i)))
      → Completes (map numbered lines) (drop i (map numbered lines)) old now
      → Completes (map numbered lines) (drop (i + n) (map numbered lines)) old new
  block-more lines i d k n masks old now new lt is count e shown h = λ more rest.
      let rows : List NumberedLine = map numbered lines in
      let first : NumberedLine = numbered (get_or lines i d) in
      let others : List NumberedLine = drop (i + 1) rows in
      let at : drop i rows ≡ first ∷ others = row-after lines i d lt in
      let after : MasksBlocks size hides (drop n (first ∷ others)) more =
      subst (λ (xs : List NumberedLine). MasksBlocks size hides xs more)
      (sym (drop-drop n i rows) ∙ ap (λ (xs : List NumberedLine). drop n xs) at) rest in
      let here = block-shown first others k n masks (is ∙ ap size at) count e more after in
      let there : MasksBlocks size hides (drop i rows) (lines_shown masks (take n (first ∷ others)) ++ more) =
      subst (λ (xs : List NumberedLine). MasksBlocks size hides xs
      (lines_shown masks (take n (first ∷ others)) ++ more)) (sym at) here in
      let all = h (lines_shown masks (take n (first ∷ others)) ++ more) there in
      let whose : map numbered (take n (lines_from_there lines i)) ≡ take n (first ∷ others) =
      sym (take-map numbered n (lines_from_there lines i))
      ∙ ap (λ (xs : List NumberedLine). take n xs) (rest-rows lines i ∙ at) in
      let same : (now ++ lines_shown masks (take n (first ∷ others))) ++ more ≡ new ++ more =
      ap (λ (xs : List NumberedLine). (now ++ lines_shown masks xs) ++ more) (sym whose)
      ∙ ap (λ (xs : List NumberedLine). xs ++ more) (sym shown) in
      (all.0, all.1, all.2 ∙ sym (append_assoc now (lines_shown masks (take n (first ∷ others))) more) ∙ same)

  -- nothing is left
  pub blocks-all : (lines : List TextLine) (i : ℕ) (old new : List NumberedLine) → length lines ≤ i
      → Completes (map numbered lines) (drop i (map numbered lines)) old new
      → (all : List NumberedLine) × MasksBlocks size hides (map numbered lines) all × (new ≡ old ++ all)
  blocks-all lines i old new le h =
      let none : MasksBlocks size hides (drop i (map numbered lines)) [] =
      rw (drop_all i (map numbered lines) (omega (arith, le, length-map lines numbered))) none_left in
      let all = h [] none in
      (all.0, all.1, sym (append-nil new) ∙ sym all.2)

pub tag-more : (lines : List TextLine) (i k n : ℕ) (masks : Bool) (old now new : List NumberedLine) → i < length lines
    → k ≡ tag_size (drop i (map numbered lines)) → n ≡ max k 1 → masks ≡ (nat_lt 0 k && true)
    → new ≡ now ++ lines_shown masks (map numbered (take n (lines_from_there lines i)))
    → Completes tag_size (λ line. true) (map numbered lines) (drop i (map numbered lines)) old now
    → Completes tag_size (λ line. true) (map numbered lines) (drop (i + n) (map numbered lines)) old new
tag-more [] i k n masks old now new lt is count e shown h = absurd (omega (arith, lt))
tag-more (line ∷ others) i k n masks old now new lt is count e shown h =
    block-more tag_size (λ line. true) (line ∷ others) i line k n masks old now new lt is count e shown h

-- the title block masked, and the blocks after it
pub markdown-masked : (lines blank rest title text : List TextLine) (b t : ℕ) (none one two three : List NumberedLine)
    → b ≡ blanks_first (map numbered lines) → blank ≡ take b lines → rest ≡ drop b lines
    → t ≡ title_size (map numbered rest) → title ≡ take t rest → text ≡ drop t rest → none ≡ []
    → one ≡ none ++ map numbered blank → two ≡ one ++ map masked_line (map numbered title)
    → (masked : List NumberedLine) × MasksBlocks fenced_size hides_block (map numbered text) masked
    × (three ≡ two ++ masked) → MasksMarkdown (map numbered lines) three
markdown-masked lines blank rest title text b t none one two three count before after size first others empty first_out
    title_out (masked, blocks, out) =
    let rows : List NumberedLine = map numbered lines in
    let bare : List NumberedLine = after_blanks rows in
    let there : map numbered rest ≡ bare =
    ap (λ (xs : List TextLine). map numbered xs) after ∙ sym (drop-map numbered b lines)
    ∙ ap (λ (k : ℕ). drop k rows) count in
    let long : t ≡ title_size bare = size ∙ ap title_size there in
    let left : map numbered text ≡ drop (title_size bare) bare =
    ap (λ (xs : List TextLine). map numbered xs) others ∙ sym (drop-map numbered t rest)
    ∙ ap (λ (k : ℕ). drop k (map numbered rest)) long
    ∙ ap (λ (xs : List NumberedLine). drop (title_size bare) xs) there in
    let shown : map numbered title ≡ take (title_size bare) bare =
    ap (λ (xs : List TextLine). map numbered xs) first ∙ sym (take-map numbered t rest)
    ∙ ap (λ (k : ℕ). take k (map numbered rest)) long
    ∙ ap (λ (xs : List NumberedLine). take (title_size bare) xs) there in
    let blanks : map numbered blank ≡ take (blanks_first rows) rows =
    ap (λ (xs : List TextLine). map numbered xs) before ∙ sym (take-map numbered b lines)
    ∙ ap (λ (k : ℕ). take k rows) count in
    let begun : one ≡ take (blanks_first rows) rows =
    first_out ∙ ap (λ (xs : List NumberedLine). xs ++ map numbered blank) empty ∙ blanks in
    let hidden_title : two ≡ take (blanks_first rows) rows ++ map masked_line (take (title_size bare) bare) =
    title_out ∙ ap (λ (xs : List NumberedLine). xs ++ map masked_line (map numbered title)) begun
    ∙ ap (λ (xs : List NumberedLine). take (blanks_first rows) rows ++ map masked_line xs) shown in
    record {
      rest = masked;
      blocks = subst (λ (xs : List NumberedLine). MasksBlocks fenced_size hides_block xs masked) left blocks;
      is = out ∙ ap (λ (xs : List NumberedLine). xs ++ masked) hidden_title
          ∙ append_assoc (take (blanks_first rows) rows) (map masked_line (take (title_size bare) bare)) masked;
    }

one-markdown : {lines a b : List NumberedLine} → MasksMarkdown lines a → MasksMarkdown lines b → a ≡ b
one-markdown {lines} x y =
    let n = blanks_first lines in
    let k = title_size (drop n lines) in
    x.is ∙ ap (λ (xs : List NumberedLine). take n lines ++ (map masked_line (take k (drop n lines)) ++ xs))
    (one-blocks fenced_size hides_block x.blocks y.blocks) ∙ sym y.is

one-plain : {text : List ℕ} {a b : List NumberedLine} → ReadsPlain text a → ReadsPlain text b → a ≡ b
one-plain {a} x y =
    let kept : x.kept ≡ y.kept = one-kept x.keeps y.keeps in
    let tags : MasksTags y.kept a = subst (λ (xs : List NumberedLine). MasksTags xs a) kept x.tags in
    one-blocks tag_size (λ line. true) tags y.tags

one-shown : {text : List ℕ} {a b : List NumberedLine} → ReadsMarkdown text a → ReadsMarkdown text b → a ≡ b
one-shown {a} x y =
    let kept : x.kept ≡ y.kept = one-kept x.keeps y.keeps in
    let masks : MasksMarkdown y.kept x.shown =
    subst (λ (xs : List NumberedLine). MasksMarkdown xs x.shown) kept x.masks in
    let shown : x.shown ≡ y.shown = one-markdown masks y.masks in
    let tags : MasksTags y.shown a = subst (λ (xs : List NumberedLine). MasksTags xs a) shown x.tags in
    one-blocks tag_size (λ line. true) tags y.tags

-- an XML text has one text that is read of it
one-xml : {text a b : List ℕ} → HoldsXml text a → HoldsXml text b → a ≡ b
one-xml (marked, m, e) (other, n, f) =
    e ∙ ap (λ (xs : List ℕ). flat_map shown_part (line_parts xs)) (one-marking m n) ∙ sym f

lines-alike : (of_xml : Bool) (text other : List ℕ) (a b : List NumberedLine) → text ≡ other
    → ReadsLines of_xml text a → ReadsLines of_xml other b → a ≡ b
lines-alike true text other a b e x y = one-plain x (subst (λ (xs : List ℕ). ReadsPlain xs b) (sym e) y)
lines-alike false text other a b e x y = one-shown x (subst (λ (xs : List ℕ). ReadsMarkdown xs b) (sym e) y)

texts-alike : (of_xml : Bool) (text a b : List ℕ) → ShowsText of_xml text a → ShowsText of_xml text b → a ≡ b
texts-alike true text a b x y = one-xml x y
texts-alike false text a b x y = x ∙ sym y

-- a text has one list of lines in which rules are looked for
pub one-read : {text : List ℕ} {a b : List NumberedLine} → AreRead text a → AreRead text b → a ≡ b
one-read {text} {a} {b} x y = lines-alike (begins_xml text) x.source y.source a b
    (texts-alike (begins_xml text) text x.source y.source x.shows y.shows) x.reads y.reads
