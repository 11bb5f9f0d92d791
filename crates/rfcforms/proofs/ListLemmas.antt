-- What is written for lists, part by part, and lines.
-- Serves: expanded_text, text_parts, one_expansion
use Rattle.std.proofs.Common.{◌≡◌, ◌∙◌, ℕ, ◌+◌, ◌-◌, ◌<◌, inl, inr}
use Rattle.std.proofs.Common.{List, [], ◌∷◌, ◌++◌, append_assoc, ap, ap₂, arith, length, map, Option, None}
use Rattle.std.proofs.Common.{Some, refl, subst, sym, take, drop}
use Rattle.std.proofs.lemmas.Bool.{cases_Bool}
use Rattle.std.proofs.lemmas.List.{drop-drop, length-drop, map-append}
use Rattle.std.specs.Borrow.{Bor}
use Rattle.lexer.specs.TokenLists.{Tok}
use Rattle.lexer.proofs.TokenListLemmas.{tokens-one}
use Rattle.abnfread.specs.AbnfKinds.{ends_list}
use Rattle.abnfread.specs.AbnfSlices.{First, White}
use Rattle.abnfread.specs.MarkedTokens.{AreTokens}
use Rattle.abnfread.specs.declared.kind.AbnfKind.{AbnfKind}
use Rattle.abnfread.proofs.AbnfSliceLemmas.{one-next}
use Rattle.rfcforms.specs.ListSearches.{HasElement, HasMark, IsOnOneLine, elements_after, marks_after, tokens_joined}
use Rattle.rfcforms.specs.Lists.{CutsLines, Expands, IsPart, ListFound, PushesPart, a_list, after_sign, all_stands}
use Rattle.rfcforms.specs.Lists.{digits_first, from_element, is_list, first_size, line_stands, list_at, list_written}
use Rattle.rfcforms.specs.Lists.{next_line, next_part, no_lines, nothing_left}
use Rattle.rfcforms.specs.declared.lists.element.ElementSearch.{ElementSearch}
use Rattle.rfcforms.specs.declared.lists.element.ElementSearch.TheVariants.{Awaited, Inside, Ends, Missing}
use Rattle.rfcforms.specs.declared.lists.mark.MarkSearch.{MarkSearch}
use Rattle.rfcforms.specs.declared.lists.mark.MarkSearch.TheVariants.{Before, Mark}
use Rattle.rfcforms.specs.declared.lists.written.ListForm.{ListForm}

-- five pieces are added one after another
pub five-appended : (o a b c d e p q r s t : List ℕ) → p ≡ o ++ a → q ≡ p ++ b → r ≡ q ++ c → s ≡ r ++ d → t ≡ s ++ e
    → t ≡ o ++ (a ++ (b ++ (c ++ (d ++ e))))
five-appended o a b c d e p q r s t h i j k l =
    l ∙ ap (λ (z : List ℕ). z ++ e) (k ∙ ap (λ (z : List ℕ). z ++ d) (j ∙ ap (λ (z : List ℕ). z ++ c)
    (i ∙ ap (λ (z : List ℕ). z ++ b) h)))
    ∙ append_assoc (((o ++ a) ++ b) ++ c) d e ∙ append_assoc ((o ++ a) ++ b) c (d ++ e)
    ∙ append_assoc (o ++ a) b (c ++ (d ++ e)) ∙ append_assoc o a (b ++ (c ++ (d ++ e)))

pub two-appended : (o a b x y p q : List ℕ) → p ≡ o ++ x → x ≡ a → q ≡ p ++ y → y ≡ b → q ≡ o ++ (a ++ b)
two-appended o a b x y p q h i j k =
    j ∙ ap₂ (λ (s t : List ℕ). s ++ t) (h ∙ ap (λ (z : List ℕ). o ++ z) i) k ∙ append_assoc o a b

-- a line stands that has no list
pub line-part : (form : ListForm) (text line rest : List ℕ) (count position size : ℕ) (search : ElementSearch)
    → HasMark text (Mark count position) → HasElement (from_element text position) search
    → list_at text count position search ≡ None → line ≡ drop position text → size ≡ first_size line
    → rest ≡ drop size line → IsPart form text rest (take position text ++ take size line)
line-part form text line rest count position size search h k e from is back =
    rw (back, is, from) (line_stands h k e)

tokens-same : (text : List ℕ) {a b : List (Tok AbnfKind)} → AreTokens text a → AreTokens text b → a ≡ b
tokens-same text h k = tokens-one White First ends_list one-next h k

mark-same : (text : List ℕ) {a b : MarkSearch} → HasMark text a → HasMark text b → a ≡ b
mark-same text h k = h.2 ∙ ap (λ (ts : List (Tok AbnfKind)). marks_after (Before 0 0) ts) (tokens-same text h.1 k.1)
    ∙ sym k.2

element-same : (text : List ℕ) {a b : ElementSearch} → HasElement text a → HasElement text b → a ≡ b
element-same text h k = h.2
    ∙ ap (λ (ts : List (Tok AbnfKind)). elements_after Awaited ts) (tokens-same text h.1 k.1) ∙ sym k.2

one_line-same : (text : List ℕ) {a b : List ℕ} → IsOnOneLine text a → IsOnOneLine text b → a ≡ b
one_line-same text h k = h.2 ∙ ap (λ (ts : List (Tok AbnfKind)). tokens_joined 0 ts) (tokens-same text h.1 k.1)
    ∙ sym k.2

abbrev rest_of : Option ListFound → List ℕ
rest_of None = []
rest_of (Some l) = l.rest

-- what follows a list are the last bytes of what follows its sign
list-rest : (text : List ℕ) (count position : ℕ) (search : ElementSearch) (list : ListFound)
    → list_at text count position search ≡ Some list → (n : ℕ) × (list.rest ≡ drop n (after_sign text position))
list-rest text count position Awaited list e = cc
list-rest text count position (Inside depth) list e = cc
list-rest text count position Missing list e = cc
list-rest text count position (Ends size) list e = elim (cases_Bool (is_list text count position)) [
  | inl f ↦ (
    digits_first (after_sign text position) + size,
    sym (let g = rw f at e in ap rest_of g)
        ∙ drop-drop size (digits_first (after_sign text position)) (after_sign text position),
  )
  | inr f ↦ absurd (let g = rw f at e in cc)
]

-- a part has some bytes
pub part-less : (form : ListForm) (text rest : List ℕ) {part : List ℕ} → 0 < length text → IsPart form text rest part
    → length rest < length text
part-less form text rest some (all_stands h) = some
part-less form text rest some (line_stands {count} {position} h k e) =
    let from : List ℕ = drop position text in
    omega (arith, some, length-drop (first_size from) from, length-drop position text)
part-less form text rest some (a_list {count} {position} {search} {list} h k e o) =
    let from : List ℕ = drop position text in
    let r = list-rest text count position search list e in
    let l : length list.rest ≡ length (drop 1 from) - r.0 =
    ap (λ (xs : List ℕ). length xs) r.1 ∙ length-drop r.0 (drop 1 from) in
    omega (arith, some, l, length-drop 1 from, length-drop position text)

-- one part more
pub part-more : (form : ListForm) (text rest old new left : List ℕ) → 0 < length rest
    → PushesPart form rest old new left
    → ((more : List ℕ) → Expands form rest more → Expands form text (old ++ more))
    → (more : List ℕ) → Expands form left more → Expands form text (new ++ more)
part-more form text [] old new left some p so more h = absurd (omega (arith, some))
part-more form text (b ∷ bytes) old new left some p so more h =
    subst (λ (xs : List ℕ). Expands form text xs)
    (sym (ap (λ (xs : List ℕ). xs ++ more) p.2 ∙ append_assoc old p.0 more))
    (so (p.0 ++ more) (next_part p.1 h))

pub nothing-written : (form : ListForm) (text : List ℕ) → length text ≡ 0 → Expands form text []
nothing-written form [] e = nothing_left
nothing-written form (b ∷ bytes) e = absurd (omega (arith, e))

-- a text has one first part
module _ (form : ListForm) (text : List ℕ) where
  line-line : {p q : ℕ} → p ≡ q → (drop (first_size (drop p text)) (drop p text)
      ≡ drop (first_size (drop q text)) (drop q text)) × (take p text ++ take (first_size (drop p text)) (drop p text)
      ≡ take q text ++ take (first_size (drop q text)) (drop q text))
  line-line e = (
    ap (λ (n : ℕ). drop (first_size (drop n text)) (drop n text)) e,
    ap (λ (n : ℕ). take n text ++ take (first_size (drop n text)) (drop n text)) e,
  )

  search-same : {p q : ℕ} {s t : ElementSearch} → p ≡ q → HasElement (from_element text p) s
      → HasElement (from_element text q) t → s ≡ t
  search-same {p} {q} {s} {t} e h k =
      element-same (from_element text q) (subst (λ (n : ℕ). HasElement (from_element text n) s) e h) k

  found-same : {c d p q : ℕ} {s t : ElementSearch} → c ≡ d → p ≡ q → s ≡ t
      → list_at text c p s ≡ list_at text d q t
  found-same {c} {d} {p} {q} {s} {t} e f g =
      ap (λ (n : ℕ). list_at text n p s) e ∙ ap (λ (n : ℕ). list_at text d n s) f
      ∙ ap (λ (x : ElementSearch). list_at text d q x) g

  written-same : {c d : ℕ} {l m : ListFound} {a b : List ℕ} → c ≡ d → l ≡ m → IsOnOneLine l.element a
      → IsOnOneLine m.element b
      → take c text ++ list_written form l a ≡ take d text ++ list_written form m b
  written-same {c} {d} {l} {m} {a} {b} e f h k =
      let copies : a ≡ b =
      one_line-same m.element (subst (λ (x : ListFound). IsOnOneLine x.element a) f h) k in
      ap (λ (n : ℕ). take n text ++ list_written form l a) e
      ∙ ap (λ (x : ListFound). take d text ++ list_written form x a) f
      ∙ ap (λ (z : List ℕ). take d text ++ list_written form m z) copies

  part-same : {rest other part new : List ℕ} → IsPart form text rest part → IsPart form text other new
      → (rest ≡ other) × (part ≡ new)
  part-same (all_stands h) (all_stands k) = (refl, refl)
  part-same (all_stands h) (line_stands k x e) = absurd (let m = mark-same text h k in cc)
  part-same (all_stands h) (a_list k x e o) = absurd (let m = mark-same text h k in cc)
  part-same (line_stands h x e) (all_stands k) = absurd (let m = mark-same text h k in cc)
  part-same (line_stands {count = c} {position = p} h x e) (line_stands {count = d} {position = q} k y f) =
      let m : Mark c p ≡ Mark d q = mark-same text h k in
      let same : p ≡ q = cc in
      line-line same
  part-same (line_stands {count = c} {position = p} h x e) (a_list {count = d} {position = q} {list = l} k y f o) =
      let m : Mark c p ≡ Mark d q = mark-same text h k in
      let counts : c ≡ d = cc in
      let same : p ≡ q = cc in
      let none : None ≡ Some l = sym e ∙ found-same counts same (search-same same x y) ∙ f in
      absurd (cc none)
  part-same (a_list h x e o) (all_stands k) = absurd (let m = mark-same text h k in cc)
  part-same (a_list {count = c} {position = p} {list = l} h x e o) (line_stands {count = d} {position = q} k y f) =
      let m : Mark c p ≡ Mark d q = mark-same text h k in
      let counts : c ≡ d = cc in
      let same : p ≡ q = cc in
      let none : Some l ≡ None = sym e ∙ found-same counts same (search-same same x y) ∙ f in
      absurd (cc none)
  part-same (a_list {count = c} {position = p} {list = l} h x e o)
      (a_list {count = d} {position = q} {list = n} k y f u) =
      let m : Mark c p ≡ Mark d q = mark-same text h k in
      let counts : c ≡ d = cc in
      let same : p ≡ q = cc in
      let both : Some l ≡ Some n = sym e ∙ found-same counts same (search-same same x y) ∙ f in
      let lists : l ≡ n = cc in
      (ap (λ (z : ListFound). z.rest) lists, written-same counts lists o u)

pub expansion-same : {form : ListForm} {text a b : List ℕ} → Expands form text a → Expands form text b → a ≡ b
expansion-same nothing_left nothing_left = refl
expansion-same {form} (next_part {part = x} {new = v} p h) (next_part {rest = r} {part = y} {new = w} q k) =
    let same = part-same form _ p q in
    let others : v ≡ w = expansion-same h (subst (λ (z : List ℕ). Expands form z w) (sym same.0) k) in
    ap₂ (λ (s t : List ℕ). s ++ t) same.1 others

pub lines-same : {text : List ℕ} {a b : List (List ℕ)} → CutsLines text a → CutsLines text b → a ≡ b
lines-same no_lines no_lines = refl
lines-same (next_line {b} {bytes} h) (next_line k) =
    ap (λ (xs : List (List ℕ)). take (first_size (b ∷ bytes) - 1) (b ∷ bytes) ∷ xs) (lines-same h k)

-- one line more
pub cut-more : (text rest left : List ℕ) (size : ℕ) (line : Bor (List ℕ)) (parts new : List (Bor (List ℕ)))
    → 0 < length rest → size ≡ first_size rest → line.now ≡ take (size - 1) rest → left ≡ drop size rest
    → new ≡ parts ++ line ∷ []
    → ((more : List (List ℕ)) → CutsLines rest more → CutsLines text (map (λ p. p.now) parts ++ more))
    → (more : List (List ℕ)) → CutsLines left more → CutsLines text (map (λ p. p.now) new ++ more)
cut-more text [] left size line parts new some is front back pushed so more h = absurd (omega (arith, some))
cut-more text (b ∷ bytes) left size line parts new some is front back pushed so more h =
    let row : line.now ≡ take (first_size (b ∷ bytes) - 1) (b ∷ bytes) =
    front ∙ ap (λ (n : ℕ). take (n - 1) (b ∷ bytes)) is in
    let after : left ≡ drop (first_size (b ∷ bytes)) (b ∷ bytes) =
    back ∙ ap (λ (n : ℕ). drop n (b ∷ bytes)) is in
    let one : CutsLines (b ∷ bytes) (line.now ∷ more) =
    subst (λ (z : List ℕ). CutsLines (b ∷ bytes) (z ∷ more)) (sym row)
    (next_line (subst (λ (z : List ℕ). CutsLines z more) after h)) in
    let all : map (λ (p : Bor (List ℕ)). p.now) new ++ more
    ≡ map (λ (p : Bor (List ℕ)). p.now) parts ++ (line.now ∷ more) =
    ap (λ (z : List (Bor (List ℕ))). map (λ (p : Bor (List ℕ)). p.now) z ++ more) pushed
    ∙ ap (λ (z : List (List ℕ)). z ++ more) (map-append (λ (p : Bor (List ℕ)). p.now) parts (line ∷ []))
    ∙ append_assoc (map (λ (p : Bor (List ℕ)). p.now) parts) (line.now ∷ []) more in
    subst (λ (z : List (List ℕ)). CutsLines text z) (sym all) (so (line.now ∷ more) one)

pub cut-less : (rest left : List ℕ) (size : ℕ) → 0 < length rest → size ≡ first_size rest → left ≡ drop size rest
    → length left < length rest
cut-less rest left size some is back =
    let there : length left ≡ length rest - size =
    ap (λ (xs : List ℕ). length xs) back ∙ length-drop size rest in
    omega (arith, some, is, there)

pub no-line : (text : List ℕ) → length text ≡ 0 → CutsLines text []
no-line [] e = no_lines
no-line (b ∷ bytes) e = absurd (omega (arith, e))
