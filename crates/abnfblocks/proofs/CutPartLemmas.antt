-- A text is cut at the end of its first line.
-- Serves: read_lines
use Rattle.std.proofs.Common.{◌≡◌, ℕ, suc, ◌-◌, ◌<◌, ◌≤◌, ◌==◌, ◌&&◌, not, false, List, [], ◌∷◌}
use Rattle.std.proofs.Common.{length, take, drop, refl, ap, bytes_eq, codes, inl, inr, arith, ◌∙◌, sym, if◌then◌else◌}
use Rattle.std.proofs.lemmas.Bool.{cases_Bool}
use Rattle.std.proofs.lemmas.List.{length-drop, take_all}
use Rattle.std.specs.List.{prefix_len}
use Rattle.std.specs.Option.{unwrap_or}
use Rattle.abnfblocks.specs.LineKinds.{strip_end}
use Rattle.abnfblocks.specs.RuleLines.{begins_by}
use Rattle.abnfblocks.specs.TextLines.{line_parts, with_byte}

-- a part without CR at its end
abbrev pub without_cr : List ℕ → List ℕ
without_cr part = unwrap_or (strip_end part (codes "\r")) part

-- how many bytes stand before the first LF
abbrev pub size_inside : List ℕ → ℕ
size_inside text = prefix_len (λ b. not (b == 10)) text

-- and those bytes
abbrev pub text_inside : List ℕ → List ℕ
text_inside text = take (size_inside text) text

-- a CR that ends a part stands after its other bytes
cr-after : (b c : ℕ) (bytes : List ℕ) → without_cr (b ∷ c ∷ bytes) ≡ b ∷ without_cr (c ∷ bytes)
cr-after b c bytes =
    let next : suc (suc (length bytes)) - 1 ≡ suc (suc (length bytes) - 1) = omega arith in
    elim (cases_Bool (bytes_eq (drop (suc (length bytes) - 1) (c ∷ bytes)) (codes "\r"))) [
      | inl e ↦ rw (next, e) refl
      | inr e ↦ rw (next, e) refl
    ]

more-inside : (b : ℕ) (bytes : List ℕ) → (b == 10) ≡ false → size_inside (b ∷ bytes) ≡ suc (size_inside bytes)
more-inside b bytes e = rw e (omega arith)

-- a byte that neither is LF nor stands as CR before it
byte-kept : (b : ℕ) (bytes : List ℕ) → begins_by 10 bytes ≡ false
    → (if (b == 13) && begins_by 10 bytes then line_parts bytes else with_byte b (line_parts bytes))
    ≡ with_byte b (line_parts bytes)
byte-kept b bytes e = elim (cases_Bool (b == 13)) [
  | inl f ↦ rw (e, f) refl
  | inr f ↦ rw (e, f) refl
]

byte-before : (b c : ℕ) (bytes : List ℕ) (others : List (List ℕ))
    → line_parts (c ∷ bytes) ≡ without_cr (text_inside (c ∷ bytes)) ∷ others
    → (if (b == 13) && begins_by 10 (c ∷ bytes) then line_parts (c ∷ bytes) else with_byte b (line_parts (c ∷ bytes)))
    ≡ without_cr (b ∷ text_inside (c ∷ bytes)) ∷ others
byte-before b c bytes others h = elim (cases_Bool (c == 10)) [
  | inl e ↦
      let parts : [] ∷ line_parts bytes ≡ [] ∷ others = rw e at h in
      elim (cases_Bool (b == 13)) [
        | inl f ↦ rw (e, f) parts
        | inr f ↦ rw (e, f) (ap (with_byte b) parts)
      ]
  | inr e ↦
      let more = more-inside c bytes e in
      byte-kept b (c ∷ bytes) e ∙ ap (with_byte b) h
      ∙ ap (λ (part : List ℕ). part ∷ others) (rw more (sym (cr-after b c (text_inside bytes))))
]

-- what a line's end ends
pub part-ended : (text : List ℕ) (b : ℕ) (rest : List ℕ) → drop (size_inside text) text ≡ b ∷ rest
    → line_parts text ≡ without_cr (text_inside text) ∷ line_parts rest
part-ended [] b rest h = cc
part-ended (x ∷ bytes) b rest h = elim (cases_Bool (x == 10)) [
  | inl e ↦
      let at : x ∷ bytes ≡ b ∷ rest = rw e at h in
      let same : bytes ≡ rest = cc in
      rw (e, same) refl
  | inr e ↦
      let more = more-inside x bytes e in
      let at : drop (size_inside bytes) bytes ≡ b ∷ rest = rw more at h in
      rw (more, e) (byte-more x bytes at (part-ended bytes b rest at))
]
  where
    byte-more : (x : ℕ) (bytes : List ℕ) → drop (size_inside bytes) bytes ≡ b ∷ rest
        → line_parts bytes ≡ without_cr (text_inside bytes) ∷ line_parts rest
        → (if (x == 13) && begins_by 10 bytes then line_parts bytes else with_byte x (line_parts bytes))
        ≡ without_cr (x ∷ text_inside bytes) ∷ line_parts rest
    byte-more x [] at h = cc
    byte-more x (c ∷ bytes) at h = byte-before x c bytes (line_parts rest) h

-- a last line that nothing ends
pub part-left : (text : List ℕ) → 0 < length text → length text ≤ size_inside text → line_parts text ≡ text ∷ []
part-left [] lt le = absurd (omega arith)
part-left (x ∷ bytes) lt le = elim (cases_Bool (x == 10)) [
  | inl e ↦ absurd (let none : size_inside (x ∷ bytes) ≡ 0 = rw e refl in omega arith)
  | inr e ↦
      let more = more-inside x bytes e in
      rw e (byte-left x bytes (omega arith) (λ lt. part-left bytes lt (omega arith)))
]
  where
    byte-left : (x : ℕ) (bytes : List ℕ) → length bytes ≤ size_inside bytes
        → (0 < length bytes → line_parts bytes ≡ bytes ∷ [])
        → (if (x == 13) && begins_by 10 bytes then line_parts bytes else with_byte x (line_parts bytes))
        ≡ (x ∷ bytes) ∷ []
    byte-left x [] le h = byte-kept x [] refl
    byte-left x (c ∷ bytes) le h = elim (cases_Bool (c == 10)) [
      | inl e ↦ absurd (let none : size_inside (c ∷ bytes) ≡ 0 = rw e refl in omega arith)
      | inr e ↦ byte-kept x (c ∷ bytes) e ∙ ap (with_byte x) (h (omega arith))
    ]

pub part-before : (text first after rest : List ℕ) (b n : ℕ) → n ≡ size_inside text
    → first ≡ take n text → after ≡ drop n text → after ≡ b ∷ rest
    → line_parts text ≡ without_cr first ∷ line_parts rest
part-before text first after rest b n size front back more =
    let at : drop (size_inside text) text ≡ b ∷ rest = ap (λ (k : ℕ). drop k text) (sym size) ∙ sym back ∙ more in
    rw (front, size) (part-ended text b rest at)

none-left : (rest : List ℕ) → length rest ≡ 0 → rest ≡ []
none-left [] e = refl
none-left (b ∷ rest) e = absurd (omega arith)

pub part-last : (text first after rest : List ℕ) (n : ℕ) → 0 < length text → n ≡ size_inside text
    → first ≡ take n text → after ≡ drop n text → length after ≡ 0 → rest ≡ after
    → line_parts text ≡ first ∷ line_parts rest
part-last text first after rest n lt size front back none same =
    let few : length text ≤ n = omega (arith, ap length back, length-drop n text) in
    let whole : first ≡ text = front ∙ take_all n text few in
    let ends : rest ≡ [] = same ∙ none-left after none in
    rw (whole, ends) (part-left text lt (omega arith))
