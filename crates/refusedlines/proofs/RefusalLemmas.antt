-- The texts that explain rejected lines.
-- Serves: explain_refused
use Rattle.std.proofs.Common.{◌≡◌, ℕ, zero, suc, ◌+◌, ◌<◌, ◌≤◌, nat_lt, Bool, false, List, [], ◌∷◌, ◌++◌, map}
use Rattle.std.proofs.Common.{Option, Some, length, take, get_or, slice_get, slice_index_or, refl, sym, ◌∙◌, ap, subst}
use Rattle.std.proofs.Common.{append_assoc, arith, codes, decimal, drop, length-append, ◌-◌, ◌==◌}
use Rattle.std.proofs.lemmas.Bool.{le-ltb, lt-ltb}
use Rattle.std.proofs.lemmas.List.{get_or_past, length-map, length-take-le, map-append, take-map, take_more}
use Rattle.std.proofs.lemmas.Option.{get_or_from_slice_get}
use Rattle.std.specs.List.{position_or_len}
use Prim.Native.Char.{code}
use Rattle.abnfread.specs.AbnfViews.{rule_of, rules_of}
use Rattle.abnfread.specs.Element.{Rule}
use Rattle.abnfread.specs.declared.elem.Elem.{Elem}
use Rattle.abnfcheck.specs.Prefixes.{IsFurthest}
use Rattle.ruletable.specs.Letters.{has}
use Rattle.ruletable.specs.Utf8Text.{IsLongestText, Spells, end, next, Writes, number, numbers}
use Rattle.ruletable.specs.declared.alphabet.Alphabet.{Alphabet}
use Rattle.ruletable.specs.declared.alphabet.Alphabet.TheVariants.{Bytes, Utf8}
use Rattle.ruletable.specs.declared.point.CodePoint.{CodePoint}
use Rattle.refusedlines.specs.declared.letterruns.run.LetterRun.{LetterRun}
use Rattle.ruletable.specs.Rules as table
use Rattle.refusedlines.specs.Following.{AreFollowing}
use Rattle.refusedlines.specs.RefusedText.{column_after, line_in_record, only_part, part_lines, refused_at}
use Rattle.refusedlines.specs.RefusedText.{symbols_text, expected_rest, unit_text}
use Rattle.ruletable.specs.declared.lines.LineRule.TheVariants.{Lf}
use Rattle.diagnostics.specs.LinesAround.{bytes_before}
use Rattle.refusedlines.specs.declared.refusal.LineUnit.{LineUnit}
use Rattle.refusedlines.specs.PartTexts.{AreTextsAfter}
use Rattle.refusedlines.specs.Refusals.{IsExplained, octet_count, octets}
use Rattle.refusedlines.specs.RuleNames.{name_at}
use Rattle.lowering.specs.Pruned.{ArePruned}
use Rattle.refusedlines.specs.declared.refusal.RefusedAt.{RefusedAt}

-- where a line is rejected, what is expected there, a picture, and the parts, put one after another
pub expected_pushed : (alphabet : Alphabet) (shown runs : List LetterRun) (parts : List (List ℕ)) (symbols : List ℕ)
    (only : Option (List ℕ)) (words ended at_words pictured old a b c new : List ℕ) → shown ≡ runs
    → symbols ≡ symbols_text alphabet shown → only ≡ only_part symbols parts → words ≡ ended → a ≡ old ++ at_words
    → b ≡ a ++ expected_rest symbols only words → c ≡ b ++ pictured → new ≡ c ++ part_lines only parts
    → new ≡ old ++ (at_words ++ (expected_rest (symbols_text alphabet runs)
    (only_part (symbols_text alphabet runs) parts) ended
    ++ (pictured ++ part_lines (only_part (symbols_text alphabet runs) parts) parts)))
expected_pushed alphabet shown runs parts symbols only words ended x z old a b c new same is one said e f g h =
    let text : symbols ≡ symbols_text alphabet runs =
    is ∙ ap (λ (v : List LetterRun). symbols_text alphabet v) same in
    let part : only ≡ only_part (symbols_text alphabet runs) parts =
    one ∙ ap (λ (v : List ℕ). only_part v parts) text in
    let y = expected_rest (symbols_text alphabet runs) (only_part (symbols_text alphabet runs) parts) ended in
    let w = part_lines (only_part (symbols_text alphabet runs) parts) parts in
    let expected : b ≡ a ++ y = f ∙ (λ i. a ++ expected_rest (text i) (part i) (said i)) in
    let listed : new ≡ c ++ w = h ∙ ap (λ (v : Option (List ℕ)). c ++ part_lines v parts) part in
    listed ∙ ap (λ v. v ++ w) (g ∙ ap (λ v. v ++ z) (expected ∙ ap (λ v. v ++ y) e))
    ∙ append_assoc ((old ++ x) ++ y) z w ∙ append_assoc (old ++ x) y (z ++ w) ∙ append_assoc old x (y ++ (z ++ w))

pub at_pushed : (old a b c : List ℕ) (line n : ℕ) (reported : List ℕ) → a ≡ old ++ codes "line " → b ≡ a ++ decimal line
    → c ≡ b ++ (codes ", letter " ++ (decimal n ++ reported))
    → c ≡ old ++ (codes "line " ++ (decimal line ++ (codes ", letter " ++ (decimal n ++ reported))))
at_pushed old a b c line n reported first second third =
    let rest = codes ", letter " ++ (decimal n ++ reported) in
    third ∙ ap (λ v. v ++ rest) (second ∙ ap (λ v. v ++ decimal line) first)
    ∙ append_assoc (old ++ codes "line ") (decimal line) rest ∙ append_assoc old (codes "line ") (decimal line ++ rest)

-- five texts, put one after another
pub five_pushed : (old x y z w v a b c d new : List ℕ) → a ≡ old ++ x → b ≡ a ++ y → c ≡ b ++ z → d ≡ c ++ w
    → new ≡ d ++ v → new ≡ old ++ (x ++ (y ++ (z ++ (w ++ v))))
five_pushed old x y z w v a b c d new e f g h i =
    i ∙ ap (λ u. u ++ v) (h ∙ ap (λ u. u ++ w) (g ∙ ap (λ u. u ++ z) (f ∙ ap (λ u. u ++ y) e)))
    ∙ append_assoc (((old ++ x) ++ y) ++ z) w v ∙ append_assoc ((old ++ x) ++ y) z (w ++ v)
    ∙ append_assoc (old ++ x) y (z ++ (w ++ v)) ∙ append_assoc old x (y ++ (z ++ (w ++ v)))

-- the line that the code shows of a record
pub line_shown : (bytes : List ℕ) (position before after : ℕ) → before ≡ bytes_before Lf (take position bytes)
    → after ≡ position_or_len (λ b. b == code "\n") (drop position bytes) → before ≤ position
    → take ((position + after) - (position - before)) (drop (position - before) bytes)
    ≡ line_in_record bytes position
line_shown bytes position before after e f within =
    let size : (position + after) - (position - before) ≡ before + after = omega (arith, within) in
    ap (λ (n : ℕ). take n (drop (position - before) bytes)) size
    ∙ (λ i. take (e i + f i) (drop (position - e i) bytes))

-- the names of rules
names_same : (rs : List (table.Rule Elem)) → map (λ rule. rule.name) (map rule_of rs) ≡ map (λ rule. rule.name) rs
names_same [] = refl
names_same (r ∷ rs) = ap (λ v. r.name ∷ v) (names_same rs)

pub name_found : (rules : table.Rules Elem) (id : ℕ) (name : List ℕ) → slice_get (table.names_of rules) id ≡ Some name
    → name ≡ name_at (rules_of rules) id
name_found rules id name is =
    sym (ap (λ v. slice_index_or v id []) (names_same rules.rules)
    ∙ get_or_from_slice_get (table.names_of rules) id name [] is)

-- no rule has that id
pub no_name : (rules : table.Rules Elem) (id : ℕ) → length rules.rules ≤ id → [] ≡ name_at (rules_of rules) id
no_name rules id le =
    let a = length-map (rules_of rules) (λ rule. rule.name) in
    let b = length-map rules.rules rule_of in
    sym (get_or_past _ id [] (omega (arith, a, b, le)))

-- how many bytes letters take
octets_push : (alphabet : Alphabet) (xs : List ℕ) (c : ℕ)
    → octet_count alphabet (xs ++ c ∷ []) ≡ octet_count alphabet xs + octets alphabet c
octets_push alphabet [] c = omega arith
octets_push alphabet (x ∷ xs) c = let rest = octets_push alphabet xs c in omega (arith, rest)

pub octets_front : (alphabet : Alphabet) (n : ℕ) (xs : List ℕ)
    → octet_count alphabet (take n xs) ≤ octet_count alphabet xs
octets_front alphabet zero xs = omega arith
octets_front alphabet (suc n) [] = omega arith
octets_front alphabet (suc n) (x ∷ xs) = let rest = octets_front alphabet n xs in omega (arith, rest)

pub count_next : (points : List CodePoint) (i : ℕ) (d : CodePoint) (count o : ℕ) → i < length points
    → count ≡ octet_count Utf8 (numbers (take i points)) → o ≡ octets Utf8 (number (get_or points i d))
    → count + o ≡ octet_count Utf8 (numbers (take (i + 1) points))
count_next points i d count o lt is one =
    let more = ap (λ v. octet_count Utf8 (numbers v)) (take_more points i d lt)
    ∙ ap (λ v. octet_count Utf8 v) (map-append number (take i points) (get_or points i d ∷ []))
    ∙ octets_push Utf8 (numbers (take i points)) (number (get_or points i d)) in
    omega (arith, more, is, one)

pub count_within : (points : List CodePoint) (i : ℕ) → octet_count Utf8 (numbers (take i points))
    ≤ octet_count Utf8 (numbers points)
count_within points i = subst (λ v. octet_count Utf8 v ≤ octet_count Utf8 (numbers points)) (take-map number i points)
    (octets_front Utf8 i (numbers points))

bytes_count : (xs : List ℕ) → octet_count Bytes xs ≡ length xs
bytes_count [] = refl
bytes_count (x ∷ xs) = let rest = bytes_count xs in omega (arith, rest)

writes_octets : {c : ℕ} {bytes : List ℕ} → Writes c bytes → octets Utf8 c ≡ length bytes
writes_octets {c = c} (Writes.one below) = rw (lt-ltb c 0x80 below) refl
writes_octets {c = c} (Writes.two a b is lb from below) = rw (le-ltb c 0x80 from, lt-ltb c 0x800 below) refl
writes_octets {c = c} (Writes.three a b d is lb ld from below) =
    rw (le-ltb c 0x80 (omega arith), le-ltb c 0x800 from, lt-ltb c 0x10000 below) refl
writes_octets {c = c} (Writes.four a b d e is lb ld le from below) =
    rw (le-ltb c 0x80 (omega arith), le-ltb c 0x800 (omega arith), le-ltb c 0x10000 from) refl

pub spells_octets : {xs bytes : List ℕ} → Spells xs bytes → octet_count Utf8 xs ≡ length bytes
spells_octets end = refl
spells_octets (next {bytes = bytes} {rest = rest} point writes spells) =
    let one = writes_octets writes in
    let more = spells_octets spells in
    let size = length-append bytes rest in
    omega (arith, one, more, size)

octets_some : (c : ℕ) → 0 < octets Utf8 c
octets_some c = grind arith

pub octets_at_least : (xs : List ℕ) → length xs ≤ octet_count Utf8 xs
octets_at_least [] = omega arith
octets_at_least (x ∷ xs) = let rest = octets_at_least xs in let some = octets_some x in omega (arith, rest, some)

module _ (unit : LineUnit) (rules : List Rule) (judged : ℕ) (line : List ℕ) (number_of : ℕ) (runs : List LetterRun)
    (ends : Bool) (name : List ℕ) (at : RefusedAt) (position column : ℕ) (old new : List ℕ)
    (named : name ≡ name_at rules judged) (left : List Rule) (parts : List (List ℕ)) where
  pub reported_bytes : new ≡ old ++ unit_text unit Bytes name number_of line at position column runs ends parts
      → IsFurthest (has Bytes) rules judged line position
      → AreFollowing (has Bytes) rules judged line position runs ends → ArePruned (has Bytes) rules left
      → AreTextsAfter Bytes left judged (take position line) position parts
      → at ≡ refused_at position (length line) false
      → column ≡ column_after (take position line) → IsExplained unit Bytes rules judged line number_of old new
  reported_bytes put furthest following pruned texts where_at columned =
      let torn : nat_lt (length line) (length line) ≡ false = le-ltb (length line) (length line) (omega arith) in
      let within = furthest.within in
      let count : octet_count Bytes (take position line) ≡ position =
      bytes_count (take position line) ∙ length-take-le position line within in (
        unit_text unit Bytes name number_of line at position column runs ends parts,
        put,
        record {
          first = line;
          size = length line;
          letters = (refl, refl);
          after = position;
          furthest = furthest;
          runs = runs;
          ends = ends;
          following = following;
          left = left;
          pruned = pruned;
          parts = parts;
          texts = texts;
          is = rw (named, where_at, columned, torn, count) refl;
        },
      )

  pub reported_points : new ≡ old ++ unit_text unit Utf8 name number_of line at position column runs ends parts
      → (points : List ℕ) (size after : ℕ) → IsLongestText line size → Spells points (take size line)
      → IsFurthest (has Utf8) rules judged points after
      → AreFollowing (has Utf8) rules judged points after runs ends → ArePruned (has Utf8) rules left
      → AreTextsAfter Utf8 left judged (take after points) after parts
      → at ≡ refused_at after (length points) (nat_lt size (length line))
      → position ≡ octet_count Utf8 (take after points) → column ≡ column_after (take after points)
      → IsExplained unit Utf8 rules judged line number_of old new
  reported_points put points size after longest spelled furthest following pruned texts where_at count columned = (
    unit_text unit Utf8 name number_of line at position column runs ends parts,
    put,
    record {
      first = points;
      size = size;
      letters = (longest, spelled);
      after = after;
      furthest = furthest;
      runs = runs;
      ends = ends;
      following = following;
      left = left;
      pruned = pruned;
      parts = parts;
      texts = texts;
      is = rw (named, where_at, columned, count) refl;
    },
  )

-- how long the letters of a line are, and the line
pub points_bound : (line : List ℕ) (size : ℕ) (points items : List CodePoint) (n : ℕ) → points ≡ items
    → IsLongestText line size → Spells (numbers items) (take size line)
    → (octet_count Utf8 (numbers (take n points)) ≤ length line) × (length points ≤ length line)
points_bound line size points items n same longest spelled =
    let all = spells_octets spelled in
    let long = length-take-le size line longest.within in
    let within = longest.within in
    let front = subst (λ v. octet_count Utf8 (numbers (take n v)) ≤ octet_count Utf8 (numbers items)) (sym same)
    (count_within items n) in
    let least = octets_at_least (numbers items) in
    let count = length-map items number in
    let equal = ap length same in
    (omega (arith, front, all, long, within), omega (arith, least, all, long, within, count, equal))
