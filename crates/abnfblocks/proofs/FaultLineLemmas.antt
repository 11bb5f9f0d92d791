-- Lines up to the one of a fault do not read, whatever follows them.
-- Serves: find_rules
use Rattle.std.proofs.Common.{◌≡◌, ℕ, zero, suc, ◌+◌, ◌-◌, ◌<◌, ◌≤◌, ◌==◌, ◌&&◌, min, not, Bool, true, false, Option}
use Rattle.std.proofs.Common.{Some, List, [], ◌∷◌, ◌++◌, length, take, drop, refl, sym, ap, ◌∙◌, arith, subst}
use Rattle.std.proofs.Common.{add-one, append_assoc, append-nil, length-append, slice_get, ◌⊎◌, inl, inr}
use Rattle.std.proofs.lemmas.Bool.{cases_lt}
use Rattle.std.proofs.lemmas.Grind.{flat_map-append}
use Rattle.std.proofs.lemmas.List.{length-take, take-append-drop, take-take}
use Rattle.ruletable.specs.Lines.{line_ends}
use Rattle.ruletable.specs.declared.fault.ReadFault.{ReadFault}
use Rattle.ruletable.specs.declared.fault.ReadFault.TheVariants as faults
use Rattle.ruletable.specs.declared.lines.LineRule.TheVariants.{Lf}
use Rattle.ruletable.specs.declared.span.Span.{Span}
use Rattle.lexer.specs.TokenLists as lexing
use Rattle.lexer.specs.TokenLists.{Tok, tok, kind_of, start_of, Next, last_one, one_more}
use Rattle.lexer.specs.SliceEnds.{Longest, no_more, piece}
use Rattle.lexer.specs.Viability.{say_more}
use Rattle.lexer.proofs.TokenListLemmas.{end-shorter, tokens-one}
use Rattle.lexer.proofs.ViabilityLemmas as lemmas
use Rattle.abnfread.specs.declared.kind.AbnfKind.{AbnfKind}
use Rattle.abnfread.specs.declared.kind.AbnfKind.TheVariants as kinds
use Rattle.abnfread.specs.AbnfKinds.{ends_list}
use Rattle.abnfread.specs.AbnfReading.{Reads, IsDecidedAt, IsSyntax, IsTooDeep, IsTooLarge, IsFaultOf}
use Rattle.abnfread.specs.AbnfSays.{Says, says, SayAll, Viable, AreWithin, IsHopeless, IsOver}
use Rattle.abnfread.specs.AbnfSlices.{Piece, blank, crlf, comment, White, First, Stands}
use Rattle.abnfread.specs.AbnfSpelling.{Grammar}
use Rattle.abnfread.specs.AbnfWords.{Word}
use Rattle.abnfread.specs.Element.{Definition}
use Rattle.abnfread.specs.MarkedTokens.{AreTokens, Marked, marked, tok_of, begins_rule, is_first, margin, marks}
use Rattle.abnfread.proofs.AbnfSliceLemmas.{first-dark, first-last, one-next, white-ends}
use Rattle.abnfread.proofs.ByteRunLemmas.{run-to}
use Rattle.abnfread.proofs.HasTakenLemmas.{within-take}
use Rattle.abnfblocks.specs.LinkedLines.{EndsLine}
use Rattle.abnfblocks.specs.RuleCuts.{cut_line, lines_text}
use Rattle.abnfblocks.specs.RuleLines.{margin_of}
use Rattle.abnfblocks.specs.RuleEnds.{line_bound}
use Rattle.abnfblocks.specs.TextLines.{NumberedLine}
use Rattle.abnfblocks.proofs.LineEndLemmas.{some_text, white-line, white-on, stands-line}
use Rattle.abnfblocks.proofs.LineTokenLemmas.{first-longest, indent-front, line-after, next-on, stands-text}
use Rattle.abnfblocks.proofs.RuleEndLemmas.{cut-line_ends}

-- white space is cut in one way
one-piece : {t m n : List ℕ} → Piece t m → Piece t n → m ≡ n
one-piece (blank e) (blank f) = refl
one-piece (blank e) crlf = cc
one-piece (blank e) (comment h s) = cc
one-piece crlf (blank e) = cc
one-piece crlf crlf = refl
one-piece (comment h s) (blank e) = cc
one-piece (comment h s) (comment k u) = run-to k u h s

white-rest : {t m r : List ℕ} → ((n : List ℕ) → Piece r n → ⊥) → White t m → White t r → White m r
white-rest dark no_more k = k
white-rest dark (piece p w) no_more = absurd (dark _ p)
white-rest dark (piece p w) (piece q v) = let e = one-piece q p in white-rest dark w (rw e at v)

next-rest : {total : ℕ} {t m r : List ℕ} {x : Tok AbnfKind} → White t m → Next White First total t x r
    → Next White First total m x r
next-rest w h = record {
  token = h.token;
  white = white-rest (first-dark h.first) w h.white;
  first = h.first;
  cut = h.cut;
  position = h.position;
  size = h.size;
}

tokens-rest : {total : ℕ} {t m : List ℕ} {ts : List (Tok AbnfKind)} → White t m
    → lexing.AreTokens White First ends_list total t ts → lexing.AreTokens White First ends_list total m ts
tokens-rest w (last_one h e) = last_one (next-rest w h) e
tokens-rest w (one_more h e more) = one_more (next-rest w h) e more

-- where a token begins that the rest s of the text has
next-starts : {total : ℕ} {s r : List ℕ} {x : Tok AbnfKind} → Next White First total s x r
    → (total ≤ start_of x + length s) × (length r ≤ length s)
next-starts {r = r} {x = tok k z p} h =
    let e = h.position in
    let shorter = end-shorter (white-ends h.white) in
    let c = ap length h.cut in
    (omega arith, omega (arith, length-append z r))

same-marked : {a b : Marked} → Some a ≡ Some b → start_of (tok_of a) ≡ start_of (tok_of b)
same-marked e = cc

starts-after : (text : List ℕ) (m : Option ℕ) {total : ℕ} {s : List ℕ} {ts : List (Tok AbnfKind)} (n j : ℕ)
    (w : Marked) → lexing.AreTokens White First ends_list total s ts → slice_get (marks text m n ts) j ≡ Some w
    → total ≤ start_of (tok_of w) + length s
starts-after text m n zero w (last_one {x = tok k z p} h e) got =
    let at = next-starts h in
    let same : p.start ≡ start_of (tok_of w) = same-marked got in
    (let f = at.0 in omega arith)
starts-after text m n (suc j) w (last_one h e) got = cc
starts-after text m n zero w (one_more {x = tok k z p} h e more) got =
    let at = next-starts h in
    let same : p.start ≡ start_of (tok_of w) = same-marked got in
    (let f = at.0 in omega arith)
starts-after text m n (suc j) w (one_more {x = x} h e more) got =
    let at = next-starts h in
    let rest = starts-after text m (lexing.end_of x) j w more got in
    (let f = at.1 in omega arith)

-- one token stands first, and one rest follows it
all_last : AbnfKind → Bool
all_last k = true

next-same : {total : ℕ} {t r s : List ℕ} {x y : Tok AbnfKind} → Next White First total t x r
    → Next White First total t y s → (x ≡ y) × (r ≡ s)
unfolding all_last
next-same {t = t} {r} {s} {x} {y} h k =
    let one = one-next (kind_of x) (kind_of y) t h.token k.token r s h.white h.first k.white k.first in
    let same : x ∷ [] ≡ y ∷ [] = tokens-one White First all_last one-next (last_one h refl) (last_one k refl) in
    (let e = same in cc, one.2)

-- the first token, and what is left of them
record FirstOf (total : ℕ) (r : List ℕ) (x : Tok AbnfKind) (ts : List (Tok AbnfKind)) : Type 0 where
  others : List (Tok AbnfKind)
  whole : ts ≡ x ∷ others
  are : lexing.AreTokens White First ends_list total r others

ends-clash : {x y : Tok AbnfKind} → x ≡ y → ends_list (kind_of x) ≡ false → ends_list (kind_of y) ≡ true → ⊥
ends-clash e f g = let h = rw e at f in cc

first-of : {total : ℕ} {t r : List ℕ} {x : Tok AbnfKind} {ts : List (Tok AbnfKind)} → Next White First total t x r
    → ends_list (kind_of x) ≡ false → lexing.AreTokens White First ends_list total t ts → FirstOf total r x ts
first-of h e (last_one k f) = absurd (ends-clash (next-same h k).0 e f)
first-of {total} {r = r} {x = x} h e (one_more {r = s} {x = y} {ts = us} k f more) =
    let same = next-same h k in
    record {
      others = us;
      whole = ap (λ (v : Tok AbnfKind). v ∷ us) (sym same.0);
      are = subst (λ (v : List ℕ). lexing.AreTokens White First ends_list total v us) (sym same.1) more;
    }

bad-silent : {k : AbnfKind} {z : List ℕ} {p : Span} {g f : Bool} {v : Word} → Says (marked (tok k z p) g f) v
    → k ≡ kinds.Bad → ⊥
bad-silent (says h) e = let k = rw e at h in elim k [ ]

marks-step : {x y : Marked} (xs ys : List Marked) → x ≡ y → (j : ℕ)
    → ((i : ℕ) → j ≡ suc i → take (suc i) xs ≡ take (suc i) ys) → take (suc j) (x ∷ xs) ≡ take (suc j) (y ∷ ys)
marks-step xs ys e zero f = ap (λ (v : Marked). v ∷ []) e
marks-step {x} {y} xs ys e (suc i) f = ap (λ (v : Marked). v ∷ take (suc i) xs) e
    ∙ ap (λ (vs : List Marked). y ∷ vs) (f i refl)

white-end : {total : ℕ} {t r : List ℕ} {x : Tok AbnfKind} → Next White First total t x r
    → ends_list (kind_of x) ≡ true → White t []
white-end h e = let nothing = first-last e h.first in let v = h.white in rw nothing at v

module _ (a b : List ℕ) (m : Option ℕ) where
  -- no token of the longer text begins within white space that ends the first one
  none-within : {t : List ℕ} {ts : List (Tok AbnfKind)} (n j : ℕ) (w : Marked) → EndsLine t → White t []
      → lexing.AreTokens White First ends_list (length (a ++ b)) (t ++ b) ts
      → slice_get (marks (a ++ b) m n ts) j ≡ Some w → start_of (tok_of w) < length a → ⊥
  none-within {t} n j w l white all got lt =
      let rest = tokens-rest (white-on b (some_text l) white) all in
      let le = starts-after (a ++ b) m n j w rest got in
      absurd (omega (arith, length-append a b))

  module _ {t r : List ℕ} {k : AbnfKind} {z : List ℕ} {p : Span} (l : EndsLine t)
      (h : Next White First (length a) t (tok k z p) r) (e : ends_list k ≡ false) {g f : Bool} {v : Word}
      (y : Says (marked (tok k z p) g f) v) where
    longest-here : Longest Stands k h.token r
    longest-here = elim (first-longest e h.first) [ inl is_bad ↦ absurd (bad-silent y is_bad) | inr longest ↦ longest ]

    line-here : EndsLine h.token
    line-here = let longest = longest-here in stands-text (white-line (some_text l) h.white) longest.stands

    line-left : EndsLine r
    line-left = let longest = longest-here in stands-line line-here longest.stands

    first-here : {us : List (Tok AbnfKind)}
        → lexing.AreTokens White First ends_list (length (a ++ b)) (t ++ b) us
        → FirstOf (length (a ++ b)) (r ++ b) (tok k z p) us
    first-here all = first-of (next-on a b h l line-here longest-here) e all

  first-marked : (k : AbnfKind) (z : List ℕ) (p : Span) (n : ℕ) → p.start ≤ length a
      → marked (tok k z p) (not (p.start == n)) (is_first (a ++ b) m (tok k z p))
      ≡ marked (tok k z p) (not (p.start == n)) (is_first a m (tok k z p))
  first-marked k z p n le = ap (λ (i : Option ℕ). marked (tok k z p) (not (p.start == n))
      (not (ends_list k) && begins_rule m i)) (indent-front a b p.start le)

  -- Up to a token that begins in the first text, the marked tokens of the longer one are its own.
  front-marks : {t : List ℕ} {ts us : List (Tok AbnfKind)} {ws : List Word} (n j : ℕ) (w : Marked) → EndsLine t
      → lexing.AreTokens White First ends_list (length a) t ts
      → lexing.AreTokens White First ends_list (length (a ++ b)) (t ++ b) us → SayAll (marks a m n ts) ws
      → slice_get (marks (a ++ b) m n us) j ≡ Some w → start_of (tok_of w) < length a
      → take (suc j) (marks (a ++ b) m n us) ≡ take (suc j) (marks a m n ts)
  front-marks {t} n j w l (last_one h e) all say got lt =
      absurd (none-within n j w l (white-end h e) all got lt)
  front-marks {us = us} n j w l (one_more {r = r} {x = tok k z p} {ts = ts} h e more) all (say_more y says_more)
      got lt =
      let first = first-here l h e y all in
      let rest = first.are in
      let within : p.start ≤ length a = (let q = h.position in omega arith) in
      let whole = first.whole in
      let here : slice_get (marks (a ++ b) m n (tok k z p ∷ first.others)) j ≡ Some w = rw whole at got in
      rw whole (marks-step _ _ (first-marked k z p n within) j (λ i f. front-marks p.end i w (line-left l h e y) more
      rest says_more (rw f at here) lt))

  first-margin : {ts us : List (Tok AbnfKind)} {ws : List Word} (j : ℕ) (w : Marked) (o : Option ℕ) → EndsLine a
      → AreTokens a ts → AreTokens (a ++ b) us → SayAll (marks a o 0 ts) ws
      → slice_get (marks (a ++ b) m 0 us) j ≡ Some w → start_of (tok_of w) < length a
      → margin (a ++ b) us ≡ margin a ts
  first-margin j w o l (last_one h e) all say got lt =
      absurd (none-within 0 j w l (white-end h e) all got lt)
  first-margin {us = us} j w o l (one_more {x = tok k z p} h e more) all (say_more y says_more) got lt =
      let first = first-here l h e y all in
      let within : p.start ≤ length a = (let q = h.position in omega arith) in
      let whole = first.whole in
      rw whole (indent-front a b p.start within)

-- how many lines end before a position after them
ends-after : (line rest : List ℕ) (n k : ℕ) → n ≡ length line + suc k
    → 1 + line_ends Lf rest k ≤ line_ends Lf (line ++ 10 ∷ rest) n
ends-after [] rest zero k e = absurd (omega arith)
ends-after [] rest (suc n) k e = let same : n ≡ k = omega arith in rw same (omega arith)
ends-after (c ∷ line) rest zero k e = absurd (omega arith)
ends-after (c ∷ line) rest (suc n) k e =
    let more = ends-after line rest n k (omega arith) in
    omega arith

lines-counted : (m : ℕ) (xs : List NumberedLine) (b : List ℕ) (n : ℕ) → length (lines_text m xs) ≤ n
    → length xs ≤ line_ends Lf (lines_text m xs ++ b) n
lines-counted m [] b n le = omega arith
lines-counted m (x ∷ xs) b n le =
    let line = drop (min m (margin_of x.bytes)) x.bytes in
    let others = lines_text m xs in
    let whole : ((line ++ 10 ∷ []) ++ others) ++ b ≡ line ++ 10 ∷ (others ++ b) =
    append_assoc (line ++ 10 ∷ []) others b ∙ append_assoc line (10 ∷ []) (others ++ b) in
    let size : length ((line ++ 10 ∷ []) ++ others) ≡ length line + suc (length others) =
    omega (arith, length-append (line ++ 10 ∷ []) others, length-append line (10 ∷ [])) in
    let k = n - length line - 1 in
    let rest = lines-counted m xs b k (omega arith) in
    let here = ends-after line (others ++ b) n k (omega arith) in
    rw whole (omega arith)

-- what decides is hopeless or over a limit
abbrev Decides : (List Marked → ℕ → Marked → Type 0) → Type 0
Decides D = (ms : List Marked) (i : ℕ) (m : Marked) → D ms i m → IsHopeless ms i ⊎ IsOver ms i

passing-bars : (all own : List Marked) (j : ℕ) → take (j + 1) all ≡ take (j + 1) own → Viable own → AreWithin own
    → IsHopeless all j ⊎ IsOver all j → ⊥
passing-bars all own j e v h (inl p) = p.here (subst Viable (sym e) (lemmas.viable-take Says Grammar (j + 1) own v))
passing-bars all own j e v h (inr p) = p.over (subst AreWithin (sym e) (within-take (j + 1) own h))

module _ (a b : List ℕ) {ds : List Definition} (l : EndsLine a) (r : Reads a ds) (i line : ℕ)
    (count : (n : ℕ) → length a ≤ n → i ≤ line_ends Lf (a ++ b) n) (le : line ≤ i) where
  decided-inside : (D : List Marked → ℕ → Marked → Type 0) → Decides D → (h : IsDecidedAt (a ++ b) line D)
      → start_of (tok_of h.token) < length a → ⊥
  decided-inside D f h lt =
      let all = h.are_tokens in
      let own = r.are_tokens in
      let m = margin a own.tokens in
      let say : SayAll (marks a m 0 own.tokens) r.words = (let s = r.say in let e = own.same in rw e at s) in
      let there : slice_get (marks (a ++ b) (margin (a ++ b) all.tokens) 0 all.tokens) h.number ≡ Some h.token =
      ap (λ (ms : List Marked). slice_get ms h.number) (sym all.same) ∙ h.there in
      let same : margin (a ++ b) all.tokens ≡ m = first-margin a b (margin (a ++ b) all.tokens) h.number h.token m l
      own.are_tokens all.are_tokens say there lt in
      let got : slice_get (marks (a ++ b) m 0 all.tokens) h.number ≡ Some h.token = rw same at there in
      let front = front-marks a b m 0 h.number h.token l own.are_tokens all.are_tokens say got lt in
      let taken : take (h.number + 1) h.all ≡ take (h.number + 1) r.tokens =
      rw (add-one h.number) (ap (take (suc h.number)) (all.same ∙ ap (λ (o : Option ℕ).
      marks (a ++ b) o 0 all.tokens) same) ∙ front ∙ ap (take (suc h.number)) (sym own.same)) in
      passing-bars h.all r.tokens h.number taken (lemmas.viable-whole Says Grammar ds r.say r.grammar)
      (record { words = r.words; say = r.say; shallow = r.shallow; small = r.small })
      (f h.all h.number h.token h.decides)

  pub decided-bars : (D : List Marked → ℕ → Marked → Type 0) → Decides D → IsDecidedAt (a ++ b) line D → ⊥
  decided-bars D f h = elim (cases_lt (start_of (tok_of h.token)) (length a)) [
    | inl lt ↦ decided-inside D f h lt
    | inr ge ↦ absurd (let e = h.line_is in let n = count (start_of (tok_of h.token)) ge in omega arith)
  ]

lines-end : (m : ℕ) (xs : List NumberedLine) → 0 < length xs → EndsLine (lines_text m xs)
lines-end m [] lt = absurd (omega arith)
lines-end m (x ∷ []) lt = let l = cut-line_ends m x in rw (append-nil (cut_line m x)) l
lines-end m (x ∷ y ∷ xs) lt = line-after (cut_line m x) (lines-end m (y ∷ xs) (omega arith))

module _ (m : ℕ) (rows : List NumberedLine) (n i : ℕ) (some : 0 < i) (less : i < n) (within : i ≤ length rows)
    {ds : List Definition} (r : Reads (lines_text m (take i rows)) ds) where
  abbrev left : List ℕ
  left = lines_text m (drop i (take n rows))

  cut-whole : lines_text m (take n rows) ≡ lines_text m (take i rows) ++ left
  cut-whole = ap (lines_text m) (sym (take-append-drop i (take n rows)))
      ∙ flat_map-append (cut_line m) (take i (take n rows)) (drop i (take n rows))
      ∙ ap (λ (xs : List NumberedLine). lines_text m xs ++ left) (take-take i n rows (omega arith))

  cut-size : length (take i rows) ≡ i
  cut-size = omega (arith, length-take i rows)

  bars-at : (line : ℕ) → min line n ≤ i → (D : List Marked → ℕ → Marked → Type 0) → Decides D
      → IsDecidedAt (lines_text m (take n rows)) line D → ⊥
  bars-at line le D f h =
      let size = cut-size in
      decided-bars (lines_text m (take i rows)) left (lines-end m (take i rows) (omega arith)) r i line
      (λ k at. let c = lines-counted m (take i rows) left k at in omega arith) (omega arith) D f
      (subst (λ (t : List ℕ). IsDecidedAt t line D) cut-whole h)

  pub fault-bars : (fault : ReadFault) → line_bound fault n ≤ i → IsFaultOf (lines_text m (take n rows)) fault → ⊥
  fault-bars (faults.Syntax line) le h = bars-at line le IsSyntax (λ ms j w d. inl d) h
  fault-bars (faults.Depth line) le h = bars-at line le IsTooDeep (λ ms j w d. inr d.0) h
  fault-bars (faults.NumberTooLarge line) le h = bars-at line le IsTooLarge (λ ms j w d. inr d.0) h
  fault-bars (faults.CodePredicate line) le h = h
  fault-bars faults.TooLong le h = absurd (omega arith)
  fault-bars faults.Memory le h = absurd (omega arith)
