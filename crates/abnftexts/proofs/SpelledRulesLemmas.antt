-- The printed grammar spells what the lines of its rules spell, one rule's after another's.
-- Serves: joined_reading
use Rattle.std.proofs.Common.{◌≡◌, ◌≢◌, ℕ, zero, suc, ◌+◌, ◌/◌, ◌%◌, ◌≤◌, ◌==◌, ◌||◌, nat_lt, Bool, true, false, cond}
use Rattle.std.proofs.Common.{Option, Some, None, List, [], ◌∷◌, ◌++◌, length, map, refl, sym, ap, ◌∙◌, arith, inl, inr}
use Rattle.std.proofs.Common.{subst, append-nil, append_assoc, decimal, replicate}
use Rattle.std.proofs.lemmas.Bool.{cases_Bool}
use Rattle.std.proofs.lemmas.Bool.Decides.{nat_tests}
use Rattle.std.proofs.lemmas.List.{map-append}
use Rattle.std.specs.Fmt.{digit_glyph, digits_onto, digits}
use Rattle.lexer.specs.SliceEnds.{piece, no_more}
use Rattle.lexer.specs.declared.limits.TheConstants.{MAX_GRAMMAR}
use Rattle.diagnostics.specs.ShownBytes.{hex_digit, shown, shown_byte}
use Rattle.ruletable.specs.declared.fault.ReadFault.{ReadFault}
use Rattle.ruletable.specs.declared.fault.ReadFault.TheVariants as faults
use Rattle.abnfread.specs.AbnfReading.{IsFaultOf, Reads}
use Rattle.abnfread.specs.AbnfSlices.{Run, none, more, White, blank, comment, is_inside}
use Rattle.abnfread.specs.Element.{Definition}
use Rattle.abnfread.proofs.AbnfFaultLemmas.{long-fault, no-fault, one-reading}
use Rattle.abnftexts.specs.GivenRules.{RuleGiven, fates_of}
use Rattle.abnftexts.specs.JoinedRules.{joined_order}
use Rattle.rfcforms.specs.declared.lists.written.ListForm.{ListForm}
use Rattle.abnftexts.specs.JoinedGrammar.{AreTextsJoined, GrammarJoined, comment_before, first_number, gap_before}
use Rattle.abnftexts.specs.JoinedGrammar.{goes_after_it, printed_after, rule_printed, standing_rules}
use Rattle.abnfblocks.specs.LinkedLines.{EndsLine, lf, after_byte}
use Rattle.abnftexts.specs.LinkedTexts.{SpellsAtMargin, moved_definition}
use Rattle.abnftexts.specs.RulesGathered.{NamedText, RuleLines}
use Rattle.abnftexts.specs.SpelledRules.{AreSpelled, no_rules, next_rule, joined_positions, joined_rules}
use Rattle.abnftexts.specs.SpelledRules.{as_written, unplaced}
use Rattle.abnftexts.specs.TextPositions.{position_shown}
use Rattle.abnftexts.specs.TextRules.{given_by}
use Rattle.abnftexts.proofs.ClearLinesLemmas.{AreInside}
use Rattle.abnftexts.proofs.EachLemmas.{each_none, each_next, each-both}
use Rattle.abnftexts.proofs.LinkedTextLemmas.{nothing-reads, spells-linked, spells-after, spells-reads}
use Rattle.abnftexts.proofs.PlacedRulesLemmas.{texts-placed}
use Rattle.abnftexts.proofs.RuleTextLemmas.{SameUnplaced, all-given, line-after, moved-same, text-spells}
use Rattle.abnftexts.proofs.WrittenRulesLemmas.{AreComments, no_comments, a_comment, IsWritten, AreWritten}
use Rattle.abnftexts.proofs.WrittenRulesLemmas.{none_written, next_written, named-written, written-ordered}
use Rattle.abnftexts.proofs.WrittenRulesLemmas.{written-standing}

inside-hex : (d : ℕ) → is_inside (hex_digit d) ≡ true
inside-hex d = elim (cases_Bool (nat_lt d 10)) [
  | inl e ↦ rw e (grind (arith, nat_tests))
  | inr e ↦ rw e (grind (arith, nat_tests))
]

inside-byte : (b : ℕ) → AreInside (shown_byte b)
inside-byte b = elim (cases_Bool (b == 9)) [
  | inl e ↦ rw e (each_next refl each_none)
  | inr e ↦ rw e (elim (cases_Bool (nat_lt b 32 || nat_lt 126 b)) [
    | inl f ↦ rw f (each_next refl (each_next refl (each_next (inside-hex (b / 16)) (each_next (inside-hex (b % 16))
        each_none))))
    | inr f ↦ rw f (each_next (inside-printed b f) each_none)
  ])
]
  where
    inside-printed : (b : ℕ) → (nat_lt b 32 || nat_lt 126 b) ≡ false → is_inside b ≡ true
    inside-printed b e = grind (arith, nat_tests)

inside-shown : (bytes : List ℕ) → AreInside (shown bytes)
inside-shown [] = each_none
inside-shown (b ∷ bytes) = each-both (inside-byte b) (inside-shown bytes)

inside-glyph : (upper : Bool) (d : ℕ) → is_inside (digit_glyph upper d) ≡ true
inside-glyph upper d = elim (cases_Bool (nat_lt d 10)) [
  | inl e ↦ rw e (grind (arith, nat_tests))
  | inr e ↦ rw e (letter upper)
]
  where
    letter : (u : Bool) → is_inside (cond u (55 + d) (87 + d)) ≡ true
    letter true = grind (arith, nat_tests)
    letter false = grind (arith, nat_tests)

inside-digits : (k base : ℕ) (upper : Bool) (n : ℕ) (acc : List ℕ) → AreInside acc
    → AreInside (digits_onto k base upper n acc)
inside-digits zero base upper n acc h = h
inside-digits (suc k) base upper n acc h = elim (cases_Bool (n / base == 0)) [
  | inl e ↦ rw e (each_next (inside-glyph upper (n % base)) h)
  | inr e ↦ rw e (inside-digits k base upper (n / base) (digit_glyph upper (n % base) ∷ acc)
      (each_next (inside-glyph upper (n % base)) h))
]

inside-decimal : (n : ℕ) → AreInside (decimal n)
unfolding digits
inside-decimal n = inside-digits 64 10 false n [] each_none

inside-position : (name : List ℕ) (n : ℕ) → AreInside (position_shown name n)
inside-position name n = each-both (inside-shown name) (each_next refl (inside-decimal n))

run-inside : {bytes : List ℕ} (r : List ℕ) → AreInside bytes → Run is_inside (bytes ++ r) r
run-inside r each_none = none
run-inside r (each_next p h) = more p (run-inside r h)

-- the text spells these definitions, but for positions, and LF ends it
pub record SpellsLike (text : List ℕ) (alone : List Definition) : Type 0 where
  pub definitions : List Definition
  pub spells : SpellsAtMargin text definitions
  pub same : SameUnplaced definitions alone
  pub line : EndsLine text

-- a comment of one line
comment-white : (bytes : List ℕ) → AreInside bytes → White (59 ∷ (bytes ++ 10 ∷ [])) []
comment-white bytes h = piece (comment (run-inside (10 ∷ []) h) refl) (piece (blank refl) no_more)

after-comment : (position : RuleLines) {text : List ℕ} {ds : List Definition} → SpellsAtMargin text ds → EndsLine text
    → SpellsLike (comment_before position ++ text) ds
after-comment position {text} {ds} h l =
    let shown = 32 ∷ position_shown position.name (first_number position) in
    let here : List ℕ = 59 ∷ (shown ++ 10 ∷ []) in
    let white = comment-white shown (each_next refl (inside-position position.name (first_number position))) in
    record {
      definitions = map (moved_definition (length here)) ds;
      spells = spells-after (line-after (59 ∷ shown) lf) white h;
      same = moved-same (length here) ds;
      line = line-after here l;
    }

after-empty : (n : ℕ) {text : List ℕ} {ds : List Definition} → SpellsAtMargin text ds → EndsLine text
    → SpellsLike (replicate n 10 ++ text) ds
after-empty zero {ds = ds} h l = record { definitions = ds; spells = h; same = refl; line = l }
after-empty (suc n) {ds = ds} h l =
    let rest = after-empty n h l in
    record {
      definitions = map (moved_definition 1) rest.definitions;
      spells = spells-after lf (piece (blank refl) no_more) rest.spells;
      same = moved-same 1 rest.definitions ∙ rest.same;
      line = after_byte rest.line;
    }

after-gap : (before : Option RuleLines) (position : RuleLines) {text : List ℕ} {ds : List Definition}
    → SpellsAtMargin text ds → EndsLine text → SpellsLike (gap_before before position ++ text) ds
after-gap None position h l = after-comment position h l
after-gap (Some before) position h l = elim (cases_Bool (goes_after_it before position)) [
  | inl e ↦ rw e (after-empty before.blanks h l)
  | inr e ↦ rw e (after-comment position h l)
]

after-comments : {comments text : List ℕ} {ds : List Definition} → AreComments comments → SpellsAtMargin text ds
    → EndsLine text → SpellsLike (comments ++ text) ds
after-comments {ds = ds} no_comments h l = record { definitions = ds; spells = h; same = refl; line = l }
after-comments {text = text} (a_comment {rest = others} bytes inside further) h l =
    let rest = after-comments further h l in
    let here : List ℕ = 59 ∷ (bytes ++ 10 ∷ []) in
    let assoc = append_assoc here others text in
    record {
      definitions = map (moved_definition (length here)) rest.definitions;
      spells = rw assoc (spells-after (line-after (59 ∷ bytes) lf) (comment-white bytes inside) rest.spells);
      same = moved-same (length here) rest.definitions ∙ rest.same;
      line = rw assoc (line-after here rest.line);
    }

-- what is like something that is like the definitions
like-like : {text : List ℕ} {ds es : List Definition} → SpellsLike text ds → SameUnplaced ds es → SpellsLike text es
like-like x same = record { definitions = x.definitions; spells = x.spells; same = x.same ∙ same; line = x.line }

row-spells : (before : Option RuleLines) (position : RuleLines) {given : RuleGiven} (is : IsWritten position given)
    → SpellsLike (rule_printed before position) (is.spells.definition ∷ [])
row-spells before position is =
    let spells = is.spells in
    let t = is.first in
    let row = after-comments is.comments (text-spells t.is_letter t.letter spells.reads) is.line in
    like-like (after-gap before position row.spells row.line) row.same

linked-like : {a b : List ℕ} {first second : List Definition} → SpellsLike a first → SpellsLike b second
    → SpellsLike (a ++ b) (first ++ second)
linked-like {a} {b} {first} {second} x y = record {
  definitions = x.definitions ++ map (moved_definition (length a)) y.definitions;
  spells = spells-linked x.line x.spells y.spells;
  same = map-append unplaced x.definitions (map (moved_definition (length a)) y.definitions)
      ∙ ap (λ (z : List RuleGiven). z ++ map unplaced (map (moved_definition (length a)) y.definitions)) x.same
      ∙ ap (λ (z : List RuleGiven). map unplaced first ++ z) (moved-same (length a) y.definitions ∙ y.same)
      ∙ sym (map-append unplaced first second);
  line = line-after a y.line;
}

-- what is printed of rules
pub record RowsSpell (before : Option RuleLines) (positions : List RuleLines) (rules : List RuleGiven) : Type 0 where
  pub alone : List Definition
  pub are : AreSpelled positions rules alone
  pub given : map given_by alone ≡ map as_written rules
  pub like : SpellsLike (printed_after before positions) alone

pub rows-spell : (before : Option RuleLines)
    (position : RuleLines) {positions : List RuleLines} {rules : List RuleGiven}
    → AreWritten (position ∷ positions) rules → RowsSpell before (position ∷ positions) rules
rows-spell before position (next_written is none_written) =
    let like = row-spells before position is in
    let spells = is.spells in
    record {
      alone = spells.definition ∷ [];
      are = next_rule spells no_rules;
      given = ap (λ (r : RuleGiven). r ∷ []) (sym spells.is);
      like = (let e = append-nil (rule_printed before position) in rw e like);
    }
rows-spell before position (next_written {given} is (next_written {position = next} theirs h)) =
    let rest = rows-spell (Some position) next (next_written theirs h) in
    let spells = is.spells in
    record {
      alone = spells.definition ∷ rest.alone;
      are = next_rule spells rest.are;
      given = ap (λ (r : RuleGiven). r ∷ map given_by rest.alone) (sym spells.is)
          ∙ ap (λ (z : List RuleGiven). as_written given ∷ z) rest.given;
      like = linked-like (row-spells before position is) rest.like;
    }

-- what is written for the rules that are printed
joined-written : {lists : Option ListForm} {texts : List NamedText} {j : GrammarJoined}
    (a : AreTextsJoined lists texts j)
    → AreWritten (joined_positions a.gathered) (joined_rules a.gathered)
joined-written a =
    let g = a.gathered in
    let names = a.names in
    written-ordered (joined_order (standing_rules g)) (written-standing (fates_of g.rules)
    (named-written (texts-placed a.gives) names.positions names.rules))

-- nothing is printed, or what is printed spells rules
data PrintedSpells (positions : List RuleLines) (rules : List RuleGiven) : Type 0 where
  nothing_printed : printed_after None positions ≡ [] → PrintedSpells positions rules
  rows : RowsSpell None positions rules → PrintedSpells positions rules

printed-spells : {positions : List RuleLines} {rules : List RuleGiven} → AreWritten positions rules
    → PrintedSpells positions rules
printed-spells none_written = nothing_printed refl
printed-spells (next_written {position} is h) = rows (rows-spell None position (next_written is h))

some-reads : {positions : List RuleLines} {rules : List RuleGiven} {text : List ℕ} → PrintedSpells positions rules
    → text ≡ printed_after None positions → text ≢ [] → length text ≤ MAX_GRAMMAR
    → (definitions : List Definition) × Reads text definitions
some-reads (nothing_printed n) e some le = absurd (some (e ∙ n))
some-reads (rows r) e some le = let like = r.like in (like.definitions, rw e (spells-reads like.spells (rw e at le)))

text-alone : {positions : List RuleLines} {rules : List RuleGiven} {text : List ℕ} {definitions : List Definition}
    → PrintedSpells positions rules → text ≡ printed_after None positions → Reads text definitions
    → (alone : List Definition) × AreSpelled positions rules alone × SameUnplaced definitions alone
    × (map given_by definitions ≡ map as_written rules)
text-alone {definitions = definitions} (nothing_printed n) e h =
    absurd (nothing-reads (subst (λ (t : List ℕ). Reads t definitions) (e ∙ n) h))
text-alone {positions} {definitions = definitions} (rows r) e h =
    let like = r.like in
    let here : Reads (printed_after None positions) definitions =
    subst (λ (t : List ℕ). Reads t definitions) e h in
    let same = one-reading (printed_after None positions) definitions like.definitions here
    (spells-reads like.spells here.size) in
    let unplaced_same = ap (map unplaced) same ∙ like.same in
    (r.alone, r.are, unplaced_same, all-given definitions r.alone unplaced_same ∙ r.given)

pub joined-reads : {lists : Option ListForm} {texts : List NamedText} {j : GrammarJoined}
    → AreTextsJoined lists texts j → j.grammar ≢ []
    → length j.grammar ≤ MAX_GRAMMAR → (definitions : List Definition) × Reads j.grammar definitions
joined-reads a some le =
    some-reads (printed-spells (joined-written a)) (ap (λ (x : GrammarJoined). x.grammar) a.is) some le

pub joined-alone : {lists : Option ListForm} {texts : List NamedText} {j : GrammarJoined}
    {definitions : List Definition}
    (a : AreTextsJoined lists texts j) → Reads j.grammar definitions
    → (alone : List Definition) × AreSpelled (joined_positions a.gathered) (joined_rules a.gathered) alone
    × SameUnplaced definitions alone × (map given_by definitions ≡ map as_written (joined_rules a.gathered))
joined-alone a h = text-alone (printed-spells (joined-written a)) (ap (λ (x : GrammarJoined). x.grammar) a.is) h

pub joined-long : {lists : Option ListForm} {texts : List NamedText} {j : GrammarJoined} (fault : ReadFault)
    → AreTextsJoined lists texts j
    → j.grammar ≢ [] → IsFaultOf j.grammar fault → fault ≢ faults.Memory → fault ≡ faults.TooLong
joined-long {j = j} fault a some h n =
    long-fault j.grammar (λ le. let r = joined-reads a some le in n (no-fault j.grammar r.0 fault r.1 h)) fault h
