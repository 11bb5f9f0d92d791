-- Where a bracket is open or an element has to follow, lines do not read.
-- Serves: find_rules
use Rattle.std.proofs.Common.{◌≡◌, ℕ, zero, suc, ◌+◌, ◌-◌, ◌<◌, nat_lt, Bool, true, false, List, []}
use Rattle.std.proofs.Common.{◌∷◌, ◌++◌, length, map, take, drop, Option, Some, refl, sym, ap, ◌∙◌, arith, ◌⊎◌}
use Rattle.std.proofs.Common.{add-one, append-nil, get_or, ◌≤◌, inl, inr, length-append, subst}
use Rattle.std.proofs.lemmas.Bool.{cases_Bool}
use Rattle.std.proofs.lemmas.List.{drop_more, get_or_default, take-append-drop, take-map, take-take}
use Rattle.std.proofs.lemmas.Grind.{flat_map-append}
use Rattle.lexer.specs.GrammarLimits.{max_grammar, max_open}
use Rattle.lexer.specs.TokenLists.{Tok, tok, kind_of}
use Rattle.lexer.specs.Viability.{say_none, say_more}
use Rattle.lexer.proofs.TokenListLemmas.{tokens-one}
use Rattle.abnfread.specs.declared.kind.AbnfKind.{AbnfKind}
use Rattle.abnfread.specs.declared.kind.AbnfKind.TheVariants as kinds
use Rattle.abnfread.specs.AbnfKinds.{ends_list}
use Rattle.abnfread.specs.AbnfReading.{Reads}
use Rattle.abnfread.specs.AbnfSays.{says_name, says_is, says_adds, says_slash, says_lparen, says_rparen}
use Rattle.abnfread.specs.AbnfSays.{says_lbrack, says_rbrack, says_repeat, says_text, says_cased, says_num, says_prose}
use Rattle.abnfread.specs.AbnfSays.{says_end, says, SayAll, open_after}
use Rattle.abnfread.specs.AbnfSlices.{White, First}
use Rattle.abnfread.specs.AbnfSpelling.{OneElement, Repetition, Parts, Alternatives, Alternation, Grammar, Assigns}
use Rattle.abnfread.specs.AbnfSpelling.{name, text, values, range, prose, parens, brackets, once, repeated, one}
use Rattle.abnfread.specs.AbnfSpelling.{further, only, others, alternatives, defines, extends, last_rule, more_rules}
use Rattle.abnfread.specs.AbnfWords.{Said, Is, Adds, Slash, LParen, RParen, LBrack, RBrack, Repeat}
use Rattle.abnfread.specs.AbnfWords.{End, Word, word}
use Rattle.abnfread.specs.Element.{Element, Elements, Definition}
use Rattle.abnfread.specs.MarkedTokens.{AreTokens, marks, margin}
use Rattle.abnfread.specs.Numerals.{says_values, says_range}
use Rattle.abnfread.proofs.AbnfSliceLemmas.{one-next}
use Rattle.abnfblocks.specs.LinkedLines.{EndsLine, lf}
use Rattle.abnfblocks.specs.FoundRules.{IsAbnf}
use Rattle.abnfblocks.specs.RuleCuts.{cut_line, cut_text, lines_text, margin_at}
use Rattle.abnfblocks.specs.RuleEnds.{BarEnds, deeper, stand_after, stands_after, nothing_open, LeavesOpen}
use Rattle.abnfblocks.specs.TextLines.{NumberedLine, numbered}
use Rattle.abnfblocks.specs.declared.rfctext.text_line.TextLine.{TextLine}
use Rattle.abnfblocks.specs.declared.ends.LeftOpen.{LeftOpen}
use Rattle.abnfblocks.specs.declared.ends.LeftOpen.TheVariants.{Open, Unknown}
use Rattle.abnfblocks.proofs.LinesTextLemmas.{one-line_more}
use Rattle.abnfblocks.proofs.LineTokenLemmas.{HasBad, here, later, AreOnward, moved_token, tokens-onward, line-after}

-- whether an element has to follow what a token says
abbrev said_wants : Said → Bool → Bool
said_wants Is w = true
said_wants Adds w = true
said_wants Slash w = true
said_wants LParen w = true
said_wants LBrack w = true
said_wants (Repeat a b) w = true
said_wants End w = w
said_wants s w = false

-- what words leave open
abbrev open_words : ℕ → Bool → List Word → LeftOpen
open_words d w [] = Open d w
open_words d w (word g f s ∷ ws) = open_words (open_after s d) (said_wants s w) ws

mutual
  element-closes : {s r : List Word} {x : Element} → OneElement s r x → (d : ℕ) (w : Bool)
      → open_words d w s ≡ open_words d false r
  element-closes name d w = refl
  element-closes text d w = refl
  element-closes values d w = refl
  element-closes range d w = refl
  element-closes prose d w = refl
  element-closes (parens y) d w = alternation-closes y (suc d) true
  element-closes (brackets y) d w = alternation-closes y (suc d) true

  repetition-closes : {s r : List Word} {x : Element} → Repetition s r x → (d : ℕ) (w : Bool)
      → open_words d w s ≡ open_words d false r
  repetition-closes (once y) d w = element-closes y d w
  repetition-closes (repeated n y) d w = element-closes y d true

  parts-close : {s r : List Word} {xs : Elements} → Parts s r xs → (d : ℕ) (w : Bool)
      → open_words d w s ≡ open_words d false r
  parts-close (one y) d w = repetition-closes y d w
  parts-close (further y n ys) d w = repetition-closes y d w ∙ parts-close ys d false

  alternatives-close : {s r : List Word} {ys : Elements} → Alternatives s r ys → (d : ℕ) (w : Bool)
      → open_words d w s ≡ open_words d false r
  alternatives-close (only y) d w = parts-close y d w
  alternatives-close (others y z) d w = parts-close y d w ∙ alternatives-close z d true

  alternation-closes : {s r : List Word} {x : Element} → Alternation s r x → (d : ℕ) (w : Bool)
      → open_words d w s ≡ open_words d false r
  alternation-closes (alternatives y) d w = alternatives-close y d w

assigns-wants : {v : Word} {a : Bool} (s : List Word) → Assigns v a → (d : ℕ) (w : Bool)
    → open_words d w (v ∷ s) ≡ open_words d true s
assigns-wants s defines d w = refl
assigns-wants s extends d w = refl

grammar-closes : {ws : List Word} {ds : List Definition} → Grammar ws ds → (w : Bool)
    → open_words 0 w ws ≡ Open 0 false
grammar-closes (last_rule {s} a y) w = assigns-wants s a 0 false ∙ alternation-closes y 0 true
grammar-closes (more_rules {s} a y g) w = assigns-wants s a 0 false ∙ alternation-closes y 0 true
    ∙ grammar-closes g false

-- the tokens leave open what their words do, or it is unknown
abbrev Agrees : LeftOpen → LeftOpen → Type 0
Agrees s t = (s ≡ Unknown) ⊎ (s ≡ t)

unknown-stays : (ts : List (Tok AbnfKind)) → stands_after Unknown ts ≡ Unknown
unknown-stays [] = refl
unknown-stays (x ∷ ts) = unknown-stays ts

deeper-agrees : (d : ℕ) (ts : List (Tok AbnfKind)) (t : LeftOpen) → Agrees (stands_after (Open (d + 1) true) ts) t
    → Agrees (stands_after (deeper d) ts) t
deeper-agrees d ts t h = elim (cases_Bool (nat_lt d max_open)) [
  | inl e ↦ rw e h
  | inr e ↦ inl (rw e (unknown-stays ts))
]

one-less : (d : ℕ) (s : Said) → s ≡ RParen ⊎ s ≡ RBrack → open_after s d ≡ d - 1
one-less zero s (inl e) = rw e refl
one-less zero s (inr e) = rw e refl
one-less (suc d) s (inl e) = rw e (omega arith)
one-less (suc d) s (inr e) = rw e (omega arith)

module _ (text : List ℕ) (m : Option ℕ) where
  words-agree : (ts : List (Tok AbnfKind)) (n d : ℕ) (w : Bool) {ws : List Word} → SayAll (marks text m n ts) ws
      → Agrees (stands_after (Open d w) ts) (open_words d w ws)
  words-agree [] n d w say_none = inr refl
  words-agree (tok k z p ∷ ts) n d w (say_more (says says_name) more) = words-agree ts p.end d false more
  words-agree (tok k z p ∷ ts) n d w (say_more (says says_is) more) = words-agree ts p.end d true more
  words-agree (tok k z p ∷ ts) n d w (say_more (says says_adds) more) = words-agree ts p.end d true more
  words-agree (tok k z p ∷ ts) n d w (say_more (says says_slash) more) = words-agree ts p.end d true more
  words-agree (tok k z p ∷ ts) n d w (say_more (says says_lparen) more) =
      deeper-agrees d ts _ (rw (add-one d) (words-agree ts p.end (suc d) true more))
  words-agree (tok k z p ∷ ts) n d w (say_more (says says_lbrack) more) =
      deeper-agrees d ts _ (rw (add-one d) (words-agree ts p.end (suc d) true more))
  words-agree (tok k z p ∷ ts) n d w (say_more (says says_rparen) more) =
      let h = words-agree ts p.end (open_after RParen d) false more in
      rw (sym (one-less d RParen (inl refl))) h
  words-agree (tok k z p ∷ ts) n d w (say_more (says says_rbrack) more) =
      let h = words-agree ts p.end (open_after RBrack d) false more in
      rw (sym (one-less d RBrack (inr refl))) h
  words-agree (tok k z p ∷ ts) n d w (say_more (says (says_repeat h)) more) = words-agree ts p.end d true more
  words-agree (tok k z p ∷ ts) n d w (say_more (says (says_text e)) more) = words-agree ts p.end d false more
  words-agree (tok k z p ∷ ts) n d w (say_more (says (says_cased i e)) more) = words-agree ts p.end d false more
  words-agree (tok k z p ∷ ts) n d w (say_more (says (says_num (says_values a h))) more) =
      words-agree ts p.end d false more
  words-agree (tok k z p ∷ ts) n d w (say_more (says (says_num (says_range a e b c))) more) =
      words-agree ts p.end d false more
  words-agree (tok k z p ∷ ts) n d w (say_more (says (says_prose e)) more) = words-agree ts p.end d false more
  words-agree (tok k z p ∷ ts) n d w (say_more (says says_end) more) = words-agree ts p.end d w more

closed-by : (s : LeftOpen) → Agrees s (Open 0 false) → nothing_open s ≡ true
closed-by s (inl e) = rw e refl
closed-by s (inr e) = rw e refl

-- what lines up to a position leave open
pub data IsStand : List ℕ → LeftOpen → Type 0 where
  no_line : IsStand [] (Open 0 false)
  some_lines : {text : List ℕ} {ts : List (Tok AbnfKind)} → EndsLine text → AreTokens text ts
      → IsStand text (stands_after (Open 0 false) ts)
  unknown : {text : List ℕ} → IsStand text Unknown

-- a text that reads leaves nothing open
reads-closed : {text : List ℕ} {ds : List Definition} {ts : List (Tok AbnfKind)} → AreTokens text ts → Reads text ds
    → nothing_open (stands_after (Open 0 false) ts) ≡ true
reads-closed {text} {ts = ts} t h =
    let m = h.are_tokens in
    let same : m.tokens ≡ ts = tokens-one White First ends_list one-next m.are_tokens t in
    let say : SayAll (marks text (margin text m.tokens) 0 m.tokens) h.words =
    (let s = h.say in let e = m.same in rw e at s) in
    let reported = words-agree text (margin text m.tokens) m.tokens 0 0 false say in
    let closed = closed-by (stands_after (Open 0 false) m.tokens) (subst (λ (s : LeftOpen).
    Agrees (stands_after (Open 0 false) m.tokens) s) (grammar-closes h.grammar false) reported) in
    rw same at closed

pub open-bars : {text : List ℕ} {s : LeftOpen} (b : Bool) → IsStand text s → b ≡ nothing_open s → b ≡ false
    → {ds : List Definition} → Reads text ds → ⊥
open-bars b no_line e f h = cc
open-bars b unknown e f h = cc
open-bars b (some_lines l t) e f h = let c = reads-closed t h in let x : true ≡ false = sym c ∙ sym e ∙ f in cc

stands-append : (xs ys : List (Tok AbnfKind)) (s : LeftOpen)
    → stands_after s (xs ++ ys) ≡ stands_after (stands_after s xs) ys
stands-append [] ys s = refl
stands-append (x ∷ xs) ys s = stands-append xs ys (stand_after s (kind_of x))

pub stands-snoc : (xs : List (Tok AbnfKind)) (x : Tok AbnfKind) (s : LeftOpen)
    → stands_after s (xs ++ x ∷ []) ≡ stand_after (stands_after s xs) (kind_of x)
stands-snoc xs x s = stands-append xs (x ∷ []) s

stands-moved : (n : ℕ) (xs : List (Tok AbnfKind)) (s : LeftOpen)
    → stands_after s (map (moved_token n) xs) ≡ stands_after s xs
stands-moved n [] s = refl
stands-moved n (tok k z p ∷ xs) s = stands-moved n xs (stand_after s k)

end-kind : (k : AbnfKind) → ends_list k ≡ true → (s : LeftOpen) → stand_after s k ≡ s
end-kind kinds.End e Unknown = refl
end-kind kinds.End e (Open d w) = refl
end-kind k e s = cc

bad-kind : (s : LeftOpen) → stand_after s kinds.Bad ≡ Unknown
bad-kind Unknown = refl
bad-kind (Open d w) = refl

bad-unknown : {ts : List (Tok AbnfKind)} → HasBad ts → (s : LeftOpen) → stands_after s ts ≡ Unknown
bad-unknown (here {ts}) s = ap (λ (x : LeftOpen). stands_after x ts) (bad-kind s) ∙ unknown-stays ts
bad-unknown (later {x} h) s = bad-unknown h (stand_after s (kind_of x))

onward-stands : (total n : ℕ) (t : List ℕ) (ts us : List (Tok AbnfKind)) (h : AreOnward total n t ts us)
    (s : LeftOpen) → stands_after s (h.front ++ map (moved_token n) us) ≡ stands_after (stands_after s ts) us
onward-stands total n t ts us h s =
    let before = stands_after s h.front in
    let last : stands_after s ts ≡ before = ap (stands_after s) h.whole ∙ stands-snoc h.front h.last s
    ∙ end-kind (kind_of h.last) h.ends before in
    stands-append h.front (map (moved_token n) us) s ∙ stands-moved n us before
    ∙ ap (λ (x : LeftOpen). stands_after x us) (sym last)

-- a line more
pub line-stand : {a b : List ℕ} {s t : LeftOpen} → IsStand a s → EndsLine b → LeavesOpen s b t → IsStand (a ++ b) t
line-stand no_line l (ts, are, e) = rw e (some_lines l are)
line-stand unknown l (ts, are, e) = rw (e ∙ unknown-stays ts) unknown
line-stand {a} {b} (some_lines {ts = us} l t) k (ts, are, e) = elim (tokens-onward a b are l t) [
  | inl is_bad ↦ rw (e ∙ ap (λ (x : LeftOpen). stands_after x ts) (bad-unknown is_bad (Open 0 false))
      ∙ unknown-stays ts) unknown
  | inr on ↦ (
      let same = onward-stands (length (a ++ b)) (length a) (a ++ b) us ts on (Open 0 false) in
      rw (e ∙ sym same) (some_lines (line-after a k) on.are))
]

-- the line with that number, as the text has it one line on, and as it is alone
pub record LineAdded (m : ℕ) (lines : List TextLine) (i : ℕ) : Type 0 where
  pub line : NumberedLine
  pub more : lines_text m (take (i + 1) (map numbered lines)) ≡ lines_text m (take i (map numbered lines))
      ++ cut_line m line
  pub alone : lines_text m (map numbered (take (i + 1 - i) (drop i lines))) ≡ cut_line m line

line-alone : (m k : ℕ) (x : TextLine) (xs : List TextLine) → k ≡ 1
    → lines_text m (map numbered (take k (x ∷ xs))) ≡ cut_line m (numbered x)
line-alone m k x xs e = rw e (append-nil (cut_line m (numbered x)))

pub line-added : (m : ℕ) (lines : List TextLine) (i : ℕ) → i < length lines → LineAdded m lines i
line-added m [] i lt = absurd (omega arith)
line-added m (d ∷ ds) i lt =
    let lines = d ∷ ds in
    let x = get_or lines i d in
    let before = lines_text m (map numbered (take i lines)) in
    record {
      line = numbered x;
      more = ap (lines_text m) (take-map numbered (i + 1) lines)
          ∙ sym (one-line_more m lines i d before (before ++ cut_line m (numbered x)) lt refl refl)
          ∙ ap (λ (rows : List NumberedLine). lines_text m rows ++ cut_line m (numbered x))
          (sym (take-map numbered i lines));
      alone = ap (λ (xs : List TextLine). lines_text m (map numbered (take (i + 1 - i) xs)))
          (drop_more lines i d lt) ∙ line-alone m (i + 1 - i) x (drop (i + 1) lines) (omega arith);
    }

pub cut-line_ends : (m : ℕ) (line : NumberedLine) → EndsLine (cut_line m line)
cut-line_ends m line = line-after _ lf

pub stand-more : (m : ℕ) (lines : List TextLine) (i : ℕ) {s t : LeftOpen} → i < length lines
    → IsStand (lines_text m (take i (map numbered lines))) s
    → LeavesOpen s (lines_text m (map numbered (take (i + 1 - i) (drop i lines)))) t
    → IsStand (lines_text m (take (i + 1) (map numbered lines))) t
stand-more m lines i {s} {t} lt h k =
    let it = line-added m lines i lt in
    let leaves = subst (λ (text : List ℕ). LeavesOpen s text t) it.alone k in
    subst (λ (text : List ℕ). IsStand text t) (sym it.more) (line-stand h (cut-line_ends m it.line) leaves)

-- a test of a list with one more
got-snoc : (xs : List Bool) (x : Bool) (k : ℕ) → get_or (xs ++ x ∷ []) k true ≡ false
    → (get_or xs k true ≡ false) ⊎ ((k ≡ length xs) × (x ≡ false))
got-snoc [] x zero e = inr (refl, e)
got-snoc [] x (suc k) e = cc
got-snoc (b ∷ xs) x zero e = inl e
got-snoc (b ∷ xs) x (suc k) e = elim (got-snoc xs x k e) [
  | inl h ↦ inl h
  | inr h ↦ inr (let n = h.0 in omega arith, h.1)
]

pub bars-more : (m : ℕ) (rule : List NumberedLine) (tests : List Bool) (b : Bool) (n : ℕ) → length tests ≡ n
    → BarEnds m rule tests → (b ≡ false → IsAbnf (lines_text m (take (n + 1) rule)) → ⊥)
    → BarEnds m rule (tests ++ b ∷ [])
bars-more m rule tests b n count bars last k e h = elim (got-snoc tests b k e) [
  | inl x ↦ bars k x h
  | inr x ↦ last x.1 (subst (λ (j : ℕ). IsAbnf (lines_text m (take (j + 1) rule))) (x.0 ∙ count) h)
]

-- a cut of less lines than were tested
pub tested-cut : (rule : List TextLine) (m limit size : ℕ) → m ≡ margin_at (map numbered rule) → size ≤ limit
    → lines_text m (take size (map numbered (take limit rule))) ≡ cut_text (map numbered rule) size
tested-cut rule m limit size margin le =
    let rows = map numbered rule in
    ap (λ (xs : List NumberedLine). lines_text m (take size xs)) (sym (take-map numbered limit rule))
    ∙ ap (lines_text m) (take-take size limit rows le) ∙ ap (λ (k : ℕ). lines_text k (take size rows)) margin

pub test-bars : (rule : List TextLine) (m limit size : ℕ) (tests : List Bool) (b : Bool)
    → m ≡ margin_at (map numbered rule) → 0 < size → size ≤ limit
    → BarEnds m (map numbered (take limit rule)) tests → get_or tests (size - 1) b ≡ false
    → size ≤ length tests → IsAbnf (cut_text (map numbered rule) size) → ⊥
test-bars rule m limit size tests b margin some le bar e within h =
    let n : size - 1 + 1 ≡ size = omega arith in
    let got : get_or tests (size - 1) true ≡ false = get_or_default tests (size - 1) true b (omega arith) ∙ e in
    bar (size - 1) got (subst (λ (k : ℕ). IsAbnf (lines_text m (take k (map numbered (take limit rule))))) (sym n)
    (subst IsAbnf (sym (tested-cut rule m limit size margin le)) h))

-- the text of more lines is longer
text-grows : (m : ℕ) (rows : List NumberedLine) (i k : ℕ) → i ≤ k
    → length (lines_text m (take i rows)) ≤ length (lines_text m (take k rows))
text-grows m rows i k le =
    let e = take-take i k rows le in
    let whole : lines_text m (take k rows) ≡ lines_text m (take i rows) ++ lines_text m (drop i (take k rows)) =
    ap (lines_text m) (sym (take-append-drop i (take k rows)))
    ∙ flat_map-append (cut_line m) (take i (take k rows)) (drop i (take k rows))
    ∙ ap (λ (xs : List NumberedLine). lines_text m xs ++ lines_text m (drop i (take k rows))) e in
    omega (arith, ap length whole, length-append (lines_text m (take i rows)) (lines_text m (drop i (take k rows))))

pub left-more : (m : ℕ) (lines : List TextLine) (i : ℕ) → i < length lines
    → length (lines_text m (take (i + 1) (map numbered lines))) ≡ length (lines_text m (take i (map numbered lines)))
    + length (lines_text m (map numbered (take (i + 1 - i) (drop i lines))))
left-more m lines i lt =
    let it = line-added m lines i lt in
    omega (
      arith,
      ap length it.more,
      ap length it.alone,
      length-append (lines_text m (take i (map numbered lines)))
          (cut_line m it.line),
    )

-- with line i the text is too long
pub long-bars : (m : ℕ) (rows : List NumberedLine) (i k : ℕ) → max_grammar < length (lines_text m (take (i + 1) rows))
    → i < k → IsAbnf (lines_text m (take k rows)) → ⊥
long-bars m rows i k long lt (ds, read) =
    let grows = text-grows m rows (i + 1) k (omega arith) in
    let size = read.size in
    absurd (omega arith)
