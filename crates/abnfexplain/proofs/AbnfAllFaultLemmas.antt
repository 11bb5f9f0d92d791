-- The lines that explain a fault of ABNF, with the faults after it, are one text.
-- Serves: explain_abnf_faults, one_explanation_of_abnf_faults
use Rattle.std.proofs.Common.{◌≡◌, ◌≢◌, ℕ, suc, ◌+◌, ◌-◌, ◌<◌, ◌≤◌, Bool, false, List, [], ◌∷◌, ◌++◌, Option, Some}
use Rattle.std.proofs.Common.{None, drop, take, length, refl, sym, ◌∙◌, ap, subst, inl, inr, arith, All, append_assoc}
use Rattle.std.proofs.Math.Seq.{take-length}
use Rattle.std.proofs.lemmas.Bool.{cases_lt}
use Rattle.std.proofs.lemmas.List.{length-drop}
use Rattle.std.specs.Option.{option_map_or}
use Rattle.lexer.specs.GrammarLimits.{max_grammar}
use Rattle.lexer.specs.Pieces.{LiesIn}
use Rattle.lexer.specs.TokenLists.{Tok, start_of}
use Rattle.diagnostics.proofs.LaterFaultLemmas.{first-one, later-one}
use Rattle.diagnostics.specs.LaterFaults.{AreLaterFaults, IsFirstAt, enough, it_reads, no_line, on_line, one_more}
use Rattle.ruletable.specs.Faults.{fault_text}
use Rattle.ruletable.specs.Lines.{line_at}
use Rattle.ruletable.specs.declared.fault.ReadFault.{ReadFault}
use Rattle.ruletable.specs.declared.fault.ReadFault.TheVariants as faults
use Rattle.ruletable.specs.declared.lines.LineRule.TheVariants.{Lf}
use Rattle.abnfread.specs.AbnfReading.{IsFaultOf}
use Rattle.abnfread.specs.MarkedIteration.{AreLeft, GivesFirst}
use Rattle.abnfread.specs.MarkedTokens.{Marked, tok_of, marked_of, marks, margin, AreMarked, AreTokens}
use Rattle.abnfread.specs.declared.marks.AbnfTokenIter.{AbnfTokenIter}
use Rattle.abnfread.specs.declared.marks.MarkedToken.{MarkedToken}
use Rattle.abnfread.specs.declared.kind.AbnfKind.{AbnfKind}
use Rattle.abnfread.proofs.AbnfFaultLemmas.{marked-one, one-fault}
use Rattle.abnfexplain.specs.declared.abnf_decide.Decision.{Decision}
use Rattle.abnfexplain.specs.declared.abnf_decide.Decision.TheVariants.{Hopeless, TooDeep, TooLarge}
use Rattle.abnfexplain.specs.AbnfAllFaults.{AreFurther, AreOthers, ExplainsAll, IsFaultFrom}
use Rattle.abnfexplain.specs.AbnfDecisions.{Decides, IsFaultToken, IsTokenOf, NoneDecides, fault_of, first_marked}
use Rattle.abnfexplain.specs.AbnfDecisions.{token_of}
use Rattle.abnfexplain.specs.AbnfExplained.{Explains, Why, indent}
use Rattle.abnfexplain.specs.AbnfRuleLines.{IsMargin, IsNext, goes_next}
use Rattle.abnfexplain.proofs.AbnfExplainedLemmas.{start-within}
use Rattle.abnfexplain.proofs.AbnfWhyLemmas.{one-explanation, one-fault-token}

margin-one : (text : List ℕ) (a b : ℕ) → IsMargin text a → IsMargin text b → a ≡ b
margin-one text a b g h =
    g.is ∙ ap (λ (ms : List Marked). option_map_or (indent text) (first_marked ms) 0)
    (marked-one text g.all h.all g.are_tokens h.are_tokens) ∙ sym h.is

next-one : (text : List ℕ) (start ahead : ℕ) (a b : Option ℕ) → IsNext text start ahead a → IsNext text start ahead b
    → a ≡ b
next-one text start ahead a b g h =
    let same = margin-one text g.margin h.margin g.is_margin h.is_margin in
    first-one (goes_next text h.margin start ahead) (start + 1) (length text) a b
    (subst (λ (n : ℕ). IsFirstAt (goes_next text n start ahead) (start + 1) (length text) a) same g.is_next) h.is_next

report-one : (text : List ℕ) (start : ℕ) (a b : List ℕ) (m n : ℕ) → IsFaultFrom text start a m
    → IsFaultFrom text start b n → (a ≡ b) × (m ≡ n)
report-one text start a b m n g h =
    let same = one-fault (drop start text) g.fault h.fault g.is_fault h.is_fault g.named h.named in
    let lines = one-explanation (drop start text) h.fault g.why h.why
    (subst (λ (f : ReadFault). Explains (drop start text) f g.why) same g.explains) h.explains in
    let there : m ≡ n = g.ahead_is
    ∙ ap start_of (one-fault-token (drop start text) g.token h.token g.decides h.decides) ∙ sym h.ahead_is in (
      g.is
          ∙ ap (λ (k : ℕ). fault_text (on_line (line_at Lf text (start + k)) g.fault) ++ g.why) there
          ∙ ap (λ (f : ReadFault). fault_text (on_line (line_at Lf text (start + n)) f) ++ g.why) same
          ∙ ap (λ (z : List ℕ). fault_text (on_line (line_at Lf text (start + n)) h.fault) ++ z) lines
          ∙ sym h.is,
      there,
    )

others-one : (text a b : List ℕ) → AreOthers text a → AreOthers text b → a ≡ b
others-one text a b g h =
    let one = ap start_of (one-fault-token text g.token h.token g.decides h.decides) in
    later-one (IsFaultFrom text) (IsNext text) (report-one text) (next-one text) 15 0 (start_of h.token) a b
    (subst (λ (n : ℕ). AreLaterFaults (IsFaultFrom text) (IsNext text) 15 0 n a) one g.are) h.are

further-one : (text : List ℕ) (fault : ReadFault) (a b : List ℕ) → AreFurther text fault a → AreFurther text fault b
    → a ≡ b
further-one text faults.Memory a b g h = g ∙ sym h
further-one text faults.TooLong a b g h = g ∙ sym h
further-one text (faults.Syntax line) a b g h = others-one text a b g h
further-one text (faults.Depth line) a b g h = others-one text a b g h
further-one text (faults.CodePredicate line) a b g h = others-one text a b g h
further-one text (faults.NumberTooLarge line) a b g h = others-one text a b g h

pub all-one : (text : List ℕ) (fault : ReadFault) (a b : List ℕ) → ExplainsAll text fault a → ExplainsAll text fault b
    → a ≡ b
all-one text fault a b g h =
    g.is ∙ ap (λ (z : List ℕ). z ++ g.others) (one-explanation text fault g.first h.first g.explains h.explains)
    ∙ ap (λ (z : List ℕ). h.first ++ z) (further-one text fault g.others h.others g.are h.are) ∙ sym h.is

-- One reading after another, of at most 16 in all.
module _ (text : List ℕ) (margin : ℕ) (is_margin : IsMargin text margin) (i start ahead : ℕ) (few : i < 16) where
  left-here : suc (16 - (i + 1)) ≡ 16 - i
  left-here = omega arith

  abbrev Later : ℕ → List ℕ → Type 0
  Later n others = AreLaterFaults (IsFaultFrom text) (IsNext text) n start ahead others

  next-there : (next : Option ℕ) → IsFirstAt (goes_next text margin start ahead) (start + 1) (length text) next
      → IsNext text start ahead next
  next-there next first = record { margin = margin; is_margin = is_margin; is_next = first }

  pub none-left : IsFirstAt (goes_next text margin start ahead) (start + 1) (length text) None → Later (16 - i) []
  none-left first = subst (λ (n : ℕ). Later n []) left-here (no_line (next-there None first))

  pub none-faulty : (next : ℕ) → IsFirstAt (goes_next text margin start ahead) (start + 1) (length text) (Some next)
      → NoneDecides (drop next text) → Later (16 - i) []
  none-faulty next first none = subst (λ (n : ℕ). Later n []) left-here
      (it_reads (next-there (Some next) first)
      (λ reported further from.
      let d = from.decides in
      none d.all d.are_tokens d.number d.decides))

  pub one-further : (next further : ℕ) (reported others : List ℕ)
      → IsFirstAt (goes_next text margin start ahead) (start + 1) (length text) (Some next)
      → IsFaultFrom text next reported further
      → AreLaterFaults (IsFaultFrom text) (IsNext text) (16 - (i + 1)) next further others
      → Later (16 - i) (reported ++ others)
  one-further next further reported others first from later =
      subst (λ (n : ℕ). Later n (reported ++ others)) left-here (one_more (next-there (Some next) first) from later)

-- what is added to what was
pub said-more : (out now next said more : List ℕ) → now ≡ out ++ said → next ≡ now ++ more
    → next ≡ out ++ (said ++ more)
said-more out now next said more e f = f ∙ ap (λ (z : List ℕ). z ++ more) e ∙ append_assoc out said more

pub others-more : (text said more others : List ℕ) → AreOthers text (said ++ (more ++ others))
    → AreOthers text ((said ++ more) ++ others)
others-more text said more others = subst (AreOthers text) (sym (append_assoc said more others))

-- no position up to one that fails passes
pub one-passed : (test : ℕ → Bool) (from at : ℕ) → ((k : ℕ) → from ≤ k → k < at → test k ≡ false) → test at ≡ false
    → (k : ℕ) → from ≤ k → k < at + 1 → test k ≡ false
one-passed test from at before here k low high = elim (cases_lt k at) [
  | inl lt ↦ before k low lt
  | inr ge ↦
      let same : k ≡ at = omega arith in
      subst (λ (z : ℕ). test z ≡ false) (sym same) here
]

-- the rest of a text from a position on
pub rest-whole : (n : ℕ) (text : List ℕ) → take (length text - n) (drop n text) ≡ drop n text
rest-whole n text = ap (λ (m : ℕ). take m (drop n text)) (sym (length-drop n text)) ∙ take-length (drop n text)

-- where the text has tokens, the first one that is given is theirs
pub first-there : (text : List ℕ) (s t : AbnfTokenIter) (x : MarkedToken)
    → (ts : List (Tok AbnfKind)) × AreTokens text ts
    → ((ts : List (Tok AbnfKind)) → AreTokens text ts → AreLeft s (marks text (margin text ts) 0 ts))
    → GivesFirst s (Some x) t → IsTokenOf text (marked_of x) (λ ms i. i ≡ 0)
first-there text s t x ts left gives =
    let all = marks text (margin text ts.0) 0 ts.0 in
    let o = gives.first all (left ts.0 ts.1) in
    record {
      all = marked_of x ∷ o.0;
      are_tokens = subst (AreMarked text) o.1 (record { tokens = ts.0; are_tokens = ts.1; same = refl });
      number = 0;
      there = refl;
      holds = refl;
    }

-- the fault that a token decides
module _ (text : List ℕ) (size : length text ≤ max_grammar) where
  pub decided-fault : (d : Decision) → Decides text d
      → IsFaultOf text (fault_of d (line_at Lf text (start_of (tok_of (token_of d)))))
  decided-fault (Hopeless r) h = record {
    size = size;
    all = h.all;
    are_tokens = h.are_tokens;
    number = h.number;
    token = token_of (Hopeless r);
    there = h.there;
    decides = (h.holds).hopeless;
    line_is = refl;
  }
  decided-fault (TooDeep t) h = record {
    size = size;
    all = h.all;
    are_tokens = h.are_tokens;
    number = h.number;
    token = token_of (TooDeep t);
    there = h.there;
    decides = h.holds;
    line_is = refl;
  }
  decided-fault (TooLarge t) h = record {
    size = size;
    all = h.all;
    are_tokens = h.are_tokens;
    number = h.number;
    token = token_of (TooLarge t);
    there = h.there;
    decides = h.holds;
    line_is = refl;
  }

decided-token : (text : List ℕ) (d : Decision) → Decides text d → IsFaultToken text (tok_of (token_of d))
decided-token text (Hopeless r) h = record {
  all = h.all;
  are_tokens = h.are_tokens;
  number = h.number;
  token = token_of (Hopeless r);
  there = h.there;
  is = refl;
  decides = inl (h.holds).hopeless;
}
decided-token text (TooDeep t) h = record {
  all = h.all;
  are_tokens = h.are_tokens;
  number = h.number;
  token = token_of (TooDeep t);
  there = h.there;
  is = refl;
  decides = inr h.holds.0;
}
decided-token text (TooLarge t) h = record {
  all = h.all;
  are_tokens = h.are_tokens;
  number = h.number;
  token = token_of (TooLarge t);
  there = h.there;
  is = refl;
  decides = inr h.holds.0;
}

decided-named : (d : Decision) (line : ℕ) → fault_of d line ≢ faults.Memory
decided-named (Hopeless r) line e = absurd (let no : faults.Syntax line ≡ faults.Memory = e in cc)
decided-named (TooDeep t) line e = absurd (let no : faults.Depth line ≡ faults.Memory = e in cc)
decided-named (TooLarge t) line e = absurd (let no : faults.NumberTooLarge line ≡ faults.Memory = e in cc)

decided-moved : (d : Decision) (line other : ℕ) → fault_of d line ≡ on_line line (fault_of d other)
decided-moved (Hopeless r) line other = refl
decided-moved (TooDeep t) line other = refl
decided-moved (TooLarge t) line other = refl

decided-explains : (text why : List ℕ) (d : Decision) (line : ℕ) → Why text why → Explains text (fault_of d line) why
decided-explains text why (Hopeless r) line h = h
decided-explains text why (TooDeep t) line h = h
decided-explains text why (TooLarge t) line h = h

-- the token lies in the text
pub decided-within : (text : List ℕ) (d : Decision) → ((ts : List (Tok AbnfKind)) → AreTokens text ts
    → All (LiesIn text) ts)
    → Decides text d → start_of (tok_of (token_of d)) ≤ length text
decided-within text (Hopeless r) lies h = start-within text lies (marked_of r.token) _ h
decided-within text (TooDeep t) lies h = start-within text lies (marked_of t) _ h
decided-within text (TooLarge t) lies h = start-within text lies (marked_of t) _ h

-- the report of a fault where a text is read from a position on
module _ (text : List ℕ) (start line ahead : ℕ) (d : Decision) (here : ReadFault) (message why : List ℕ) where
  abbrev rest : List ℕ
  rest = drop start text

  abbrev line_there : ℕ
  line_there = line_at Lf rest (start_of (tok_of (token_of d)))

  pub fault-reported : length rest ≤ max_grammar → Decides rest d → Why rest why
      → ahead ≡ start_of (tok_of (token_of d)) → line ≡ line_at Lf text (start + ahead) → here ≡ fault_of d line
      → message ≡ fault_text here → IsFaultFrom text start (message ++ why) ahead
  fault-reported size decides explains there lines is said = record {
    fault = fault_of d line_there;
    is_fault = decided-fault rest size d decides;
    named = decided-named d line_there;
    why = why;
    explains = decided-explains rest why d line_there explains;
    token = tok_of (token_of d);
    decides = decided-token rest d decides;
    ahead_is = there;
    is = ap (λ (z : List ℕ). z ++ why) (said ∙ ap fault_text is
        ∙ ap (λ (l : ℕ). fault_text (fault_of d l)) lines
        ∙ ap fault_text (decided-moved d (line_at Lf text (start + ahead)) line_there));
  }

-- after 16 readings no other one follows
pub all-read : (text : List ℕ) (i start ahead : ℕ) → 16 ≤ i
    → AreLaterFaults (IsFaultFrom text) (IsNext text) (16 - i) start ahead []
all-read text i start ahead le =
    let none : 0 ≡ 16 - i = omega arith in
    subst (λ (n : ℕ). AreLaterFaults (IsFaultFrom text) (IsNext text) n start ahead []) none enough

pub others-further : (text : List ℕ) (fault : ReadFault) (reported : List ℕ) → fault ≢ faults.Memory
    → fault ≢ faults.TooLong → AreOthers text reported → AreFurther text fault reported
others-further text faults.Memory reported m l are = absurd (m refl)
others-further text faults.TooLong reported m l are = absurd (l refl)
others-further text (faults.Syntax line) reported m l are = are
others-further text (faults.Depth line) reported m l are = are
others-further text (faults.CodePredicate line) reported m l are = are
others-further text (faults.NumberTooLarge line) reported m l are = are
