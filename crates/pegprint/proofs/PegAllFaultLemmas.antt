-- The lines that explain a fault, with the faults after it, are one text.
-- Serves: explain_faults, one_explanation
use Rattle.std.proofs.Common.{◌≡◌, ◌≢◌, ℕ, suc, ◌+◌, ◌-◌, ◌<◌, ◌≤◌, Bool, false, List, [], ◌++◌, Option, Some, None}
use Rattle.std.proofs.Common.{drop, take, length, refl, sym, ◌∙◌, ap, subst, inl, inr, arith}
use Rattle.std.proofs.Math.Seq.{take-length}
use Rattle.std.proofs.lemmas.Bool.{cases_lt}
use Rattle.std.proofs.lemmas.List.{length-drop}
use Rattle.std.specs.Option.{option_map_or}
use Rattle.lexer.specs.TokenLists.{start_of}
use Rattle.diagnostics.proofs.LaterFaultLemmas.{first-one, later-one}
use Rattle.diagnostics.specs.LaterFaults.{AreLaterFaults, IsFirstAt, enough, it_reads, no_line, on_line, one_more}
use Rattle.ruletable.specs.Faults.{fault_text}
use Rattle.ruletable.specs.Lines.{line_at}
use Rattle.ruletable.specs.declared.fault.ReadFault.{ReadFault}
use Rattle.ruletable.specs.declared.fault.ReadFault.TheVariants as faults
use Rattle.ruletable.specs.declared.lines.LineRule.TheVariants.{Any}
use Rattle.pegread.specs.Pattern.{Rule}
use Rattle.pegread.specs.Reading.{IsFaultOf, Reads}
use Rattle.pegread.specs.Tokens.{Tok}
use Rattle.pegread.proofs.IsFaultOfLemmas.{no-fault, one-fault}
use Rattle.pegprint.specs.PegAllFaults.{AreFurther, AreOthers, ExplainsAll, DecidesAfter, IsDeciding, IsFaultFrom}
use Rattle.pegprint.specs.PegAllFaults.{last_start, name_from}
use Rattle.pegprint.specs.PegExplained.{Explains}
use Rattle.pegprint.specs.PegRuleLines.{IsMost, IsNext, goes_next, indent, is_rule_line}
use Rattle.pegprint.proofs.PegWhyLemmas.{one-explanation, one-token}

most-one : (text : List ℕ) (a b : ℕ) → IsMost text a → IsMost text b → a ≡ b
most-one text a b g h =
    g.is ∙ ap (λ (o : Option ℕ). option_map_or (indent text) o 0)
    (first-one (is_rule_line text) 0 (length text) g.first h.first g.is_first h.is_first) ∙ sym h.is

next-one : (text : List ℕ) (start ahead : ℕ) (a b : Option ℕ) → IsNext text start ahead a → IsNext text start ahead b
    → a ≡ b
next-one text start ahead a b g h =
    let same = most-one text g.most h.most g.is_most h.is_most in
    first-one (goes_next text h.most start ahead) (start + 1) (length text) a b
    (subst (λ (n : ℕ). IsFirstAt (goes_next text n start ahead) (start + 1) (length text) a) same g.is_next) h.is_next

-- the token that decides is one, and so is the one before it
after-one : (text : List ℕ) (t u : Tok) (a b : ℕ) → DecidesAfter text t a → DecidesAfter text u b → (t ≡ u) × (a ≡ b)
after-one text t u a b g h =
    let d = g.decides in
    let e = h.decides in
    let one = one-token text d.all e.all d.number e.number t u d.are_tokens e.are_tokens d.there e.there d.holds e.holds
    in (
      one.tokens,
      g.is ∙ ap (λ (n : ℕ). last_start (take n d.all)) (sym one.numbers)
          ∙ ap (λ (ts : List Tok). last_start (take e.number ts)) (sym one.lists) ∙ sym h.is,
    )

deciding-one : (text : List ℕ) (t u : Tok) (a b : ℕ) → IsDeciding text t a → IsDeciding text u b → (t ≡ u) × (a ≡ b)
deciding-one text t u a b g h =
    let one = after-one text t u g.before h.before g.is_after h.is_after in (
      one.0,
      g.is ∙ ap (λ (n : ℕ). name_from n t) one.1 ∙ ap (λ (x : Tok). name_from h.before x) one.0 ∙ sym h.is,
    )

report-one : (text : List ℕ) (start : ℕ) (a b : List ℕ) (m n : ℕ) → IsFaultFrom text start a m
    → IsFaultFrom text start b n → (a ≡ b) × (m ≡ n)
report-one text start a b m n g h =
    let same = one-fault (drop start text) g.fault h.fault g.is_fault h.is_fault g.named h.named in
    let lines = one-explanation (drop start text) h.fault g.why h.why
    (subst (λ (f : ReadFault). Explains (drop start text) f g.why) same g.explains) h.explains in
    let one = deciding-one (drop start text) g.token h.token m n g.decides h.decides in (
      g.is
          ∙ ap (λ (t : Tok). fault_text (on_line (line_at Any text (start + start_of t)) g.fault) ++ g.why) one.0
          ∙ ap (λ (f : ReadFault). fault_text (on_line (line_at Any text (start + start_of h.token)) f) ++ g.why) same
          ∙ ap (λ (z : List ℕ). fault_text (on_line (line_at Any text (start + start_of h.token)) h.fault) ++ z) lines
          ∙ sym h.is,
      one.1,
    )

others-one : (text a b : List ℕ) → AreOthers text a → AreOthers text b → a ≡ b
others-one text a b g h =
    let one = deciding-one text g.token h.token g.ahead h.ahead g.decides h.decides in
    later-one (IsFaultFrom text) (IsNext text) (report-one text) (next-one text) 15 0 h.ahead a b
    (subst (λ (n : ℕ). AreLaterFaults (IsFaultFrom text) (IsNext text) 15 0 n a) one.1 g.are) h.are

further-one : (text : List ℕ) (fault : ReadFault) (a b : List ℕ) → AreFurther text fault a → AreFurther text fault b
    → a ≡ b
further-one text faults.Memory a b g h = g ∙ sym h
further-one text faults.TooLong a b g h = g ∙ sym h
further-one text (faults.Syntax line) a b g h = others-one text a b g h
further-one text (faults.Depth line) a b g h = others-one text a b g h
further-one text (faults.CodePredicate line) a b g h = others-one text a b g h
further-one text (faults.NumberTooLarge line) a b g h = others-one text a b g h

pub all-one : (text : List ℕ) (fault : ReadFault) (a b : List ℕ) → ExplainsAll text fault a → ExplainsAll text fault b
    → a ≡ b
all-one text fault a b g h =
    g.is ∙ ap (λ (z : List ℕ). z ++ g.others) (one-explanation text fault g.first h.first g.explains h.explains)
    ∙ ap (λ (z : List ℕ). h.first ++ z) (further-one text fault g.others h.others g.are h.are) ∙ sym h.is

-- One reading after another, of at most 16 in all.
module _ (text : List ℕ) (most : ℕ) (is_most : IsMost text most) (i start ahead : ℕ) (few : i < 16) where
  left-here : suc (16 - (i + 1)) ≡ 16 - i
  left-here = omega arith

  abbrev Later : ℕ → List ℕ → Type 0
  Later n others = AreLaterFaults (IsFaultFrom text) (IsNext text) n start ahead others

  next-there : (next : Option ℕ) → IsFirstAt (goes_next text most start ahead) (start + 1) (length text) next
      → IsNext text start ahead next
  next-there next first = record { most = most; is_most = is_most; is_next = first }

  pub none-left : IsFirstAt (goes_next text most start ahead) (start + 1) (length text) None → Later (16 - i) []
  none-left first = subst (λ (n : ℕ). Later n []) left-here (no_line (next-there None first))

  pub none-faulty : (next : ℕ) (definitions : List Rule)
      → IsFirstAt (goes_next text most start ahead) (start + 1) (length text) (Some next)
      → Reads (drop next text) definitions → Later (16 - i) []
  none-faulty next definitions first reads = subst (λ (n : ℕ). Later n []) left-here
      (it_reads (next-there (Some next) first)
      (λ reported further from.
      from.named (no-fault (drop next text) definitions from.fault reads from.is_fault)))

  pub one-further : (next further : ℕ) (reported others : List ℕ)
      → IsFirstAt (goes_next text most start ahead) (start + 1) (length text) (Some next)
      → IsFaultFrom text next reported further
      → AreLaterFaults (IsFaultFrom text) (IsNext text) (16 - (i + 1)) next further others
      → Later (16 - i) (reported ++ others)
  one-further next further reported others first from later =
      subst (λ (n : ℕ). Later n (reported ++ others)) left-here (one_more (next-there (Some next) first) from later)

-- no position up to one that fails passes
pub one-passed : (test : ℕ → Bool) (from at : ℕ) → ((k : ℕ) → from ≤ k → k < at → test k ≡ false) → test at ≡ false
    → (k : ℕ) → from ≤ k → k < at + 1 → test k ≡ false
one-passed test from at before here k low high = elim (cases_lt k at) [
  | inl lt ↦ before k low lt
  | inr ge ↦
      let same : k ≡ at = omega arith in
      subst (λ (z : ℕ). test z ≡ false) (sym same) here
]

-- the rest of a text from a position on
pub rest-whole : (n : ℕ) (text : List ℕ) → take (length text - n) (drop n text) ≡ drop n text
rest-whole n text = ap (λ (m : ℕ). take m (drop n text)) (sym (length-drop n text)) ∙ take-length (drop n text)

-- the report of a fault where a text is read from a position on
module _ (text : List ℕ) (start line before ahead : ℕ) (token other : Tok) (fault here : ReadFault)
    (message why : List ℕ) where
  pub fault-reported : IsFaultOf (drop start text) fault → fault ≢ faults.Memory → Explains (drop start text) fault why
      → DecidesAfter (drop start text) token before → ahead ≡ name_from before token → other ≡ token
      → line ≡ line_at Any text (start + start_of other) → here ≡ on_line line fault → message ≡ fault_text here
      → IsFaultFrom text start (message ++ why) ahead
  fault-reported is_fault named explains after from same lines moved said = record {
    fault = fault;
    is_fault = is_fault;
    named = named;
    why = why;
    explains = explains;
    token = token;
    decides = record { before = before; is_after = after; is = from };
    is = ap (λ (z : List ℕ). z ++ why) (said ∙ ap fault_text moved
        ∙ ap (λ (l : ℕ). fault_text (on_line l fault))
        (lines ∙ ap (λ (t : Tok). line_at Any text (start + start_of t)) same));
  }

-- after 16 readings no other one follows
pub all-read : (text : List ℕ) (i start ahead : ℕ) → 16 ≤ i
    → AreLaterFaults (IsFaultFrom text) (IsNext text) (16 - i) start ahead []
all-read text i start ahead le =
    let none : 0 ≡ 16 - i = omega arith in
    subst (λ (n : ℕ). AreLaterFaults (IsFaultFrom text) (IsNext text) n start ahead []) none enough

pub others-further : (text : List ℕ) (fault : ReadFault) (reported : List ℕ) → fault ≢ faults.Memory
    → fault ≢ faults.TooLong → AreOthers text reported → AreFurther text fault reported
others-further text faults.Memory reported m l are = absurd (m refl)
others-further text faults.TooLong reported m l are = absurd (l refl)
others-further text (faults.Syntax line) reported m l are = are
others-further text (faults.Depth line) reported m l are = are
others-further text (faults.CodePredicate line) reported m l are = are
others-further text (faults.NumberTooLarge line) reported m l are = are
