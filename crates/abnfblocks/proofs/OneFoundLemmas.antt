-- What is found among lines is one list.
-- Serves: one_finding
use Rattle.std.proofs.Common.{◌≡◌, ◌≢◌, ℕ, true, false, List, ◌∷◌, Some, map, refl, sym, ap, ◌∙◌, inl, inr}
use Rattle.std.proofs.lemmas.Bool.{cases_order}
use Rattle.ruletable.specs.declared.fault.ReadFault.{ReadFault}
use Rattle.ruletable.specs.declared.fault.ReadFault.TheVariants as faults
use Rattle.abnfread.specs.AbnfReading.{IsFaultOf}
use Rattle.abnfblocks.specs.RuleCuts.{cut_text}
use Rattle.abnfblocks.specs.TextLines.{NumberedLine}
use Rattle.abnfblocks.specs.FoundRules.{AreFound, IsFoundOf, IsLongestCut, IsOutcome, none_left, no_rule}
use Rattle.abnfblocks.specs.FoundRules.{a_rule, found_line, rule_starts}
use Rattle.abnfblocks.specs.FoundRules.{it_reads, it_is_none}
use Rattle.abnfblocks.specs.declared.found.RuleSearch.{RuleSearch}
use Rattle.abnfblocks.specs.declared.found.RuleSearch.TheVariants as found

-- a text has at most one fault unless an allocation fails
abbrev pub OneFault : Type 0
OneFault = (text : List ℕ) (a b : ReadFault) → IsFaultOf text a → IsFaultOf text b → a ≢ faults.Memory
    → b ≢ faults.Memory → a ≡ b

one-longest : (rows : List NumberedLine) (n m : ℕ) → IsLongestCut rows n → IsLongestCut rows m → n ≡ m
one-longest rows n m h k = elim (cases_order n m) [
  | inl e ↦ e
  | inr (inl lt) ↦ absurd (h.longest m lt k.cut k.reads)
  | inr (inr gt) ↦ absurd (k.longest n gt h.cut h.reads)
]

one-it : OneFault → {i : ℕ} {rows : List NumberedLine} {a b : RuleSearch} → IsFoundOf i rows a → IsFoundOf i rows b
    → a ≡ b
one-it one {i} {rows} (it_reads {n} h) (it_reads {n = m} k) = ap (λ (x : ℕ). found.Rule i x) (one-longest rows n m h k)
one-it one (it_reads h) (it_is_none k) = absurd (k.none _ h.cut h.reads)
one-it one (it_is_none h) (it_reads k) = absurd (h.none _ k.cut k.reads)
one-it one {i} {rows} (it_is_none {n} {fault = f} h) (it_is_none {n = m} {fault = g} k) =
    let size : n ≡ m = h.size ∙ sym k.size in
    let there : IsOutcome (cut_text rows n) (Some g) = rw size k.fault_is in
    let here = h.fault_is in
    let same : f ≡ g = one (cut_text rows n) f g here.0 there.0 here.1 there.1 in
    ap (λ (x : ℕ). found.NotAbnf i x f) size ∙ ap (λ (x : ReadFault). found.NotAbnf i m x) same

-- and has one entry for each line that begins a rule
pub each-found : {i : ℕ} {lines : List NumberedLine} {all : List RuleSearch} → AreFound i lines all
    → map found_line all ≡ rule_starts i lines
each-found none_left = refl
each-found (no_rule e h) = rw e (each-found h)
each-found (a_rule {i} e (it_reads is) h) = rw e (ap (λ (ns : List ℕ). i ∷ ns) (each-found h))
each-found (a_rule {i} e (it_is_none is) h) = rw e (ap (λ (ns : List ℕ). i ∷ ns) (each-found h))

pub one-found : OneFault → {i : ℕ} {lines : List NumberedLine} {a b : List RuleSearch} → AreFound i lines a
    → AreFound i lines b → a ≡ b
one-found one none_left none_left = refl
one-found one (no_rule e h) (no_rule f k) = one-found one h k
one-found one (no_rule e h) (a_rule f it k) = let t : true ≡ false = sym f ∙ e in cc
one-found one (a_rule e it h) (no_rule f k) = let t : true ≡ false = sym e ∙ f in cc
one-found one (a_rule {it = a} {others = front} e x h) (a_rule {it = b} f y k) =
    ap (λ (it : RuleSearch). it ∷ front) (one-it one x y)
    ∙ ap (λ (others : List RuleSearch). b ∷ others) (one-found one h k)
