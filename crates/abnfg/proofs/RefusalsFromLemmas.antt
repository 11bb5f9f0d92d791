-- The explanations of lines, one after another.
-- Serves: abnfg_main (right)
use Rattle.std.proofs.Common.{◌≡◌, ℕ, ◌+◌, ◌<◌, ◌≤◌, List, [], ◌∷◌, ◌++◌, length, refl, sym, ◌∙◌, ap, subst, arith}
use Rattle.std.proofs.Common.{append_assoc, append-nil, take, get_or, Vec, Global}
use Rattle.std.proofs.lemmas.List.{length-map, length-take-le, take_all, take_more}
use Rattle.std.proofs.lemmas.List.Elements.{All-push, All-weaker}
use Rattle.std.specs.List.{All}
use Rattle.abnfg.specs.ListRefusals.{AreRefusalsFrom}
use Rattle.abnfread.specs.Element.{Rule}
use Rattle.ruletable.specs.declared.alphabet.Alphabet.{Alphabet}
use Rattle.refusedlines.specs.Refusals.{IsExplained, IsRefusalReported}
use Rattle.refusedlines.specs.declared.refusal.LineUnit.{LineUnit}
use Rattle.rulelines.specs.MissLists.{item_lines}
use Rattle.rulelines.proofs.MissLinesLemmas.{lines_more}

module _ (unit : LineUnit) (alphabet : Alphabet) (rules : List Rule) (id : ℕ) where
  -- one more line is explained
  refusals_push : (number : ℕ) (lines : List (List ℕ)) (line text new : List ℕ)
      → AreRefusalsFrom unit alphabet rules id number lines text
      → IsExplained unit alphabet rules id line (number + length lines) text new
      → AreRefusalsFrom unit alphabet rules id number (lines ++ line ∷ []) new
  refusals_push number [] line text new none e = (
    e.0,
    [],
    e.1 ∙ (ap (λ v. v ++ e.0) none ∙ sym (append-nil e.0)),
    subst (λ (n : ℕ). IsRefusalReported unit alphabet rules id line n e.0) (omega arith) e.2,
    refl,
  )
  refusals_push number (first ∷ lines) line text new are e = (
    are.0,
    are.1 ++ e.0,
    e.1 ∙ (ap (λ v. v ++ e.0) are.2 ∙ append_assoc are.0 are.1 e.0),
    are.3,
    refusals_push (number + 1) lines line are.1 (are.1 ++ e.0) are.4
        (e.0, refl, subst (λ (n : ℕ). IsRefusalReported unit alphabet rules id line n e.0) (omega arith) e.2),
  )

  -- .. of some lines
  pub refusals_more : (lines : List (Vec ℕ Global)) (i : ℕ) (d : Vec ℕ Global) (text new : List ℕ) → i < length lines
      → AreRefusalsFrom unit alphabet rules id 1 (item_lines (take i lines)) text
      → IsExplained unit alphabet rules id (get_or lines i d).items (i + 1) text new
      → AreRefusalsFrom unit alphabet rules id 1 (item_lines (take (i + 1) lines)) new
  refusals_more lines i d text new lt are e =
      subst (λ (v : List (Vec ℕ Global)). AreRefusalsFrom unit alphabet rules id 1 (item_lines v) new)
      (sym (take_more lines i d lt))
      (subst (λ (v : List (List ℕ)). AreRefusalsFrom unit alphabet rules id 1 v new)
      (sym (lines_more (take i lines) (get_or lines i d)))
      (refusals_push 1 (item_lines (take i lines)) (get_or lines i d).items text new are
      (subst (λ (n : ℕ). IsExplained unit alphabet rules id (get_or lines i d).items n text new) number_is e)))
    where
      number_is : i + 1 ≡ 1 + length (item_lines (take i lines))
      number_is =
          let m = length-map (take i lines) (λ line. line.items) in
          let t = length-take-le i lines (omega (arith, lt)) in
          omega (arith, m, t)

  -- .. of all lines
  pub refusals_all : (lines : List (Vec ℕ Global)) (i : ℕ) (text : List ℕ) → length lines ≤ i
      → AreRefusalsFrom unit alphabet rules id 1 (item_lines (take i lines)) text
      → AreRefusalsFrom unit alphabet rules id 1 (item_lines lines) text
  refusals_all lines i text le are =
      subst (λ (v : List (Vec ℕ Global)). AreRefusalsFrom unit alphabet rules id 1 (item_lines v) text)
      (take_all i lines le) are

-- a bound that is above the lengths of lines, and of one more
abbrev pub IsBelow : ℕ → Vec ℕ Global → Type 0
IsBelow above line = length line.items + 1 ≤ above

pub above_more : (lines : List (Vec ℕ Global)) (i : ℕ) (d : Vec ℕ Global) (above now : ℕ) → i < length lines
    → All (IsBelow above) (take i lines) → above ≤ now → IsBelow now (get_or lines i d)
    → All (IsBelow now) (take (i + 1) lines)
above_more lines i d above now lt all le fits =
    subst (λ (v : List (Vec ℕ Global)). All (IsBelow now) v) (sym (take_more lines i d lt))
    (All-push (IsBelow now) (take i lines) (get_or lines i d)
    (All-weaker (IsBelow above) (IsBelow now) (λ line less. omega (arith, less, le)) (take i lines) all) fits)
