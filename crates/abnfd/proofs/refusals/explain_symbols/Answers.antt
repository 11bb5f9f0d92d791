-- An explanation of the first line of an input begins with `line 1`.
use Rattle.std.proofs.Common.{◌≡◌, ℕ, Bool, true, false, List, ◌++◌, ◌≤◌, ap, arith, drop, length, refl, subst, sym}
use Rattle.std.proofs.lemmas.Fmt.{decimal_digit}
use Rattle.std.proofs.lemmas.List.{take_rest}
use Rattle.std.specs.Prelude.{codes, decimal, if◌then◌else◌, nat_lt, take}
use Rattle.abnfread.specs.AbnfViews.{rules_of}
use Rattle.abnfread.specs.Element.{Rule}
use Rattle.diagnostics.specs.ShownBytes.{cut}
use Rattle.ruletable.specs.declared.alphabet.Alphabet.{Alphabet}
use Rattle.refusedlines.specs.RefusedText.{column_after, is_none, none_of, refused_at, reported_expected}
use Rattle.refusedlines.specs.RefusedText.{unit_text}
use Rattle.refusedlines.specs.Refusals.{IsRefusalReported, octet_count}
use Rattle.refusedlines.specs.RuleNames.{name_at}
use Rattle.refusedlines.specs.declared.letterruns.run.LetterRun.{LetterRun}
use Rattle.refusedlines.specs.declared.refusal.LineUnit.TheVariants.{Line}
use Rattle.rulelines.specs.LineBytes.{line_bytes}
use Rattle.abnfd.proofs.refusals.explain_symbols.Goals as goal

abbrev IsOfFirst : List ℕ → Type 0
IsOfFirst text = text ≡ codes "line 1" ++ drop 6 text

nothing_of_first : (name : List ℕ) → IsOfFirst (none_of Line 1 name)
nothing_of_first name = subst
    (λ (d : List ℕ). IsOfFirst (codes "line " ++ (d ++ (codes ": rule '" ++ (cut name
    ++ codes "' derives nothing\n")))))
    (sym (decimal_digit 1 (omega arith))) refl

-- what follows the number stands in two parts
parts_of_first : (x y : List ℕ) → IsOfFirst ((codes "line " ++ (decimal 1 ++ x)) ++ y)
parts_of_first x y = subst (λ (d : List ℕ). IsOfFirst ((codes "line " ++ (d ++ x)) ++ y))
    (sym (decimal_digit 1 (omega arith))) refl

either_case : {A : Type 0} (P : A → Type 0) (b : Bool) (x y : A) → P x → P y → P (if b then x else y)
either_case P true x y p q = p
either_case P false x y p q = q

expected_of_first : (alphabet : Alphabet) (line : List ℕ) (n count : ℕ) (torn : Bool) (position : ℕ)
    (runs : List LetterRun) (ends : Bool) (parts : List (List ℕ))
    → IsOfFirst (reported_expected alphabet 1 line (refused_at n count torn) position runs ends parts)
expected_of_first alphabet line n count torn position runs ends parts =
    either_case (λ at. IsOfFirst (reported_expected alphabet 1 line at position runs ends parts)) (nat_lt n count) _ _
    (parts_of_first _ _)
    (either_case (λ at. IsOfFirst (reported_expected alphabet 1 line at position runs ends parts)) torn _ _
    (parts_of_first _ _) (parts_of_first _ _))

text_of_first : (alphabet : Alphabet) (name line : List ℕ) (n count : ℕ) (torn : Bool) (position column : ℕ)
    (runs : List LetterRun) (ends : Bool) (parts : List (List ℕ))
    → IsOfFirst (unit_text Line alphabet name 1 line (refused_at n count torn) position column runs ends parts)
text_of_first alphabet name line n count torn position column runs ends parts =
    either_case IsOfFirst (is_none runs ends) (none_of Line 1 name)
    (reported_expected alphabet 1 line (refused_at n count torn) position runs ends parts)
    (nothing_of_first name) (expected_of_first alphabet line n count torn position runs ends parts)

refusal_of_first : (alphabet : Alphabet) (rules : List Rule) (judged : ℕ) (line text : List ℕ)
    → IsRefusalReported Line alphabet rules judged line 1 text → IsOfFirst text
refusal_of_first alphabet rules judged line text r = subst IsOfFirst (sym r.is)
    (text_of_first alphabet (name_at rules judged) line r.after (length r.first) (nat_lt r.size (length line))
    (octet_count alphabet (take r.after r.first)) (column_after (take r.after r.first)) r.runs r.ends r.parts)

first_has_number : (alphabet : Alphabet) (rules : List Rule) (judged : ℕ) (line text part : List ℕ)
    → IsRefusalReported Line alphabet rules judged line 1 text → part ≡ text → 6 ≤ length part
first_has_number alphabet rules judged line text part r is =
    let size = ap length (refusal_of_first alphabet rules judged line text r) in
    let same = ap length is in
    omega (arith, size, same)

pub slice_bounds-rest-count : goal.slice_bounds-rest-count
slice_bounds-rest-count c = first_has_number c.args.letters (rules_of c.args.grammar.now.rules)
    c.args.grammar.now.judged c.as_slice.result.now c.in_ok-why.why.items c.as_slice-2.result.now
    c.in_ok-why.ensures c.as_slice-2.ensures.value

pub slice_bounds-rest-start : goal.slice_bounds-rest-start
slice_bounds-rest-start c = first_has_number c.args.letters (rules_of c.args.grammar.now.rules)
    c.args.grammar.now.judged c.as_slice.result.now c.in_ok-why.why.items c.as_slice-2.result.now
    c.in_ok-why.ensures c.as_slice-2.ensures.value

pub returns : goal.returns
returns c =
    let why = c.in_ok-why.why.items in
    let letters = c.args.letters in
    let rules = rules_of c.args.grammar.now.rules in
    let judged = c.args.grammar.now.judged in
    let line = line_bytes letters c.args.line.now in
    let r : IsRefusalReported Line letters rules judged line 1 why =
    rw (c.as_slice.ensures.value, c.in_ok-bytes.ensures) at c.in_ok-why.ensures in
    record {
      rest = drop 6 why;
      reported = subst (λ (t : List ℕ). IsRefusalReported Line letters rules judged line 1 t)
          (refusal_of_first letters rules judged line why r) r;
      is = rw (
        c.in_ok-extend_from_slice-2.ensures.items,
        take_rest c.as_slice-2.result.now 6,
        c.as_slice-2.ensures.value,
        c.in_ok-extend_from_slice.ensures.items,
        c.new-text.ensures.items,
      ) refl;
    }
