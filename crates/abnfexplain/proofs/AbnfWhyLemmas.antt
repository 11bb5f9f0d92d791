-- The lines that explain a fault of ABNF are one text.
-- Serves: one_explanation_of_abnf; one_joining of abnftexts
use Rattle.std.proofs.Common.{◌≡◌, ℕ, ◌⊎◌, inl, inr, List, ◌++◌, codes, refl, sym, ◌∙◌, ap, arith, slice_get, Some}
use Rattle.std.proofs.Common.{take, true, false, true≢false}
use Rattle.lexer.proofs.ViabilityLemmas as viability
use Rattle.diagnostics.specs.PhraseLists.{listed}
use Rattle.diagnostics.specs.ReportedPhrases.{AreAllReported}
use Rattle.diagnostics.proofs.OneReportedLemmas.{one-reported}
use Rattle.ruletable.specs.declared.fault.ReadFault.{ReadFault}
use Rattle.ruletable.specs.declared.fault.ReadFault.TheVariants as faults
use Rattle.abnfread.specs.AbnfReading.{is_bracket}
use Rattle.abnfread.specs.AbnfSays.{Says, Viable, AreWithin, IsHopeless, IsOver}
use Rattle.abnfread.specs.AbnfSpelling.{Grammar}
use Rattle.lexer.specs.TokenLists.{Tok}
use Rattle.abnfread.specs.declared.kind.AbnfKind.{AbnfKind}
use Rattle.abnfread.specs.MarkedTokens.{Marked, AreMarked, tok_of}
use Rattle.abnfread.proofs.AbnfFaultLemmas.{marked-one}
use Rattle.abnfread.proofs.HasTakenLemmas.{within-take}
use Rattle.abnfexplain.specs.AbnfDecisions.{IsFaultToken, earlier_marked, first_marked, last_marked}
use Rattle.abnfexplain.specs.AbnfExpected.{CanStand, phrases}
use Rattle.abnfexplain.specs.AbnfExplained.{Why, too_long, hopeless, too_deep, too_large, Explains, token_position}
use Rattle.abnfexplain.specs.AbnfExplained.{token_facts}

abbrev Decides : List Marked → ℕ → Type 0
Decides ms i = IsHopeless ms i ⊎ IsOver ms i

viable-take : (i : ℕ) (ms : List Marked) → Viable ms → Viable (take i ms)
viable-take = viability.viable-take Says Grammar

-- two tokens of a text that decide are one
record OneToken (all others : List Marked) (i j : ℕ) (m n : Marked) : Type 0 where
  lists : others ≡ all
  numbers : j ≡ i
  tokens : m ≡ n

one-token : (text : List ℕ) (all others : List Marked) (i j : ℕ) (m n : Marked) → AreMarked text all
    → AreMarked text others → slice_get all i ≡ Some m → slice_get others j ≡ Some n → Decides all i
    → Decides others j → OneToken all others i j m n
one-token text all others i j m n are are' at at' h k =
    let lists : others ≡ all = marked-one text others all are' are in
    let here : Decides all j = rw lists at k in
    let numbers : j ≡ i = viability.one-deciding Viable AreWithin viable-take within-take all j i here h in
    let same : Some m ≡ Some n = sym at ∙ ap (λ (x : ℕ). slice_get all x) (sym numbers)
    ∙ ap (λ (ms : List Marked). slice_get ms j) (sym lists) ∙ at' in
    record { lists = lists; numbers = numbers; tokens = cc }

-- one token of a text decides
pub one-fault-token : (text : List ℕ) (x y : Tok AbnfKind) → IsFaultToken text x → IsFaultToken text y → x ≡ y
one-fault-token text x y a b =
    let one = one-token text a.all b.all a.number b.number a.token b.token a.are_tokens b.are_tokens a.there b.there
    a.decides b.decides in
    a.is ∙ ap tok_of one.tokens ∙ sym b.is

-- no token is hopeless here and passes a limit there
not-both : (text : List ℕ) (all others : List Marked) (i j : ℕ) (m n : Marked) → AreMarked text all
    → AreMarked text others → slice_get all i ≡ Some m → slice_get others j ≡ Some n → IsHopeless all i
    → IsOver others j → ⊥
not-both text all others i j m n are are' at at' h k =
    let one = one-token text all others i j m n are are' at at' (inl h) (inr k) in
    let over : IsOver all j = (let d = k in rw one.lists at d) in
    viability.not-both Viable AreWithin viable-take within-take all i h (let d = over in rw one.numbers at d)

-- no token that passes a limit is a bracket here and none there
not-bracket : (text : List ℕ) (all others : List Marked) (i j : ℕ) (m n : Marked) → AreMarked text all
    → AreMarked text others → slice_get all i ≡ Some m → slice_get others j ≡ Some n → IsOver all i
    → IsOver others j → is_bracket m ≡ true → is_bracket n ≡ false → ⊥
not-bracket text all others i j m n are are' at at' h k is isnt =
    let one = one-token text all others i j m n are are' at at' (inr h) (inr k) in
    true≢false (sym is ∙ ap is_bracket one.tokens ∙ isnt)

abbrev reported_lines : List ℕ → List Marked → ℕ → Marked → List (List ℕ) → List ℕ
reported_lines text all i m reported = token_position text m ++ (codes "expected " ++ (listed reported ++ (codes "\n"
    ++ token_facts text (first_marked (take i all)) (earlier_marked (take i all)) (last_marked (take i all)) m)))

one-why : (text a b : List ℕ) → Why text a → Why text b → a ≡ b
one-why text a b (too_long l) (too_long k) = refl
one-why text a b (too_long l) (hopeless w are at h reported) = absurd (omega (arith, l, w))
one-why text a b (too_long l) (too_deep w are at h is) = absurd (omega (arith, l, w))
one-why text a b (too_long l) (too_large w are at h is) = absurd (omega (arith, l, w))
one-why text a b (hopeless w are at h reported) (too_long l) = absurd (omega (arith, l, w))
one-why text a b (too_deep w are at h is) (too_long l) = absurd (omega (arith, l, w))
one-why text a b (too_large w are at h is) (too_long l) = absurd (omega (arith, l, w))
one-why text a b (hopeless {all = all} {i = i} {m = m} {reported = said} w are at h reported)
    (hopeless {all = others} {i = j} {m = n} {reported = say} v are' at' k report) =
    let one = one-token text all others i j m n are are' at at' (inl h) (inl k) in
    let there : AreAllReported (CanStand all i) phrases say = (let d = report in rw (one.lists, one.numbers) at d) in
    ap (λ (x : Marked). reported_lines text all i x said) one.tokens
    ∙ ap (λ (ws : List (List ℕ)). reported_lines text all i n ws) (one-reported reported there)
    ∙ ap (λ (x : ℕ). reported_lines text all x n say) (sym one.numbers)
    ∙ ap (λ (ms : List Marked). reported_lines text ms j n say) (sym one.lists)
one-why text a b (hopeless {all = all} {i = i} {m = m} w are at h reported)
    (too_deep {all = others} {i = j} {m = n} v are' at' k is) =
    absurd (not-both text all others i j m n are are' at at' h k)
one-why text a b (hopeless {all = all} {i = i} {m = m} w are at h reported)
    (too_large {all = others} {i = j} {m = n} v are' at' k is) =
    absurd (not-both text all others i j m n are are' at at' h k)
one-why text a b (too_deep {all = all} {i = i} {m = m} w are at h is)
    (hopeless {all = others} {i = j} {m = n} v are' at' k reported) =
    absurd (not-both text others all j i n m are' are at' at k h)
one-why text a b (too_large {all = all} {i = i} {m = m} w are at h is)
    (hopeless {all = others} {i = j} {m = n} v are' at' k reported) =
    absurd (not-both text others all j i n m are' are at' at k h)
one-why text a b (too_deep {all = all} {i = i} {m = m} w are at h is)
    (too_deep {all = others} {i = j} {m = n} v are' at' k so) =
    let one = one-token text all others i j m n are are' at at' (inr h) (inr k) in
    ap (λ (x : Marked). token_position text x ++ codes "200 brackets are open before it\n") one.tokens
one-why text a b (too_large {all = all} {i = i} {m = m} w are at h is)
    (too_large {all = others} {i = j} {m = n} v are' at' k so) =
    let one = one-token text all others i j m n are are' at at' (inr h) (inr k) in
    ap (λ (x : Marked). token_position text x ++ codes "above 4294967295\n") one.tokens
one-why text a b (too_deep {all = all} {i = i} {m = m} w are at h is)
    (too_large {all = others} {i = j} {m = n} v are' at' k isnt) =
    absurd (not-bracket text all others i j m n are are' at at' h k is isnt)
one-why text a b (too_large {all = all} {i = i} {m = m} w are at h isnt)
    (too_deep {all = others} {i = j} {m = n} v are' at' k is) =
    absurd (not-bracket text others all j i n m are' are at' at k h is isnt)

pub one-explanation : (text : List ℕ) (fault : ReadFault) (a b : List ℕ) → Explains text fault a → Explains text fault b
    → a ≡ b
one-explanation text faults.Memory a b g h = g ∙ sym h
one-explanation text (faults.Syntax line) a b g h = one-why text a b g h
one-explanation text (faults.Depth line) a b g h = one-why text a b g h
one-explanation text (faults.CodePredicate line) a b g h = one-why text a b g h
one-explanation text faults.TooLong a b g h = one-why text a b g h
one-explanation text (faults.NumberTooLarge line) a b g h = one-why text a b g h
