-- The lines that explain a fault are one text.
-- Serves: one_explanation
use Rattle.std.proofs.Common.{◌≡◌, ℕ, ◌⊎◌, inl, inr, List, ◌++◌, codes, refl, sym, ◌∙◌, ap, arith, slice_get, Some}
use Rattle.std.proofs.Common.{length, take}
use Rattle.lexer.proofs.ViabilityLemmas as viability
use Rattle.lexer.specs.declared.limits.TheConstants.{MAX_OPEN}
use Rattle.diagnostics.specs.PhraseLists.{listed}
use Rattle.diagnostics.specs.ReportedPhrases.{AreAllReported}
use Rattle.diagnostics.proofs.OneReportedLemmas.{one-reported}
use Rattle.ruletable.specs.declared.fault.ReadFault.{ReadFault}
use Rattle.ruletable.specs.declared.fault.ReadFault.TheVariants as faults
use Rattle.pegread.specs.Spelling.{Grammar, Viable}
use Rattle.pegread.specs.Words.{Says}
use Rattle.pegread.specs.Reading.{AreWithin, IsHopeless, IsTooDeep}
use Rattle.pegread.specs.Tokens.{Tok, AreTokens}
use Rattle.pegread.proofs.IsShallowLemmas.{shallow-take}
use Rattle.pegread.proofs.SliceLemmas.{tokens-one}
use Rattle.pegprint.specs.PegExpected.{CanStand, phrases}
use Rattle.pegprint.specs.PegExplained.{Why, too_long, hopeless, too_deep, Explains, token_position}
use Rattle.pegprint.specs.PegMistakes.{mistake_reported}

abbrev Decides : List Tok → ℕ → Type 0
Decides ts i = IsHopeless ts i ⊎ IsTooDeep ts i

viable-take : (i : ℕ) (ts : List Tok) → Viable ts → Viable (take i ts)
viable-take = viability.viable-take Says Grammar

within-take : (i : ℕ) (ts : List Tok) → AreWithin ts → AreWithin (take i ts)
within-take i ts h = shallow-take MAX_OPEN 0 i ts h

-- two tokens of a text that decide are one
pub record OneToken (all others : List Tok) (i j : ℕ) (t u : Tok) : Type 0 where
  pub lists : others ≡ all
  pub numbers : j ≡ i
  pub tokens : t ≡ u

pub one-token : (text : List ℕ) (all others : List Tok) (i j : ℕ) (t u : Tok) → AreTokens (length text) text all
    → AreTokens (length text) text others → slice_get all i ≡ Some t → slice_get others j ≡ Some u → Decides all i
    → Decides others j → OneToken all others i j t u
one-token text all others i j t u are are' at at' h k =
    let lists : others ≡ all = tokens-one are' are in
    let here : Decides all j = rw lists at k in
    let numbers : j ≡ i = viability.one-deciding Viable AreWithin viable-take within-take all j i here h in
    let same : Some t ≡ Some u = sym at ∙ ap (λ (n : ℕ). slice_get all n) (sym numbers)
    ∙ ap (λ (ts : List Tok). slice_get ts j) (sym lists) ∙ at' in
    record { lists = lists; numbers = numbers; tokens = cc }

-- no token is hopeless here and opens a bracket too many there
not-both : (text : List ℕ) (all others : List Tok) (i j : ℕ) (t u : Tok) → AreTokens (length text) text all
    → AreTokens (length text) text others → slice_get all i ≡ Some t → slice_get others j ≡ Some u → IsHopeless all i
    → IsTooDeep others j → ⊥
not-both text all others i j t u are are' at at' h k =
    let one = one-token text all others i j t u are are' at at' (inl h) (inr k) in
    let deep : IsTooDeep all j = (let d = k in rw one.lists at d) in
    viability.not-both Viable AreWithin viable-take within-take all i h (let d = deep in rw one.numbers at d)

abbrev reported_lines : List ℕ → List Tok → Tok → List (List ℕ) → List ℕ
reported_lines text all t reported =
    token_position text t ++ (codes "expected " ++ (listed reported ++ (codes "\n" ++ mistake_reported text all t)))

one-why : (text a b : List ℕ) → Why text a → Why text b → a ≡ b
one-why text a b (too_long l) (too_long m) = refl
one-why text a b (too_long l) (hopeless w are at h reported) = absurd (omega (arith, l, w))
one-why text a b (too_long l) (too_deep w are at h) = absurd (omega (arith, l, w))
one-why text a b (hopeless w are at h reported) (too_long l) = absurd (omega (arith, l, w))
one-why text a b (too_deep w are at h) (too_long l) = absurd (omega (arith, l, w))
one-why text a b (hopeless {all = all} {i = i} {t = t} {reported = said} w are at h reported)
    (hopeless {all = others} {i = j} {t = u} {reported = say} v are' at' k report) =
    let one = one-token text all others i j t u are are' at at' (inl h) (inl k) in
    let there : AreAllReported (CanStand all i) phrases say = (let d = report in rw (one.lists, one.numbers) at d) in
    ap (λ (ts : List Tok). reported_lines text ts t said) (sym one.lists)
    ∙ ap (λ (x : Tok). reported_lines text others x said) one.tokens
    ∙ ap (λ (ws : List (List ℕ)). reported_lines text others u ws) (one-reported reported there)
one-why text a b (hopeless {all = all} {i = i} {t = t} w are at h reported)
    (too_deep {all = others} {i = j} {t = u} v are' at' k) =
    absurd (not-both text all others i j t u are are' at at' h k)
one-why text a b (too_deep {all = all} {i = i} {t = t} w are at h)
    (hopeless {all = others} {i = j} {t = u} v are' at' k reported) =
    absurd (not-both text others all j i u t are' are at' at k h)
one-why text a b (too_deep {all = all} {i = i} {t = t} w are at h)
    (too_deep {all = others} {i = j} {t = u} v are' at' k) =
    let one = one-token text all others i j t u are are' at at' (inr h) (inr k) in
    ap (λ (x : Tok). token_position text x ++ codes "200 brackets are open before it\n") one.tokens

pub one-explanation : (text : List ℕ) (fault : ReadFault) (a b : List ℕ) → Explains text fault a → Explains text fault b
    → a ≡ b
one-explanation text faults.Memory a b g h = g ∙ sym h
one-explanation text (faults.Syntax line) a b g h = one-why text a b g h
one-explanation text (faults.Depth line) a b g h = one-why text a b g h
one-explanation text (faults.CodePredicate line) a b g h = one-why text a b g h
one-explanation text faults.TooLong a b g h = one-why text a b g h
one-explanation text (faults.NumberTooLarge line) a b g h = one-why text a b g h
