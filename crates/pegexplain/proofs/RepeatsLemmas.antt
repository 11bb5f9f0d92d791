-- The repetitions in one more member.
-- Serves: explain_peg_note
use Rattle.std.proofs.Common.{◌≡◌, ℕ, ◌+◌, ◌<◌, List, [], ◌∷◌, ◌++◌, length, map, get_or, take, sym, ap, ◌∙◌}
use Rattle.std.proofs.Common.{append_assoc, append-nil, add-one, Bool, false, Some, arith, ⊎_elim}
use Rattle.std.specs.Prelude.{option_map, slice_get}
use Rattle.std.proofs.Math.Seq.{take-suc}
use Rattle.std.proofs.lemmas.Bool.{cases_lt}
use Rattle.std.proofs.lemmas.List.{map-append}
use Rattle.std.proofs.lemmas.Option.{slice_get-get_or, slice_get-map}
use Rattle.pegread.specs.Pattern.{Pattern}
use Rattle.pegread.specs.PegViews.{patterns, patterns_of, pattern_of}
use Rattle.pegread.specs.declared.expr.Expr.{Expr}
use Rattle.pegexplain.specs.PegLoops.{repeats_in, repeats_in_all}

one-more : (ps : List Pattern) (p : Pattern) → repeats_in_all (patterns (ps ++ p ∷ [])) ≡ repeats_in_all (patterns ps)
    ++ repeats_in p
one-more [] p = append-nil (repeats_in p)
one-more (q ∷ ps) p = ap (λ l. repeats_in q ++ l) (one-more ps p)
    ∙ sym (append_assoc (repeats_in q) (repeats_in_all (patterns ps)) (repeats_in p))

pub repeats-next : (es : List Expr) (i : ℕ) (e : Expr) → i < length es → e ≡ get_or es i e →
    repeats_in_all (patterns_of (take (i + 1) es)) ≡ repeats_in_all (patterns_of (take i es))
    ++ repeats_in (pattern_of e)
repeats-next es i e lt is =
    ap (λ (l : List Expr). repeats_in_all (patterns_of l)) (ap (λ (k : ℕ). take k es) (add-one i) ∙ take-suc es i e lt
    ∙ ap (λ x. take i es ++ x ∷ []) (sym is))
    ∙ ap (λ (l : List Pattern). repeats_in_all (patterns l)) (map-append pattern_of (take i es) (e ∷ []))
    ∙ one-more (map pattern_of (take i es)) (pattern_of e)

-- one repetition more that does not pass
pub passes-later : {H : Type 0} (f : H → Pattern) (hs : List H) (i : ℕ) (h : H) (test : Pattern → Bool)
    → h ≡ get_or hs i h → i < length hs → test (f h) ≡ false
    → ((k : ℕ) (d : Pattern) → k < i → slice_get (map f hs) k ≡ Some d → test d ≡ false)
    → (k : ℕ) (d : Pattern) → k < i + 1 → slice_get (map f hs) k ≡ Some d → test d ≡ false
passes-later f hs i h test is lt fails before k d low at = ⊎_elim
    (λ less. before k d less at)
    (λ most.
    let here : k ≡ i = omega (arith, low, most) in
    let there : slice_get hs i ≡ Some h = slice_get-get_or hs i h lt ∙ ap Some (sym is) in
    let found : Some d ≡ Some (f h) = sym at ∙ (ap (slice_get (map f hs)) here ∙ (slice_get-map f hs i
    ∙ ap (option_map f) there)) in
    let same : d ≡ f h = cc found in
    ap test same ∙ fails)
    (cases_lt k i)
