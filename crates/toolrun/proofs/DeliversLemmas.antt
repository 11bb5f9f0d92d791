-- What a run delivers, after a text that was written before it.
-- Serves: run_tool (right), peg_windows
use Rattle.std.proofs.Common.{◌≡◌, ◌≢◌, ◌⊎◌, inl, inr, ℕ, ◌<◌, Bool, true, false, List, [], ◌∷◌, ◌++◌, length, arith}
use Rattle.std.proofs.Common.{refl, sym, ◌∙◌, ap, ap₂, append_assoc, append-nil, length-append, subst}
use Rattle.std.specs.Prelude.{drop, max}
use Rattle.std.proofs.lemmas.Bool.{cases_eq}
use Rattle.ruletable.specs.Writing.{IsPrefixOf}
use Rattle.ruletable.proofs.AppendsLemmas.{IsPrefixOf-after, IsPrefixOf-join, IsPrefixOf-nil, IsPrefixOf-same}
use Rattle.toolrun.specs.Delivery.{Delivers, IsReported, Observed, greatest_met}
use Rattle.toolrun.specs.Reply.{Reply}
use Rattle.toolrun.specs.Stop.{write_error}

-- nothing begins nothing else
pub begins_nothing : (xs ys : List ℕ) → IsPrefixOf xs ys → ys ≡ [] → xs ≡ []
begins_nothing [] ys b none = refl
begins_nothing (x ∷ xs) ys (rest, whole) none = absurd (cc)

-- what stands before is reported before
pub reported-after : (notes text reported : List ℕ) (err_failed : Bool) → IsReported err_failed reported text
    → IsReported err_failed (notes ++ reported) (notes ++ text)
reported-after notes text reported err_failed t =
    (IsPrefixOf-after notes reported text t.0, λ err_ok. ap (λ u. notes ++ u) (t.1 err_ok))

-- A run without notes delivers a reply after a text; then it delivers one with notes, if the text has the notes and
-- nothing more, or goes on into the messages of a reply that writes nothing.
module _ (text notes : List ℕ) (plain whole : Reply) (run : Observed) (out : whole.out ≡ plain.out)
    (status : whole.status ≡ plain.status) (err : text ++ plain.err ≡ notes ++ whole.err)
    (stands : (text ≡ notes) ⊎ (IsPrefixOf notes text × (whole.out ≡ []))) where
  has_notes : (text ≡ notes) ⊎ (IsPrefixOf notes text × (whole.out ≡ [])) → IsPrefixOf notes (text ++ run.err)
  has_notes (inl is) = rw is (IsPrefixOf-join notes notes run.err (IsPrefixOf-same notes))
  has_notes (inr goes) = IsPrefixOf-join notes text run.err goes.0

  writes_broken : Delivers [] plain run → (text ≡ notes) ⊎ (IsPrefixOf notes text × (whole.out ≡ []))
      → run.out_failed ≡ true → run.out ≢ whole.out
      → IsReported run.err_failed (text ++ run.err) (notes ++ write_error)
  writes_broken d (inl is) bad other =
      rw is (reported-after notes write_error run.err run.err_failed (d.broken bad (λ same. other (same ∙ sym out))))
  writes_broken d (inr goes) bad other =
      absurd (other (begins_nothing run.out plain.out d.part (sym out ∙ goes.1) ∙ sym goes.1))

  pub delivers_after : Delivers [] plain run → Delivers notes whole (record run { err = text ++ run.err; taken = [] })
  delivers_after d = record {
    part = rw out d.part;
    out = λ out_ok _. d.out out_ok (IsPrefixOf-nil run.err) ∙ sym out;
    silent = λ isnt. absurd (isnt (has_notes stands));
    unread = λ isnt. refl;
    reported = λ out_ok. rw (sym err) (reported-after text plain.err run.err run.err_failed (d.reported out_ok));
    broken = writes_broken d stands;
    unflushed = λ bad same. subst (λ (t : List ℕ). IsReported run.err_failed (text ++ run.err) t)
        (sym (append_assoc text plain.err write_error) ∙ ap (λ t. t ++ write_error) err)
        (reported-after text (plain.err ++ write_error) run.err run.err_failed (d.unflushed bad (same ∙ out)));
    status = λ _ same. rw status (d.status (IsPrefixOf-nil run.err) (same ∙ out));
    cut = λ other. d.cut (λ same. other (same ∙ sym out));
    unnoted = λ isnt. absurd (isnt (has_notes stands));
  }

-- a text begins another or not
begins_or_not : (xs ys : List ℕ) → IsPrefixOf xs ys ⊎ (IsPrefixOf xs ys → ⊥)
begins_or_not [] ys = inl (IsPrefixOf-nil ys)
begins_or_not (x ∷ xs) [] = inr (λ is. let e = is.1 in cc)
begins_or_not (x ∷ xs) (y ∷ ys) = elim (cases_eq x y) [
  | inr other ↦ inr (λ is. other (let e = is.1 in cc))
  | inl same ↦ elim (begins_or_not xs ys) [
    | inr never ↦ inr (λ is. never (is.0, ap (drop 1) is.1))
    | inl is ↦ inl (is.0, ap₂ (λ z zs. z ∷ zs) (sym same) is.1)
  ]
]

none_failed : (stated : ℕ) (out_failed err_failed : Bool) → greatest_met stated out_failed err_failed < 4
    → (out_failed ≡ false) × (err_failed ≡ false)
none_failed stated true err_failed low = absurd (let k : max stated 4 < 4 = low in omega (arith, k))
none_failed stated false true low = absurd (let k : max stated 4 < 4 = low in omega (arith, k))
none_failed stated false false low = (refl, refl)

-- below the status of a fault all is delivered
module _ (notes : List ℕ) (stated : Reply) (run : Observed) (d : Delivers notes stated run) (low : run.status < 4) where
  whole_out : (rest : List ℕ) → stated.out ≡ run.out ++ rest → run.out ≡ stated.out
  whole_out [] is = sym (is ∙ append-nil run.out)
  whole_out (b ∷ rest) is = absurd (
      let four : run.status ≡ 4 = d.cut (λ same. let n = ap length (same ∙ is) in
      omega (arith, n, length-append run.out (b ∷ rest))) in omega (arith, low, four))

  has_all_notes : IsPrefixOf notes run.err ⊎ (IsPrefixOf notes run.err → ⊥) → IsPrefixOf notes run.err
  has_all_notes (inl is) = is
  has_all_notes (inr never) = absurd (elim (d.unnoted never) [
    | inl four ↦ omega (arith, low, four)
    | inr (stop, is, met) ↦ omega (arith, low, met)
  ])

  pub delivers_whole : (run.out ≡ stated.out) × (run.err ≡ notes ++ stated.err) × (run.status ≡ stated.status)
  delivers_whole =
      let out : run.out ≡ stated.out = whole_out d.part.0 d.part.1 in
      let met = d.status (has_all_notes (begins_or_not notes run.err)) out in
      let fine = none_failed stated.status run.out_failed run.err_failed (rw met at low) in
      (out, (d.reported fine.0).1 fine.1, rw (fine.0, fine.1) at met)
