-- The verdict of a run over a line.
-- Serves: judge, viable.
use Rattle.std.proofs.Common.{◌≡◌, ℕ, ◌<◌, Bool, true, false, List, [], ◌∷◌, length, refl, sym, ◌∙◌, ap}
use Rattle.std.proofs.Common.{subst, arith, inl, map, get_or, if◌then◌else◌}
use Rattle.std.proofs.lemmas.Option.{slice_get-get_or, slice_get-map}
use Rattle.std.specs.Prelude.{slice_get, Some, option_map}
use Rattle.flatgrammar.specs.Flat.{Flat, Dot, Concat}
use Rattle.flatgrammar.specs.FlatVerdicts.{IsFlatVerdict}
use Rattle.flatgrammar.specs.FlatViews.{node_of}
use Rattle.flatgrammar.specs.declared.flat_node.Node as code_node
use Rattle.flatgrammar.proofs.CallOfLemmas.{get_map}
use Rattle.flatgrammar.specs.NodeSteps.{flat_of}
use Rattle.flatgrammar.specs.TableViews.{GiveTargets}
use Rattle.flatgrammar.specs.declared.tables.Tables as code_flat
use Rattle.flatgrammar.specs.declared.verdict.Verdict.{Verdict}
use Rattle.flatgrammar.specs.declared.verdict.Verdict.TheVariants.{Yes, No}
use Rattle.flatgrammar.specs.Stacks.{Accepts, AreUncounted}
use Rattle.flatgrammar.proofs.StacksLemmas.{accepted_holds, holds_accepted, reached_item, item_reached}
use Rattle.lazydfa.specs.declared.conts.Cont.{Cont}
use Rattle.lazydfa.specs.declared.cache.State.{State}
use Rattle.lazydfa.specs.Conts.{last_of}
use Rattle.lazydfa.specs.Cached.{IsAt}
use Rattle.lazydfa.specs.RunVerdicts.{IsOne, IsReached, IsRunVerdict}
use Rattle.lazydfa.proofs.MoveLemmas.{marks_last}

-- a letter's number
pub number_at : {A : Type 0} (f : A → ℕ) (xs : List A) (k : ℕ) (a : A) (v : ℕ) → k < length xs → a ≡ get_or xs k a
    → v ≡ f a → slice_get (map f xs) k ≡ Some v
number_at f xs k a v lt is value =
    slice_get-map f xs k ∙ (ap (λ o. option_map f o) (slice_get-get_or xs k a lt ∙ ap (λ b. Some b) (sym is))
    ∙ ap (λ b. Some b) (sym value))

-- one more symbol reaches nothing
pub dead_verdict : (flat : Flat) (last : Dot → Bool) (x : List ℕ) (j : ℕ) → j < length x
    → (0 < j → IsReached flat last x j) → ((m : ℕ) → j < m → IsReached flat last x m → ⊥)
    → IsRunVerdict flat last x (No j)
dead_verdict flat last x j lt reached none = (
  λ a. none (length x) lt (a.position ∷ [], a.reached),
  record { within = omega (arith, lt); reached = reached; last_is = λ m past most h. none m past h },
)

-- the line was read
pub end_verdict : (tables : code_flat.Tables) (conts : List Cont) (states : List State) (s : ℕ) (x : List ℕ) (j : ℕ)
    (below : List Dot) (at_j : IsAt tables conts states s x j below) → (at_j.state.ended ≡ true → below ≡ [])
    → j ≡ length x → (0 < j → IsReached (flat_of tables) (last_of tables) x j) → (n : ℕ) → n ≡ length x
    → (ended : Bool) → ended ≡ at_j.state.ended
    → IsRunVerdict (flat_of tables) (last_of tables) x (if ended then Yes else No n)
end_verdict tables conts states s x j below at_j plain end reached n is_n true is =
    subst (λ v. Accepts (flat_of tables) (last_of tables) x v) end
    (at_j.cover.accepts.1 (sym is, inl (plain (sym is))))
end_verdict tables conts states s x j below at_j plain end reached n is_n false is = (
  λ a. let ended = (at_j.cover.accepts.0
      (subst (λ v. Accepts (flat_of tables) (last_of tables) x v) (sym end) a)).0 in
      cc (ended, is),
  record {
    within = omega (arith, is_n);
    reached = λ some.
        let here : j ≡ n = omega (arith, end, is_n) in
        subst (λ v. IsReached (flat_of tables) (last_of tables) x v) here (reached (omega (arith, some, here)));
    last_is = λ m past most h. omega (arith, past, most, is_n);
  },
)

-- the flat grammar's verdict
module _ (tables : code_flat.Tables) (targets : GiveTargets (flat_of tables) tables.targets.items)
    (uncounted : AreUncounted (flat_of tables)) (one : IsOne (flat_of tables)) (x : List ℕ) where
  pub verdict_of_run : (verdict : Verdict) → IsRunVerdict (flat_of tables) (last_of tables) x verdict
      → IsFlatVerdict (flat_of tables) x verdict
  verdict_of_run Yes accepts =
      accepted_holds (flat_of tables) uncounted x (last_of tables) (marks_last tables targets) one.0 one.1 accepts
  verdict_of_run (No n) is = (
    λ derives. is.0 (holds_accepted (flat_of tables) uncounted x (last_of tables)
        (marks_last tables targets) one.0 one.1
        derives),
    record {
      within = is.1.within;
      item = λ some.
          let r = is.1.reached some in
          reached_item (flat_of tables) uncounted x (last_of tables) (marks_last tables targets) r.0 r.1;
      last = λ m past most item.
          is.1.last_is m past most
          (item_reached (flat_of tables) uncounted x (last_of tables) (marks_last tables targets) item);
    },
  )

-- a list of one
one_member : (ms : List ℕ) → length ms ≡ 1 → (body : ℕ) × (ms ≡ body ∷ [])
one_member [] is = absurd (omega (arith, is))
one_member (m ∷ []) is = (m, refl)
one_member (m ∷ k ∷ ms) is = absurd (omega (arith, is))

pub whole_is_one : (tables : code_flat.Tables) (node : code_node.Node) (ms : List ℕ)
    → slice_get tables.nodes.items tables.start ≡ Some node → node_of node ≡ Concat ms → length ms ≡ 1
    → IsOne (flat_of tables)
whole_is_one tables node ms is concat size =
    let one = one_member ms size in (
      one.0,
      get_map node_of tables.nodes.items tables.start is
          ∙ ap (λ v. Some v) (concat ∙ ap (λ v. Concat v) one.1),
    )
