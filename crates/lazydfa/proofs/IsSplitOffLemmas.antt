-- What all tops stand on is split off.
-- Serves: judge, viable.
use Rattle.std.proofs.Common.{◌≡◌, ℕ, ◌+◌, ◌-◌, ◌<◌, ◌≤◌, List, [], ◌++◌, length, refl, sym, ◌∙◌, ap}
use Rattle.std.proofs.Common.{subst, arith, ◌⊎◌, inl, inr}
use Rattle.std.proofs.lemmas.Bool.{cases_lt}
use Rattle.std.proofs.lemmas.List.{append-nil}
use Rattle.std.specs.Prelude.{slice_get, Some, Contains}
use Rattle.flatgrammar.specs.Flat.{Dot}
use Rattle.flatgrammar.specs.declared.tables.Tables as code_flat
use Rattle.flatgrammar.specs.Stacks.{Lifted}
use Rattle.lazydfa.specs.declared.conts.Cont.{Cont}
use Rattle.lazydfa.specs.Conts.{stack_of, AreKept, AreOlder, IsStackOf, TopReads}
use Rattle.lazydfa.specs.Spines.{IsMoveOn, AreMoved}
use Rattle.lazydfa.specs.StackSuffixes.{IsSplitOff}
use Rattle.lazydfa.proofs.ContsLemmas.{kept_stack, kept_within, cont_found, stack_none}
use Rattle.lazydfa.proofs.IsAtLemmas.{some_at}

-- an id that is not that of nothing has a dotted rule on top
pub stack_full : (conts : List Cont) (id : ℕ) → AreOlder conts → 0 < id → id ≤ length conts → stack_of conts id ≡ [] → ⊥
stack_full conts id older some within none =
    let got = some_at conts (id - 1) (omega (arith, some, within)) in
    let is = (cont_found conts (id - 1) id got.0 older (omega (arith, some)) got.1).1 in
    cc (is, none)

module _ (tables : code_flat.Tables) (first conts : List Cont) (kept : AreKept first conts) (older : AreOlder first)
    (tops base : List ℕ) (suffix : ℕ) (within : (id : ℕ) → Contains tops id → id ≤ length first) (some : 0 < suffix)
    (suffix_in : suffix ≤ length first) (none : List ℕ) (is_none : none ≡ [])
    (moved : AreMoved first tops suffix conts none base 0)
    (reads : (id : ℕ) → Contains base id → TopReads tables (stack_of conts id)) where
  same_suffix : stack_of conts suffix ≡ stack_of first suffix
  same_suffix = kept_stack first conts kept suffix suffix_in

  added_is : base ≡ moved.added
  added_is = moved.grown ∙ ap (λ v. v ++ moved.added) is_none

  base_is : (top id : ℕ) (m : IsMoveOn first top suffix conts id 0) → stack_of conts id ≡ m.base
  base_is top id m = m.is ∙ (ap (λ v. m.base ++ v) (stack_none first 0 refl) ∙ append-nil m.base)

  put_together : (top id : ℕ) → Contains tops top → IsMoveOn first top suffix conts id 0
      → stack_of conts top ≡ stack_of conts id ++ stack_of conts suffix
  put_together top id h m =
      kept_stack first conts kept top (within top h) ∙ (m.was
      ∙ (ap (λ v. v ++ stack_of first suffix) (sym (base_is top id m))
      ∙ ap (λ v. stack_of conts id ++ v) (sym same_suffix)))

  pub is_split_off : IsSplitOff tables conts tops base suffix
  is_split_off = record {
    within = kept_within first conts kept suffix suffix_in;
    base_within = λ id h. (moved.only id (subst (λ v. Contains v id) added_is h)).2.within;
    full = λ empty. stack_full first suffix older some suffix_in (sym same_suffix ∙ empty);
    tops_are = λ stack. (λ h. there stack h, λ h. back stack h);
    all_read = reads;
  }
    where
      there : (stack : List Dot) → IsStackOf conts tops stack
          → Lifted (IsStackOf conts base) (stack_of conts suffix) stack
      there stack h =
          let m = moved.all h.id h.stands in
          record {
            top = stack_of conts m.0;
            is = record { id = m.0; stands = subst (λ v. Contains v m.0) (sym added_is) m.1; is = refl };
            stack_is = h.is ∙ put_together h.id m.0 h.stands m.2;
          }

      back : (stack : List Dot) → Lifted (IsStackOf conts base) (stack_of conts suffix) stack
          → IsStackOf conts tops stack
      back stack l =
          let m = moved.only l.is.id (subst (λ v. Contains v l.is.id) added_is l.is.stands) in
          record {
            id = m.0;
            stands = m.1;
            is = l.stack_is ∙ (ap (λ v. v ++ stack_of conts suffix) l.is.is
                ∙ sym (put_together m.0 l.is.id m.1 m.2));
          }

pub read_next : (tables : code_flat.Tables) (conts : List Cont) (ids : List ℕ) (count id : ℕ)
    → slice_get ids count ≡ Some id → TopReads tables (stack_of conts id)
    → ((k other : ℕ) → k < count → slice_get ids k ≡ Some other → TopReads tables (stack_of conts other))
    → (k other : ℕ) → k < count + 1 → slice_get ids k ≡ Some other → TopReads tables (stack_of conts other)
read_next tables conts ids count id at_count reads before k other lt is = by (cases_lt k count)
  where
    by : (k < count) ⊎ (count ≤ k) → TopReads tables (stack_of conts other)
    by (inl less) = before k other less is
    by (inr le) =
        let here : k ≡ count = omega (arith, le, lt) in
        let both : Some id ≡ Some other = sym at_count ∙ (ap (λ v. slice_get ids v) (sym here) ∙ is) in
        let same : id ≡ other = cc both in
        subst (λ v. TopReads tables (stack_of conts v)) same reads

pub moved_within : (first conts : List Cont) (tops : List ℕ) (off on : ℕ) (old new : List ℕ) → old ≡ []
    → AreMoved first tops off conts old new on → (id : ℕ) → Contains new id → id ≤ length conts
moved_within first conts tops off on old new none m id h =
    (m.only id (subst (λ v. Contains v id) (m.grown ∙ ap (λ v. v ++ m.added) none) h)).2.within
