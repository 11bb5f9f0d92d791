-- What C holds of lines, made and taken apart: its machine values and what it owns.
-- Serves: lines_open, lines_next, lines_close
use Rattle.std.proofs.Common.{◌≡◌, ℕ, List, [], ◌∷◌, ◌++◌, refl, subst}
use Rattle.std.specs.Prelude.{Option, Some, None, IsSome}
use seplogic.Ra.Ura.{Ura}
use mir.Syntax.{impl, tnil, dnil}
use mir.Raw.{raw as bare}
use mathlib.Core.Bool.{true, ◌&&◌}
use lib.Dec.{T, lit<}
use mir.Val.{Val, vptr, vstruct, of_list, has_ty, WT}
use base.Logic.{never, fst∗}
use types.Logic.{Logic, sem}
use types.Kit.{Item, Goal, Seq, Step, step, ‵, ◌$◌, move, drop, fsplit, fjoin, fpick, fpack, rewrite, feq_i, feq_l}
use denote.RattleType.{RattleType, Valss}
use denote.Builtin.{RawPtr}
use denote.Memory.{lone}
use denote.RawPtr.{Ptr, block_ptr, null_ptr, ptr_val, in_a_block}
use denote.Steps.{nothing}
use denote.Struct.Struct.{within}
use denote.Struct.Owning.{shape}
use Rattle.core.proofs.alloc.Calls.{Al, handle_tells}
use Rattle.core.proofs.cell.Inside.{Good}
use denote.Param.{layout}
use Rattle.std_alloc.specs.Box.Ownership.{box_owns}
use Rattle.std_alloc.proofs.ResultValues.{and_tt}
use Rattle.std_heap.proofs.Global.TheLaws as heap
use Rattle.std_heap.specs.contracts.Global as Heap
use Rattle.std_heap.specs.declared.Global.{Global}
use Rattle.std_heap.specs.contracts.GlobalAllocator.TheImpl.{ghosts}
use Rattle.capi.specs.PointerOwns.{pointer_owns}
use Rattle.capi.specs.contracts.listing.Listing as listing
use Rattle.capi.specs.contracts.listing_box.ListingBox as boxed
use Rattle.capi.proofs.LooseLemmas.{both}

abbrev pub Z : RattleType
Z = Heap.the_row

abbrev pub R : RattleType
R = listing.the_row

abbrev pub Row : RattleType
Row = boxed.the_row

pub some_of : {A : Type 0} (o : Option A) → IsSome o → (x : A) × (o ≡ Some x)
some_of (Some x) h = (x, refl)
some_of None h = absurd (cc)

abbrev pub al : Al
al = record { row = Z; laws = heap.the_row_laws; g = ghosts; d = impl [] tnil dnil; drops = impl [] tnil dnil }

pub null_good : (h : Val) → Good (layout Z) h → T (has_ty (layout Z) h && true) × WT (both (ptr_val null_ptr) h)
null_good h fits = (and_tt (has_ty (layout Z) h) fits.0, (record { fits = lit< tt }, (fits.1, tt)))

module _ {M : Type 1} {𝓤 : Ura M} {𝓛 : Logic 𝓤} {K : Type 0} {Γ : List (Item 𝓤)} {G : Goal 𝓤 𝓛.H} where
  -- from what a box owns and its handle
  pub held_in : K → (b o : ℕ) (h : Val) (a : Global) (x : R.Denot)
      → Step K 𝓛 (‵ (Row.own_val (record { at = block_ptr b o; alloc = a; held = Some x }) (both (vptr b o) h ∷ [])) ∷
      Γ) G
      (‵ (box_owns (ghosts.dealloc_token a) R (block_ptr b o) x) ∷ ‵ (Z.own_val a (h ∷ [])) ∷ Γ) G
  held_in t b o h a x = step (λ s. let v : Val = both (vptr b o) h in
      nothing t $ move t (2 ∷ 0 ∷ []) $ fjoin t $ feq_i t (List Val) (vptr b o ∷ []) (vptr b o ∷ []) refl $ fjoin t $
      feq_i t (List Val) (v ∷ []) (v ∷ []) refl $ fjoin t $
      fpack t (Valss (RawPtr ∷ Z ∷ [])) (within (shape boxed.the_type) (block_ptr b o, (((a.memory.seal, tt), tt), tt))
      (v ∷ [])) (vptr b o ∷ [], (h ∷ [], tt)) $ fjoin t $ s)

  -- what a box owns and its handle, where there is one
  pub held_out : K → (d : Row.Denot) (x : R.Denot) (vs : List Val) → d.held ≡ Some x
      → ((b o : ℕ) (h : Val) → d.at ≡ block_ptr b o → vs ≡ both (vptr b o) h ∷ [] → Good (layout Z) h → Seq K 𝓛 (‵
      (box_owns (ghosts.dealloc_token d.alloc) R (block_ptr b o) x) ∷ ‵ (Z.own_val d.alloc (h ∷ [])) ∷ Γ) G)
      → Seq K 𝓛 (‵ (Row.own_val d vs) ∷ Γ) G
  held_out t d x vs held k =
      fsplit t $ fpick t (λ vss. fsplit t $ feq_l t (λ ev. fsplit t $ feq_l t (λ ep. fsplit t $ handle_tells al t
      d.alloc vss.1.0 (λ h ea fits. move t (1 ∷ []) $ drop t $ move t (1 ∷ []) $
      rewrite t 0 (λ (y : Option R.Denot). ‵ (pointer_owns (ghosts.dealloc_token d.alloc) R d.at y)) held refl $
      in_a_block t d.at (λ p. box_owns (ghosts.dealloc_token d.alloc) R p x) (fst∗ 𝓤 (never 𝓤) (sem 𝓛
      (ghosts.dealloc_token d.alloc (bare (lone R.mir)) null_ptr))) (λ b o e. k b o h e
      (subst (λ (p : Ptr). vs ≡ vstruct (of_list (ptr_val p ∷ h ∷ [])) ∷ []) e
      (subst (λ (ws : List Val). vs ≡ vstruct (of_list (ptr_val d.at ∷ (ws ++ []))) ∷ []) ea (subst (λ (ps : List
      Val). vs ≡ vstruct (of_list (ps ++ (vss.1.0 ++ []))) ∷ []) ep ev))) fits)))))

  -- no box
  pub none_in : K → (h : Val) (a : Global)
      → Step K 𝓛 (‵ (Row.own_val (record { at = null_ptr; alloc = a; held = None }) (both (ptr_val null_ptr) h ∷ []))
      ∷ Γ) G (‵ (Z.own_val a (h ∷ [])) ∷ Γ) G
  none_in t h a = step (λ s. let v : Val = both (ptr_val null_ptr) h in
      nothing t $ move t (1 ∷ 0 ∷ []) $ fjoin t $ feq_i t (List Val) (ptr_val null_ptr ∷ []) (ptr_val null_ptr ∷ [])
      refl $ fjoin t $ feq_i t (List Val) (v ∷ []) (v ∷ []) refl $ fjoin t $
      fpack t (Valss (RawPtr ∷ Z ∷ [])) (within (shape boxed.the_type) (null_ptr, (((a.memory.seal, tt), tt), tt)) (v ∷
      [])) (ptr_val null_ptr ∷ [], (h ∷ [], tt)) $ nothing t $ move t (1 ∷ 0 ∷ []) $ fjoin t $ s)
