-- A suffix is put back below tops of which one has ended.
-- Serves: judge, viable.
use Rattle.std.proofs.Common.{◌≡◌, ℕ, ◌≤◌, Bool, List, [], ◌∷◌, ◌++◌, length, refl, sym, ◌∙◌, ap, subst}
use Rattle.std.proofs.Common.{◌⊎◌, inl, inr}
use Rattle.std.proofs.lemmas.List.{append-nil}
use Rattle.std.proofs.lemmas.List.Elements.{Contains-append_left, Contains-append_right, Contains-append_cases}
use Rattle.std.specs.Prelude.{slice_get, Contains}
use Rattle.flatgrammar.specs.Flat.{Dot, at}
use Rattle.flatgrammar.specs.NodeSteps.{flat_of}
use Rattle.flatgrammar.specs.TableViews.{GiveTargets}
use Rattle.flatgrammar.specs.declared.tables.Tables as code_flat
use Rattle.flatgrammar.specs.Stacks.{IsDoneAt, Led, led, moves, LedToEnd, IsReading, reading, Lifted, IsResumed}
use Rattle.lazydfa.specs.declared.conts.Cont.{Cont}
use Rattle.lazydfa.specs.Conts.{last_of, stack_of, AreKept, IsStackOf, TopReads, GoesOn, here, on, EndsAlone, IsAdded}
use Rattle.lazydfa.specs.Conts.{IsClosure, AreReaders}
use Rattle.lazydfa.specs.Spines.{IsMoveOn, AreMoved}
use Rattle.lazydfa.specs.StackSuffixes.{PutsBack}
use Rattle.lazydfa.proofs.ContsLemmas.{kept_stack, kept_within, stack_none}
use Rattle.lazydfa.proofs.AreCachedLemmas.{stack_on, stack_off, goes_as}
use Rattle.lazydfa.proofs.MoveLemmas.{from_goes, to_goes, done_reported, reported_done}
use Rattle.lazydfa.proofs.ReportLemmas.{top_reported, reported_top}

pub added_within : (none given : List ℕ) (suffix : ℕ) (conts : List Cont) → none ≡ [] → suffix ≤ length conts
    → IsAdded none given suffix → (id : ℕ) → Contains given id → id ≤ length conts
added_within none given suffix conts is_none within added id h =
    let same = added.only id (subst (λ v. Contains v id) (added.grown ∙ ap (λ v. v ++ added.added) is_none) h) in
    subst (λ v. v ≤ length conts) (sym same) within

module _ (tables : code_flat.Tables) (old mid new : List Cont) (kept : AreKept old mid) (more : AreKept mid new)
    (tops given all read next : List ℕ) (suffix : ℕ) (ended : Bool)
    (within : (id : ℕ) → Contains tops id → id ≤ length old) (suffix_in : suffix ≤ length old)
    (none : List ℕ) (is_none : none ≡ []) (added : IsAdded none given suffix)
    (closure : IsClosure tables old given mid all ended) (readers : AreReaders tables mid all read)
    (moved : AreMoved mid tops 0 new read next suffix) where
  abbrev Suffix : List Dot → Type 0
  Suffix = λ v. stack_of old suffix ≡ v

  added_is : given ≡ added.added
  added_is = added.grown ∙ ap (λ v. v ++ added.added) is_none

  to_suffix : (s : List Dot) → IsStackOf old given s → Suffix s
  to_suffix s h =
      let same = added.only h.id (subst (λ v. Contains v h.id) added_is h.stands) in
      sym (h.is ∙ ap (λ v. stack_of old v) same)

  of_suffix : (s : List Dot) → Suffix s → IsStackOf old given s
  of_suffix s is = record { id = suffix; stands = added.has; is = sym is }

  read_within : (id : ℕ) → Contains read id → id ≤ length mid
  read_within id h = closure.within id (readers.only id h).0

  base_is : (top id : ℕ) → Contains tops top → (m : IsMoveOn mid top 0 new id suffix) → m.base ≡ stack_of old top
  base_is top id h m =
      sym (append-nil m.base) ∙ (ap (λ v. m.base ++ v) (sym (stack_none mid 0 refl))
      ∙ (sym m.was ∙ kept_stack old mid kept top (within top h)))

  moved_is : (top id : ℕ) → Contains tops top → IsMoveOn mid top 0 new id suffix
      → stack_of new id ≡ stack_of old top ++ stack_of old suffix
  moved_is top id h m =
      m.is ∙ (ap (λ v. v ++ stack_of mid suffix) (base_is top id h m)
      ∙ ap (λ v. stack_of old top ++ v) (kept_stack old mid kept suffix suffix_in))

  next_reported : (s : List Dot) → IsStackOf new next s → Lifted (IsStackOf old tops) (stack_of old suffix) s
      ⊎ (TopReads tables s × GoesOn tables Suffix s)
  next_reported s h = by (Contains-append_cases read moved.added h.id
      (subst (λ v. Contains v h.id) moved.grown h.stands))
    where
      by : Contains read h.id ⊎ Contains moved.added h.id → Lifted (IsStackOf old tops) (stack_of old suffix) s
          ⊎ (TopReads tables s × GoesOn tables Suffix s)
      by (inl in_read) =
          let o = readers.only h.id in_read in
          let is : s ≡ stack_of mid h.id = h.is ∙ kept_stack mid new more h.id (read_within h.id in_read) in
          inr (
            subst (λ v. TopReads tables v) (sym is) o.1,
            goes_as tables (IsStackOf old given) Suffix to_suffix s
                ((closure.stacks s).0 (record { id = h.id; stands = o.0; is = is })),
          )
      by (inr in_moved) =
          let m = moved.only h.id in_moved in
          inl (record {
            top = stack_of old m.0;
            is = record { id = m.0; stands = m.1; is = refl };
            stack_is = h.is ∙ moved_is m.0 h.id m.1 m.2;
          })

  reported_next : (s : List Dot) → Lifted (IsStackOf old tops) (stack_of old suffix) s
      ⊎ (TopReads tables s × GoesOn tables Suffix s) → IsStackOf new next s
  reported_next s (inl l) =
      let m = moved.all l.is.id l.is.stands in
      record {
        id = m.0;
        stands = subst (λ v. Contains v m.0) (sym moved.grown) (Contains-append_right read moved.added m.0 m.1);
        is = l.stack_is ∙ (ap (λ v. v ++ stack_of old suffix) l.is.is ∙ sym (moved_is l.is.id m.0 l.is.stands m.2));
      }
  reported_next s (inr h) =
      let a = (closure.stacks s).1 (goes_as tables Suffix (IsStackOf old given) of_suffix s h.1) in
      let in_read = readers.all a.id a.stands (subst (λ v. TopReads tables v) a.is h.0) in
      record {
        id = a.id;
        stands = subst (λ v. Contains v a.id) (sym moved.grown) (Contains-append_left read moved.added a.id in_read);
        is = a.is ∙ sym (kept_stack mid new more a.id (read_within a.id in_read));
      }

  next_within : (id : ℕ) → Contains read id ⊎ Contains moved.added id → id ≤ length new
  next_within id (inl h) = kept_within mid new more id (read_within id h)
  next_within id (inr h) = (moved.only id h).2.within

  pub puts_back : PutsBack tables old tops suffix new next ended
  puts_back = record {
    within = λ id h. next_within id (Contains-append_cases read moved.added id
        (subst (λ v. Contains v id) moved.grown h));
    tops_are = λ s. (λ h. next_reported s h, λ h. reported_next s h);
    ended_is = (
      λ h. let e = closure.ended_is.0 h in
          (e.0, goes_as tables (IsStackOf old given) Suffix to_suffix e.0 ((closure.stacks e.0).0 e.1), e.2),
      λ h. closure.ended_is.1
          (h.0, (closure.stacks h.0).1 (goes_as tables Suffix (IsStackOf old given) of_suffix h.0 h.1), h.2),
    );
  }

abbrev SuffixOf : List Cont → ℕ → List Dot → Type 0
SuffixOf conts suffix = λ v. stack_of conts suffix ≡ v

-- growth before and after keeps it
pub put_back_kept : (tables : code_flat.Tables) (first first_new conts conts_new : List Cont) (tops : List ℕ)
    (suffix : ℕ)
    (next : List ℕ) (ended : Bool) → AreKept first first_new → AreKept conts conts_new
    → ((id : ℕ) → Contains tops id → id ≤ length first) → suffix ≤ length first
    → PutsBack tables first tops suffix conts next ended → PutsBack tables first_new tops suffix conts_new next ended
put_back_kept tables first first_new conts conts_new tops suffix next ended kept more within suffix_in p = record {
  within = λ id h. kept_within conts conts_new more id (p.within id h);
  tops_are = λ s. (
    λ h. there s ((p.tops_are s).0 (stack_off conts conts_new more next p.within s h)),
    λ h. stack_on conts conts_new more next p.within s ((p.tops_are s).1 (back s h)),
  );
  ended_is = (
    λ h. let e = p.ended_is.0 h in
        (e.0, goes_as tables (SuffixOf first suffix) (SuffixOf first_new suffix) to_new e.0 e.1, e.2),
    λ h. p.ended_is.1 (h.0, goes_as tables (SuffixOf first_new suffix) (SuffixOf first suffix) to_old h.0 h.1, h.2),
  );
}
  where
    same : stack_of first_new suffix ≡ stack_of first suffix
    same = kept_stack first first_new kept suffix suffix_in

    to_new : (s : List Dot) → SuffixOf first suffix s → SuffixOf first_new suffix s
    to_new s is = same ∙ is

    to_old : (s : List Dot) → SuffixOf first_new suffix s → SuffixOf first suffix s
    to_old s is = sym same ∙ is

    there : (s : List Dot) → Lifted (IsStackOf first tops) (stack_of first suffix) s
        ⊎ (TopReads tables s × GoesOn tables (SuffixOf first suffix) s)
        → Lifted (IsStackOf first_new tops) (stack_of first_new suffix) s
        ⊎ (TopReads tables s × GoesOn tables (SuffixOf first_new suffix) s)
    there s (inl l) = inl (record {
      top = l.top;
      is = stack_on first first_new kept tops within l.top l.is;
      stack_is = l.stack_is ∙ ap (λ v. l.top ++ v) (sym same);
    })
    there s (inr h) = inr (h.0, goes_as tables (SuffixOf first suffix) (SuffixOf first_new suffix) to_new s h.1)

    back : (s : List Dot) → Lifted (IsStackOf first_new tops) (stack_of first_new suffix) s
        ⊎ (TopReads tables s × GoesOn tables (SuffixOf first_new suffix) s)
        → Lifted (IsStackOf first tops) (stack_of first suffix) s
        ⊎ (TopReads tables s × GoesOn tables (SuffixOf first suffix) s)
    back s (inl l) = inl (record {
      top = l.top;
      is = stack_off first first_new kept tops within l.top l.is;
      stack_is = l.stack_is ∙ ap (λ v. l.top ++ v) same;
    })
    back s (inr h) = inr (h.0, goes_as tables (SuffixOf first_new suffix) (SuffixOf first suffix) to_old s h.1)

reads_on_top : (tables : code_flat.Tables) (a b s : List Dot) → IsReading (flat_of tables) a → s ≡ a ++ b
    → IsReading (flat_of tables) s
reads_on_top tables a b s (reading {below = below} rd) is =
    subst (λ v. IsReading (flat_of tables) v) (sym is) (reading {below = below ++ b} rd)

-- it is one of stacks
module _ (tables : code_flat.Tables) (targets : GiveTargets (flat_of tables) tables.targets.items) where
  module _ (from : List Dot → Type 0) where
    pub to_led : {a : List Dot} → GoesOn tables from a → Led (flat_of tables) (last_of tables) from a
    to_led (here h) = led h
    to_led (on {stack = stack} h g) = moves (to_led h) (from_goes tables targets stack g)

    pub from_led : {a : List Dot} → Led (flat_of tables) (last_of tables) from a → GoesOn tables from a
    from_led (led h) = here h
    from_led (moves h m) = on (from_led h) (to_goes tables targets m)

  pub put_back_resumes : (first : List Cont) (tops : List ℕ) (suffix : ℕ) (conts : List Cont) (next : List ℕ)
      (ended : Bool) → ((top : List Dot) → IsStackOf first tops top → IsReading (flat_of tables) top)
      → PutsBack tables first tops suffix conts next ended
      → IsResumed (flat_of tables) (last_of tables) (IsStackOf first tops) (stack_of first suffix)
      (IsStackOf conts next) ended
  put_back_resumes first tops suffix conts next ended read p = record {
    tops_are = λ top. (λ h. there top ((p.tops_are top).0 h), λ h. (p.tops_are top).1 (back top h.0 h.1));
    ended_is = (
      λ h. let e = p.ended_is.0 h in to_end e.0 e.1 e.2,
      λ h. p.ended_is.1 (from_end h.position h.led_to h.done),
    );
  }
    where
      there : (s : List Dot) → Lifted (IsStackOf first tops) (stack_of first suffix) s
          ⊎ (TopReads tables s × GoesOn tables (SuffixOf first suffix) s) → IsReading (flat_of tables) s
          × (Lifted (IsStackOf first tops) (stack_of first suffix) s
          ⊎ Led (flat_of tables) (last_of tables) (SuffixOf first suffix) s)
      there s (inl l) = (reads_on_top tables l.top (stack_of first suffix) s (read l.top l.is) l.stack_is, inl l)
      there s (inr h) = (reported_top tables s h.0, inr (to_led (SuffixOf first suffix) h.1))

      back : (s : List Dot) → IsReading (flat_of tables) s → Lifted (IsStackOf first tops) (stack_of first suffix) s
          ⊎ Led (flat_of tables) (last_of tables) (SuffixOf first suffix) s
          → Lifted (IsStackOf first tops) (stack_of first suffix) s
          ⊎ (TopReads tables s × GoesOn tables (SuffixOf first suffix) s)
      back s r (inl l) = inl l
      back s r (inr h) = inr (top_reported tables r, from_led (SuffixOf first suffix) h)

      to_end : (s : List Dot) → GoesOn tables (SuffixOf first suffix) s → EndsAlone tables s
          → LedToEnd (flat_of tables) (last_of tables) (SuffixOf first suffix)
      to_end [] h e = absurd e
      to_end (at n k ∷ below) h e = record {
        position = at n k;
        led_to = to_led (SuffixOf first suffix) (subst (λ v. GoesOn tables (SuffixOf first suffix) (at n k ∷ v)) e.1 h);
        done = reported_done tables targets n k (slice_get tables.nodes.items n) refl e.0;
      }

      from_end : (p : Dot) → Led (flat_of tables) (last_of tables) (SuffixOf first suffix) (p ∷ [])
          → IsDoneAt (flat_of tables) p
          → (s : List Dot) × GoesOn tables (SuffixOf first suffix) s × EndsAlone tables s
      from_end (at n k) h d = (at n k ∷ [], from_led (SuffixOf first suffix) h, (done_reported tables targets d, refl))
