-- Fronts from letter to letter.
-- Serves: a_letter_leads_on, suffixes_are_moved, judge.
use Rattle.std.proofs.Common.{◌≡◌, ℕ, ◌+◌, List, [], ◌∷◌, ◌++◌, refl, sym, ◌∙◌, ap, subst, ◌↔◌, ◌⊎◌, inl, inr}
use Rattle.std.proofs.Common.{append_assoc}
use Rattle.std.specs.Prelude.{Bool, true, false, slice_get, Some}
use Rattle.flatgrammar.specs.Flat.{Flat, Dot, Reads}
use Rattle.flatgrammar.specs.Stacks.{Led, led, moves, ReadBy, reads, Reach, AreAlike}
use Rattle.flatgrammar.specs.Stacks.{IsReading, reading, Lifted, Empties, IsPlain, IsStackClosure, IsNext, IsResumed}
use Rattle.flatgrammar.proofs.LeadOnLemmas.{leads_on}
use Rattle.flatgrammar.proofs.LiftLemmas.{over, from_over, ends_over, rests_empty, led_some, IsOver}

module _ (flat : Flat) (last : Dot → Bool) where
  reading_some : {a : List Dot} → IsReading flat a → a ≡ [] → ⊥
  reading_some (reading rd) same = cc same

  reading_as : {a : List Dot} {t : Dot} {rest : List Dot} (other : List Dot) → IsReading flat a → a ≡ t ∷ rest
      → IsReading flat (t ∷ other)
  reading_as {t = t} other (reading {q = q} {r = r} {set = set} rd) same =
      let one : q ≡ t = cc same in reading (subst (λ v. Reads flat v set r) one rd)

  top_reads : {a : List Dot} (top below : List Dot) → (top ≡ [] → ⊥) → IsReading flat a → a ≡ top ++ below
      → IsReading flat top
  top_reads [] below full r same = absurd (full refl)
  top_reads (t ∷ top) below full r same = reading_as top r same

  module _ (x : List ℕ) (j c d : ℕ) (letter : slice_get x j ≡ Some c) (alike : AreAlike flat c d)
      (tops : List Dot → Type 0) (below : List Dot) (plain : IsPlain flat last x j tops below) where
    abbrev Before : List Dot → Type 0
    Before = ReadBy flat last (Reach flat last x j) d

    abbrev Tops : List Dot → Type 0
    Tops = ReadBy flat last tops d

    tops_some : (b : List Dot) → Tops b → b ≡ [] → ⊥
    tops_some b (reads h rd lies) same = cc same

    pub reads_down : (a : List Dot) → Before a → Lifted Tops below a
    reads_down a (reads {q = q} {r = r} {set = set} {below = rest} h rd lies) =
        let g = (plain.reading (q ∷ rest) (reading rd)).0 h in by g.top g.is g.stack_is
      where
        by : (top : List Dot) → tops top → q ∷ rest ≡ top ++ below → Lifted Tops below (r ∷ rest)
        by [] is same = absurd (reading_some (plain.all_read [] is) refl)
        by (t ∷ top) is same =
            let one : t ≡ q = cc same in
            record {
              top = r ∷ top;
              is = reads (subst (λ v. tops (v ∷ top)) one is) rd lies;
              stack_is = cc same;
            }

    pub reads_back : (a : List Dot) → Tops a → Before (a ++ below)
    reads_back a (reads {q = q} {below = rest} h rd lies) =
        reads ((plain.reading (q ∷ (rest ++ below)) (reading rd)).1
        (record { top = q ∷ rest; is = h; stack_is = refl })) rd lies

    pub taken_by_tops : ((a : List Dot) × Reach flat last x (j + 1) a) ↔ ((a : List Dot) × Tops a)
    taken_by_tops = (
      λ h. there ((leads_on flat last x j c d letter alike h.0).0 h.1),
      λ h. (h.0 ++ below, (leads_on flat last x j c d letter alike (h.0 ++ below)).1 (led (reads_back h.0 h.1))),
    )
      where
        there : {a : List Dot} → Led flat last Before a → (a : List Dot) × Tops a
        there {a} (led h) = let g = reads_down a h in (g.top, g.is)
        there (moves h m) = there h

    module _ (next : List Dot → Type 0) (ended : Bool) (is_next : IsNext flat last tops d next ended) where
      pub next_closure : IsStackClosure flat last x (j + 1) next ended below
      next_closure = record {
        reading = λ stack r. (
          λ h. there stack r (over flat last Tops Before below tops_some reads_down
              ((leads_on flat last x j c d letter alike stack).0 h)),
          λ h. (leads_on flat last x j c d letter alike stack).1
              (from_over flat last Tops Before below tops_some reads_back (reading_some r) (again stack h)),
        );
        all_read = λ top is. ((is_next.tops_are top).0 is).0;
        accepts = (
          λ a. let e = (ends_over flat last Tops Before below tops_some reads_back reads_down).0 (record {
            position = a.position;
            led_to = (leads_on flat last x j c d letter alike (a.position ∷ [])).0 a.reached;
            done = a.done;
          }) in
              (is_next.ended_is.1 e.0, e.1),
          λ h. let e = (ends_over flat last Tops Before below tops_some reads_back reads_down).1
              (is_next.ended_is.0 h.0, h.1) in
              record {
                position = e.position;
                reached = (leads_on flat last x j c d letter alike (e.position ∷ [])).1 e.led_to;
                done = e.done;
              },
        );
      }
        where
          there : (stack : List Dot) → IsReading flat stack → IsOver flat last Tops Before below tops_some stack
              → Lifted next below stack ⊎ ((ended ≡ true) × Led flat last (λ v. below ≡ v) stack)
          there stack r (inl g) = inl (record {
            top = g.top;
            is = (is_next.tops_are g.top).1
                (top_reads g.top below (λ none. led_some flat last tops_some g.is none) r g.stack_is, g.is);
            stack_is = g.stack_is;
          })
          there stack r (inr g) = inr (is_next.ended_is.1 g.0, g.1)

          again : (stack : List Dot)
              → Lifted next below stack ⊎ ((ended ≡ true) × Led flat last (λ v. below ≡ v) stack)
              → IsOver flat last Tops Before below tops_some stack
          again stack (inl g) = inl (record {
            top = g.top;
            is = ((is_next.tops_are g.top).0 g.is).1;
            stack_is = g.stack_is;
          })
          again stack (inr g) = inr (is_next.ended_is.0 g.0, g.1)

  module _ (x : List ℕ) (j : ℕ) where
    -- what was split off is put back
    module _ (tops : List Dot → Type 0) (suffix below : List Dot) (full : suffix ≡ [] → ⊥)
        (closure : IsStackClosure flat last x j tops true (suffix ++ below))
        (next : List Dot → Type 0) (ended : Bool) (is_next : IsResumed flat last tops suffix next ended) where
      abbrev Suffix : List Dot → Type 0
      Suffix = λ v. suffix ≡ v

      abbrev Whole : List Dot → Type 0
      Whole = λ v. suffix ++ below ≡ v

      suffix_some : (b : List Dot) → Suffix b → b ≡ [] → ⊥
      suffix_some b h same = full (h ∙ same)

      suffix_down : (a : List Dot) → Whole a → Lifted Suffix below a
      suffix_down a h = record { top = suffix; is = refl; stack_is = sym h }

      suffix_back : (a : List Dot) → Suffix a → Whole (a ++ below)
      suffix_back a h = ap (λ v. v ++ below) h

      some_left : {a : List Dot} → a ≡ suffix ++ below → a ≡ [] → ⊥
      some_left {a} same none = by suffix full (sym same ∙ none)
        where
          by : (suffix : List Dot) → (suffix ≡ [] → ⊥) → suffix ++ below ≡ [] → ⊥
          by [] full is = full refl
          by (p ∷ rest) full is = cc is

      pub resumed_closure : IsStackClosure flat last x j next ended below
      resumed_closure = record {
        reading = λ stack r. (
          λ h. there stack r ((closure.reading stack r).0 h),
          λ h. (closure.reading stack r).1 (again stack r h),
        );
        all_read = λ top is. ((is_next.tops_are top).0 is).0;
        accepts = (
          λ a. let e = (closure.accepts.0 a).1 in to_ended e,
          λ h. closure.accepts.1 (
            refl,
            inr
                ((ends_over flat last Suffix Whole below suffix_some suffix_back suffix_down).1
                (is_next.ended_is.0 h.0, h.1)),
          ),
        );
      }
        where
          to_ended : Empties flat last (suffix ++ below) → (ended ≡ true) × Empties flat last below
          to_ended (inl none) = absurd (some_left refl none)
          to_ended (inr e) =
              let g = (ends_over flat last Suffix Whole below suffix_some suffix_back suffix_down).0 e in
              (is_next.ended_is.1 g.0, g.1)

          there : (stack : List Dot) → IsReading flat stack
              → Lifted tops (suffix ++ below) stack ⊎ ((true ≡ true) × Led flat last Whole stack)
              → Lifted next below stack ⊎ ((ended ≡ true) × Led flat last (λ v. below ≡ v) stack)
          there stack r (inl g) =
              let same : stack ≡ (g.top ++ suffix) ++ below = g.stack_is ∙ sym (append_assoc g.top suffix below) in
              inl (record {
                top = g.top ++ suffix;
                is = (is_next.tops_are (g.top ++ suffix)).1 (
                  top_reads (g.top ++ suffix) below (joined_some g.top (closure.all_read g.top g.is)) r same,
                  inl (record { top = g.top; is = g.is; stack_is = refl }),
                );
                stack_is = same;
              })
            where
              joined_some : (top : List Dot) → IsReading flat top → top ++ suffix ≡ [] → ⊥
              joined_some [] r none = reading_some r refl
              joined_some (t ∷ top) r none = cc none
          there stack r (inr g) = by (over flat last Suffix Whole below suffix_some suffix_down g.1)
            where
              by : IsOver flat last Suffix Whole below suffix_some stack
                  → Lifted next below stack ⊎ ((ended ≡ true) × Led flat last (λ v. below ≡ v) stack)
              by (inl l) = inl (record {
                top = l.top;
                is = (is_next.tops_are l.top).1 (
                  top_reads l.top below (λ none. led_some flat last suffix_some l.is none) r l.stack_is,
                  inr l.is,
                );
                stack_is = l.stack_is;
              })
              by (inr l) = inr (is_next.ended_is.1 l.0, l.1)

          again : (stack : List Dot) → IsReading flat stack
              → Lifted next below stack ⊎ ((ended ≡ true) × Led flat last (λ v. below ≡ v) stack)
              → Lifted tops (suffix ++ below) stack ⊎ ((true ≡ true) × Led flat last Whole stack)
          again stack r (inl g) = by ((is_next.tops_are g.top).0 g.is).1
            where
              by : Lifted tops suffix g.top ⊎ Led flat last Suffix g.top
                  → Lifted tops (suffix ++ below) stack ⊎ ((true ≡ true) × Led flat last Whole stack)
              by (inl l) = inl (record {
                top = l.top;
                is = l.is;
                stack_is = g.stack_is ∙ (ap (λ v. v ++ below) l.stack_is ∙ append_assoc l.top suffix below);
              })
              by (inr l) = inr (
                refl,
                from_over flat last Suffix Whole below suffix_some suffix_back (reading_some r)
                    (inl (record { top = g.top; is = l; stack_is = g.stack_is })),
              )
          again stack r (inr g) = inr (
            refl,
            from_over flat last Suffix Whole below suffix_some suffix_back (reading_some r)
                (inr (is_next.ended_is.0 g.0, g.1)),
          )

    pub not_ended : (tops : List Dot → Type 0) (below : List Dot) → IsStackClosure flat last x j tops false below
        → IsPlain flat last x j tops below
    not_ended tops below closure = record {
      reading = λ stack r. (λ h. only stack ((closure.reading stack r).0 h), λ h. (closure.reading stack r).1 (inl h));
      all_read = closure.all_read;
    }
      where
        only : (stack : List Dot) → Lifted tops below stack
            ⊎ ((false ≡ true) × Led flat last (λ v. below ≡ v) stack) → Lifted tops below stack
        only stack (inl g) = g
        only stack (inr g) = absurd (cc g.0)

    pub nothing_below : (tops : List Dot → Type 0) (ended : Bool) → IsStackClosure flat last x j tops ended []
        → IsPlain flat last x j tops []
    nothing_below tops ended closure = record {
      reading = λ stack r. (
        λ h. only stack r ((closure.reading stack r).0 h),
        λ h. (closure.reading stack r).1
            (inl h),
      );
      all_read = closure.all_read;
    }
      where
        only : (stack : List Dot) → IsReading flat stack → Lifted tops [] stack
            ⊎ ((ended ≡ true) × Led flat last (λ v. [] ≡ v) stack) → Lifted tops [] stack
        only stack r (inl g) = g
        only stack r (inr g) = absurd (reading_some r (rests_empty flat last g.1))

    -- what is on top of all of them is split off
    pub split_plain : (tops base : List Dot → Type 0) (suffix below : List Dot) → IsPlain flat last x j tops below
        → ((top : List Dot) → tops top ↔ Lifted base suffix top) → ((top : List Dot) → base top → IsReading flat top)
        → IsPlain flat last x j base (suffix ++ below)
    split_plain tops base suffix below plain is reads_all = record {
      reading = λ stack r. (
        λ h. there stack ((plain.reading stack r).0 h),
        λ h. (plain.reading stack r).1 (again stack h),
      );
      all_read = reads_all;
    }
      where
        there : (stack : List Dot) → Lifted tops below stack → Lifted base (suffix ++ below) stack
        there stack g = let l = (is g.top).0 g.is in record {
          top = l.top;
          is = l.is;
          stack_is = g.stack_is ∙ (ap (λ v. v ++ below) l.stack_is ∙ append_assoc l.top suffix below);
        }

        again : (stack : List Dot) → Lifted base (suffix ++ below) stack → Lifted tops below stack
        again stack g = record {
          top = g.top ++ suffix;
          is = (is (g.top ++ suffix)).1 (record { top = g.top; is = g.is; stack_is = refl });
          stack_is = g.stack_is ∙ sym (append_assoc g.top suffix below);
        }
