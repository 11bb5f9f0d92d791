-- Covers from letter to letter.
-- Serves: judge, viable, expected.
use Rattle.std.proofs.Common.{◌≡◌, ℕ, ◌+◌, List, [], ◌∷◌, ◌++◌, refl, sym, ◌∙◌, ap, subst, ◌↔◌, ◌⊎◌, inl, inr}
use Rattle.std.proofs.Common.{append_assoc}
use Rattle.std.specs.Prelude.{Bool, true, false, slice_get, Some}
use Rattle.flatgrammar.specs.Flat.{Flat, Dot, Reads}
use Rattle.flatgrammar.specs.Stacks.{MarksLast, Led, led, moves, LedToEnd, ReadBy, reads, Reach}
use Rattle.flatgrammar.specs.Stacks.{AreAlike, IsReading, reading, Lifted, Empties, IsNext, IsResumed}
use Rattle.flatgrammar.specs.Stacks.{IsStackClosure}
use Rattle.flatgrammar.proofs.LeadOnLemmas.{leads_on}
use Rattle.flatgrammar.proofs.LiftLemmas.{over, from_over, ends_over, rests_empty, led_by, led_some, IsOver}
use Rattle.lazydfa.specs.Domination.{Dominates, IsCovered, IsAmong, IsPlainCover, IsCover}
use Rattle.lazydfa.proofs.DominatesLemmas.{dominates_self, dominates_on, dominates_both, dominates_lifted, moves_over}
use Rattle.lazydfa.proofs.DominatesLemmas.{ends_over_end, reads_over, same_reader}

module _ (flat : Flat) (last : Dot → Bool) where
  reading_some : {a : List Dot} → IsReading flat a → a ≡ [] → ⊥
  reading_some (reading rd) same = cc same

  reading_as : {a : List Dot} {t : Dot} {rest : List Dot} (other : List Dot) → IsReading flat a → a ≡ t ∷ rest
      → IsReading flat (t ∷ other)
  reading_as {t = t} other (reading {q = q} {r = r} {set = set} rd) same =
      let one : q ≡ t = cc same in reading (subst (λ v. Reads flat v set r) one rd)

  top_reads : {a : List Dot} (top below : List Dot) → (top ≡ [] → ⊥) → IsReading flat a → a ≡ top ++ below
      → IsReading flat top
  top_reads [] below full r same = absurd (full refl)
  top_reads (t ∷ top) below full r same = reading_as top r same

  pub covered_self : {P : List Dot → Type 0} (stack : List Dot) → IsReading flat stack → P stack
      → IsCovered flat P stack
  covered_self stack r h = record { over = stack; is = h; reads = r; dominates = dominates_self flat stack }

  pub covered_as : {P Q : List Dot → Type 0} {stack : List Dot} → ((s : List Dot) → IsReading flat s → P s → Q s)
      → IsCovered flat P stack → IsCovered flat Q stack
  covered_as to h = record { over = h.over; is = to h.over h.reads h.is; reads = h.reads; dominates = h.dominates }

  pub exact_cover : (x : List ℕ) (j : ℕ) (tops : List Dot → Type 0) (ended : Bool) (below : List Dot)
      → IsStackClosure flat last x j tops ended below → IsCover flat last x j tops ended below
  exact_cover x j tops ended below closure = record {
    reading = λ stack r. (
      λ h. covered_self stack r ((closure.reading stack r).0 h),
      λ h. (closure.reading stack r).1 h,
    );
    all_read = closure.all_read;
    accepts = closure.accepts;
  }

  -- a stack led to from stacks is dominated by one led to from those that dominate these
  module _ (marks : MarksLast flat last) (before cover : List Dot → Type 0)
      (on : (a : List Dot) → before a → (b : List Dot) × cover b × Dominates flat b a) where
    pub led_over : {a : List Dot} → Led flat last before a → (b : List Dot) × Led flat last cover b
        × Dominates flat b a
    led_over {a} (led h) = let g = on a h in (g.0, led g.1, g.2)
    led_over (moves h m) =
        let g = led_over h in
        let n = moves_over flat last marks g.0 g.2 m in (
          n.to,
          led_by flat last (λ b same. subst (λ v. Led flat last cover v) same g.1) n.led_to,
          n.dominates,
        )

    pub reading_covered : {a : List Dot} → IsReading flat a → Led flat last before a
        → IsCovered flat (Led flat last cover) a
    reading_covered (reading {q = q} {r = r} {set = set} {below = rest} rd) h =
        let g = led_over h in
        let n = reads_over flat last marks g.0 rest g.2 rd in record {
          over = q ∷ n.below;
          is = led_by flat last (λ b same. subst (λ v. Led flat last cover v) same g.1) n.led_to;
          reads = reading rd;
          dominates = dominates_on flat q n.below rest n.dominates;
        }

    pub ends_covered : LedToEnd flat last before → LedToEnd flat last cover
    ends_covered e =
        let g = led_over e.led_to in
        let n = ends_over_end flat last marks g.0 e.done g.2 in record {
          position = n.position;
          led_to = led_by flat last (λ b same. subst (λ v. Led flat last cover v) same g.1) n.led_to;
          done = n.done;
        }

  module _ (marks : MarksLast flat last) (x : List ℕ) (j c d : ℕ) (letter : slice_get x j ≡ Some c)
      (alike : AreAlike flat c d) (tops : List Dot → Type 0) (below : List Dot)
      (plain : IsPlainCover flat last x j tops below) where
    abbrev Before : List Dot → Type 0
    Before = ReadBy flat last (Reach flat last x j) d

    abbrev Tops : List Dot → Type 0
    Tops = ReadBy flat last tops d

    abbrev LiftedTops : List Dot → Type 0
    LiftedTops = Lifted Tops below

    tops_some : (b : List Dot) → Tops b → b ≡ [] → ⊥
    tops_some b (reads h rd lies) same = cc same

    -- a top that dominates what reads the letter reads it too
    read_over : (a : List Dot) → Before a → (b : List Dot) × LiftedTops b × Dominates flat b a
    read_over a (reads {q = q} {r = r} {set = set} {below = rest} h rd lies) =
        let g = (plain.reading (q ∷ rest) (reading rd)).0 h in
        by g.is.top g.is.is (subst (λ v. Dominates flat v (q ∷ rest)) g.is.stack_is g.dominates)
      where
        by : (top : List Dot) → tops top → Dominates flat (top ++ below) (q ∷ rest)
            → (b : List Dot) × LiftedTops b × Dominates flat b (r ∷ rest)
        by [] is over = absurd (reading_some (plain.all_read [] is) refl)
        by (t ∷ top) is over =
            let same = same_reader flat (top ++ below) rest
            (reading_as (top ++ below) (plain.all_read (t ∷ top) is) refl) over rd in (
              r ∷ (top ++ below),
              record {
                top = r ∷ top;
                is = reads (subst (λ v. tops (v ∷ top)) same.0 is) rd lies;
                stack_is = refl;
              },
              dominates_on flat r (top ++ below) rest same.1,
            )

    reads_back : (a : List Dot) → Tops a → Before (a ++ below)
    reads_back a (reads {q = q} {below = rest} h rd lies) =
        reads ((plain.reading (q ∷ (rest ++ below)) (reading rd)).1
        (record { top = q ∷ rest; is = h; stack_is = refl })) rd lies

    lifted_back : (a : List Dot) → LiftedTops a → Before a
    lifted_back a l = subst (λ v. Before v) (sym l.stack_is) (reads_back l.top l.is)

    lifted_reached : {a : List Dot} → Led flat last LiftedTops a → Reach flat last x (j + 1) a
    lifted_reached {a} h =
        (leads_on flat last x j c d letter alike a).1 (led_by flat last (λ b l. led (lifted_back b l)) h)

    pub taken_by_cover : ((a : List Dot) × Reach flat last x (j + 1) a) ↔ ((a : List Dot) × Tops a)
    taken_by_cover = (
      λ h. there ((leads_on flat last x j c d letter alike h.0).0 h.1),
      λ h. (h.0 ++ below, (leads_on flat last x j c d letter alike (h.0 ++ below)).1 (led (reads_back h.0 h.1))),
    )
      where
        there : {a : List Dot} → Led flat last Before a → (a : List Dot) × Tops a
        there {a} (led h) = let g = read_over a h in (g.1.top, g.1.is)
        there (moves h m) = there h

    module _ (next : List Dot → Type 0) (ended : Bool) (is_next : IsNext flat last tops d next ended) where
      pub next_cover : IsCover flat last x (j + 1) next ended below
      next_cover = record {
        reading = λ stack r. (
          λ h. covered_as
              (λ s reads_it led_to. there s reads_it (over flat last Tops LiftedTops below tops_some (λ a l. l) led_to))
              (reading_covered marks Before LiftedTops read_over r
              ((leads_on flat last x j c d letter alike stack).0 h)),
          λ h. lifted_reached
              (from_over flat last Tops LiftedTops below tops_some lifted_on (reading_some r) (again stack h)),
        );
        all_read = λ top is. ((is_next.tops_are top).0 is).0;
        accepts = (
          λ a. let e = (ends_over flat last Tops LiftedTops below tops_some lifted_on (λ a l. l)).0
              (ends_covered marks Before LiftedTops read_over (record {
                position = a.position;
                led_to = (leads_on flat last x j c d letter alike (a.position ∷ [])).0 a.reached;
                done = a.done;
              })) in
              (is_next.ended_is.1 e.0, e.1),
          λ h. let e = (ends_over flat last Tops LiftedTops below tops_some lifted_on (λ a l. l)).1
              (is_next.ended_is.0 h.0, h.1) in
              record { position = e.position; reached = lifted_reached e.led_to; done = e.done },
        );
      }
        where
          lifted_on : (a : List Dot) → Tops a → LiftedTops (a ++ below)
          lifted_on a h = record { top = a; is = h; stack_is = refl }

          there : (stack : List Dot) → IsReading flat stack → IsOver flat last Tops LiftedTops below tops_some stack
              → IsAmong flat last next ended below stack
          there stack r (inl g) = inl (record {
            top = g.top;
            is = (is_next.tops_are g.top).1
                (top_reads g.top below (λ none. led_some flat last tops_some g.is none) r g.stack_is, g.is);
            stack_is = g.stack_is;
          })
          there stack r (inr g) = inr (is_next.ended_is.1 g.0, g.1)

          again : (stack : List Dot) → IsAmong flat last next ended below stack
              → IsOver flat last Tops LiftedTops below tops_some stack
          again stack (inl g) = inl (record {
            top = g.top;
            is = ((is_next.tops_are g.top).0 g.is).1;
            stack_is = g.stack_is;
          })
          again stack (inr g) = inr (is_next.ended_is.0 g.0, g.1)

  module _ (x : List ℕ) (j : ℕ) where
    -- tops that others dominate are left out
    pub pruned_cover : (tops kept : List Dot → Type 0) (ended : Bool) (below : List Dot)
        → IsCover flat last x j tops ended below → ((top : List Dot) → kept top → tops top)
        → ((top : List Dot) → tops top → (other : List Dot) × kept other × Dominates flat other top)
        → IsCover flat last x j kept ended below
    pruned_cover tops kept ended below cover only rest = record {
      reading = λ stack r. (
        λ h. there stack ((cover.reading stack r).0 h),
        λ h. (cover.reading stack r).1 (back stack h),
      );
      all_read = λ top h. cover.all_read top (only top h);
      accepts = cover.accepts;
    }
      where
        back : (stack : List Dot) → IsAmong flat last kept ended below stack → IsAmong flat last tops ended below stack
        back stack (inl l) = inl (record { top = l.top; is = only l.top l.is; stack_is = l.stack_is })
        back stack (inr h) = inr h

        read_above : (top : List Dot) → tops top → IsReading flat (top ++ below)
        read_above top h = by top (cover.all_read top h)
          where
            by : (top : List Dot) → IsReading flat top → IsReading flat (top ++ below)
            by [] r = absurd (reading_some r refl)
            by (t ∷ top) r = reading_as (top ++ below) r refl

        by : (stack s : List Dot) → Dominates flat s stack → IsReading flat s → IsAmong flat last tops ended below s
            → IsCovered flat (IsAmong flat last kept ended below) stack
        by stack s over r (inl l) =
            let other = rest l.top l.is in record {
              over = other.0 ++ below;
              is = inl (record { top = other.0; is = other.1; stack_is = refl });
              reads = read_above other.0 (only other.0 other.1);
              dominates = dominates_both flat (other.0 ++ below) s stack
                  (subst (λ v. Dominates flat (other.0 ++ below) v) (sym l.stack_is)
                  (dominates_lifted flat other.0 l.top below other.2)) over;
            }
        by stack s over r (inr h) = record { over = s; is = inr h; reads = r; dominates = over }

        there : (stack : List Dot) → IsCovered flat (IsAmong flat last tops ended below) stack
            → IsCovered flat (IsAmong flat last kept ended below) stack
        there stack h = by stack h.over h.dominates h.reads h.is

    -- what was split off is put back
    module _ (tops : List Dot → Type 0) (suffix below : List Dot) (full : suffix ≡ [] → ⊥)
        (cover : IsCover flat last x j tops true (suffix ++ below))
        (next : List Dot → Type 0) (ended : Bool) (is_next : IsResumed flat last tops suffix next ended) where
      abbrev Suffix : List Dot → Type 0
      Suffix = λ v. suffix ≡ v

      abbrev Whole : List Dot → Type 0
      Whole = λ v. suffix ++ below ≡ v

      suffix_some : (b : List Dot) → Suffix b → b ≡ [] → ⊥
      suffix_some b h same = full (h ∙ same)

      suffix_down : (a : List Dot) → Whole a → Lifted Suffix below a
      suffix_down a h = record { top = suffix; is = refl; stack_is = sym h }

      suffix_back : (a : List Dot) → Suffix a → Whole (a ++ below)
      suffix_back a h = ap (λ v. v ++ below) h

      some_left : {a : List Dot} → a ≡ suffix ++ below → a ≡ [] → ⊥
      some_left {a} same none = by suffix full (sym same ∙ none)
        where
          by : (suffix : List Dot) → (suffix ≡ [] → ⊥) → suffix ++ below ≡ [] → ⊥
          by [] full is = full refl
          by (p ∷ rest) full is = cc is

      pub resumed_cover : IsCover flat last x j next ended below
      resumed_cover = record {
        reading = λ stack r. (
          λ h. covered_as (λ s reads_it among. there s reads_it among) ((cover.reading stack r).0 h),
          λ h. (cover.reading stack r).1 (again stack r h),
        );
        all_read = λ top is. ((is_next.tops_are top).0 is).0;
        accepts = (
          λ a. let e = (cover.accepts.0 a).1 in to_ended e,
          λ h. cover.accepts.1 (
            refl,
            inr
                ((ends_over flat last Suffix Whole below suffix_some suffix_back suffix_down).1
                (is_next.ended_is.0 h.0, h.1)),
          ),
        );
      }
        where
          to_ended : Empties flat last (suffix ++ below) → (ended ≡ true) × Empties flat last below
          to_ended (inl none) = absurd (some_left refl none)
          to_ended (inr e) =
              let g = (ends_over flat last Suffix Whole below suffix_some suffix_back suffix_down).0 e in
              (is_next.ended_is.1 g.0, g.1)

          there : (stack : List Dot) → IsReading flat stack → IsAmong flat last tops true (suffix ++ below) stack
              → IsAmong flat last next ended below stack
          there stack r (inl g) =
              let same : stack ≡ (g.top ++ suffix) ++ below = g.stack_is ∙ sym (append_assoc g.top suffix below) in
              inl (record {
                top = g.top ++ suffix;
                is = (is_next.tops_are (g.top ++ suffix)).1 (
                  top_reads (g.top ++ suffix) below (joined_some g.top (cover.all_read g.top g.is)) r same,
                  inl (record { top = g.top; is = g.is; stack_is = refl }),
                );
                stack_is = same;
              })
            where
              joined_some : (top : List Dot) → IsReading flat top → top ++ suffix ≡ [] → ⊥
              joined_some [] r none = reading_some r refl
              joined_some (t ∷ top) r none = cc none
          there stack r (inr g) = by (over flat last Suffix Whole below suffix_some suffix_down g.1)
            where
              by : IsOver flat last Suffix Whole below suffix_some stack → IsAmong flat last next ended below stack
              by (inl l) = inl (record {
                top = l.top;
                is = (is_next.tops_are l.top).1 (
                  top_reads l.top below (λ none. led_some flat last suffix_some l.is none) r l.stack_is,
                  inr l.is,
                );
                stack_is = l.stack_is;
              })
              by (inr l) = inr (is_next.ended_is.1 l.0, l.1)

          again : (stack : List Dot) → IsReading flat stack → IsAmong flat last next ended below stack
              → IsAmong flat last tops true (suffix ++ below) stack
          again stack r (inl g) = by ((is_next.tops_are g.top).0 g.is).1
            where
              by : Lifted tops suffix g.top ⊎ Led flat last Suffix g.top
                  → IsAmong flat last tops true (suffix ++ below) stack
              by (inl l) = inl (record {
                top = l.top;
                is = l.is;
                stack_is = g.stack_is ∙ (ap (λ v. v ++ below) l.stack_is ∙ append_assoc l.top suffix below);
              })
              by (inr l) = inr (
                refl,
                from_over flat last Suffix Whole below suffix_some suffix_back (reading_some r)
                    (inl (record { top = g.top; is = l; stack_is = g.stack_is })),
              )
          again stack r (inr g) = inr (
            refl,
            from_over flat last Suffix Whole below suffix_some suffix_back (reading_some r)
                (inr (is_next.ended_is.0 g.0, g.1)),
          )

    pub cover_running : (tops : List Dot → Type 0) (below : List Dot) → IsCover flat last x j tops false below
        → IsPlainCover flat last x j tops below
    cover_running tops below cover = record {
      reading = λ stack r. (
        λ h. covered_as (λ s reads_it among. only s among) ((cover.reading stack r).0 h),
        λ h. (cover.reading stack r).1 (inl h),
      );
      all_read = cover.all_read;
    }
      where
        only : (stack : List Dot) → IsAmong flat last tops false below stack → Lifted tops below stack
        only stack (inl g) = g
        only stack (inr g) = absurd (cc g.0)

    pub cover_alone : (tops : List Dot → Type 0) (ended : Bool) → IsCover flat last x j tops ended []
        → IsPlainCover flat last x j tops []
    cover_alone tops ended cover = record {
      reading = λ stack r. (
        λ h. covered_as (λ s reads_it among. only s reads_it among) ((cover.reading stack r).0 h),
        λ h. (cover.reading stack r).1 (inl h),
      );
      all_read = cover.all_read;
    }
      where
        only : (stack : List Dot) → IsReading flat stack → IsAmong flat last tops ended [] stack
            → Lifted tops [] stack
        only stack r (inl g) = g
        only stack r (inr g) = absurd (reading_some r (rests_empty flat last g.1))

    -- what is on top of all of them is split off
    pub split_cover : (tops base : List Dot → Type 0) (suffix below : List Dot) → IsPlainCover flat last x j tops below
        → ((top : List Dot) → tops top ↔ Lifted base suffix top) → ((top : List Dot) → base top → IsReading flat top)
        → IsPlainCover flat last x j base (suffix ++ below)
    split_cover tops base suffix below plain is reads_all = record {
      reading = λ stack r. (
        λ h. covered_as (λ s reads_it lifted. there s lifted) ((plain.reading stack r).0 h),
        λ h. (plain.reading stack r).1 (again stack h),
      );
      all_read = reads_all;
    }
      where
        there : (stack : List Dot) → Lifted tops below stack → Lifted base (suffix ++ below) stack
        there stack g = let l = (is g.top).0 g.is in record {
          top = l.top;
          is = l.is;
          stack_is = g.stack_is ∙ (ap (λ v. v ++ below) l.stack_is ∙ append_assoc l.top suffix below);
        }

        again : (stack : List Dot) → Lifted base (suffix ++ below) stack → Lifted tops below stack
        again stack g = record {
          top = g.top ++ suffix;
          is = (is (g.top ++ suffix)).1 (record { top = g.top; is = g.is; stack_is = refl });
          stack_is = g.stack_is ∙ sym (append_assoc g.top suffix below);
        }
