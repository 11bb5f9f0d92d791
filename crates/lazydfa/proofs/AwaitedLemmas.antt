-- The parts that can come next after a symbol, by walks from the stacks that it leads to.
-- Serves: awaited.
use Rattle.std.proofs.Common.{◌≡◌, ◌⊎◌, inl, inr, ℕ, zero, suc, ◌+◌, ◌/◌, ◌<◌, ◌≤◌, Bool, true, false, List, [], ◌∷◌}
use Rattle.std.proofs.Common.{◌++◌, length, refl, sym, ◌∙◌, ap, subst, arith}
use Rattle.std.specs.Prelude.{slice_get, Option, Some, None, Contains, IfSome}
use Rattle.flatgrammar.specs.Flat.{Flat, Dot, at, Letters, Set, Starts, Reads, reads, Reading}
use Rattle.flatgrammar.specs.FlatViews.{node_of}
use Rattle.flatgrammar.specs.Holds.{Holds}
use Rattle.flatgrammar.specs.ItemClosures.{item_at, dot}
use Rattle.flatgrammar.specs.NodeSteps.{flat_of, read_at}
use Rattle.flatgrammar.specs.OldItems as old
use Rattle.flatgrammar.specs.OldItems.{HasPart, IsNameNode, IsOld, Walks}
use Rattle.flatgrammar.specs.CalledParts as parts_of
use Rattle.flatgrammar.specs.CalledParts.{AreAwaited, IsPartOf}
use Rattle.flatgrammar.specs.Positions.{In}
use Rattle.flatgrammar.specs.Stacks as st
use Rattle.flatgrammar.specs.Stacks.{AreUncounted, IsReading, Lifted, MarksLast, node_at, Reach, ReadBy}
use Rattle.flatgrammar.specs.TableViews.{AreNulls, GiveTargets, read_in, read_of}
use Rattle.flatgrammar.specs.declared.closure.DottedRule.{DottedRule}
use Rattle.flatgrammar.specs.declared.tables.Tables as code_flat
use Rattle.flatgrammar.proofs.CallOfLemmas.{get_unmap}
use Rattle.flatgrammar.proofs.OldStacksLemmas.{old_walked, walked_old}
use Rattle.flatgrammar.proofs.CalledPartsLemmas.{calls_callee, node_named, part_has}
use Rattle.flatgrammar.proofs.SliceGetLemmas.{push_cases}
use Rattle.lazydfa.specs.declared.cache.State.{State}
use Rattle.lazydfa.specs.declared.conts.Cont.{Cont}
use Rattle.lazydfa.specs.declared.glide.Track.{Track}
use Rattle.lazydfa.specs.declared.memo.Memo.{Memo}
use Rattle.lazydfa.specs.Memos.{IsRunStop}
use Rattle.lazydfa.specs.RunVerdicts.{IsOne}
use Rattle.lazydfa.specs.Conts.{last_of, stack_of, Adds, AreKept, IsStackOf, LedBy, ReadsFrom, ReadsOn}
use Rattle.lazydfa.specs.Domination.{Dominates, IsPlainCover}
use Rattle.lazydfa.specs.NameWalks.{AddsParts, IsPartOnTop, IsWalkedOver, WalkGoes}
use Rattle.lazydfa.specs.StackSuffixes.{AreSuffixes, below_of}
use Rattle.lazydfa.proofs.ContsLemmas.{stack_none}
use Rattle.lazydfa.proofs.ExpectedLemmas.{at_stop, plain_stop}
use Rattle.lazydfa.proofs.IsOverLemmas.{below_kept}
use Rattle.lazydfa.proofs.IsTrackLemmas.{row_state}
use Rattle.lazydfa.proofs.MoveLemmas.{marks_last}
use Rattle.lazydfa.proofs.NameWalksLemmas.{led_walked, walked_led}
use Rattle.lazydfa.proofs.ReportLemmas.{from_read, to_read}
use Rattle.lazydfa.proofs.WalkedOverLemmas.{led_more, parts_more}
use Rattle.lazydfa.proofs.WalksOverLemmas.{call_walked, read_back, read_over, reader_walked, walks_more}

bool_cases : (b : Bool) → (b ≡ true) ⊎ (b ≡ false)
bool_cases true = inl refl
bool_cases false = inr refl

-- a symbol more makes no difference to stacks before it
module _ (flat : Flat) (last : Dot → Bool) (x : List ℕ) (c : ℕ) where
  get_first : (j : ℕ) {d : ℕ} → slice_get x j ≡ Some d → slice_get (x ++ c ∷ []) j ≡ Some d
  get_first j is = by x j is
    where
      by : (x : List ℕ) (j : ℕ) {d : ℕ} → slice_get x j ≡ Some d → slice_get (x ++ c ∷ []) j ≡ Some d
      by [] j is = absurd (cc is)
      by (y ∷ x) zero is = is
      by (y ∷ x) (suc j) is = by x j is

  pub reach_on : {j : ℕ} {s : List Dot} → Reach flat last x j s → Reach flat last (x ++ c ∷ []) j s
  reach_on (Reach.begins st) = Reach.begins st
  reach_on (Reach.moved h m) = Reach.moved (reach_on h) m
  reach_on (Reach.has_read {j = j} h rd is has) = Reach.has_read (reach_on h) rd (get_first j is) has

  pub reach_off : {j : ℕ} {s : List Dot} → Reach flat last (x ++ c ∷ []) j s → j ≤ length x → Reach flat last x j s
  reach_off (Reach.begins st) le = Reach.begins st
  reach_off (Reach.moved h m) le = Reach.moved (reach_off h le) m
  reach_off (Reach.has_read {j = j} {c = d} h rd is has) le =
      Reach.has_read (reach_off h (omega (arith, le))) rd (by (push_cases x c j d is)) has
    where
      by : (slice_get x j ≡ Some d) ⊎ ((j ≡ length x) × (c ≡ d)) → slice_get x j ≡ Some d
      by (inl there) = there
      by (inr here) = absurd (let at_end = here.0 in omega (arith, le, at_end))

  pub symbol_last : slice_get (x ++ c ∷ []) (length x) ≡ Some c
  symbol_last = by x
    where
      by : (x : List ℕ) → slice_get (x ++ c ∷ []) (length x) ≡ Some c
      by [] = refl
      by (y ∷ x) = by x

  pub cover_on : (tops : List Dot → Type 0) (below : List Dot) → IsPlainCover flat last x (length x) tops below
      → IsPlainCover flat last (x ++ c ∷ []) (length x) tops below
  cover_on tops below p = record {
    reading = λ stack r. (
      λ h. (p.reading stack r).0 (reach_off h (omega arith)),
      λ l. reach_on ((p.reading stack r).1 l),
    );
    all_read = p.all_read;
  }

-- what a symbol leads to from ids
module _ (tables : code_flat.Tables) (c : ℕ) (old new : List Cont) (tops suffixes none ids : List ℕ)
    (kept : AreKept old new) (is_none : none ≡ [])
    (adds : Adds new (ReadsFrom tables c old tops) none ids) where
  added_all : (id : ℕ) → Contains ids id → Contains adds.added id
  added_all id h = subst (λ v. Contains v id) (adds.grown ∙ ap (λ v. v ++ adds.added) is_none) h

  reads_some : {a : List Dot} → ReadsFrom tables c old tops a → a ≡ [] → ⊥
  reads_some {a = a} r empty = by (stack_of old r.id) r.reads
    where
      by : (s : List Dot) → ReadsOn tables c s a → ⊥
      by [] h = h
      by (at n k ∷ below) h = let is = h.1 in cc (is, empty)

  pub read_ids : (id : ℕ) → Contains ids id → (0 < id) × (id ≤ length new)
  read_ids id h =
      let s = adds.sound id (added_all id h) in (some id s.1, s.0)
    where
      some : (id : ℕ) → ReadsFrom tables c old tops (stack_of new id) → 0 < id
      some zero r = absurd (reads_some r (stack_none new 0 refl))
      some (suc id) r = omega arith

  ids_read : (a : List Dot) → IsStackOf new ids a → ReadsFrom tables c old tops a
  ids_read a h =
      subst (λ v. ReadsFrom tables c old tops v) (sym h.is) (adds.sound h.id (added_all h.id h.stands)).1

  read_has : (a : List Dot) → ReadsFrom tables c old tops a → IsStackOf new ids a
  read_has a r = let w = adds.whole a r in record { id = w.0; stands = w.1; is = sym w.2.is }

  pub parts_read : (parts : List DottedRule) (empty : List DottedRule) → empty ≡ [] → AreSuffixes old suffixes
      → AddsParts tables (IsWalkedOver tables new ids suffixes) empty parts
      → AddsParts tables (λ v. LedBy (WalkGoes tables)
      (Lifted (ReadsFrom tables c old tops) (below_of old suffixes)) v) [] parts
  parts_read parts empty is_empty are found = λ s. (
    λ h. to s ((found s).0 h),
    λ h. (found s).1 (back s h),
  )
    where
      under : below_of new suffixes ≡ below_of old suffixes
      under = below_kept old new kept suffixes are

      to : (s : DottedRule) → In s empty ⊎ IsPartOnTop tables (IsWalkedOver tables new ids suffixes) s
          → In s [] ⊎ IsPartOnTop tables (λ v. LedBy (WalkGoes tables)
          (Lifted (ReadsFrom tables c old tops) (below_of old suffixes)) v) s
      to s (inl h) = inl (subst (λ v. In s v) is_empty h)
      to s (inr p) = inr (parts_more (λ a h. led_more (λ b g. record {
        top = g.top;
        is = ids_read g.top g.is;
        stack_is = g.stack_is ∙ ap (λ v. g.top ++ v) under;
      }) h) p)

      back : (s : DottedRule) → In s [] ⊎ IsPartOnTop tables (λ v. LedBy (WalkGoes tables)
          (Lifted (ReadsFrom tables c old tops) (below_of old suffixes)) v) s
          → In s empty ⊎ IsPartOnTop tables (IsWalkedOver tables new ids suffixes) s
      back s (inl h) = inl (subst (λ v. In s v) (sym is_empty) h)
      back s (inr p) = inr (parts_more (λ a h. led_more (λ b g. record {
        top = g.top;
        is = read_has g.top g.is;
        stack_is = g.stack_is ∙ ap (λ v. g.top ++ v) (sym under);
      }) h) p)

not_in : (s : DottedRule) → In s [] → ⊥
not_in s h = elim h [ ]

-- .. are the parts that can come next
module _ (tables : code_flat.Tables) (targets : GiveTargets (flat_of tables) tables.targets.items)
    (nulls : AreNulls (flat_of tables) tables.nulls.items) (uncounted : AreUncounted (flat_of tables)) (x : List ℕ)
    (j c : ℕ) (letter : slice_get x j ≡ Some c) (conts : List Cont) (tops : List ℕ) (below : List Dot)
    (cover : IsPlainCover (flat_of tables) (last_of tables) x j (IsStackOf conts tops) below)
    (parts : List DottedRule)
    (found : AddsParts tables (λ v. LedBy (WalkGoes tables) (Lifted (ReadsFrom tables c conts tops) below) v) [] parts)
  where
    abbrev flat : Flat
    flat = flat_of tables

    marks_are : MarksLast (flat_of tables) (last_of tables)
    marks_are = marks_last tables targets

    abbrev Before : List Dot → Type 0
    Before = ReadBy flat (last_of tables) (Reach flat (last_of tables) x j) c

    abbrev Cover : List Dot → Type 0
    Cover = ReadBy flat (last_of tables) (Lifted (IsStackOf conts tops) below) c

    read_cover : (a : List Dot) → Lifted (ReadsFrom tables c conts tops) below a → Cover a
    read_cover a g = by g.top (to_read tables targets c conts tops g.is) g.stack_is
      where
        by : (top : List Dot) → ReadBy flat (last_of tables) (IsStackOf conts tops) c top → a ≡ top ++ below → Cover a
        by _ (ReadBy.reads {q = q} {below = rest} h rd has) same =
            subst (λ v. Cover v) (sym same)
            (ReadBy.reads (record { top = q ∷ rest; is = h; stack_is = refl }) rd has)

    cover_read : (a : List Dot) → Cover a → Lifted (ReadsFrom tables c conts tops) below a
    cover_read _ (ReadBy.reads {q = q} {r = r} {set = set} {below = rest} g rd has) = by g.top g.is g.stack_is
      where
        by : (top : List Dot) → IsStackOf conts tops top → q ∷ rest ≡ top ++ below
            → Lifted (ReadsFrom tables c conts tops) below (r ∷ rest)
        by [] h same = absurd (none (cover.all_read [] h) refl)
          where
            none : {a : List Dot} → IsReading flat a → a ≡ [] → ⊥
            none (st.reading rd) empty = cc empty
        by (p ∷ top) h same =
            let one : p ≡ q = cc same in
            let left : rest ≡ top ++ below = cc same in
            record {
              top = r ∷ top;
              is = from_read tables targets c conts tops
                  (ReadBy.reads (subst (λ v. IsStackOf conts tops (v ∷ top)) one h) rd has);
              stack_is = ap (λ v. r ∷ v) left;
            }

    -- what is on top of a walk is held
    top_held : (n k : ℕ) (rest : List Dot)
        → LedBy (WalkGoes tables) (Lifted (ReadsFrom tables c conts tops) below) (at n k ∷ rest)
        → (i : ℕ) × Holds flat x (j + 1) (at n k) i × IsOld flat x (j + 1) n i
    top_held n k rest h =
        walked_old flat uncounted x (last_of tables) marks_are j c letter
        (walks_more flat (last_of tables) marks_are
        (λ a g. read_back flat (last_of tables) marks_are x j c (IsStackOf conts tops) below cover a (read_cover a g))
        (led_walked tables targets nulls h))

    has_part : (s : DottedRule) → IsPartOnTop tables
        (λ v. LedBy (WalkGoes tables) (Lifted (ReadsFrom tables c conts tops) below) v) s
        → HasPart flat x (j + 1) (IsOld flat x (j + 1)) s.node s.step
    has_part s p =
        let h = top_held p.node p.step p.below p.is in
        part_has tables x (j + 1) (IsOld flat x (j + 1)) p.node p.step s p.part h.0 h.1 h.2

    parts_sound : (s : DottedRule) → In s parts → HasPart flat x (j + 1) (IsOld flat x (j + 1)) s.node s.step
    parts_sound s stands = by ((found s).0 stands)
      where
        by : In s [] ⊎ IsPartOnTop tables (λ v. LedBy (WalkGoes tables)
            (Lifted (ReadsFrom tables c conts tops) below) v) s
            → HasPart flat x (j + 1) (IsOld flat x (j + 1)) s.node s.step
        by (inl h) = absurd (not_in s h)
        by (inr p) = has_part s p

    walk_of : (p : Dot) (i : ℕ) → last_of tables p ≡ false → Holds flat x (j + 1) p i
        → IsOld flat x (j + 1) (node_at p) i
        → (rest : List Dot) × Walks flat (last_of tables) Before (p ∷ rest)
    walk_of p i is_false h is_old = old_walked flat uncounted x (last_of tables) marks_are j c letter h is_old is_false

    covers_read : (a : List Dot) → Before a → (b : List Dot) × Cover b × Dominates flat b a
    covers_read a h = read_over flat (last_of tables) marks_are x j c (IsStackOf conts tops) below cover a h

    back_led : {a : List Dot} → Walks flat (last_of tables) Cover a
        → LedBy (WalkGoes tables) (Lifted (ReadsFrom tables c conts tops) below) a
    back_led w = led_more cover_read (walked_led tables targets nulls w)

    stands_there : (s : DottedRule) (n k : ℕ) (rest : List Dot) → Walks flat (last_of tables) Cover (at n k ∷ rest)
        → IsPartOf tables n k s → In s parts
    stands_there s n k rest w part =
        (found s).1 (inr (record { node = n; step = k; below = rest; is = back_led w; part = part }))

    not_last : (p : Dot) → (last_of tables p ≡ true → ⊥) → last_of tables p ≡ false
    not_last p is_false = by (bool_cases (last_of tables p))
      where
        by : (last_of tables p ≡ true) ⊎ (last_of tables p ≡ false) → last_of tables p ≡ false
        by (inl is_true) = absurd (is_false is_true)
        by (inr is) = is

    get_some : (sets : List Set) (k : ℕ) → k < length sets → (set : Set) × (slice_get sets k ≡ Some set)
    get_some [] k lt = absurd (omega (arith, lt))
    get_some (set ∷ sets) zero lt = (set, refl)
    get_some (set ∷ sets) (suc k) lt = get_some sets k (omega (arith, lt))

    whole_at : (s : DottedRule) (n k : ℕ) (p : Dot) → s ≡ dot n k → HasPart flat x (j + 1) (IsOld flat x (j + 1)) n k
        → Starts flat n p → In s parts
    whole_at s n k p same (old.reads {i = i} {sets = sets} h is_old is lt) st =
        let set = get_some sets k lt in
        let rd : Reads flat (at n k) set.0 (at n (k + 1)) = reads is (Reading.letter set.1) in
        let w = walk_of (at n k) i (not_last (at n k) (λ is_true. marks_are.no_read (at n k) (at n (k + 1)) set.0
        is_true rd)) h is_old in
        let r = reader_walked flat (last_of tables) marks_are Before Cover covers_read w.1 rd in
        let u = get_unmap node_of tables.nodes.items n (Letters sets) is in
        let there : read_of tables (item_at 0 (dot n k)) ≡ Some set.0 =
        ap (λ v. read_in v k) u.at ∙ (ap (λ v. read_at v k) u.is ∙ set.1) in
        stands_there s n k r.0 r.1 (parts_of.reads (λ none. cc (none, there)) same)
    whole_at s n k p same (old.calls {q = q} {r = r} {i = i} h is_old c name) st =
        let w = walk_of q i (not_last q (λ is_true. marks_are.no_call q r p n is_true c st)) h is_old in
        let g = call_walked flat (last_of tables) marks_are Before Cover covers_read w.1 c in
        let e = calls_callee tables g.4 in
        stands_there s e.0 e.1 g.2 (subst (λ v. Walks flat (last_of tables) Cover (v ∷ g.2)) e.3 g.3)
        (parts_of.calls e.5 (node_named tables n name) same)

    pub are_awaited : (n : ℕ) → n ≡ j + 1 → AreAwaited flat x n parts
    are_awaited n is = subst (λ v. AreAwaited flat x v parts) (sym is) (record {
      sound = parts_sound;
      whole = λ s p h st. whole_at s s.node s.step p refl h st;
    })

-- .. after a run over all symbols but the last
module _ (tables : code_flat.Tables) (targets : GiveTargets (flat_of tables) tables.targets.items)
    (uncounted : AreUncounted (flat_of tables)) (one : IsOne (flat_of tables)) (samples : List ℕ) (memo : Memo)
    (x : List ℕ) (stop : Track) (is : IsRunStop tables samples memo x stop) where
  pub stop_suffixes : AreSuffixes memo.cache.conts.items.items memo.suffixes.items
  stop_suffixes = is.tracks.runs.over.suffixes_are

  module _ (nulls : AreNulls (flat_of tables) tables.nulls.items) (c state : ℕ) (parts : List DottedRule)
      (whole : length x ≤ stop.at) (state_is : state ≡ stop.row / (length samples + 1))
      (found : (got : State) → slice_get memo.cache.states.items state ≡ Some got → AddsParts tables
      (λ v. LedBy (WalkGoes tables) (Lifted (ReadsFrom tables c memo.cache.conts.items.items got.tops.items)
      (below_of memo.cache.conts.items.items memo.suffixes.items)) v) [] parts) where
    at_end : stop.at ≡ length x
    at_end = let within = is.within in omega (arith, within, whole)

    state_there : slice_get memo.cache.states.items state
        ≡ Some (at_stop tables targets uncounted one samples memo x stop is).state
    state_there =
        ap (λ v. slice_get memo.cache.states.items v)
        (state_is ∙ row_state is.tracks.state stop.row (length samples + 1) (length samples) refl is.tracks.row)
        ∙ (at_stop tables targets uncounted one samples memo x stop is).is

    stop_cover : IsPlainCover (flat_of tables) (last_of tables) (x ++ c ∷ []) (length x)
        (IsStackOf memo.cache.conts.items.items
        (at_stop tables targets uncounted one samples memo x stop is).state.tops.items)
        (below_of memo.cache.conts.items.items memo.suffixes.items)
    stop_cover =
        cover_on (flat_of tables) (last_of tables) x c
        (IsStackOf memo.cache.conts.items.items
        (at_stop tables targets uncounted one samples memo x stop is).state.tops.items)
        (below_of memo.cache.conts.items.items memo.suffixes.items)
        (subst (λ v. IsPlainCover (flat_of tables) (last_of tables) x v (IsStackOf memo.cache.conts.items.items
        (at_stop tables targets uncounted one samples memo x stop is).state.tops.items)
        (below_of memo.cache.conts.items.items memo.suffixes.items)) at_end
        (plain_stop tables targets uncounted one samples memo x stop is))

    pub awaited_there : (y : List ℕ) (n : ℕ) → y ≡ x ++ c ∷ [] → n ≡ length x + 1
        → AreAwaited (flat_of tables) y n parts
    awaited_there y n y_is n_is =
        subst (λ v. AreAwaited (flat_of tables) v n parts) (sym y_is)
        (are_awaited tables targets nulls uncounted (x ++ c ∷ []) (length x) c
        (symbol_last (flat_of tables) (last_of tables) x c) memo.cache.conts.items.items
        (at_stop tables targets uncounted one samples memo x stop is).state.tops.items
        (below_of memo.cache.conts.items.items memo.suffixes.items) stop_cover parts
        (found (at_stop tables targets uncounted one samples memo x stop is).state state_there) n n_is)

-- what follows for a value, if there is one
pub if_some : {T : Type 0} (found : Option T) (P Q : T → Type 0) → ((a : T) → P a → Q a) → IfSome found P
    → IfSome found Q
if_some None P Q to h = h
if_some (Some a) P Q to h = to a h
