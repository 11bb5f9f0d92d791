-- What can follow the letters of a line, by the items of its last set.
-- Serves: find_following
use Rattle.std.proofs.Common.{◌≡◌, ◌↔◌, ℕ, zero, suc, ◌+◌, ◌<◌, ◌≤◌, Bool, true, List, [], ◌∷◌, ◌++◌}
use Rattle.std.proofs.Common.{Option, Some, None, length, take, slice_get, refl, sym, ◌∙◌, ap, subst, arith}
use Rattle.std.proofs.Common.{append-nil, length-append, map}
use Rattle.std.proofs.Common.{IsTrue}
use Rattle.std.proofs.lemmas.List.{length-take-le, take-map, take_all}
use Rattle.std.proofs.Math.Seq.{take-length}
use Rattle.abnfread.specs.Element.{Rule}
use Rattle.abnfcheck.specs.Prefixes.{BeginsMember, IsFurthest}
use Rattle.abnfcheck.specs.Derivable.{AreLetters, RuleDerives}
use Rattle.flatgrammar.proofs.CallOfLemmas.{some_same}
use Rattle.flatgrammar.proofs.PositionsLemmas.{holds_origin}
use Rattle.flatgrammar.specs.CalledParts.{AreAwaited}
use Rattle.flatgrammar.specs.Flat.{Flat, Dot, at, Set, Has, Node, Reads, reads, letter, Letters, Concat, Alt, Rep}
use Rattle.flatgrammar.specs.Flat.{Iterations, Opt, Name, Nothing}
use Rattle.flatgrammar.specs.FlatVerdicts.{IsLastSet}
use Rattle.flatgrammar.specs.Holds.{Holds, begins, called, has_read, returned}
use Rattle.flatgrammar.specs.NodeSteps.{IfSomeSet}
use Rattle.lowering.specs.GivenPrefixes.{GivesPrefixes}
use Rattle.flatgrammar.specs.ItemClosures.{dot}
use Rattle.flatgrammar.specs.declared.closure.DottedRule.{DottedRule}
use Rattle.earleyitems.specs.ChartSets.{AreDotsOf, IsSet}
use Rattle.lazydfa.specs.ExpectedSets.{AreReadersAt}
use Rattle.refusedlines.specs.LetterRuns.{AreApartFrom, RunsHave}
use Rattle.refusedlines.specs.declared.letterruns.run.LetterRun.{LetterRun}
use Rattle.refusedlines.specs.Following.{AreFollowing}
use Rattle.refusedlines.specs.ReadLetters.{DotReads, DotsRead, read_by}

-- what is derived is its own longest viable prefix
pub derived_is_furthest : (has : ℕ → Bool) (rules : List Rule) (id : ℕ) (x : List ℕ) → RuleDerives has rules id x
    → IsFurthest has rules id x (length x)
derived_is_furthest has rules id x p = record {
  within = omega arith;
  begins = λ some. record {
    rest = [];
    letters = tt;
    derives = subst (λ (v : List ℕ). RuleDerives has rules id v)
        (sym (append-nil (take (length x) x) ∙ take_all (length x) x (omega arith))) p;
  };
  last = λ m past le b. absurd (omega (arith, past, le));
}

-- lines that agree in the first n letters
abbrev Agree : List ℕ → List ℕ → ℕ → Type 0
Agree x y n = (k : ℕ) → k < n → slice_get x k ≡ slice_get y k

module _ (flat : Flat) where
  -- their first sets hold the same
  same_held : (x y : List ℕ) (n : ℕ) → Agree x y n → {j i : ℕ} {p : Dot} → Holds flat x j p i → j ≤ n
      → Holds flat y j p i
  same_held x y n same (begins st) le = begins st
  same_held x y n same (called h c st) le = called (same_held x y n same h le) c st
  same_held x y n same (has_read {j = j} h r get has) le =
      has_read (same_held x y n same h (omega (arith, le))) r (sym (same j (omega (arith, le))) ∙ get) has
  same_held x y n same (returned h e g c takes) le =
      let origin = holds_origin flat h in
      returned (same_held x y n same h le) e (same_held x y n same g (omega (arith, le, origin))) c takes

  -- an item of set n reads the letter
  record ReadsOn (x : List ℕ) (n c : ℕ) : Type 0 where
    position : Dot
    next : Dot
    origin : ℕ
    set : Set
    held : Holds flat x n position origin
    reads : Reads flat position set next
    has : Has set c

  -- so it is where the set after it has an item
  item_reads : (x : List ℕ) (n c : ℕ) → slice_get x n ≡ Some c → {j i : ℕ} {p : Dot} → Holds flat x j p i → j ≡ n + 1
      → ReadsOn x n c
  item_reads x n c is (begins st) e = absurd (omega (arith, e))
  item_reads x n c is (called h d st) e = item_reads x n c is h e
  item_reads x n c is (has_read {i = i} {j = j} {c = d} {q = q} {r = r} {set = set} h rd get has) e =
      let same : j ≡ n = omega (arith, e) in
      let one : d ≡ c = some_same (sym get ∙ ap (λ v. slice_get x v) same ∙ is) in
      record {
        position = q;
        next = r;
        origin = i;
        set = set;
        held = subst (λ v. Holds flat x v q i) same h;
        reads = rd;
        has = subst (λ v. Has set v) one has;
      }
  item_reads x n c is (returned h d g k takes) e = item_reads x n c is h e

  -- positions and dotted rules
  position_reads : {q r : Dot} {set : Set} (c : ℕ) → Reads flat q set r → Has set c
      → (s : ℕ) × (k : ℕ) × (q ≡ at s k) × DotReads flat (dot s k) c
  position_reads c (reads {s = s} {k = k} {set = set} node (letter {sets = sets} at_k)) has =
      (s, k, refl, rw (node, at_k) has)

  letters_reads : (s : DottedRule) (c : ℕ) (sets : List Set) → slice_get flat.nodes s.node ≡ Some (Letters sets)
      → (o : Option Set) → slice_get sets s.step ≡ o → IfSomeSet o c
      → (set : Set) × (r : Dot) × Reads flat (at s.node s.step) set r × Has set c
  letters_reads s c sets node None is h = elim h [ ]
  letters_reads s c sets node (Some set) is h = (set, at s.node (s.step + 1), reads node (letter is), h)

  dot_reads : (s : DottedRule) (c : ℕ) (o : Option Node) → slice_get flat.nodes s.node ≡ o
      → IfSomeSet (read_by o s.step) c
      → (set : Set) × (r : Dot) × Reads flat (at s.node s.step) set r × Has set c
  dot_reads s c None is h = elim h [ ]
  dot_reads s c (Some (Letters sets)) is h = letters_reads s c sets is (slice_get sets s.step) refl h
  dot_reads s c (Some (Concat ms)) is h = elim h [ ]
  dot_reads s c (Some (Alt ms)) is h = elim h [ ]
  dot_reads s c (Some (Rep a b m)) is h = elim h [ ]
  dot_reads s c (Some (Iterations b m)) is h = elim h [ ]
  dot_reads s c (Some (Opt m)) is h = elim h [ ]
  dot_reads s c (Some (Name r)) is h = elim h [ ]
  dot_reads s c (Some Nothing) is h = elim h [ ]

-- the letters of a line, and one more
get_front : (z : List ℕ) (c : ℕ) (k : ℕ) → k < length z → slice_get (z ++ c ∷ []) k ≡ slice_get z k
get_front [] c k lt = absurd (omega arith)
get_front (a ∷ z) c zero lt = refl
get_front (a ∷ z) c (suc k) lt = get_front z c k (omega (arith, lt))

get_last : (z : List ℕ) (c : ℕ) → slice_get (z ++ c ∷ []) (length z) ≡ Some c
get_last [] c = refl
get_last (a ∷ z) c = get_last z c

pub letters_push : (has : ℕ → Bool) (z : List ℕ) (c : ℕ) → AreLetters has z → has c ≡ true
    → AreLetters has (z ++ c ∷ [])
letters_push has [] c all is = (is, tt)
letters_push has (a ∷ z) c all is = (all.0, letters_push has z c all.1 is)

module _ (has : ℕ → Bool) (rules : List Rule) (id : ℕ) (flat : Flat) (prefixes : GivesPrefixes has rules id flat)
    (z : List ℕ) (short : length z + 1 ≤ flat.limit) (letters : AreLetters has z) where
  module _ (dots : List DottedRule) (are : AreReadersAt flat z (length z) dots) where
    read_follows : (c : ℕ) → has c ≡ true → DotsRead flat dots c
        → BeginsMember has rules id (z ++ c ∷ []) (length z + 1)
    read_follows c is r =
        let there = are.held r.dot r.stands in
        let on = same_held flat z (z ++ c ∷ []) (length z) (λ k lt. sym (get_front z c k lt)) there.1 (omega arith) in
        let found = dot_reads flat r.dot c (slice_get flat.nodes r.dot.node) refl r.reads in
        let size = length-append z (c ∷ []) in
        (prefixes.viable (z ++ c ∷ []) (length z + 1) (omega (arith, size, short)) (letters_push has z c letters is)
        (omega arith) (omega (arith, size))).0
        (record {
          position = found.1;
          origin = there.0;
          held = has_read on found.2 (get_last z c) found.3;
        })

    follows_read : (c : ℕ) → has c ≡ true → BeginsMember has rules id (z ++ c ∷ []) (length z + 1)
        → DotsRead flat dots c
    follows_read c is b =
        let size = length-append z (c ∷ []) in
        let item = (prefixes.viable (z ++ c ∷ []) (length z + 1) (omega (arith, size, short))
        (letters_push has z c letters is) (omega arith) (omega (arith, size))).1 b in
        let r = item_reads flat (z ++ c ∷ []) (length z) c (get_last z c) item.held refl in
        let back = same_held flat (z ++ c ∷ []) z (length z) (get_front z c) r.held (omega arith) in
        let s = position_reads flat c r.reads r.has in
        record {
          dot = dot s.0 s.1;
          stands = are.all (dot s.0 s.1) r.origin r.set r.next
              (subst (λ v. Holds flat z (length z) v r.origin) s.2 back)
              (subst (λ v. Reads flat v r.set r.next) s.2 r.reads);
          reads = s.3;
        }

    pub are_following : (runs : List LetterRun) (ends : Bool) → AreApartFrom 0 runs
        → ((c : ℕ) → RunsHave runs c ↔ ((has c ≡ true) × DotsRead flat dots c))
        → (IsTrue ends ↔ Holds flat z (length z) (at flat.start 1) 0)
        → AreFollowing has rules id z (length z) runs ends
    are_following runs ends apart report end =
        let all = take-length z in
        let reported = prefixes.lines z (omega (arith, short)) letters in
        record {
          apart = apart;
          letters = λ c. (
            λ h. let r = (report c).0 h in record {
              letter = r.0;
              begins = subst (λ v. BeginsMember has rules id (v ++ c ∷ []) (length z + 1)) (sym all)
                  (read_follows c r.0 r.1);
            },
            λ h. (report c).1 (
              h.letter,
              follows_read c h.letter
                  (subst (λ v. BeginsMember has rules id (v ++ c ∷ []) (length z + 1)) all h.begins),
            ),
          );
          end = (
            λ h. subst (λ v. RuleDerives has rules id v) (sym all) (reported.0 (end.0 h)),
            λ h. end.1 (reported.1 (subst (λ v. RuleDerives has rules id v) all h)),
          );
        }

-- the dotted rules of a whole item set
pub readers_of_set : (flat : Flat) (z : List ℕ) (n : ℕ) (set : List (Dot × ℕ)) → IsSet flat z n set
    → (dots : List DottedRule) → AreDotsOf set dots → AreReadersAt flat z n dots
readers_of_set flat z n set is_set dots are = record {
  held = λ s stands.
      let there = (are s).0 stands in
      (there.origin, is_set.held (at s.node s.step) there.origin there.stands);
  all = λ s i symbols r held rd.
      (are s).1 (record { origin = i; stands = is_set.all (at s.node s.step) i held });
}

-- item set n of a line is that of its first n letters
agree_front : (x : List ℕ) (n : ℕ) → Agree x (take n x) n
agree_front [] zero k lt = refl
agree_front [] (suc n) k lt = refl
agree_front (a ∷ x) zero k lt = absurd (omega (arith, lt))
agree_front (a ∷ x) (suc n) zero lt = refl
agree_front (a ∷ x) (suc n) (suc k) lt = agree_front x n k (omega (arith, lt))

readers_of_front : (flat : Flat) (x : List ℕ) (n : ℕ) → n ≤ length x → (dots : List DottedRule)
    → AreReadersAt flat x n dots → AreReadersAt flat (take n x) n dots
readers_of_front flat x n within dots are = record {
  held = λ s stands. let h = are.held s stands in
      (h.0, same_held flat x (take n x) n (agree_front x n) h.1 (omega arith));
  all = λ s i symbols r held rd.
      are.all s i symbols r (same_held flat (take n x) x n (λ k lt. sym (agree_front x n k lt)) held (omega arith)) rd;
}

-- what can follow the first n letters of a line, by these letters alone
pub take_following : (has : ℕ → Bool) (rules : List Rule) (id : ℕ) (x z : List ℕ) (n m : ℕ) (runs : List LetterRun)
    (ends : Bool) → z ≡ take n x → n ≤ length x → m ≡ length z → AreFollowing has rules id z m runs ends
    → AreFollowing has rules id x n runs ends
take_following has rules id x z n m runs ends is within size a =
    let same : m ≡ n = size ∙ ap length is ∙ length-take-le n x within in
    let front : take m z ≡ take n x = ap (λ v. take v z) size ∙ take-length z ∙ is in
    record {
      apart = a.apart;
      letters = λ c. (
        λ h. let f = (a.letters c).0 h in record {
          letter = f.letter;
          begins = subst (λ v. BeginsMember has rules id (take n x ++ c ∷ []) (v + 1)) same
              (subst (λ v. BeginsMember has rules id (v ++ c ∷ []) (m + 1)) front f.begins);
        },
        λ h. (a.letters c).1 (record {
          letter = h.letter;
          begins = subst (λ v. BeginsMember has rules id (take m z ++ c ∷ []) (v + 1)) (sym same)
              (subst (λ v. BeginsMember has rules id (v ++ c ∷ []) (n + 1)) (sym front) h.begins);
        }),
      );
      end = (
        λ h. subst (λ v. RuleDerives has rules id v) front (a.end.0 h),
        λ h. a.end.1 (subst (λ v. RuleDerives has rules id v) (sym front) h),
      );
    }

-- .. and where the last item set is known
pub last_is_furthest : (has : ℕ → Bool) (rules : List Rule) (id : ℕ) (flat : Flat) → GivesPrefixes has rules id flat
    → (x : List ℕ) (n : ℕ) → length x ≤ flat.limit → AreLetters has x → IsLastSet flat x n
    → IsFurthest has rules id x n
last_is_furthest has rules id flat prefixes x n short letters last = record {
  within = last.within;
  begins = λ some. (prefixes.viable x n short letters some last.within).0 (last.item some);
  last = λ m past most begins.
      last.last m past most ((prefixes.viable x m short letters (omega (arith, past)) most).1 begins);
}

pub letters_front : (has : ℕ → Bool) (n : ℕ) (x : List ℕ) → AreLetters has x → AreLetters has (take n x)
letters_front has zero x all = tt
letters_front has (suc n) [] all = tt
letters_front has (suc n) (a ∷ x) all = (all.0, letters_front has n x all.1)

-- what can follow, by the last item set of a line
pub following_of_set : (has : ℕ → Bool) (rules : List Rule) (id : ℕ) (flat : Flat) → GivesPrefixes has rules id flat
    → (x : List ℕ) (n : ℕ) → length x + 1 ≤ flat.limit → AreLetters has x → n ≤ length x → (dots : List DottedRule)
    → AreReadersAt flat x n dots → (runs : List LetterRun) (ends : Bool) → AreApartFrom 0 runs
    → ((c : ℕ) → RunsHave runs c ↔ ((has c ≡ true) × DotsRead flat dots c))
    → (IsTrue ends ↔ Holds flat x n (at flat.start 1) 0) → AreFollowing has rules id x n runs ends
following_of_set has rules id flat prefixes x n short letters within dots are runs ends apart report end =
    let size = length-take-le n x within in
    take_following has rules id x (take n x) n (length (take n x)) runs ends refl within refl
    (are_following has rules id flat prefixes (take n x) (omega (arith, size, within, short))
    (letters_front has n x letters) dots
    (subst (λ v. AreReadersAt flat (take n x) v dots) (sym size) (readers_of_front flat x n within dots are))
    runs ends apart report
    (subst (λ v. IsTrue ends ↔ Holds flat (take n x) v (at flat.start 1) 0) (sym size) (
      λ yes. same_held flat x (take n x) n (agree_front x n) (end.0 yes) (omega arith),
      λ held. end.1 (same_held flat (take n x) x n (λ k lt. sym (agree_front x n k lt)) held (omega arith)),
    )))

-- what is awaited after a prefix
pub awaited_after : {A : Type 0} (number : A → ℕ) (line : List A) (n : ℕ) (flat : Flat) (dots : List DottedRule)
    → n ≤ length line → AreAwaited flat (map number (take n line)) (length (take n line)) dots
    → AreAwaited flat (take n (map number line)) n dots
awaited_after number line n flat dots within are =
    subst (λ (v : List ℕ). AreAwaited flat v n dots) (sym (take-map number n line))
    (subst (λ (v : ℕ). AreAwaited flat (map number (take n line)) v dots) (length-take-le n line within) are)
