-- Walks along the ways, and the targets that they find.
-- Serves: lower, Flat::target.
use Rattle.std.proofs.Common.{◌≡◌, ℕ, zero, suc, ◌+◌, ◌<◌, List, [], ◌∷◌, ◌++◌, length, take, get_or, set, Contains}
use Rattle.std.proofs.Common.{Option, Some, None, refl, sym, ◌∙◌, ap, subst, arith, ⊎_elim, inl, inr, ◌⊎◌, add-one}
use Rattle.std.specs.Prelude.{slice_get}
use Rattle.std.proofs.lemmas.Bool.{cases_eq}
use Rattle.std.proofs.lemmas.List.{length-set}
use Rattle.std.proofs.lemmas.List.Elements.{Contains-push, Contains-push_cases, Contains-append_left, Contains-get_or}
use Rattle.std.proofs.lemmas.Option.{slice_get_within, slice_get-get_or}
use Rattle.std.proofs.Math.Seq.{take-suc}
use Rattle.flatgrammar.specs.declared.targets.Way.{Way}
use Rattle.flatgrammar.specs.declared.targets.Way.TheVariants.{On, Found}
use Rattle.flatgrammar.specs.Ways.{IsFound, IsOnWithin, set_all, LeadsTo, arrived, leads_on, AreWays, IsWalk, Settles}

-- one way is not another
pub ways_differ : {t : ℕ} {r : Option ℕ} → Some (On t) ≡ Some (Found r) → ⊥
ways_differ h = absurd (cc h)

pub found_same : {r q : Option ℕ} → Some (Found r) ≡ Some (Found q) → r ≡ q
found_same h = cc h

some_same : {a b : ℕ} → Some a ≡ Some b → a ≡ b
some_same h = cc h

cons_cases : (x m : ℕ) (xs : List ℕ) → Contains (x ∷ xs) m → (m ≡ x) ⊎ Contains xs m
cons_cases x m xs (zero, lt, e) = inl (sym e)
cons_cases x m xs (suc k, lt, e) = inr (k, omega (arith, lt), e)

none_of : {m : ℕ} → Contains [] m → ⊥
none_of (k, lt, e) = absurd (omega (arith, lt))

-- one way is set
set_here : (ways : List Way) (s : ℕ) (w : Way) → s < length ways → slice_get (set ways s w) s ≡ Some w
set_here [] s w lt = absurd (omega arith)
set_here (x ∷ ways) zero w lt = refl
set_here (x ∷ ways) (suc s) w lt = set_here ways s w (omega (arith, lt))

set_other : (ways : List Way) (s p : ℕ) (w : Way) → (p ≡ s → ⊥) → slice_get (set ways s w) p ≡ slice_get ways p
set_other [] s p w ne = refl
set_other (x ∷ ways) zero zero w ne = absurd (ne refl)
set_other (x ∷ ways) zero (suc p) w ne = refl
set_other (x ∷ ways) (suc s) zero w ne = refl
set_other (x ∷ ways) (suc s) (suc p) w ne = set_other ways s p w (λ is. ne (ap (λ v. suc v) is))

-- the ways along a path are set
pub length-set_all : (path : List ℕ) (w : Way) (ways : List Way) → length (set_all path w ways) ≡ length ways
length-set_all [] w ways = refl
length-set_all (p ∷ ps) w ways = length-set_all ps w (set ways p w) ∙ length-set ways p w

pub set_all-push : (path : List ℕ) (p : ℕ) (w : Way) (ways : List Way) → set_all (path ++ p ∷ []) w ways
    ≡ set (set_all path w ways) p w
set_all-push [] p w ways = refl
set_all-push (q ∷ path) p w ways = set_all-push path p w (set ways q w)

all_stays : (path : List ℕ) (p : ℕ) (w : Way) (ways : List Way) → slice_get ways p ≡ Some w
    → slice_get (set_all path w ways) p ≡ Some w
all_stays [] p w ways is = is
all_stays (q ∷ path) p w ways is = all_stays path p w (set ways q w) (⊎_elim
    (λ same. subst (λ v. slice_get (set ways q w) v ≡ Some w) (sym same)
    (set_here ways q w (subst (λ v. v < length ways) same (slice_get_within ways p w is))))
    (λ ne. set_other ways q p w ne ∙ is)
    (cases_eq p q))

all_set : (path : List ℕ) (p : ℕ) (w : Way) (ways : List Way) → Contains path p → p < length ways
    → slice_get (set_all path w ways) p ≡ Some w
all_set [] p w ways h lt = absurd (none_of h)
all_set (q ∷ path) p w ways h lt = ⊎_elim
    (λ same. all_stays path p w (set ways q w) (subst (λ v. slice_get (set ways q w) v ≡ Some w) (sym same)
    (set_here ways q w (subst (λ v. v < length ways) same lt))))
    (λ later. all_set path p w (set ways q w) later (subst (λ k. p < k) (sym (length-set ways q w)) lt))
    (cons_cases q p path h)

all_cases : (path : List ℕ) (p : ℕ) (w : Way) (ways : List Way) → Contains path p
    ⊎ (slice_get (set_all path w ways) p ≡ slice_get ways p)
all_cases [] p w ways = inr refl
all_cases (q ∷ path) p w ways = ⊎_elim
    (λ same. inl (0, omega arith, sym same))
    (λ ne. ⊎_elim (λ later. inl (suc later.0, omega (arith, later.1), later.2))
    (λ is. inr (is ∙ set_other ways q p w ne)) (all_cases path p w (set ways q w)))
    (cases_eq p q)

-- how many ways lead on
abbrev pub ahead : List Way → ℕ
ahead [] = 0
ahead (On t ∷ ways) = suc (ahead ways)
ahead (Found r ∷ ways) = ahead ways

pub ahead_falls : (ways : List Way) (s t : ℕ) (r : Option ℕ) → slice_get ways s ≡ Some (On t)
    → ahead (set ways s (Found r)) < ahead ways
ahead_falls [] s t r is = absurd (cc is)
ahead_falls (On u ∷ ways) zero t r is = omega arith
ahead_falls (Found q ∷ ways) zero t r is = absurd (ways_differ (sym is))
ahead_falls (On u ∷ ways) (suc s) t r is = let rest = ahead_falls ways s t r is in omega (arith, rest)
ahead_falls (Found q ∷ ways) (suc s) t r is = ahead_falls ways s t r is

-- walks
module _ (old : List Way) (start : ℕ) where
  pub walk_none : start < length old → (path : List ℕ) → path ≡ [] → IsWalk old start start path old
  walk_none lt path is = rw is (record {
    count = refl;
    within = lt;
    from = inr refl;
    led = λ p h. absurd (none_of h);
    marked = λ p h. absurd (none_of h);
    others = λ p. inr refl;
    leads = λ p u h l. absurd (none_of h);
  })

  module _ (s t : ℕ) (path : List ℕ) (ways : List Way) (w : IsWalk old start s path ways)
      (is : slice_get ways s ≡ Some (On t)) where
    way_was : slice_get old s ≡ Some (On t)
    way_was = ⊎_elim (λ h. absurd (ways_differ (sym is ∙ w.marked s h))) (λ same. sym same ∙ is) (w.others s)

    pub walk_on : IsOnWithin old → IsWalk old start t (path ++ s ∷ []) (set ways s (Found None))
    walk_on within = record {
      count = length-set ways s (Found None) ∙ w.count;
      within = (let lt = within s t way_was in let a = w.count in let b = length-set ways s (Found None) in
          omega (arith, lt, a, b));
      from = ⊎_elim (λ h. inl (Contains-append_left path (s ∷ []) start h))
          (λ same. inl (subst (λ v. Contains (path ++ s ∷ []) v) (sym same) (Contains-push path s))) w.from;
      led = λ p h. ⊎_elim
          (λ old_one.
          let g = w.led p old_one in (
            g.0,
            g.1,
            ⊎_elim (λ h. inl (Contains-append_left path (s ∷ []) g.0 h)) (λ same. inl
                (subst (λ v. Contains (path ++ s ∷ []) v) (sym same) (Contains-push path s))) g.2,
          ))
          (λ same. (t, subst (λ v. slice_get old v ≡ Some (On t)) same way_was, inr refl))
          (Contains-push_cases path s p h);
      marked = λ p h. ⊎_elim
          (λ same. subst (λ v. slice_get (set ways s (Found None)) v ≡ Some (Found None)) (sym same)
          (set_here ways s (Found None) w.within))
          (λ ne. ⊎_elim (λ old_one. set_other ways s p (Found None) ne ∙ w.marked p old_one)
          (λ same. absurd (ne (sym same))) (Contains-push_cases path s p h))
          (cases_eq p s);
      others = λ p. ⊎_elim
          (λ same. inl (subst (λ v. Contains (path ++ s ∷ []) v) (sym same) (Contains-push path s)))
          (λ ne. ⊎_elim (λ h. inl (Contains-append_left path (s ∷ []) p h))
          (λ same. inr (set_other ways s p (Found None) ne ∙ same)) (w.others p))
          (cases_eq p s);
      leads = λ p u h l. ⊎_elim
          (λ old_one. w.leads p u old_one (leads_on way_was l))
          (λ same. subst (λ v. LeadsTo old v u) same (leads_on way_was l))
          (Contains-push_cases path s p h);
    }

  -- the target at the end of a walk is that of each node on its path
  module _ (s : ℕ) (path : List ℕ) (ways : List Way) (w : IsWalk old start s path ways) (r : Option ℕ)
      (is : slice_get ways s ≡ Some (Found r)) where
    abbrev pub new : List Way
    new = set_all path (Found r) ways

    on_path : (p : ℕ) → Contains path p → slice_get new p ≡ Some (Found r)
    on_path p h = all_set path p (Found r) ways h (slice_get_within ways p (Found None) (w.marked p h))

    off_path : (p : ℕ) → Contains path p ⊎ (slice_get new p ≡ slice_get old p)
    off_path p = ⊎_elim (λ h. inl h) (λ same. ⊎_elim (λ h. inl h) (λ before. inr (same ∙ before)) (w.others p))
        (all_cases path p (Found r) ways)

    at_end : slice_get new s ≡ Some (Found r)
    at_end = all_stays path s (Found r) ways is

    end_sound : (u : ℕ) → r ≡ Some u → LeadsTo old s u
    end_sound u known = ⊎_elim
        (λ h. let none = found_same (sym is ∙ w.marked s h) in absurd (cc (none, known)))
        (λ same. arrived (sym same ∙ (is ∙ ap (λ v. Some (Found v)) known)))
        (w.others s)

    pub walk_settles : Settles old start new
    walk_settles = record {
      ways = record {
        count = length-set_all path (Found r) ways ∙ w.count;
        kept = λ p q h. ⊎_elim (λ on. let g = w.led p on in absurd (ways_differ (sym g.1 ∙ h))) (λ same. same ∙ h)
            (off_path p);
        ahead = λ p t h. ⊎_elim (λ on. absurd (ways_differ (sym h ∙ on_path p on))) (λ same. sym same ∙ h) (off_path p);
        found = λ p q h. ⊎_elim
            (λ on.
            let g = w.led p on in
            let same : r ≡ q = found_same (sym (on_path p on) ∙ h) in
            inr (
              g.0,
              g.1,
              subst (λ v. slice_get new g.0 ≡ Some (Found v)) same (⊎_elim (λ h. on_path g.0 h)
                  (λ e. subst (λ v. slice_get new v ≡ Some (Found r)) (sym e) at_end) g.2),
            ))
            (λ same. inl (sym same ∙ h))
            (off_path p);
        sound = λ p u h. ⊎_elim
            (λ on. w.leads p u on (end_sound u (found_same (sym (on_path p on) ∙ h))))
            (λ same. arrived (sym same ∙ h))
            (off_path p);
      };
      found = (
        r,
        ⊎_elim (λ on. on_path start on) (λ e. subst (λ v. slice_get new v ≡ Some (Found r)) (sym e)
            at_end) w.from,
      );
    }

-- tables of ways, one after another
pub ways_same : (a : List Way) → AreWays a a
ways_same a = record {
  count = refl;
  kept = λ s r h. h;
  ahead = λ s t h. h;
  found = λ s r h. inl h;
  sound = λ s u h. arrived h;
}

leads_before : {a b : List Way} {s u : ℕ} → AreWays a b → LeadsTo b s u → LeadsTo a s u
leads_before w (arrived {s = s} {u = u} is) = w.sound s u is
leads_before w (leads_on {s = s} {t = t} is l) = leads_on (w.ahead s t is) (leads_before w l)

pub ways_on : (a b c : List Way) → AreWays a b → AreWays b c → AreWays a c
ways_on a b c w v = record {
  count = v.count ∙ w.count;
  kept = λ s r h. v.kept s r (w.kept s r h);
  ahead = λ s t h. w.ahead s t (v.ahead s t h);
  found = λ s r h. ⊎_elim
      (λ before. ⊎_elim (λ first. inl first) (λ on. inr (on.0, on.1, v.kept on.0 r on.2)) (w.found s r before))
      (λ on. inr (on.0, w.ahead s on.0 on.1, on.2))
      (v.found s r h);
  sound = λ s u h. leads_before w (v.sound s u h);
}

-- the loop that sets the ways along a path
pub path_within : (path : List ℕ) (i : ℕ) (w : Way) (first ways : List Way)
    → ((p : ℕ) → Contains path p → p < length first) → i < length path →
    ways ≡ set_all (take i path) w first → get_or path i 0 < length ways
path_within path i w first ways within lt is =
    let one = within (get_or path i 0) (Contains-get_or path i 0 lt) in
    let same : length ways ≡ length first = ap length is ∙ length-set_all (take i path) w first in
    omega (arith, one, same)

pub set_next : (path : List ℕ) (i : ℕ) (w : Way) (first ways : List Way) → i < length path
    → ways ≡ set_all (take i path) w first →
    set ways (get_or path i 0) w ≡ set_all (take (i + 1) path) w first
set_next path i w first ways lt is =
    ap (λ v. set v (get_or path i 0) w) is ∙ sym (set_all-push (take i path) (get_or path i 0) w first) ∙
    sym (ap (λ k. set_all (take k path) w first) (add-one i) ∙ ap (λ v. set_all v w first) (take-suc path i 0 lt))

-- the loop that settles one after another
pub path_there : {old : List Way} {start s : ℕ} {path : List ℕ} {ways : List Way} → IsWalk old start s path ways
    → (p : ℕ) → Contains path p → p < length ways
path_there {ways = ways} w p h = slice_get_within ways p (Found None) (w.marked p h)

pub is_settled : {old : List Way} {start s : ℕ} {path : List ℕ} {ways new : List Way} (d : Way) {way : Way}
    → IsWalk old start s path ways → IsFound ways s → way ≡ get_or ways s d →
    new ≡ set_all path way ways → Settles old start new
is_settled {old} {start} {s} {path} {ways} d {way} w found is sets =
    let at = slice_get-get_or ways s d w.within in
    let same : way ≡ Found found.0 = cc (is, at, found.1) in
    rw (sets, same) (walk_settles old start s path ways w found.0 found.1)

pub settled_more : (old mid new : List Way) (i : ℕ) → AreWays old mid → ((s : ℕ) → s < i → IsFound mid s)
    → Settles mid i new → (s : ℕ) → s < i + 1 → IsFound new s
settled_more old mid new i w all g s lt = ⊎_elim
    (λ same. subst (λ v. IsFound new v) (sym same) g.found)
    (λ ne. let h = all s (omega (arith, lt, ne)) in (h.0, g.ways.kept s h.0 h.1))
    (cases_eq s i)

pub on_within : (old new : List Way) → IsOnWithin old → AreWays old new → IsOnWithin new
on_within old new within w s t h = let lt = within s t (w.ahead s t h) in let l = w.count in omega (arith, lt, l)

pub way_at : (ways : List Way) (s : ℕ) (d w : Way) → s < length ways → get_or ways s d ≡ w → slice_get ways s ≡ Some w
way_at ways s d w lt is = slice_get-get_or ways s d lt ∙ ap (λ v. Some v) is
