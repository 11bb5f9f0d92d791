-- A rule derives a list that is not empty exactly if it is in the least set of the needs of sources.
-- Serves: more_marks.
use Rattle.std.proofs.Common.{◌≡◌, ◌↔◌, ℕ, zero, suc, ◌+◌, ◌<◌, ◌≤◌, ◌⊎◌, inl, inr, ⊎_elim, Bool, true, false, List, []}
use Rattle.std.proofs.Common.{◌∷◌, ◌++◌, length, length-append, map, take, Option, Some, None, refl, sym, ◌∙◌, ap}
use Rattle.std.proofs.Common.{subst}
use Rattle.std.proofs.Common.{add-one, arith, cond, lt-ltb, ltb-true}
use Rattle.std.specs.Prelude.{slice_get, Contains, ◌==◌}
use Rattle.std.proofs.lemmas.Bool.{eqb-true}
use Rattle.std.proofs.lemmas.List.{get_or-take, length-map}
use Rattle.std.proofs.lemmas.List.Elements.{Contains-append_cases, Contains-append_left, Contains-append_right}
use Rattle.fixpoint.specs.Demands.{Demand, All, One, row_of, AreNeedsWithin}
use Rattle.fixpoint.specs.Least.{Comes, by_all, by_one, AreMarksOfThose}
use Rattle.fixpoint.proofs.ContainsLemmas.{in_first, none_of, only_one}
use Rattle.abnfread.specs.Element as e
use Rattle.abnfread.specs.Element.{Element, Elements, Rule, bodies, id_of}
use Rattle.abnfcheck.specs.Derivable as der
use Rattle.abnfcheck.specs.Derivable.{AreLetters, AtMost, Derives, DerivesAll, DerivesSome, DerivesTimes, Spelled}
use Rattle.abnfcheck.specs.Derivable.{all_done, then, this, later, no_more, one_more}
use Rattle.abnfcheck.proofs.AbnfNotesLemmas.{id_most}
use Rattle.abnfcheck.proofs.AimLemmas.{spelled_itself}
use Rattle.abnfcheck.proofs.RuleIdLemmas.{body_at_id}
use Rattle.abnfcheck.proofs.YieldsLemmas.{letters_both}
use Rattle.flatgrammar.proofs.SliceGetLemmas.{get_below}
use Rattle.lowering.specs.MoreMarks.{AreMoreMarks, DerivesMore, all_sources, may_iterate, source_demands, sources}
use Rattle.lowering.specs.Pruned.{ArePruned, IsLeftBody, left_body, no_body, IsProductive, AreAllProductive, Keeps}
use Rattle.lowering.specs.Pruned.{keep_text, keep_values, keep_range, keep_concat, keep_alt, keep_rep, empty_rep}
use Rattle.lowering.specs.Pruned.{keep_opt, empty_opt, keep_name, KeepsAll, keep_none, keep_more, KeepsSome}
use Rattle.lowering.specs.Pruned.{some_none, kept, dropped}
use Rattle.lowering.proofs.ArePrunedLemmas.{body_was, still_productive}
use Rattle.lowering.proofs.KeepsLemmas.{times_derived}

-- rows by a fact
in_if : (c : Bool) (xs : List ℕ) (m : ℕ) → Contains (cond c xs []) m → (c ≡ true) × Contains xs m
in_if true xs m h = (refl, h)
in_if false xs m h = absurd (none_of m h)

in_unless : (c : Bool) (n m : ℕ) → Contains (cond c [] (n ∷ [])) m → n ≡ m
in_unless true n m h = absurd (none_of m h)
in_unless false n m h = only_one n m h

some_unless : (xs : List ℕ) (n : ℕ) → 0 < length xs → cond (length xs == 0) [] (n ∷ []) ≡ n ∷ []
some_unless xs n lt = by (length xs == 0) refl
  where
    by : (b : Bool) → (length xs == 0) ≡ b → cond b [] (n ∷ []) ≡ n ∷ []
    by true is = absurd (let none = eqb-true (length xs) 0 is in omega (arith, lt, none))
    by false is = refl

some_of : (w v : List ℕ) → 0 < length (w ++ v) → (0 < length w) ⊎ (0 < length v)
some_of [] v lt = inr lt
some_of (c ∷ w) v lt = inl (omega arith)

longer_left : (w v : List ℕ) → 0 < length w → 0 < length (w ++ v)
longer_left w v lt = let all = length-append w v in omega (arith, all, lt)

longer_right : (w v : List ℕ) → 0 < length v → 0 < length (w ++ v)
longer_right w v lt = let all = length-append w v in omega (arith, all, lt)

one_within : (b : Option ℕ) → may_iterate b ≡ true → AtMost 1 b
one_within None some = tt
one_within (Some most) some = let lt = ltb-true 0 most some in omega (arith, lt)

within_iterates : (k : ℕ) (b : Option ℕ) → 0 < k → AtMost k b → may_iterate b ≡ true
within_iterates k None lt within = refl
within_iterates k (Some most) lt within = lt-ltb 0 most (omega (arith, lt, within))

-- the needs
module _ (f : Element → List ℕ) where
  abbrev all_needs : List Rule → List Demand
  all_needs rules = map (λ rule. One (f rule.body)) rules ++ All [] ∷ []

  need_cases : (rules : List Rule) (n : ℕ) (d : Demand) → slice_get (all_needs rules) n ≡ Some d →
      ((n ≡ length rules) × (d ≡ All []))
      ⊎ ((b : Element) × (slice_get (bodies rules) n ≡ Some b) × (d ≡ One (f b)))
  need_cases [] zero d is = inl (refl, (let same : All [] ≡ d = cc is in sym same))
  need_cases [] (suc n) d is = absurd (cc is)
  need_cases (rule ∷ rules) zero d is =
      inr (rule.body, refl, (let same : One (f rule.body) ≡ d = cc is in sym same))
  need_cases (rule ∷ rules) (suc n) d is = by (need_cases rules n d is)
    where
      by : ((n ≡ length rules) × (d ≡ All []))
          ⊎ ((b : Element) × (slice_get (bodies rules) n ≡ Some b) × (d ≡ One (f b)))
          → ((suc n ≡ length (rule ∷ rules)) × (d ≡ All []))
          ⊎ ((b : Element) × (slice_get (bodies (rule ∷ rules)) (suc n) ≡ Some b) × (d ≡ One (f b)))
      by (inl last) = inl (ap suc last.0, last.1)
      by (inr one) = inr one

  last_need : (rules : List Rule) → slice_get (all_needs rules) (length rules) ≡ Some (All [])
  last_need [] = refl
  last_need (rule ∷ rules) = last_need rules

  body_need : (rules : List Rule) (n : ℕ) (b : Element) → slice_get (bodies rules) n ≡ Some b
      → slice_get (all_needs rules) n ≡ Some (One (f b))
  body_need [] n b is = absurd (cc is)
  body_need (rule ∷ rules) zero b is = let same : rule.body ≡ b = cc is in ap (λ v. Some (One (f v))) same
  body_need (rule ∷ rules) (suc n) b is = body_need rules n b is

  needs_suc : (rules : List Rule) (i : ℕ) (b : Element) → slice_get (bodies rules) i ≡ Some b →
      map (λ rule. One (f rule.body)) (take (suc i) rules)
      ≡ map (λ rule. One (f rule.body)) (take i rules) ++ One (f b) ∷ []
  needs_suc [] i b is = absurd (cc is)
  needs_suc (rule ∷ rules) zero b is = let same : rule.body ≡ b = cc is in ap (λ v. One (f v) ∷ []) same
  needs_suc (rule ∷ rules) (suc i) b is = ap (λ l. One (f rule.body) ∷ l) (needs_suc rules i b is)

  -- those of one more rule
  pub needs_next : (rules : List Rule) (i : ℕ) (b : Element) → slice_get (bodies rules) i ≡ Some b →
      map (λ rule. One (f rule.body)) (take (i + 1) rules)
      ≡ map (λ rule. One (f rule.body)) (take i rules) ++ One (f b) ∷ []
  needs_next rules i b is =
      ap (λ (k : ℕ). map (λ rule. One (f rule.body)) (take k rules)) (add-one i) ∙ needs_suc rules i b is

  many_needs : (rules : List Rule) → length (all_needs rules) ≡ length rules + 1
  many_needs rules =
      length-append (map (λ rule. One (f rule.body)) rules) (All [] ∷ [])
      ∙ ap (λ v. v + 1) (length-map rules (λ rule. One (f rule.body)))

module _ (left : List Rule) where
  -- sources are ids of rules, or the number of rules
  mutual
    sources_within : (el : Element) (m : ℕ) → Contains (sources left el) m → m ≤ length left
    sources_within (e.Text folds t) m h = let same = in_unless (length t == 0) (length left) m h in omega (arith, same)
    sources_within (e.Values vs) m h = let same = in_unless (length vs == 0) (length left) m h in omega (arith, same)
    sources_within (e.Range low high) m h = let same = only_one (length left) m h in omega (arith, same)
    sources_within (e.Concat es) m h = all_within es m h
    sources_within (e.Alt es) m h = all_within es m h
    sources_within (e.Rep a b el) m h = sources_within el m (in_if (may_iterate b) (sources left el) m h).1
    sources_within (e.Opt el) m h = sources_within el m h
    sources_within (e.Name n) m h =
        let same = only_one (id_of left n) m h in let most = id_most left n in omega (arith, same, most)
    sources_within (e.Prose t) m h = absurd (none_of m h)

    all_within : (es : Elements) (m : ℕ) → Contains (all_sources left es) m → m ≤ length left
    all_within e.none m h = absurd (none_of m h)
    all_within (e.more el es) m h =
        ⊎_elim (λ one. sources_within el m one) (λ rest. all_within es m rest)
        (Contains-append_cases (sources left el) (all_sources left es) m h)

  pub needs_within : AreNeedsWithin (source_demands left)
  needs_within = record { within = λ n m d is h. below m d h (need_cases (sources left) left n d is) }
    where
      below : {n : ℕ} (m : ℕ) (d : Demand) → Contains (row_of d) m → ((n ≡ length left) × (d ≡ All []))
          ⊎ ((b : Element) × (slice_get (bodies left) n ≡ Some b) × (d ≡ One (sources left b)))
          → m < length (source_demands left)
      below m d h (inl last) = absurd (none_of m (subst (λ v. Contains (row_of v) m) last.1 h))
      below m d h (inr one) =
          let le = sources_within one.0 m (subst (λ v. Contains (row_of v) m) one.2 h) in
          let many = many_needs (sources left) left in
          omega (arith, le, many)

  pub demands_count : length (source_demands left) ≡ length left + 1
  demands_count = many_needs (sources left) left

  -- what derives a list that is not empty has a source that comes
  abbrev HasSource : List ℕ → Type 0
  HasSource row = (m : ℕ) × Contains row m × Comes (source_demands left) m

  last_comes : Comes (source_demands left) (length left)
  last_comes = by_all (last_need (sources left) left) (λ m h. absurd (none_of m h))

  letter_source : HasSource (length left ∷ [])
  letter_source = (length left, in_first (length left) [], last_comes)

  spelled_some : {folds : Bool} {t w : List ℕ} → Spelled folds t w → 0 < length w → 0 < length t
  spelled_some der.end lt = lt
  spelled_some (der.next s rest) lt = omega arith

  symbols_source : (xs : List ℕ) → 0 < length xs → HasSource (cond (length xs == 0) [] (length left ∷ []))
  symbols_source xs lt = subst HasSource (sym (some_unless xs (length left) lt)) letter_source

  module _ (has : ℕ → Bool) where
    times_some : {el : Element} {k : ℕ} {w : List ℕ} → DerivesTimes has left el k w → 0 < length w → 0 < k
    times_some no_more lt = absurd (omega (arith, lt))
    times_some (one_more d ds) lt = omega arith

    mutual
      derives_source : {el : Element} {w : List ℕ} → Derives has left el w → 0 < length w → HasSource (sources left el)
      derives_source (der.text {t = t} s) lt = symbols_source t (spelled_some s lt)
      derives_source (der.values {vs = vs} letters) lt = symbols_source vs lt
      derives_source (der.range from to letter) lt = letter_source
      derives_source (der.concat ds) lt = all_source ds lt
      derives_source (der.alt ds) lt = some_source ds lt
      derives_source (der.rep {k = k} {b = b} {e = el} low within ds) lt =
          let s = times_source ds lt in (
            s.0,
            subst (λ v. Contains (cond v (sources left el) []) s.0)
                (sym (within_iterates k b (times_some ds lt) within)) s.1,
            s.2,
          )
      derives_source der.opt_empty lt = absurd (omega (arith, lt))
      derives_source (der.opt d) lt = derives_source d lt
      derives_source (der.name {n = n} {e = el} found d) lt =
          let s = derives_source d lt in (
            id_of left n,
            in_first (id_of left n) [],
            by_one (body_need (sources left) left (id_of left n) el (sym (body_at_id left n) ∙ found)) s.1 s.2,
          )

      all_source : {es : Elements} {w : List ℕ} → DerivesAll has left es w → 0 < length w
          → HasSource (all_sources left es)
      all_source all_done lt = absurd (omega (arith, lt))
      all_source (then {e = el} {es = es} {w = w} {v = v} d ds) lt =
          ⊎_elim
          (λ some. let s = derives_source d some in
          (s.0, Contains-append_left (sources left el) (all_sources left es) s.0 s.1, s.2))
          (λ some. let s = all_source ds some in
          (s.0, Contains-append_right (sources left el) (all_sources left es) s.0 s.1, s.2))
          (some_of w v lt)

      some_source : {es : Elements} {w : List ℕ} → DerivesSome has left es w → 0 < length w
          → HasSource (all_sources left es)
      some_source (this {e = el} {es = es} d) lt = let s = derives_source d lt in
          (s.0, Contains-append_left (sources left el) (all_sources left es) s.0 s.1, s.2)
      some_source (later {e = el} {es = es} ds) lt = let s = some_source ds lt in
          (s.0, Contains-append_right (sources left el) (all_sources left es) s.0 s.1, s.2)

      times_source : {el : Element} {k : ℕ} {w : List ℕ} → DerivesTimes has left el k w → 0 < length w
          → HasSource (sources left el)
      times_source no_more lt = absurd (omega (arith, lt))
      times_source (one_more {w = w} {v = v} d ds) lt =
          ⊎_elim (λ some. derives_source d some) (λ some. times_source ds some) (some_of w v lt)

    more_comes : (id : ℕ) → DerivesMore has left id → Comes (source_demands left) id
    more_comes id d =
        let s = derives_source d.derives.derives (omega arith) in
        by_one (body_need (sources left) left id d.derives.body d.derives.is) s.1 s.2

-- what has a source that comes derives a list that is not empty
module _ (has : ℕ → Bool) (left : List Rule) where
  record GivesMore (el : Element) : Type 0 where
    word : List ℕ
    some : 0 < length word
    letters : AreLetters has word
    derives : Derives has left el word

  record AllGiveMore (es : Elements) : Type 0 where
    word : List ℕ
    some : 0 < length word
    letters : AreLetters has word
    derives : DerivesAll has left es word

  record SomeGivesMore (es : Elements) : Type 0 where
    word : List ℕ
    some : 0 < length word
    letters : AreLetters has word
    derives : DerivesSome has left es word

  record GivesTimes (el : Element) (k : ℕ) : Type 0 where
    word : List ℕ
    some : 0 < length word
    letters : AreLetters has word
    derives : DerivesTimes has left el k word

  -- the number of rules, or the id of such a rule
  abbrev IsGiven : ℕ → Type 0
  IsGiven m = (m ≡ length left) ⊎ DerivesMore has left m

  times_more : {d : Element} (k : ℕ) → GivesMore d → IsProductive has left d → GivesTimes d (suc k)
  times_more {d = d} k r p = let rest = times_derived has left d k p in record {
    word = r.word ++ rest.0;
    some = longer_left r.word rest.0 r.some;
    letters = letters_both has r.word rest.0 r.letters rest.1;
    derives = one_more r.derives rest.2;
  }

  rep_more : {d : Element} (a : ℕ) (b : Option ℕ) → AtMost a b → may_iterate b ≡ true → GivesMore d
      → IsProductive has left d → GivesMore (e.Rep a b d)
  rep_more zero b within iterates r p = let t = times_more 0 r p in record {
    word = t.word;
    some = t.some;
    letters = t.letters;
    derives = der.rep {k = 1} (omega arith) (one_within b iterates) t.derives;
  }
  rep_more (suc a) b within iterates r p = let t = times_more a r p in record {
    word = t.word;
    some = t.some;
    letters = t.letters;
    derives = der.rep {k = suc a} (omega arith) within t.derives;
  }

  name_below : (n : List ℕ) → IsProductive has left (e.Name n) → id_of left n < length left
  name_below n p = by p.derives
    where
      by : {w : List ℕ} → Derives has left (e.Name n) w → id_of left n < length left
      by (der.name found d) =
          let below = get_below (bodies left) (id_of left n) (sym (body_at_id left n) ∙ found) in
          let count = length-map left (λ rule. rule.body) in
          omega (arith, below, count)

  name_more : (n : List ℕ) (m : ℕ) → IsProductive has left (e.Name n) → id_of left n ≡ m → IsGiven m
      → GivesMore (e.Name n)
  name_more n m p same (inl past) = absurd (let below = name_below n p in omega (arith, below, same, past))
  name_more n m p same (inr d) = record {
    word = d.first ∷ d.rest;
    some = omega arith;
    letters = d.letters;
    derives = der.name (body_at_id left n ∙ (ap (λ v. slice_get (bodies left) v) same ∙ d.derives.is))
        d.derives.derives;
  }

  more_of : {n : ℕ} {b : Element} → slice_get (bodies left) n ≡ Some b → GivesMore b → DerivesMore has left n
  more_of {n = n} {b = b} is g = by g.word g.some g.letters g.derives
    where
      by : (w : List ℕ) → 0 < length w → AreLetters has w → Derives has left b w → DerivesMore has left n
      by [] lt letters d = absurd (omega (arith, lt))
      by (c ∷ w) lt letters d = record {
        first = c;
        rest = w;
        letters = letters;
        derives = record { body = b; is = is; derives = d };
      }

  module _ (rules : List Rule) (pruned : ArePruned has rules left) where
    all_productive : {es ds : Elements} → KeepsAll has rules es ds → AreAllProductive has left ds
    all_productive keep_none = record { word = []; letters = tt; derives = all_done }
    all_productive (keep_more k ks) =
        let p = still_productive has rules left pruned k in
        let ps = all_productive ks in record {
          word = p.word ++ ps.word;
          letters = letters_both has p.word ps.word p.letters ps.letters;
          derives = then p.derives ps.derives;
        }

    mutual
      source_gives : {el d : Element} (m : ℕ) → Keeps has rules el d → Contains (sources left d) m → IsGiven m
          → GivesMore d
      source_gives m (keep_text {folds = folds} {t = []} letters) h g = absurd (none_of m h)
      source_gives m (keep_text {folds = folds} {t = c ∷ t} letters) h g = record {
        word = c ∷ t;
        some = omega arith;
        letters = letters;
        derives = der.text (spelled_itself folds (c ∷ t));
      }
      source_gives m (keep_values {vs = []} letters) h g = absurd (none_of m h)
      source_gives m (keep_values {vs = v ∷ vs} letters) h g =
          record { word = v ∷ vs; some = omega arith; letters = letters; derives = der.values letters }
      source_gives m (keep_range some) h g = record {
        word = some.letter ∷ [];
        some = omega arith;
        letters = (some.is, tt);
        derives = der.range some.from some.to some.is;
      }
      source_gives m (keep_concat ks) h g = let r = source_gives_all m ks h g in
          record { word = r.word; some = r.some; letters = r.letters; derives = der.concat r.derives }
      source_gives m (keep_alt p ks) h g = let r = source_gives_some m ks h g in
          record { word = r.word; some = r.some; letters = r.letters; derives = der.alt r.derives }
      source_gives m (keep_rep {a = a} {b = b} {d = d} within k) h g =
          let at_operand = in_if (may_iterate b) (sources left d) m h in
          rep_more a b within at_operand.0 (source_gives m k at_operand.1 g)
          (still_productive has rules left pruned k)
      source_gives m (empty_rep not) h g = absurd (none_of m h)
      source_gives m (keep_opt k) h g = let r = source_gives m k h g in
          record { word = r.word; some = r.some; letters = r.letters; derives = der.opt r.derives }
      source_gives m (empty_opt not) h g = absurd (none_of m h)
      source_gives m (keep_name {n = n} p) h g =
          name_more n m (still_productive has rules left pruned (keep_name p)) (only_one (id_of left n) m h) g

      source_gives_all : {es ds : Elements} (m : ℕ) → KeepsAll has rules es ds → Contains (all_sources left ds) m
          → IsGiven m → AllGiveMore ds
      source_gives_all m keep_none h g = absurd (none_of m h)
      source_gives_all m (keep_more {d = d} {ds = ds} k ks) h g =
          ⊎_elim
          (λ one. let r = source_gives m k one g in let rest = all_productive ks in record {
            word = r.word ++ rest.word;
            some = longer_left r.word rest.word r.some;
            letters = letters_both has r.word rest.word r.letters rest.letters;
            derives = then r.derives rest.derives;
          })
          (λ others. let p = still_productive has rules left pruned k in let r = source_gives_all m ks others g in
          record {
            word = p.word ++ r.word;
            some = longer_right p.word r.word r.some;
            letters = letters_both has p.word r.word p.letters r.letters;
            derives = then p.derives r.derives;
          })
          (Contains-append_cases (sources left d) (all_sources left ds) m h)

      source_gives_some : {es ds : Elements} (m : ℕ) → KeepsSome has rules es ds → Contains (all_sources left ds) m
          → IsGiven m → SomeGivesMore ds
      source_gives_some m some_none h g = absurd (none_of m h)
      source_gives_some m (kept {d = d} {ds = ds} k ks) h g =
          ⊎_elim
          (λ one. let r = source_gives m k one g in
          record { word = r.word; some = r.some; letters = r.letters; derives = this r.derives })
          (λ others. let r = source_gives_some m ks others g in
          record { word = r.word; some = r.some; letters = r.letters; derives = later r.derives })
          (Contains-append_cases (sources left d) (all_sources left ds) m h)
      source_gives_some m (dropped not ks) h g = source_gives_some m ks h g

    body_gives : {el d : Element} (m : ℕ) → IsLeftBody has rules el d → Contains (sources left d) m → IsGiven m
        → GivesMore d
    body_gives m (left_body k) h g = source_gives m k h g
    body_gives m (no_body not) h g = absurd (none_of m h)

    comes_given : {n : ℕ} → Comes (source_demands left) n → IsGiven n
    comes_given (by_all {n = n} {row = row} at each) = by (need_cases (sources left) left n (All row) at)
      where
        by : ((n ≡ length left) × (All row ≡ All []))
            ⊎ ((b : Element) × (slice_get (bodies left) n ≡ Some b) × (All row ≡ One (sources left b))) → IsGiven n
        by (inl last) = inl last.0
        by (inr one) = absurd (let other = one.2 in cc other)
    comes_given (by_one {n = n} {m = m} {row = row} at h c) =
        by (need_cases (sources left) left n (One row) at) (comes_given c)
      where
        by : ((n ≡ length left) × (One row ≡ All []))
            ⊎ ((b : Element) × (slice_get (bodies left) n ≡ Some b) × (One row ≡ One (sources left b)))
            → IsGiven m → IsGiven n
        by (inl last) g = absurd (let other = last.1 in cc other)
        by (inr one) g =
            let was = body_was has rules left pruned n one.0 one.1 in
            let same : row ≡ sources left one.0 = (let other = one.2 in cc other) in
            inr (more_of one.1 (body_gives m was.2 (subst (λ v. Contains v m) same h) g))

pub are_more_marks : (left : List Rule) (marks : List Bool) (n : ℕ) → n ≡ length left
    → AreMarksOfThose (source_demands left) marks → AreMoreMarks left (take n marks)
are_more_marks left marks n same are has rules pruned id lt =
    subst (λ (b : Bool). (b ≡ true) ↔ DerivesMore has left id)
    (sym (get_or-take n marks id false (omega (arith, lt, same))))
    ((λ on. by (comes_given has left rules pruned ((are id).0 on))), (λ d. (are id).1 (more_comes left has id d)))
  where
    by : IsGiven has left id → DerivesMore has left id
    by (inl past) = absurd (omega (arith, lt, past))
    by (inr d) = d
