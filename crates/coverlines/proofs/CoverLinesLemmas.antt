-- Lines are added in order, and each of them is a shortest one for its goal.
-- Serves: cover_lines
use Rattle.std.proofs.Common.{◌≡◌, inl, inr, ⊎_elim, ℕ, zero, suc, ◌+◌, ◌-◌, ◌<◌, ◌≤◌, List, [], ◌∷◌, ◌++◌, map}
use Rattle.std.proofs.Common.{take}
use Rattle.std.proofs.Common.{get_or, length, length-append, Contains, Option, Some, None, Vec, Global, refl, sym}
use Rattle.std.proofs.Common.{◌∙◌, ap}
use Rattle.std.proofs.Common.{subst, arith}
use Rattle.std.specs.Prelude.{slice_get}
use Rattle.std.specs.List.{AllPairs, AllWithin, HoldsAt, insert}
use Rattle.std.proofs.lemmas.Bool.{cases_eq, cases_lt}
use Rattle.std.proofs.lemmas.List.{map-append}
use Rattle.std.proofs.lemmas.List.Edits.{get_or-insert_above, get_or-insert_at, get_or-insert_below, length-insert}
use Rattle.std.proofs.lemmas.List.Elements.{Contains-append_cases, Contains-append_left, Contains-append_right}
use Rattle.std.proofs.lemmas.List.Sorted.{Contains-permutation, IsPermutation-insert, IsPermutation-sym}
use Rattle.abnfread.specs.Element.{Element, Rule, bodies}
use Rattle.abnfcheck.specs.Derivable.{AreLetters}
use Rattle.abnfcheck.proofs.YieldsLemmas.{letters_both, letters_parts}
use Rattle.ruletable.specs.Letters.{has}
use Rattle.coverlines.specs.CoverLines.{AddsFitting, AddsLines, AddsMadeLines, AddsSome, AreGoalLines}
use Rattle.coverlines.specs.CoverLines.{Falls, HasLineOf, HasLinesOf, IsGoalLine, IsLineAt}
use Rattle.coverlines.specs.CoverLines.{IsLineOf, IsLineOfOne, IsRight, MayAddLines, Reaches, line_around}
use Rattle.coverlines.specs.CoverLines.{line_items}
use Rattle.coverlines.specs.Goals.{Does, Goal}
use Rattle.coverlines.specs.MadeWords.{AreMade, MakesSo}
use Rattle.coverlines.specs.RuleContexts.{AreRuleSites, AreShortestContexts, IsContext, StandsAround, context_at}
use Rattle.coverlines.specs.RuleContexts.{context_cost, sites_at, size_of}
use Rattle.coverlines.specs.Shortest.{IsShortestOf, may}
use Rattle.coverlines.specs.Sites.{IsLeastAt, StandsAt, Stood, room_of, stood_of}
use Rattle.coverlines.specs.declared.bounds.LineBounds.{LineBounds}
use Rattle.coverlines.specs.declared.context.LineContext.{LineContext}
use Rattle.coverlines.specs.declared.cover.CoverLine.{CoverLine}
use Rattle.coverlines.specs.declared.made.MadeWord.{MadeWord}
use Rattle.coverlines.specs.declared.sites.Site.{Site}
use Rattle.coverlines.proofs.GoalsLemmas.{does_derived, one_element}
use Rattle.coverlines.proofs.KnownWordsLemmas.{body_there}
use Rattle.coverlines.proofs.MemberLemmas.{first_in, from_mapped, item_in, later_in, mapped_in, member_cases}
use Rattle.coverlines.proofs.MemberLemmas.{none_in, only_in}
use Rattle.coverlines.proofs.MemberLemmas.{taken_more, taken_past}

-- a line is put between longer ones and shorter ones
module _ (xs : List CoverLine) (i : ℕ) (y d : CoverLine) (le : i ≤ length xs) where
  data StoodBefore (k : ℕ) : Type 0 where
    below : k < i → get_or (insert xs i y) k d ≡ get_or xs k d → StoodBefore k
    here : k ≡ i → get_or (insert xs i y) k d ≡ y → StoodBefore k
    above : (j : ℕ) → i ≤ j → j < length xs → k ≡ j + 1 → get_or (insert xs i y) k d ≡ get_or xs j d
        → StoodBefore k

  stood_before : (k : ℕ) → k < length (insert xs i y) → StoodBefore k
  stood_before k lt = ⊎_elim
      (λ less. below less (get_or-insert_below xs i y d k less le))
      (λ more. ⊎_elim
      (λ same. here same (subst (λ n. get_or (insert xs i y) n d ≡ y) (sym same) (get_or-insert_at xs i y d le)))
      (λ other.
      let n = length-insert xs i y le in
      let up : i ≤ k - 1 = omega (arith, more, other) in
      let within : k - 1 < length xs = omega (arith, n, lt, more, other) in
      let is : k ≡ (k - 1) + 1 = omega (arith, more, other) in
      above (k - 1) up within is (subst (λ n. get_or (insert xs i y) n d ≡ get_or xs (k - 1) d) (sym is)
      (get_or-insert_above xs i y d (k - 1) up le))) (cases_eq k i)) (cases_lt k i)

  pairs_of : (u v s t : CoverLine) → u ≡ s → v ≡ t → Falls s t → Falls u v
  pairs_of u v s t p q r = subst (λ x. Falls x v) (sym p) (subst (λ x. Falls s x) (sym q) r)

  pairs_put : AllPairs Falls xs → ((k : ℕ) → k < i → Falls (get_or xs k d) y)
      → ((k : ℕ) → i ≤ k → k < length xs → Falls y (get_or xs k d))
      → (k l : ℕ) → k < l → l < length (insert xs i y)
      → Falls (get_or (insert xs i y) k d) (get_or (insert xs i y) l d)
  pairs_put h front back k l lt in' = by k l lt (stood_before k (omega (arith, lt, in'))) (stood_before l in')
    where
      by : (k l : ℕ) → k < l → StoodBefore k → StoodBefore l
          → Falls (get_or (insert xs i y) k d) (get_or (insert xs i y) l d)
      by k l lt (below a p) (below c q) = pairs_of _ _ _ _ p q (h k l d lt (omega (arith, c, le)))
      by k l lt (below a p) (here c q) = pairs_of _ _ _ _ p q (front k a)
      by k l lt (below a p) (above j c n o q) = pairs_of _ _ _ _ p q (h k j d (omega (arith, a, c)) n)
      by k l lt (here a p) (below c q) = absurd (omega (arith, a, c, lt))
      by k l lt (here a p) (here c q) = absurd (omega (arith, a, c, lt))
      by k l lt (here a p) (above j c n o q) = pairs_of _ _ _ _ p q (back j c n)
      by k l lt (above m a f r p) (below c q) = absurd (omega (arith, a, r, c, lt))
      by k l lt (above m a f r p) (here c q) = absurd (omega (arith, a, r, c, lt))
      by k l lt (above m a f r p) (above j c n o q) = pairs_of _ _ _ _ p q (h m j d (omega (arith, r, o, lt)) n)

module _ (lines : List CoverLine) (at : ℕ) (line : CoverLine) where
  pub added_order : at ≤ length lines → AllPairs Falls lines
      → AllWithin (λ l. length line.line.items ≤ length l.line.items) lines 0 at
      → (at < length lines → HoldsAt (λ l. length l.line.items < length line.line.items) lines at)
      → AllPairs Falls (insert lines at line)
  added_order le order longer next k l d lt in' = pairs_put lines at line d le order
      (λ n less. longer n d (omega arith) less) (λ n more within. shorter n more within d) k l lt in'
    where
      shorter : (n : ℕ) → at ≤ n → n < length lines → (d : CoverLine)
          → length (get_or lines n d).line.items ≤ length line.line.items
      shorter n more within d = ⊎_elim
          (λ same. let s = next (omega (arith, more, within)) d in
          subst (λ m. length (get_or lines m d).line.items ≤ length line.line.items) (sym same) (omega (arith, s)))
          (λ other. let s = next (omega (arith, more, within)) d in
          let o = order at n d (omega (arith, more, other)) within in omega (arith, s, o)) (cases_eq n at)

  pub line_added : (limit : ℕ) → length line.line.items ≤ limit → AddsFitting limit line lines (insert lines at line)
  line_added limit fits = record {
    adds = record {
      keeps = λ l among. Contains-permutation (line ∷ lines) (insert lines at line) l
          (IsPermutation-insert lines at line) (later_in line l lines among);
      right = λ l among. ⊎_elim (λ is. inr (sym is, fits)) (λ old. inl old) (member_cases line l lines
          (Contains-permutation (insert lines at line) (line ∷ lines) l
          (IsPermutation-sym (line ∷ lines) (insert lines at line) (IsPermutation-insert lines at line)) among));
    };
    there = λ le. Contains-permutation (line ∷ lines) (insert lines at line) line
        (IsPermutation-insert lines at line) (first_in line lines);
  }

-- whether one of the lines is a list
pub among_here : (xs : List CoverLine) (i : ℕ) (x : CoverLine) (w : List ℕ) → i < length xs → x ≡ get_or xs i x
    → x.line.items ≡ w → Contains (line_items xs) w
among_here xs i x w lt at is = subst (Contains (line_items xs)) is
    (mapped_in (λ l. l.line.items) x xs (item_in xs i x lt at))

pub none_more : (xs : List CoverLine) (i : ℕ) (x : CoverLine) (w : List ℕ) → i < length xs → x ≡ get_or xs i x
    → (Contains (line_items (take i xs)) w → ⊥) → (x.line.items ≡ w → ⊥)
    → Contains (line_items (take (i + 1) xs)) w → ⊥
none_more xs i x w lt at none other among =
    let m = from_mapped (λ (l : CoverLine). l.line.items) w (take i xs ++ x ∷ [])
    (subst (λ ys. Contains (line_items ys) w) (taken_more xs i x lt at) among) in
    ⊎_elim (λ l. none (subst (Contains (line_items (take i xs))) m.2
    (mapped_in (λ (l : CoverLine). l.line.items) m.0 (take i xs) l)))
    (λ r. other (ap (λ (l : CoverLine). l.line.items) (only_in x m.0 r) ∙ m.2))
    (Contains-append_cases (take i xs) (x ∷ []) m.0 m.1)

pub none_of_all : (xs : List CoverLine) (n : ℕ) (w : List ℕ) → length xs ≤ n
    → (Contains (line_items (take n xs)) w → ⊥) → Contains (line_items xs) w → ⊥
none_of_all xs n w le none among = none (subst (λ ys. Contains (line_items ys) w) (sym (taken_past xs n le)) among)

-- nothing is added
pub nothing_new : (kind : CoverLine → Type 0) (lines : List CoverLine) → AddsSome kind lines lines
nothing_new kind lines = record { keeps = λ l among. among; right = λ l among. inl among }

pub long_line : (limit : ℕ) (line : CoverLine) (lines : List CoverLine) → limit < length line.line.items
    → AddsFitting limit line lines lines
long_line limit line lines over = record {
  adds = nothing_new (λ l. (l ≡ line) × (length line.line.items ≤ limit)) lines;
  there = λ le. absurd (omega (arith, over, le));
}

more_lines : (kind : CoverLine → Type 0) (rule : ℕ) (old new : List CoverLine) (w : List ℕ) → AddsSome kind old new
    → HasLineOf rule old w → HasLineOf rule new w
more_lines kind rule old new w adds h = record {
  line = h.line;
  among = adds.keeps h.line h.among;
  rule_is = h.rule_is;
  is = h.is;
}

-- the lines of what an element makes
module _ (limit rule : ℕ) (c : LineContext) (s : Stood) where
  pub no_made_lines : (lines : List CoverLine) → AddsMadeLines limit rule c s [] lines lines
  no_made_lines lines = record {
    adds = nothing_new (IsLineOfOne limit rule c s []) lines;
    complete = λ m among le. absurd (none_in m among);
  }

  pub next_made_line : (all : List MadeWord) (i : ℕ) (m : MadeWord) (line : CoverLine) (old mid new : List CoverLine)
      → i < length all → m ≡ get_or all i m → line.goal.rule ≡ rule → line.goal.way ≡ m.way
      → line.line.items ≡ line_around c s m.word.items → AddsMadeLines limit rule c s (take i all) old mid
      → AddsFitting limit line mid new → AddsMadeLines limit rule c s (take (i + 1) all) old new
  next_made_line all i m line old mid new lt is rule_is way_is line_is h a =
      subst (λ ms. AddsMadeLines limit rule c s ms old new) (sym (taken_more all i m lt is)) (record {
        adds = record {
          keeps = λ l among. a.adds.keeps l (h.adds.keeps l among);
          right = λ l among. ⊎_elim (λ prior. ⊎_elim (λ first. inl first) (λ one. inr (longer l one))
              (h.adds.right l prior)) (λ last. inr (own l last.0 last.1)) (a.adds.right l among);
        };
        complete = λ n among le. ⊎_elim
            (λ prior. more_lines _ rule mid new (line_around c s n.word.items) a.adds (h.complete n prior le))
            (λ last. complete n (only_in m n last) le) (Contains-append_cases (take i all) (m ∷ []) n among);
      })
    where
      longer : (l : CoverLine) → IsLineOfOne limit rule c s (take i all) l
          → IsLineOfOne limit rule c s (take i all ++ m ∷ []) l
      longer l one = record {
        made = one.made;
        among = Contains-append_left (take i all) (m ∷ []) one.made one.among;
        is = one.is;
      }

      own : (l : CoverLine) → l ≡ line → length line.line.items ≤ limit
          → IsLineOfOne limit rule c s (take i all ++ m ∷ []) l
      own l same fits = record {
        made = m;
        among = Contains-append_right (take i all) (m ∷ []) m (first_in m []);
        is = subst (IsLineOf limit rule c s m) (sym same)
            (record { rule_is = rule_is; way_is = way_is; line_is = line_is; within = fits });
      }

      complete : (n : MadeWord) → m ≡ n → length (line_around c s n.word.items) ≤ limit
          → HasLineOf rule new (line_around c s n.word.items)
      complete n same le = subst (λ (x : MadeWord). HasLineOf rule new (line_around c s x.word.items)) same (record {
        line = line;
        among = a.there (subst (λ (w : List ℕ). length w ≤ limit) (sym line_is)
            (subst (λ (x : MadeWord). length (line_around c s x.word.items) ≤ limit) (sym same) le));
        rule_is = rule_is;
        is = line_is;
      })

-- the lines of sites
module _ (b : LineBounds) (rules : List Rule) (rule : ℕ) (c : LineContext) where
  pub site_lines : (s : Stood) (all : List MadeWord) (n : ℕ) (old new : List CoverLine) → length all ≤ n
      → AreMade b rules s.element all → AddsMadeLines b.limit rule c s (take n all) old new
      → AddsLines b rules rule c (s ∷ []) old new
  site_lines s all n old new le are h = record {
    adds = record {
      keeps = whole.adds.keeps;
      right = λ l among. ⊎_elim (λ prior. inl prior) (λ one. inr (record {
        stood = s;
        all = all;
        at = first_in s [];
        are = are;
        one = one;
      })) (whole.adds.right l among);
    };
    complete = λ t among. subst (HasLinesOf b rules rule c new) (only_in s t among) (record {
      all = all;
      are = are;
      each = whole.complete;
    });
  }
    where
      whole : AddsMadeLines b.limit rule c s all old new
      whole = subst (λ ms. AddsMadeLines b.limit rule c s ms old new) (taken_past all n le) h

  pub no_sites : (lines : List CoverLine) → AddsLines b rules rule c [] lines lines
  no_sites lines = record {
    adds = nothing_new (IsLineAt b rules rule c []) lines;
    complete = λ s among. absurd (none_in s among);
  }

  pub later_lines : (kind : CoverLine → Type 0) (s : Stood) (old new : List CoverLine) → AddsSome kind old new
      → HasLinesOf b rules rule c old s → HasLinesOf b rules rule c new s
  later_lines kind s old new adds h = record {
    all = h.all;
    are = h.are;
    each = λ m among le. more_lines kind rule old new (line_around c s m.word.items) adds (h.each m among le);
  }

  pub more_sites : (xs : List Stood) (s : Stood) (old mid new : List CoverLine) → AddsLines b rules rule c xs old mid
      → AddsLines b rules rule c (s ∷ []) mid new → AddsLines b rules rule c (xs ++ s ∷ []) old new
  more_sites xs s old mid new h a = record {
    adds = record {
      keeps = λ l among. a.adds.keeps l (h.adds.keeps l among);
      right = λ l among. ⊎_elim
          (λ prior. ⊎_elim (λ first. inl first)
          (λ one. inr (longer l one (λ t at. Contains-append_left xs (s ∷ []) t at))) (h.adds.right l prior))
          (λ last. inr (longer l last (λ t at. Contains-append_right xs (s ∷ []) t at))) (a.adds.right l among);
    };
    complete = λ t among. ⊎_elim (λ prior. later_lines _ t mid new a.adds (h.complete t prior))
        (λ last. a.complete t last) (Contains-append_cases xs (s ∷ []) t among);
  }
    where
      longer : {ys : List Stood} (l : CoverLine) → IsLineAt b rules rule c ys l
          → ((t : Stood) → Contains ys t → Contains (xs ++ s ∷ []) t) → IsLineAt b rules rule c (xs ++ s ∷ []) l
      longer l one to = record {
        stood = one.stood;
        all = one.all;
        at = to one.stood one.at;
        are = one.are;
        one = one.one;
      }

  pub next_site_lines : (all : List Site) (i : ℕ) (site : Site) (old mid new : List CoverLine) → i < length all
      → site ≡ get_or all i site → AddsLines b rules rule c (map stood_of (take i all)) old mid
      → AddsLines b rules rule c (stood_of site ∷ []) mid new
      → AddsLines b rules rule c (map stood_of (take (i + 1) all)) old new
  next_site_lines all i site old mid new lt is h a =
      subst (λ (xs : List Stood). AddsLines b rules rule c xs old new)
      (sym (ap (map stood_of) (taken_more all i site lt is) ∙ map-append stood_of (take i all) (site ∷ [])))
      (more_sites (map stood_of (take i all)) (stood_of site) old mid new h a)

  pub all_site_lines : (all : List Site) (n : ℕ) (old new : List CoverLine) → length all ≤ n
      → AddsLines b rules rule c (map stood_of (take n all)) old new
      → AddsLines b rules rule c (map stood_of all) old new
  all_site_lines all n old new le h = subst (λ (xs : List Site). AddsLines b rules rule c (map stood_of xs) old new)
      (taken_past all n le) h

-- the lines of all rules
module _ (b : LineBounds) (rules : List Rule) (contexts : List (Option LineContext)) (sites : List (Vec Site Global))
  where
    pub no_goal_lines : AreGoalLines b rules contexts sites 0 []
    no_goal_lines = record {
      right = λ l among. absurd (none_in l among);
      complete = λ id c s lt at among. absurd (omega (arith, lt));
    }

    pub next_goal_lines : (n : ℕ) (x : Option LineContext) (old new : List CoverLine) → context_at contexts n ≡ x
        → MayAddLines b rules n x (sites_at sites n) old new → AreGoalLines b rules contexts sites n old
        → AreGoalLines b rules contexts sites (n + 1) new
    next_goal_lines n None old new is same h = subst (AreGoalLines b rules contexts sites (n + 1)) (sym same) (record {
      right = h.right;
      complete = λ id c s lt at among. ⊎_elim
          (λ own. let other : context_at contexts n ≡ Some c = subst (λ k. context_at contexts k ≡ Some c) own at in
          absurd (cc (is, other)))
          (λ other. h.complete id c s (omega (arith, lt, other)) at among) (cases_eq id n);
    })
    next_goal_lines n (Some x) old new is a h = record {
      right = λ l among. ⊎_elim (λ prior. h.right l prior)
          (λ one. record { rule = n; context = x; known = is; is = one }) (a.adds.right l among);
      complete = λ id c s lt at among. ⊎_elim
          (λ own. own_lines id c s own at among)
          (λ other. later_lines b rules id c _ s old new a.adds (h.complete id c s (omega (arith, lt, other)) at among))
          (cases_eq id n);
    }
      where
        own_lines : (id : ℕ) (c : LineContext) (s : Stood) → id ≡ n → context_at contexts id ≡ Some c
            → Contains (sites_at sites id) s → HasLinesOf b rules id c new s
        own_lines id c s own at among =
            let there : context_at contexts n ≡ Some c = subst (λ k. context_at contexts k ≡ Some c) own at in
            let same : x ≡ c = cc (is, there) in
            subst (λ k. HasLinesOf b rules k c new s) (sym own) (subst (λ d. HasLinesOf b rules n d new s) same
            (a.complete s (subst (λ k. Contains (sites_at sites k) s) own among)))

pub site_below : (ps : List (Vec Site Global)) (id : ℕ) (s : Stood) → Contains (sites_at ps id) s → id < length ps
site_below [] id s among = absurd (none_in s among)
site_below (p ∷ ps) zero s among = omega arith
site_below (p ∷ ps) (suc id) s among = let lt = site_below ps id s among in omega (arith, lt)

-- the line of a goal
pub line_length : (c : LineContext) (s : Stood) (w : List ℕ)
    → length (line_around c s w) ≡ (size_of c + room_of s) + length w
line_length c s w =
    let n = length-append (c.before.items ++ s.before) (w ++ (s.after ++ c.after.items)) in
    let m = length-append c.before.items s.before in
    let l = length-append w (s.after ++ c.after.items) in
    let k = length-append s.after c.after.items in omega (arith, n, m, l, k)

-- what stands round, and the word, of a line that reaches a goal
pub record Parts (b : LineBounds) (rules : List Rule) (judged : ℕ) (goal : Goal) (w : List ℕ) : Type 0 where
  pub does : Does (has b.alphabet) (may b) rules judged goal w
  pub around : StandsAround b rules judged goal.rule does.before does.after
  pub stands : StandsAt b rules does.body goal.site (record {
    element = does.element;
    before = does.left;
    after = does.right;
  })
  pub makes : MakesSo b rules does.element goal.way does.word
  pub long : length w ≡ ((length does.before + length does.after) + (length does.left + length does.right))
      + length does.word

module _ (b : LineBounds) (rules : List Rule) (judged : ℕ) where
  pub parts_of : (goal : Goal) (w : List ℕ) → Reaches b rules judged goal w → Parts b rules judged goal w
  parts_of goal w r = record {
    does = d;
    around = record { around = d.around; before = front.0; after = rest.1 };
    stands = record { inside = d.inside; before = front.1; after = rest.0 };
    makes = record { symbols = middle.0; is = d.makes };
    long =
        let n = ap length d.is in
        let m = length-append (d.before ++ d.left) (d.word ++ (d.right ++ d.after)) in
        let l = length-append d.before d.left in
        let k = length-append d.word (d.right ++ d.after) in
        let j = length-append d.right d.after in omega (arith, n, m, l, k, j);
  }
    where
      d : Does (has b.alphabet) (may b) rules judged goal w
      d = r.does

      all : AreLetters (may b) (d.before ++ d.left) × AreLetters (may b) (d.word ++ (d.right ++ d.after))
      all = letters_parts (may b) (d.before ++ d.left) (d.word ++ (d.right ++ d.after))
          (subst (AreLetters (may b)) d.is r.line.symbols)

      front : AreLetters (may b) d.before × AreLetters (may b) d.left
      front = letters_parts (may b) d.before d.left all.0

      middle : AreLetters (may b) d.word × AreLetters (may b) (d.right ++ d.after)
      middle = letters_parts (may b) d.word (d.right ++ d.after) all.1

      rest : AreLetters (may b) d.right × AreLetters (may b) d.after
      rest = letters_parts (may b) d.right d.after middle.1

  -- a context, a site and a word make a line that reaches their goal
  pub line_reaches : (goal : Goal) (c : LineContext) (s : Stood) (body : Element) (word : List ℕ)
      → StandsAround b rules judged goal.rule c.before.items c.after.items
      → slice_get (bodies rules) goal.rule ≡ Some body → StandsAt b rules body goal.site s
      → MakesSo b rules s.element goal.way word → length (line_around c s word) ≤ b.limit
      → Reaches b rules judged goal (line_around c s word)
  line_reaches goal c s body word round is stands makes fits = record {
    line = record {
      symbols = letters_both (may b) (c.before.items ++ s.before) (word ++ (s.after ++ c.after.items))
          (letters_both (may b) c.before.items s.before round.before stands.before)
          (letters_both (may b) word (s.after ++ c.after.items) makes.symbols
          (letters_both (may b) s.after c.after.items stands.after round.after));
      within = fits;
      derives = does_derived b rules judged goal (line_around c s word) does;
    };
    does = does;
  }
    where
      does : Does (has b.alphabet) (may b) rules judged goal (line_around c s word)
      does = record {
        body = body;
        element = s.element;
        before = c.before.items;
        after = c.after.items;
        left = s.before;
        right = s.after;
        word = word;
        around = round.around;
        body_is = is;
        inside = stands.inside;
        makes = makes.is;
        is = refl;
      }

  module _ (contexts : List (Option LineContext)) (sites : List (Vec Site Global)) (lines : List CoverLine)
      (all : AreRuleSites b rules sites) (h : AreShortestContexts b rules judged contexts)
      (found : AreGoalLines b rules contexts sites (length rules) lines) where
    context_of : (id : ℕ) (c : LineContext) → context_at contexts id ≡ Some c
        → StandsAround b rules judged id c.before.items c.after.items
    context_of id c is = (subst (IsContext b rules judged id) is (h.stands id)).0

    -- no line that reaches the goal of a shortest context, site and word is shorter
    none_shorter : (goal : Goal) (c : LineContext) (s : Stood) (body : Element) (word : List ℕ)
        → goal.rule < length rules → context_at contexts goal.rule ≡ Some c
        → slice_get (bodies rules) goal.rule ≡ Some body → IsLeastAt b rules body goal.site s
        → IsShortestOf (MakesSo b rules s.element goal.way) b.limit word → (w : List ℕ)
        → Reaches b rules judged goal w → length (line_around c s word) ≤ length w
    none_shorter goal c s body word lt at is least short w r =
        let p = parts_of goal w r in
        let d = p.does in
        let long = p.long in
        let few = r.line.within in
        let same : d.body ≡ body = (let there = d.body_is in cc (there, is)) in
        let stands : StandsAt b rules body goal.site (record { element = d.element; before = d.left; after = d.right })
        = subst (λ e. StandsAt b rules e goal.site (record {
          element = d.element;
          before = d.left;
          after = d.right;
        })) same p.stands in
        let element : d.element ≡ s.element = one_element b rules stands.inside least.stands.inside in
        let makes : MakesSo b rules s.element goal.way d.word =
        subst (λ e. MakesSo b rules e goal.way d.word) element p.makes in
        let one = subst (λ x. context_cost b.limit x ≤ length d.before + length d.after) at
        (h.least goal.rule d.before d.after lt p.around (omega (arith, long, few))) in
        let two = least.least (record { element = d.element; before = d.left; after = d.right }) stands in
        let three = short.least d.word makes in
        let n = line_length c s word in omega (arith, n, long, one, two, three)

    pub right_line : (line : CoverLine) → Contains lines line → IsRight b rules judged line
    right_line line among = by (found.right line among)
      where
        shown : (line : CoverLine) (rule : ℕ) (c : LineContext) (s : Stood) (body : Element) (site : List ℕ)
            (m : MadeWord) → rule < length rules → context_at contexts rule ≡ Some c
            → slice_get (bodies rules) rule ≡ Some body → IsLeastAt b rules body site s
            → IsShortestOf (MakesSo b rules s.element m.way) b.limit m.word.items
            → IsLineOf b.limit rule c s m line → IsRight b rules judged line
        shown line rule c s body site m lt at is least short l =
            let goal : Goal = record { rule = rule; site = site; way = m.way } in
            let fits : length (line_around c s m.word.items) ≤ b.limit =
            subst (λ (w : List ℕ). length w ≤ b.limit) l.line_is l.within in
            let short_line : IsShortestOf (Reaches b rules judged goal) b.limit (line_around c s m.word.items) =
            record {
              is = line_reaches goal c s body m.word.items (context_of rule c at) is least.stands short.is fits;
              within = fits;
              least = λ w r. none_shorter goal c s body m.word.items lt at is least short w r;
            } in record {
              site = site;
              shortest = rw (l.rule_is, l.way_is, l.line_is) short_line;
            }

        by : IsGoalLine b rules contexts sites line → IsRight b rules judged line
        by g =
            let lt : g.rule < length rules = (let c = all.count in
            let n = site_below sites g.rule g.is.stood g.is.at in omega (arith, n, c)) in
            let body = body_there rules g.rule lt in
            let at = (all.each g.rule body.0 body.1).right g.is.stood g.is.at in
            let one = g.is.one in
            let short = g.is.are.right one.made one.among in
            shown line g.rule g.context g.is.stood body.0 at.0 one.made lt g.known body.1 at.1 short one.is
