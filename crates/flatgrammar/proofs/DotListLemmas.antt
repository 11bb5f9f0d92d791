-- Lists of dotted rules that call or read.
-- Serves: lower, judge.
use Rattle.std.proofs.Common.{◌≡◌, ℕ, zero, suc, ◌+◌, ◌++◌, ◌<◌, ◌≤◌, ◌⊎◌, inl, inr, Option, Some, None, List, [], ◌∷◌}
use Rattle.std.proofs.Common.{◌||◌, if◌then◌else◌, Bool, true, false, nat_lt, ltb-true}
use Rattle.std.proofs.Common.{length, take, slice_get, slice_index_or, Vec, Global, refl, sym, ◌∙◌, ap, subst, arith}
use Rattle.std.proofs.Common.{get_or, set, ◌↔◌, ⊎_elim}
use Rattle.std.proofs.lemmas.Bool.{cases_lt}
use Rattle.std.proofs.lemmas.List.{map-append, take_all}
use Rattle.std.proofs.lemmas.Option.{slice_get_read}
use Rattle.flatgrammar.specs.Positions.{In, now, on, AreDifferent}
use Rattle.flatgrammar.specs.declared.closure.DottedRule.{DottedRule}
use Rattle.flatgrammar.specs.declared.dot_list.Ask.{Ask}
use Rattle.flatgrammar.specs.declared.dot_list.DotList.{DotList}
use Rattle.flatgrammar.specs.declared.tables.Tables as code_flat
use Rattle.flatgrammar.specs.ItemClosures.{closure_in, closure_of, lists_of, list_or, readers_of, AreDotLists}
use Rattle.flatgrammar.specs.ItemClosures.{call_at, dots_of, AreAsks}
use Rattle.flatgrammar.specs.declared.flat_node.Ends.{Ends}
use Rattle.flatgrammar.specs.ItemClosures.{Lists, Reads, AreEnds, Picks, AreByLetter, lists_in, IsDotList}
use Rattle.flatgrammar.specs.ItemClosures.{IsAdded, AreAdded}
use Rattle.flatgrammar.proofs.CallOfLemmas.{past_get}
use Rattle.flatgrammar.proofs.SliceGetLemmas.{push_cases, set_cases, get_below}
use Rattle.flatgrammar.proofs.InLemmas.{in_left, at_end, before_end, among_more, in_front, from_front, different_end}

taken_more : {a : DottedRule} (k : ℕ) (xs : List DottedRule) (d : DottedRule) → k < length xs
    → In a (take (k + 1) xs) → In a (take k xs)
    ⊎ (a ≡ slice_index_or xs k d)
taken_more {a = a} k xs d lt h = let one : k + 1 ≡ suc k = omega arith in
    among_more a xs k d lt (subst (λ v. In a (take v xs)) one h)

take_one_longer : (a : DottedRule) (k : ℕ) (xs : List DottedRule) → In a (take k xs) → In a (take (k + 1) xs)
take_one_longer a k xs h = let one : suc k ≡ k + 1 = omega arith in subst (λ v. In a (take v xs)) one (by k xs h)
  where
    by : (k : ℕ) (xs : List DottedRule) → In a (take k xs) → In a (take (suc k) xs)
    by zero [] h = elim h [ ]
    by zero (x ∷ xs) h = elim h [ ]
    by (suc k) [] h = h
    by (suc k) (x ∷ xs) (now same) = now same
    by (suc k) (x ∷ xs) (on h) = on (by k xs h)

last_in : (k : ℕ) (xs : List DottedRule) (d : DottedRule) → k < length xs → In (slice_index_or xs k d) (take (k + 1) xs)
last_in k xs d lt = let one : suc k ≡ k + 1 = omega arith in subst (λ v. In (slice_index_or xs k d) (take v xs)) one
    (by k xs lt)
  where
    by : (k : ℕ) (xs : List DottedRule) → k < length xs → In (slice_index_or xs k d) (take (suc k) xs)
    by zero [] lt = absurd (omega (arith, lt))
    by zero (x ∷ xs) lt = now refl
    by (suc k) [] lt = absurd (omega (arith, lt))
    by (suc k) (x ∷ xs) lt = on (by k xs (let less : k < length xs = omega (arith, lt) in less))

-- the last one of different dotted rules stands once, and those before it are different
front_differs : (k : ℕ) (xs : List DottedRule) (d : DottedRule) → k < length xs → AreDifferent (take (k + 1) xs)
    → AreDifferent (take k xs) × (In (slice_index_or xs k d) (take k xs) → ⊥)
front_differs k xs d lt h = let one : k + 1 ≡ suc k = omega arith in by k xs lt
    (subst (λ v. AreDifferent (take v xs)) one h)
  where
    next : {a : DottedRule} (k : ℕ) (xs : List DottedRule) → In a (take (k + 1) xs) → In a (take (suc k) xs)
    next {a = a} k xs i = let one : k + 1 ≡ suc k = omega arith in subst (λ v. In a (take v xs)) one i

    apart : (k : ℕ) (x : DottedRule) (xs : List DottedRule) → k < length xs → (In x (take (suc k) xs) → ⊥)
        → (In (slice_index_or xs k d) (take k xs) → ⊥) → In (slice_index_or xs k d) (x ∷ take k xs) → ⊥
    apart k x xs lt once rest (now same) = once (subst (λ v. In v (take (suc k) xs)) same
        (next k xs (last_in k xs d lt)))
    apart k x xs lt once rest (on i) = rest i

    by : (k : ℕ) (xs : List DottedRule) → k < length xs → AreDifferent (take (suc k) xs)
        → AreDifferent (take k xs) × (In (slice_index_or xs k d) (take k xs) → ⊥)
    by zero [] lt h = absurd (omega (arith, lt))
    by (suc k) [] lt h = absurd (omega (arith, lt))
    by zero (x ∷ xs) lt h = (tt, (λ i. elim i [ ]))
    by (suc k) (x ∷ xs) lt h =
        let less : k < length xs = omega (arith, lt) in
        let rest = by k xs less h.1 in
        (((λ i. h.0 (next k xs (take_one_longer x k xs i))), rest.0), apart k x xs less h.0 rest.1)

-- one more dotted rule, taken or left
pub pick_one : (Q : DottedRule → Type 0) (dots list new : List DottedRule) (k : ℕ) (d : DottedRule)
    → k < length dots → new ≡ list
    ++ slice_index_or dots k d ∷ [] →
    Picks Q (take k dots) list → Picks Q (take (k + 1) dots) new
pick_one Q dots list new k d lt pushed picks = (
  (λ q h. from q (before_end q (slice_index_or dots k d) list (subst (λ v. In q v) pushed h))),
  (λ q h is_q. subst (λ v. In q v) (sym pushed) (to q (taken_more k dots d lt h) is_q)),
  (λ h. let apart = front_differs k dots d lt h in
      subst (λ v. AreDifferent v) (sym pushed) (different_end (slice_index_or dots k d) list
      (λ i. apart.1 (picks.0 (slice_index_or dots k d) i)) (picks.2 apart.0))),
)
  where
    from : (q : DottedRule) → In q list ⊎ (q ≡ slice_index_or dots k d) → In q (take (k + 1) dots)
    from q (inl h) = take_one_longer q k dots (picks.0 q h)
    from q (inr same) = subst (λ v. In v (take (k + 1) dots)) (sym same) (last_in k dots d lt)

    to : (q : DottedRule) → In q (take k dots) ⊎ (q ≡ slice_index_or dots k d) → Q q
        → In q (list ++ slice_index_or dots k d ∷ [])
    to q (inl h) is_q = in_left (slice_index_or dots k d ∷ []) (picks.1 q h is_q)
    to q (inr same) is_q = subst (λ v. In v (list ++ slice_index_or dots k d ∷ [])) (sym same)
        (at_end (slice_index_or dots k d) list)

pub leave_one : (Q : DottedRule → Type 0) (dots list new : List DottedRule) (k : ℕ) (d : DottedRule)
    → k < length dots → new ≡ list
    → (Q (slice_index_or dots k d) → ⊥) →
    Picks Q (take k dots) list → Picks Q (take (k + 1) dots) new
leave_one Q dots list new k d lt is never picks =
    subst (λ v. Picks Q (take (k + 1) dots) v) (sym is) (
      (λ q h. take_one_longer q k dots (picks.0 q h)),
      (λ q h is_q. to q (taken_more k dots d lt h) is_q),
      (λ h. picks.2 (front_differs k dots d lt h).0),
    )
  where
    to : (q : DottedRule) → In q (take k dots) ⊎ (q ≡ slice_index_or dots k d) → Q q → In q list
    to q (inl h) is_q = picks.1 q h is_q
    to q (inr same) is_q = absurd (never (subst (λ v. Q v) same is_q))

-- different dotted rules with one more: those before it are different, and it is none of them
split_end : (d : DottedRule) (dots : List DottedRule) → AreDifferent (dots ++ d ∷ [])
    → AreDifferent dots × (In d dots → ⊥)
split_end d [] h = (tt, (λ i. elim i [ ]))
split_end d (x ∷ xs) h = let rest = split_end d xs h.1 in ((λ i. h.0 (in_left (d ∷ []) i), rest.0), apart rest.1)
  where
    apart : (In d xs → ⊥) → In d (x ∷ xs) → ⊥
    apart before (now same) = h.0 (subst (λ v. In v (xs ++ d ∷ [])) same (at_end d xs))
    apart before (on i) = before i

-- a dotted rule after all of them, taken
pub pick_end : (Q : DottedRule → Type 0) (d : DottedRule) (dots list : List DottedRule) → Picks Q dots list
    → Picks Q (dots ++ d ∷ []) (list ++ d ∷ [])
pick_end Q d dots list picks = (
  (λ q h. from q (before_end q d list h)),
  (λ q h is_q. to q (before_end q d dots h) is_q),
  (λ h. let apart = split_end d dots h in different_end d list (λ i. apart.1 (picks.0 d i)) (picks.2 apart.0)),
)
  where
    from : (q : DottedRule) → In q list ⊎ (q ≡ d) → In q (dots ++ d ∷ [])
    from q (inl h) = in_left (d ∷ []) (picks.0 q h)
    from q (inr same) = subst (λ v. In v (dots ++ d ∷ [])) (sym same) (at_end d dots)

    to : (q : DottedRule) → In q dots ⊎ (q ≡ d) → Q q → In q (list ++ d ∷ [])
    to q (inl h) is_q = in_left (d ∷ []) (picks.1 q h is_q)
    to q (inr same) is_q = subst (λ v. In v (list ++ d ∷ [])) (sym same) (at_end d list)

-- .. or left
pub leave_end : (Q : DottedRule → Type 0) (d : DottedRule) (dots list : List DottedRule) → (Q d → ⊥)
    → Picks Q dots list → Picks Q (dots ++ d ∷ []) list
leave_end Q d dots list never picks = (
  (λ q h. in_left (d ∷ []) (picks.0 q h)),
  (λ q h is_q. to q (before_end q d dots h) is_q),
  (λ h. picks.2 (split_end d dots h).0),
)
  where
    to : (q : DottedRule) → In q dots ⊎ (q ≡ d) → Q q → In q list
    to q (inl h) is_q = picks.1 q h is_q
    to q (inr same) is_q = absurd (never (subst (λ v. Q v) same is_q))

-- lists to which nothing was added
pub none_added : (P : ℕ → Type 0) (d : DottedRule) (lists : List (Vec DottedRule Global)) → ((c : ℕ) → P c → ⊥)
    → AreAdded P d lists lists
none_added P d lists never c list at = inr (never c, at)

-- a dotted rule was added at letters that are described in two ways
pub added_as : (P Q : ℕ → Type 0) (d : DottedRule) (old new : List (Vec DottedRule Global))
    → ((c : ℕ) → c < length new → P c ↔ Q c) → AreAdded P d old new → AreAdded Q d old new
added_as P Q d old new same added c list at =
    let is = same c (get_below new c at) in
    ⊎_elim (λ h. inl (is.0 h.0, h.1)) (λ h. inr ((λ q. h.0 (is.1 q)), h.1)) (added c list at)

-- it was added at a letter
pub added_at : (d : DottedRule) (lists : List (Vec DottedRule Global)) (k : ℕ) (before after : Vec DottedRule Global)
    → before ≡ get_or lists k before → k < length lists → after.items ≡ before.items ++ d ∷ []
    → AreAdded (λ c. c ≡ k) d lists (set lists k after)
added_at d lists k before after is lt more c list at =
    ⊎_elim (λ h. inl (h.0, (before, (ap (λ v. slice_get lists v) h.0 ∙ there), ap (λ v. v.items) (sym h.1) ∙ more)))
    (λ h. inr h) (set_cases lists k c after list at)
  where
    there : slice_get lists k ≡ Some before
    there = slice_get_read lists (length lists) k before refl lt is

-- it was added at some letters, and then at others
pub added_twice : (P Q : ℕ → Type 0) (d : DottedRule) (old mid new : List (Vec DottedRule Global))
    → ((c : ℕ) → P c → Q c → ⊥) → AreAdded P d old mid → AreAdded Q d mid new
    → AreAdded (λ c. P c ⊎ Q c) d old new
added_twice P Q d old mid new apart first second c list at = by (second c list at)
  where
    by : IsAdded (Q c) d (slice_get mid c) list → IsAdded (P c ⊎ Q c) d (slice_get old c) list
    by (inl h) = ⊎_elim (λ f. absurd (apart c f.0 h.0)) (λ f. inl (inr h.0, (h.1.0, f.1, h.1.2)))
        (first c h.1.0 h.1.1)
    by (inr h) = ⊎_elim (λ f. inl (inl f.0, f.1)) (λ f. inr ((λ either. ⊎_elim f.0 h.0 either), f.1))
        (first c list h.1)

-- it was added at the letters that it reads
pub added_by_letter : (flat : code_flat.Tables) (P : ℕ → Type 0) (d : DottedRule)
    (old new : List (Vec DottedRule Global)) → ((c : ℕ) → Reads flat c d ↔ P c) → AreAdded P d old new
    → (dots : List DottedRule) → AreByLetter flat dots old → AreByLetter flat (dots ++ d ∷ []) new
added_by_letter flat P d old new reads added dots are c list at = by (added c list at)
  where
    by : IsAdded (P c) d (slice_get old c) list → Picks (Reads flat c) (dots ++ d ∷ []) list.items
    by (inl h) = subst (λ v. Picks (Reads flat c) (dots ++ d ∷ []) v) (sym h.1.2)
        (pick_end (Reads flat c) d dots h.1.0.items (are c h.1.0 h.1.1))
    by (inr h) = leave_end (Reads flat c) d dots list.items (λ is. h.0 ((reads c).0 is)) (are c list h.1)

-- one more dotted rule that asks
pub pick_ask : (Q : DottedRule → Type 0) (dots : List DottedRule) (list new : List Ask) (k : ℕ) (d : DottedRule)
    (ask : Ask)
    → k < length dots → ask.dot ≡ slice_index_or dots k d → new ≡ list ++ ask ∷ [] →
    Picks Q (take k dots) (dots_of list) → Picks Q (take (k + 1) dots) (dots_of new)
pick_ask Q dots list new k d ask lt same pushed picks = pick_one Q dots (dots_of list) (dots_of new) k d lt
    (ap (λ v. dots_of v) pushed ∙ (map-append (λ a. a.dot) list (ask ∷ [])
    ∙ ap (λ v. dots_of list ++ v ∷ []) same)) picks

pub asks_more : (flat : code_flat.Tables) (list new : List Ask) (ask : Ask) → AreAsks flat list
    → call_at flat ask.dot ≡ Some (ask.target, ask.next) → new ≡ list ++ ask ∷ [] → AreAsks flat new
asks_more flat list new ask are reports pushed a i = by (before_end a ask list (subst (λ v. In a v) pushed i))
  where
    by : In a list ⊎ (a ≡ ask) → call_at flat a.dot ≡ Some (a.target, a.next)
    by (inl h) = are a h
    by (inr same) = subst (λ v. call_at flat v.dot ≡ Some (v.target, v.next)) (sym same) reports

pub picked_all : (Q : DottedRule → Type 0) (dots list : List DottedRule) (k : ℕ) → length dots ≤ k
    → Picks Q (take k dots) list
    → Picks Q dots list
picked_all Q dots list k le picks = (
  (λ p h. from_front p dots k (picks.0 p h)),
  (λ p h is_q. picks.1 p (in_front p dots k le h) is_q),
  (λ d. picks.2 (subst (λ v. AreDifferent v) (sym (take_all k dots le)) d)),
)

pub letter_more : (flat : code_flat.Tables) (dots : List DottedRule) (lists : List (Vec DottedRule Global))
    (list : Vec DottedRule Global) → AreByLetter flat dots lists →
    Picks (Reads flat (length lists)) dots list.items → AreByLetter flat dots (lists ++ list ∷ [])
letter_more flat dots lists list are one c l is = by (push_cases lists list c l is)
  where
    by : (slice_get lists c ≡ Some l) ⊎ ((c ≡ length lists) × (list ≡ l)) → Picks (Reads flat c) dots l.items
    by (inl was) = are c l was
    by (inr last) = subst (λ v. Picks (Reads flat v) dots l.items) (sym last.0)
        (subst (λ v. Picks (Reads flat (length lists)) dots v.items) last.1 one)

get_left : {A : Type 0} (xs ys : List A) (k : ℕ) → k < length xs → slice_get (xs ++ ys) k ≡ slice_get xs k
get_left [] ys k lt = absurd (omega (arith, lt))
get_left (x ∷ xs) ys zero lt = refl
get_left (x ∷ xs) ys (suc k) lt = get_left xs ys k (omega (arith, lt))

get_end : {A : Type 0} (xs : List A) (a : A) → slice_get (xs ++ a ∷ []) (length xs) ≡ Some a
get_end [] a = refl
get_end (x ∷ xs) a = get_end xs a

pub lists_more : (flat : code_flat.Tables) (lists : List DotList) (list : DotList) (n : ℕ) → length lists ≡ n →
    ((h : ℕ) → h < n → IsDotList flat (closure_of flat h).dots (lists_in (slice_get lists h)))
    → IsDotList flat (closure_of flat n).dots (lists_in (Some list)) →
    (h : ℕ) → h < n + 1 → IsDotList flat (closure_of flat h).dots (lists_in (slice_get (lists ++ list ∷ []) h))
lists_more flat lists list n count are one h lt = by (cases_lt h n)
  where
    by : (h < n) ⊎ (n ≤ h) → IsDotList flat (closure_of flat h).dots (lists_in (slice_get (lists ++ list ∷ []) h))
    by (inl less) = subst (λ v. IsDotList flat (closure_of flat h).dots (lists_in v))
        (sym (get_left lists (list ∷ []) h (omega (arith, less, count)))) (are h less)
    by (inr le) =
        let same : h ≡ n = omega (arith, lt, le) in
        let here : slice_get (lists ++ list ∷ []) h ≡ Some list = ap (λ v. slice_get (lists ++ list ∷ []) v)
        (same ∙ sym count) ∙ get_end lists list in
        subst (λ v. IsDotList flat (closure_of flat h).dots (lists_in v)) (sym here)
        (subst (λ v. IsDotList flat (closure_of flat v).dots (lists_in (Some list))) (sym same) one)

pub lists_all : (flat : code_flat.Tables) (lists : List DotList) (n : ℕ) → length lists ≡ n → length flat.closures.items
    ≤ n →
    ((h : ℕ) → h < n → IsDotList flat (closure_of flat h).dots (lists_in (slice_get lists h))) → (h : ℕ)
    → IsDotList flat (closure_of flat h).dots (lists_in (slice_get lists h))
lists_all flat lists n count all are h = by (cases_lt h n)
  where
    by : (h < n) ⊎ (n ≤ h) → IsDotList flat (closure_of flat h).dots (lists_in (slice_get lists h))
    by (inl less) = are h less
    by (inr le) =
        let none : slice_get lists h ≡ None = past_get lists h (omega (arith, le, count)) in
        let empty : slice_get flat.closures.items h ≡ None = past_get flat.closures.items h (omega (arith, le, all)) in
        subst (λ v. IsDotList flat (closure_in v).dots (lists_in (slice_get lists h))) (sym empty)
        (subst (λ v. IsDotList flat [] (lists_in v)) (sym none) (
          ((λ p i. i), (λ p i q. i), (λ d. d)),
          ((λ p i. i), (λ p i q. i), (λ d. d)),
          (λ c list is. absurd cc),
          (λ a i. elim i [ ]),
          (λ c p i r. elim i [ ]),
        ))

-- ends that are wider by one dotted rule
pub ends_more : (flat : code_flat.Tables) (k : ℕ) (xs : List DottedRule) (d : DottedRule) (old new : Ends)
    → k < length xs
    → (new.least ≤ old.least) × (old.greatest ≤ new.greatest)
    → ((c : ℕ) → Reads flat c (slice_index_or xs k d) → (new.least ≤ c) × (c ≤ new.greatest))
    → AreEnds flat (take k xs) old → AreEnds flat (take (k + 1) xs) new
ends_more flat k xs d old new lt wider held are c p i r = by (taken_more k xs d lt i)
  where
    by : In p (take k xs) ⊎ (p ≡ slice_index_or xs k d) → (new.least ≤ c) × (c ≤ new.greatest)
    by (inl h) =
        let least = wider.0 in
        let greatest = wider.1 in
        let above = (are c p h r).0 in
        let below = (are c p h r).1 in (omega (arith, least, above), omega (arith, greatest, below))
    by (inr same) = held c (subst (λ v. Reads flat c v) same r)

one_of : (x y : Bool) → (x || y) ≡ true → (x ≡ true) ⊎ (y ≡ true)
one_of true y h = inl refl
one_of false y h = inr h

not_outside : (c low high : ℕ) → (nat_lt c low || nat_lt high c) ≡ true → low ≤ c → c ≤ high → ⊥
not_outside c low high is above below = by (one_of (nat_lt c low) (nat_lt high c) is)
  where
    by : (nat_lt c low ≡ true) ⊎ (nat_lt high c ≡ true) → ⊥
    by (inl h) = let lt = ltb-true c low h in omega (arith, lt, above)
    by (inr h) = let lt = ltb-true high c h in omega (arith, lt, below)

-- a list of those that read: none if the letter is not between their ends
within_ends : (flat : code_flat.Tables) (dots : List DottedRule) (lists : Lists) (c : ℕ) → IsDotList flat dots lists
    → (b : Bool) → (nat_lt c lists.ends.least || nat_lt lists.ends.greatest c) ≡ b → (list : List DottedRule)
    → Picks (Reads flat c) dots list → Picks (Reads flat c) dots (if b then [] else list)
within_ends flat dots lists c are false is list picks = picks
within_ends flat dots lists c are true is list picks = (
  (λ p i. elim i [ ]),
  (λ p i r. let e = are.4 c p (are.1.1 p i (c, r)) r in
      absurd (not_outside c lists.ends.least lists.ends.greatest is e.0 e.1)),
  (λ d. tt),
)

-- the dotted rules that are tried on a letter are all that read it
pub readers_pick : (flat : code_flat.Tables) (h c : ℕ) → AreDotLists flat
    → Picks (Reads flat c) (closure_of flat h).dots (readers_of flat h c)
readers_pick flat h c are =
    within_ends flat (closure_of flat h).dots (lists_of flat h) c (are h) _ refl _
    (by (slice_get (lists_of flat h).by_letter c) refl)
  where
    by : (o : Option (Vec DottedRule Global)) → slice_get (lists_of flat h).by_letter c ≡ o
        → Picks (Reads flat c) (closure_of flat h).dots (list_or o (lists_of flat h).readers)
    by None is = ((λ p i. (are h).1.0 p i), (λ p i q. (are h).1.1 p i (c, q)), (λ d. (are h).1.2 d))
    by (Some list) is = (are h).2 c list is
