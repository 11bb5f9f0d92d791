-- Lists that share one vector of links, as it grows.
-- Serves: derive, least
use Rattle.std.proofs.Common.{◌≡◌, ℕ, zero, suc, ◌+◌, ◌-◌, ◌<◌, ◌≤◌, List, [], ◌∷◌, ◌++◌, length, take, get_or, set}
use Rattle.std.proofs.Common.{refl, sym, ap, subst, arith, ⊎_elim, ◌∙◌, Some, replicate, append_assoc, add-one}
use Rattle.std.proofs.Common.{Contains}
use Rattle.std.specs.Prelude.{slice_get}
use Rattle.std.proofs.lemmas.Bool.{cases_eq, cases_lt}
use Rattle.std.proofs.lemmas.List.{get_or_past, get_or-set_same, get_or-set_other, length-set, length-replicate}
use Rattle.std.proofs.lemmas.List.{get_or-replicate, append-nil}
use Rattle.std.proofs.Math.Seq.{take-suc}
use Rattle.std.proofs.lemmas.Option.{slice_get_within}
use Rattle.fixpoint.specs.declared.needs.ListEntry.{ListEntry}
use Rattle.fixpoint.specs.declared.needs.Users.{Users}
use Rattle.fixpoint.specs.Demands.{Demand, row_of}
use Rattle.fixpoint.specs.NeedCounts.{IsQueue, Reported}
use Rattle.fixpoint.specs.StepRows.{row_at}
use Rattle.fixpoint.specs.UserLists.{Chain, end, link, first_of, AreLists, AddsAll, HoldUsersTo, HoldUsers, IsReporting}
use Rattle.fixpoint.proofs.ContainsLemmas.{in_first, in_later}
use Rattle.fixpoint.proofs.IsDerivedLemmas.{empty_row, added_one, added_none, added_push, users_none, users_next}
use Rattle.fixpoint.proofs.IsDerivedLemmas.{users_all}
use Rattle.fixpoint.proofs.ReportedLemmas.{other_default, reported_none, reported_push}

get_before : (xs ys : List ListEntry) (k : ℕ) {l : ListEntry} → slice_get xs k ≡ Some l
    → slice_get (xs ++ ys) k ≡ Some l
get_before [] ys k is = absurd (cc is)
get_before (x ∷ xs) ys zero is = is
get_before (x ∷ xs) ys (suc k) is = get_before xs ys k is

get_new : (xs : List ListEntry) (l : ListEntry) → slice_get (xs ++ l ∷ []) (length xs) ≡ Some l
get_new [] l = refl
get_new (x ∷ xs) l = get_new xs l

first_within : (links : List ListEntry) {k : ℕ} {ns : List ℕ} → Chain links k ns → k ≤ length links
first_within links end = omega arith
first_within links (link {k = k} at le rest) = let lt = slice_get_within links k _ at in omega (arith, lt)

chain_more : (links added : List ListEntry) {k : ℕ} {ns : List ℕ} → Chain links k ns → Chain (links ++ added) k ns
chain_more links added end = end
chain_more links added (link {k = k} at le rest) = link (get_before links added k at) le (chain_more links added rest)

chain_new : (links : List ListEntry) (l : ListEntry) {ns : List ℕ} → Chain links l.next ns →
    Chain (links ++ l ∷ []) (length links + 1) (l.user ∷ ns)
chain_new links l rest = link (get_new links l) (first_within links rest) (chain_more links (l ∷ []) rest)

pub lists_none : (users : Users) (count : ℕ) → users.firsts.items ≡ replicate count 0 →
    AreLists users (replicate count [])
lists_none users count is = record {
  count = ap length is ∙ length-replicate count 0 ∙ sym (length-replicate {A = List ℕ} count []);
  list = λ m. subst (λ v. Chain users.links.items (first_of users m) v) (sym (empty_row count m))
      (subst (λ v. Chain users.links.items v []) (sym (none m)) end);
}
  where
    none : (m : ℕ) → first_of users m ≡ 0
    none m = ⊎_elim
        (λ lt. rw is (get_or-replicate count m 0 0 lt))
        (λ le. let l = ap length is ∙ length-replicate count 0 in
        get_or_past users.firsts.items m 0 (omega (arith, l, le)))
        (cases_lt m count)

lists_add : (old new : Users) (m n first : ℕ) (rows : List (List ℕ)) → m < length old.firsts.items →
    new.links.items ≡ old.links.items ++ record { user = n; next = first_of old m } ∷ [] →
    first ≡ length old.links.items + 1 → new.firsts.items ≡ set old.firsts.items m first →
    AreLists old rows → AreLists new (set rows m (n ∷ row_at rows m))
lists_add old new m n first rows lt links is firsts a = record {
  count = ap length firsts ∙ length-set old.firsts.items m first ∙ a.count
      ∙ sym (length-set rows m (n ∷ row_at rows m));
  list = λ k. rw (firsts, links) (⊎_elim
      (λ same. rw (
        same,
        get_or-set_same old.firsts.items m first 0 lt,
        get_or-set_same rows m (n ∷ row_at rows m) [] (let c = a.count in omega (arith, c, lt)),
        is,
      ) (chain_new old.links.items (record { user = n; next = first_of old m }) (a.list m)))
      (λ ne. rw (
        get_or-set_other old.firsts.items m k first 0 ne,
        get_or-set_other rows m k (n ∷ row_at rows m) [] ne,
      ) (chain_more old.links.items _ (a.list k)))
      (cases_eq k m));
}

pub adds_one : (old new : Users) (m n next first : ℕ) → m < length old.firsts.items →
    next ≡ get_or old.firsts.items m next →
    new.links.items ≡ old.links.items ++ record { user = n; next = next } ∷ [] →
    first ≡ length old.links.items + 1 → new.firsts.items ≡ set old.firsts.items m first →
    AddsAll (m ∷ []) n old new
adds_one old new m n next first lt here links is firsts = record {
  count = ap length firsts ∙ length-set old.firsts.items m first;
  all = λ rows a. record {
    rows = set rows m (n ∷ row_at rows m);
    lists = lists_add old new m n first rows lt
        (subst (λ v. new.links.items ≡ old.links.items ++ record { user = n; next = v } ∷ [])
        (here ∙ other_default old.firsts.items m next 0 lt) links) is firsts a;
    added = added_one rows m n (let c = a.count in omega (arith, c, lt));
  };
}

pub adds_none : (n : ℕ) (users : Users) → AddsAll [] n users users
adds_none n users = record {
  count = refl;
  all = λ rows a. record { rows = rows; lists = a; added = added_none n rows };
}

pub adds_next : (row : List ℕ) (i x n : ℕ) (a b c : Users) → i < length row → x ≡ get_or row i 0 →
    AddsAll (take i row) n a b → AddsAll (x ∷ []) n b c → AddsAll (take (i + 1) row) n a c
adds_next row i x n a b c lt is g h = rw (add-one i, take-suc row i 0, sym is) (record {
  count = h.count ∙ g.count;
  all = λ rows lists.
      let first = g.all rows lists in
      let then = h.all first.rows first.lists in record {
        rows = then.rows;
        lists = then.lists;
        added = added_push (take i row) x n rows first.rows then.rows first.added then.added;
      };
})

pub hold_none : (needs : List Demand) (users : Users) (count : ℕ) → count ≡ length needs →
    AreLists users (replicate count []) → HoldUsersTo needs users 0
hold_none needs users count is a = record {
  rows = replicate count [];
  lists = a;
  needed = users_none needs _ count is refl;
}

pub hold_next : (needs : List Demand) (a b : Users) (i : ℕ) (need : Demand) → HoldUsersTo needs a i →
    slice_get needs i ≡ Some need → AddsAll (row_of need) i a b → HoldUsersTo needs b (i + 1)
hold_next needs a b i need h at g = let more = g.all h.rows h.lists in record {
  rows = more.rows;
  lists = more.lists;
  needed = users_next needs h.rows more.rows i need h.needed at more.added;
}

pub hold_all : (needs : List Demand) (users : Users) (i : ℕ) → i ≡ length needs → HoldUsersTo needs users i →
    HoldUsers needs users
hold_all needs users i is h = record {
  rows = h.rows;
  lists = h.lists;
  needed = users_all needs h.rows i is h.needed;
}

-- a list that is not empty goes on with its first entry's next
pub goes_on : (links : List ListEntry) (l : ListEntry) {k : ℕ} {ns : List ℕ} → 0 < k
    → slice_get links (k - 1) ≡ Some l →
    Chain links k ns → (rest : List ℕ) × (ns ≡ l.user ∷ rest) × (l.next < k) × Chain links l.next rest
goes_on links l lt at end = absurd (omega (arith, lt))
goes_on links l lt at (link {k = k} {l = other} {ns = ns} there le rest) =
    let back : (k + 1) - 1 ≡ k = omega arith in
    let here : slice_get links k ≡ Some l = subst (λ v. slice_get links v ≡ Some l) back at in
    let same : other ≡ l = cc (there, here) in
    let less = ap (λ v. v.next) same in
    (ns, ap (λ v. v.user ∷ ns) same, omega (arith, le, less), subst (λ v. Chain links v.next ns) same rest)

pub reporting_none : (links : List ListEntry) (at : ℕ) (row left order : List ℕ) → Chain links at row →
    IsQueue left order → IsReporting links at row left order left order
reporting_none links at row left order list q = record {
  front = [];
  rest = row;
  is = refl;
  list = list;
  reported = reported_none left order q;
}

-- processing one more
pub reporting_next : {links : List ListEntry} {l : ListEntry} {at : ℕ} {row a o b p c q : List ℕ} → 0 < at →
    slice_get links (at - 1) ≡ Some l → IsReporting links at row a o b p → Reported (l.user ∷ []) b p c q →
    IsReporting links l.next row a o c q
reporting_next {links} {l} {at} {row} {a} {o} {b} {p} {c} {q} lt here t s =
    let g = goes_on links l lt here t.list in record {
      front = t.front ++ l.user ∷ [];
      rest = g.0;
      is = t.is ∙ ap (λ v. t.front ++ v) g.1 ∙ sym (append_assoc t.front (l.user ∷ []) g.0);
      list = g.3;
      reported = reported_push t.front l.user a o b p c q t.reported s;
    }

chain_end : (links : List ListEntry) (at : ℕ) (ns : List ℕ) → at ≤ 0 → Chain links at ns → ns ≡ []
chain_end links at ns le end = refl
chain_end links at ns le (link {k = k} here low rest) = absurd (omega (arith, le))

-- at the end of the list the whole row was processed
pub reporting_done : {links : List ListEntry} {at : ℕ} {row a o b p : List ℕ} → at ≤ 0
    → IsReporting links at row a o b p →
    Reported row a o b p
reporting_done {links} {at} {row} {a} {o} {b} {p} le t =
    let none : t.rest ≡ [] = chain_end links at t.rest le t.list in
    subst (λ v. Reported v a o b p) (sym (t.is ∙ ap (λ v. t.front ++ v) none ∙ append-nil t.front)) t.reported

-- the list that is processed goes on with a link
pub reporting_within : {links : List ListEntry} {at : ℕ} {row a o b p : List ℕ} → IsReporting links at row a o b p →
    at ≤ length links
reporting_within {links} t = first_within links t.list

pub reporting_falls : {links : List ListEntry} {l : ListEntry} {at : ℕ} {row a o b p : List ℕ} → 0 < at →
    slice_get links (at - 1) ≡ Some l → IsReporting links at row a o b p → l.next < at
reporting_falls {links} {l} lt here t = (goes_on links l lt here t.list).2

in_middle : (front ns : List ℕ) (n : ℕ) → Contains (front ++ n ∷ ns) n
in_middle [] ns n = in_first n ns
in_middle (m ∷ front) ns n = in_later m n (front ++ n ∷ ns) (in_middle front ns n)

-- the user of that link stands in the row
pub reporting_user : {links : List ListEntry} {l : ListEntry} {at : ℕ} {row a o b p : List ℕ} → 0 < at →
    slice_get links (at - 1) ≡ Some l → IsReporting links at row a o b p → Contains row l.user
reporting_user {links} {l} lt here t = let g = goes_on links l lt here t.list in
    subst (λ v. Contains v l.user) (sym (t.is ∙ ap (λ v. t.front ++ v) g.1)) (in_middle t.front g.0 l.user)
