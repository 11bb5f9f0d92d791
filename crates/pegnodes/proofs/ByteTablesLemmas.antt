-- Tables by the next byte, added node by node.
-- Serves: check_peg, SoundPeg::run_table, SoundPeg::choice_table
use Rattle.std.proofs.Common.{◌≡◌, ◌⊎◌, ℕ, suc, zero, Option, List, [], ◌∷◌, ◌++◌, length, IfSome, Some, None}
use Rattle.std.proofs.Common.{refl, sym, subst, ap, inl, inr, ⊎_elim, ◌∙◌, ◌<◌, get_or, MatchOption}
use Rattle.std.specs.Prelude.{slice_get, Result, IfOk}
use Rattle.std.proofs.lemmas.Result.{IfOk-weaker}
use Rattle.std.proofs.lemmas.Option.{slice_get-get_or, get_or_from_slice_get}
use Rattle.pegnodes.specs.ByteTables.{HasTable, IsTabled, IsRunTableOf, IsChoiceTableOf, HasByteTable, AreByteTables}
use Rattle.pegnodes.specs.KeyLists.{Marks}
use Rattle.pegnodes.specs.Nodes.{Shape, Any, Bytes, Set, Name, Seq, Choice, Star, Plus, Opt, And, Not, Act, Open}
use Rattle.pegnodes.specs.Nodes.{Close}
use Rattle.pegnodes.specs.declared.choice_table.ChoiceTable.{ChoiceTable}
use Rattle.pegnodes.specs.declared.run_table.RunTable.{RunTable}
use Rattle.pegnodes.proofs.AreCutsLemmas.{get_before, get_new}

-- an element of a list that grew was there, or is the new one
pub get_pushed : {A : Type 0} (xs : List A) (x : A) (k : ℕ) (y : A) → slice_get (xs ++ x ∷ []) k ≡ Some y
    → (slice_get xs k ≡ Some y) ⊎ ((k ≡ length xs) × (x ≡ y))
get_pushed [] x zero y is = inr (refl, cc)
get_pushed [] x (suc k) y is = absurd cc
get_pushed (z ∷ xs) x zero y is = inl is
get_pushed (z ∷ xs) x (suc k) y is =
    ⊎_elim (λ old. inl old) (λ new. inr (ap suc new.0, new.1)) (get_pushed xs x k y is)

-- an element that is read
pub read_at : {A : Type 0} (xs : List A) (n : ℕ) (v w : A) → n < length xs → v ≡ get_or xs n v → v ≡ w
    → slice_get xs n ≡ Some w
read_at xs n v w lt is same = slice_get-get_or xs n v lt ∙ ap Some (sym is ∙ same)

pub some_read : {A : Type 0} (N : Type 0) (P Q : A → Type 0) (r : Option A) → ((x : A) → P x → Q x)
    → MatchOption r N P → IfSome r Q
some_read N P Q None f h = tt
some_read N P Q (Some x) f h = f x h

some_weaker : (P Q : ℕ → Type 0) → ((p : ℕ) → P p → Q p) → (position : Option ℕ) → IfSome position P → IfSome position Q
some_weaker P Q f None h = tt
some_weaker P Q f (Some p) h = f p h

-- a position that is returned, if any
pub placed_as : {E : Type 0} (P Q : ℕ → Type 0) (r : Result (Option ℕ) E) → ((p : ℕ) → P p → Q p)
    → IfOk r (λ position. IfSome position P) → IfOk r (λ position. IfSome position Q)
placed_as P Q r f h = IfOk-weaker r (λ position. IfSome position P) (λ position. IfSome position Q)
    (some_weaker P Q f) h

module _ {T : Type 0} (P : T → Type 0) where
  -- a table that is added at the end
  pub table_added : (tables new : List T) (t : T) (position : ℕ) → position ≡ length tables → new ≡ tables ++ t ∷ []
      → P t
      → HasTable P new position
  table_added tables new t position count is h = record {
    table = t;
    there = rw (is, count) (get_new tables t);
    is_table = h;
  }

  table_kept : (tables new more : List T) (position : ℕ) → new ≡ tables ++ more → HasTable P tables position
      → HasTable P new position
  table_kept tables new more position is h = record {
    table = h.table;
    there = rw is (get_before tables more position h.there);
    is_table = h.is_table;
  }

  -- the table that is read at its position
  pub table_read : (tables : List T) (position : ℕ) (t : T) → HasTable P tables position → t ≡ get_or tables position t
      → P t
  table_read tables position t has is =
      subst P (sym (is ∙ get_or_from_slice_get tables position has.table t has.there)) has.is_table

-- one node alone is in a table
tabled_once : (n : ℕ) (s : Shape) (j k : ℕ) → IsTabled n s j → IsTabled n s k → j ≡ k
tabled_once n Any j k a b = absurd a
tabled_once n (Bytes bs) j k a b = absurd a
tabled_once n (Set s) j k a b = absurd a
tabled_once n (Name id) j k a b = absurd a
tabled_once n (Seq ms) j k a b = absurd a
tabled_once n (Choice ms) j k a b = absurd a
tabled_once n (Star m) j k a b = cc (a, b)
tabled_once n (Plus m s) j k a b = absurd a
tabled_once n (Opt m) j k a b = cc (a, b)
tabled_once n (And m) j k a b = cc (a, b)
tabled_once n (Not m) j k a b = cc (a, b)
tabled_once n (Act t) j k a b = absurd a
tabled_once n Open j k a b = absurd a
tabled_once n Close j k a b = absurd a

module _ (nodes : List Shape) (bodies : List ℕ) (marks : Marks) where
  -- the position of the table of a node that is no choice, and of a choice's
  pub run_placed : (runs : List RunTable) (choices : List ChoiceTable) (n k : ℕ) (s : Shape)
      → slice_get nodes n ≡ Some s
      → IsTabled n s k → (position : ℕ) → HasTable (IsRunTableOf nodes bodies marks k) runs position
      → HasByteTable nodes bodies marks runs choices n position
  run_placed runs choices n k s at tabled position h = record {
    run = λ t j is other.
        let same : s ≡ t = cc (at, is) in
        let one : k ≡ j = tabled_once n t k j (subst (λ v. IsTabled n v k) same tabled) other in
        subst (λ m. HasTable (IsRunTableOf nodes bodies marks m) runs position) one h;
    choice = λ ms is. absurd (let same : s ≡ Choice ms = cc (at, is) in subst (λ v. IsTabled n v k) same tabled);
  }

  pub choice_placed : (runs : List RunTable) (choices : List ChoiceTable) (n : ℕ) (ms : List ℕ)
      → slice_get nodes n ≡ Some (Choice ms) → (position : ℕ)
      → HasTable (IsChoiceTableOf nodes bodies marks n ms) choices position
      → HasByteTable nodes bodies marks runs choices n position
  choice_placed runs choices n ms at position h = record {
    run = λ t j is tabled. absurd (let same : t ≡ Choice ms = cc (at, is) in subst (λ v. IsTabled n v j) same tabled);
    choice = λ ks is. let same : ms ≡ ks = cc (at, is) in
        subst (λ m. HasTable (IsChoiceTableOf nodes bodies marks n m) choices position) same h;
  }

  tables_kept : (runs new_runs more : List RunTable) (choices new_choices others : List ChoiceTable) (n position : ℕ)
      → new_runs ≡ runs ++ more → new_choices ≡ choices ++ others
      → HasByteTable nodes bodies marks runs choices n position
      → HasByteTable nodes bodies marks new_runs new_choices n position
  tables_kept runs new_runs more choices new_choices others n position is_runs is_choices h = record {
    run = λ s k at tabled.
        table_kept (IsRunTableOf nodes bodies marks k) runs new_runs more position is_runs (h.run s k at tabled);
    choice = λ ms at. table_kept
        (IsChoiceTableOf nodes bodies marks n ms) choices new_choices others position is_choices
        (h.choice ms at);
  }

  table_here : (runs : List RunTable) (choices : List ChoiceTable) (n m : ℕ) (position : Option ℕ) (p : ℕ) → m ≡ n
      → position ≡ Some p → IfSome position (HasByteTable nodes bodies marks runs choices n)
      → HasByteTable nodes bodies marks runs choices m p
  table_here runs choices n m None p same is h = absurd (cc is)
  table_here runs choices n m (Some q) p same is h =
      let position : q ≡ p = cc is in
      subst (λ j. HasByteTable nodes bodies marks runs choices j p) (sym same)
      (subst (HasByteTable nodes bodies marks runs choices n) position h)

  -- one node more
  pub tables_next : (positions all : List (Option ℕ)) (runs new_runs more : List RunTable)
      (choices new_choices others : List ChoiceTable) (n : ℕ) (position : Option ℕ) → length positions ≡ n
      → all ≡ positions ++ position ∷ [] → new_runs ≡ runs ++ more → new_choices ≡ choices ++ others
      → AreByteTables nodes bodies marks positions runs choices
      → IfSome position (HasByteTable nodes bodies marks new_runs new_choices n)
      → AreByteTables nodes bodies marks all new_runs new_choices
  tables_next positions all runs new_runs more choices new_choices others n position long is is_runs is_choices are here
      m p
      at =
      ⊎_elim (λ old. tables_kept runs new_runs more choices new_choices others m p is_runs is_choices (are m p old))
      (λ last. table_here new_runs new_choices n m position p (last.0 ∙ long) last.1 here)
      (get_pushed positions position m (Some p) (rw is at at))
