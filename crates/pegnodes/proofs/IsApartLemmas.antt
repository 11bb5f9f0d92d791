-- What the definition derives is marked where marks are closed, and marked nodes are apart.
-- Serves: are_apart
use Rattle.std.proofs.Common.{◌≡◌, ◌∙◌, ℕ, zero, suc, ◌<◌, Bool, true, false, List, [], ◌∷◌, Some, drop}
use Rattle.std.proofs.Common.{length, get_or, refl, sym, subst, ap, arith, ◌+◌, ⊎_elim}
use Rattle.std.specs.Borrow.{Bor}
use Rattle.std.specs.Prelude.{slice_get, ◌==◌, if◌then◌else◌}
use Rattle.std.proofs.lemmas.Bool.{cases_eq, eq-eqb}
use Rattle.fixpoint.specs.NumberMarks.{IsMarked}
use Rattle.pegnodes.specs.ClosedMarks.{all_marked, any_marked, front_marked, back_marked, body_marked, empty_step}
use Rattle.pegnodes.specs.ClosedMarks.{near_step, last_step, members_apart, others_apart, shape_apart}
use Rattle.pegnodes.specs.ClosedMarks.{AreShapesApart, AreClosedMarks}
use Rattle.pegnodes.specs.NodeWays.{way_of, Iterations}
use Rattle.pegnodes.specs.Nodes.{Shape, Any, Bytes, Set, Name, Seq, Choice, Star, Plus, Opt, And, Not, Act, Open}
use Rattle.pegnodes.specs.Nodes.{Close}
use Rattle.pegnodes.specs.Predictive.{Empty, empty_bytes, empty_act, empty_open, empty_close, empty_name, empty_seq}
use Rattle.pegnodes.specs.Predictive.{empty_choice, empty_star, empty_plus, empty_opt, empty_and, empty_not, AllEmpty}
use Rattle.pegnodes.specs.Predictive.{all_none, all_more, AnyEmpty, any_here, any_later, Near, near_own, near_name}
use Rattle.pegnodes.specs.Predictive.{near_seq, near_choice, near_star, near_plus, near_opt, near_and, near_not}
use Rattle.pegnodes.specs.Predictive.{NearMembers, near_first, near_after, NearAlternatives, near_here, near_later}
use Rattle.pegnodes.specs.Predictive.{Last, last_empty, last_name, last_seq, last_choice, last_star, last_plus}
use Rattle.pegnodes.specs.Predictive.{last_opt, LastMembers, last_here, last_after, LastAlternatives, last_this}
use Rattle.pegnodes.specs.Predictive.{last_later, IsApart}
use Rattle.pegnodes.specs.declared.apart.Wanted.TheVariants.{Empties, Nears, Lasts}

if_yes : (b x y : Bool) → b ≡ true → (if b then x else y) ≡ x
if_yes true x y h = refl
if_yes false x y h = absurd (cc h)

if_either : (b y : Bool) → y ≡ true → (if b then true else y) ≡ true
if_either true y h = refl
if_either false y h = h

module _ (nodes : List Shape) (bodies : List ℕ) where
  abbrev At : ℕ → Shape → Type 0
  At n shape = slice_get nodes n ≡ Some shape

  module _ (marks : List Bool)
      (closed : (n : ℕ) (shape : Shape) → At n shape → empty_step bodies marks shape ≡ true → IsMarked marks n) where
    mutual
      pub empty_marked : (n : ℕ) → Empty nodes bodies n → IsMarked marks n
      empty_marked n (empty_bytes at) = closed n (Bytes []) at refl
      empty_marked n (empty_act {t = t} at) = closed n (Act t) at refl
      empty_marked n (empty_open at) = closed n Open at refl
      empty_marked n (empty_close at) = closed n Close at refl
      empty_marked n (empty_name {id = id} {m = m} at body e) =
          closed n (Name id) at (ap (body_marked marks) body ∙ empty_marked m e)
      empty_marked n (empty_seq {ms = ms} at all) = closed n (Seq ms) at (empty_all ms all)
      empty_marked n (empty_choice {ms = ms} at any) = closed n (Choice ms) at (empty_any ms any)
      empty_marked n (empty_star {k = k} at) = closed n (Star k) at refl
      empty_marked n (empty_plus {k = k} {s = s} at e) = closed n (Plus k s) at (empty_marked k e)
      empty_marked n (empty_opt {k = k} at) = closed n (Opt k) at refl
      empty_marked n (empty_and {k = k} at) = closed n (And k) at refl
      empty_marked n (empty_not {k = k} at) = closed n (Not k) at refl

      empty_all : (ms : List ℕ) → AllEmpty nodes bodies ms → all_marked marks ms ≡ true
      empty_all [] all_none = refl
      empty_all (m ∷ ms) (all_more e es) =
          if_yes (get_or marks m false) (all_marked marks ms) false (empty_marked m e) ∙ empty_all ms es

      empty_any : (ms : List ℕ) → AnyEmpty nodes bodies ms → any_marked marks ms ≡ true
      empty_any (m ∷ ms) (any_here e) = if_yes (get_or marks m false) true (any_marked marks ms) (empty_marked m e)
      empty_any (m ∷ ms) (any_later es) = if_either (get_or marks m false) (any_marked marks ms) (empty_any ms es)

  module _ (empties : List Bool) (known : (n : ℕ) → Empty nodes bodies n → IsMarked empties n) where
    all_known : (ms : List ℕ) → AllEmpty nodes bodies ms → all_marked empties ms ≡ true
    all_known [] all_none = refl
    all_known (m ∷ ms) (all_more e es) =
        if_yes (get_or empties m false) (all_marked empties ms) false (known m e) ∙ all_known ms es

    -- marks of the nodes that may ask for node l at their own position
    pub record HoldsNear (l : ℕ) (marks : List Bool) : Type 0 where
      pub own : IsMarked marks l
      pub step : (n : ℕ) (shape : Shape) → At n shape → near_step bodies empties marks shape ≡ true → IsMarked marks n

    mutual
      pub near_marked : (marks : List Bool) (n l : ℕ) → HoldsNear l marks → Near nodes bodies n l → IsMarked marks n
      near_marked marks n l h near_own = h.own
      near_marked marks n l h (near_name {id = id} {m = m} at body e) =
          h.step n (Name id) at (ap (body_marked marks) body ∙ near_marked marks m l h e)
      near_marked marks n l h (near_seq {ms = ms} at es) = h.step n (Seq ms) at (near_front marks ms l h es)
      near_marked marks n l h (near_choice {ms = ms} at es) = h.step n (Choice ms) at (near_any marks ms l h es)
      near_marked marks n l h (near_star {k = k} at e) = h.step n (Star k) at (near_marked marks k l h e)
      near_marked marks n l h (near_plus {k = k} {s = s} at e) = h.step n (Plus k s) at (near_marked marks k l h e)
      near_marked marks n l h (near_opt {k = k} at e) = h.step n (Opt k) at (near_marked marks k l h e)
      near_marked marks n l h (near_and {k = k} at e) = h.step n (And k) at (near_marked marks k l h e)
      near_marked marks n l h (near_not {k = k} at e) = h.step n (Not k) at (near_marked marks k l h e)

      pub near_front : (marks : List Bool) (ms : List ℕ) (l : ℕ) → HoldsNear l marks → NearMembers nodes bodies ms l
          → front_marked empties marks ms ≡ true
      near_front marks (m ∷ ms) l h (near_first e) = if_yes (get_or marks m false) true
          (if get_or empties m false then front_marked empties marks ms else false) (near_marked marks m l h e)
      near_front marks (m ∷ ms) l h (near_after e es) = if_either (get_or marks m false)
          (if get_or empties m false then front_marked empties marks ms else false)
          (if_yes (get_or empties m false) (front_marked empties marks ms) false (known m e)
          ∙ near_front marks ms l h es)

      pub near_any : (marks : List Bool) (ms : List ℕ) (l : ℕ) → HoldsNear l marks → NearAlternatives nodes bodies ms l
          → any_marked marks ms ≡ true
      near_any marks (m ∷ ms) l h (near_here e) =
          if_yes (get_or marks m false) true (any_marked marks ms) (near_marked marks m l h e)
      near_any marks (m ∷ ms) l h (near_later es) =
          if_either (get_or marks m false) (any_marked marks ms) (near_any marks ms l h es)

    -- marks of the nodes that may ask for node l where they end
    pub record HoldsLast (l : ℕ) (marks : List Bool) : Type 0 where
      pub flat : (n : ℕ) → Empty nodes bodies n → Near nodes bodies n l → IsMarked marks n
      pub step : (n : ℕ) (shape : Shape) → At n shape → last_step bodies empties marks shape ≡ true → IsMarked marks n

    back_later : (marks : List Bool) (m : ℕ) (ms : List ℕ) → back_marked empties marks ms ≡ true
        → back_marked empties marks (m ∷ ms) ≡ true
    back_later marks m ms h = elim (get_or marks m false) as
        (λ b. (if b then (if all_marked empties ms then true else back_marked empties marks ms) else
        back_marked empties marks ms) ≡ true) [
          | true ↦ if_either (all_marked empties ms) (back_marked empties marks ms) h
          | false ↦ h
        ]

    mutual
      pub last_marked : (marks : List Bool) (n l : ℕ) → HoldsLast l marks → Last nodes bodies n l → IsMarked marks n
      last_marked marks n l h (last_empty e near) = h.flat n e near
      last_marked marks n l h (last_name {id = id} {m = m} at body e) =
          h.step n (Name id) at (ap (body_marked marks) body ∙ last_marked marks m l h e)
      last_marked marks n l h (last_seq {ms = ms} at es) = h.step n (Seq ms) at (last_back marks ms l h es)
      last_marked marks n l h (last_choice {ms = ms} at es) = h.step n (Choice ms) at (last_any marks ms l h es)
      last_marked marks n l h (last_star {k = k} at e) = h.step n (Star k) at (last_marked marks k l h e)
      last_marked marks n l h (last_plus {k = k} {s = s} at e) = h.step n (Plus k s) at (last_marked marks s l h e)
      last_marked marks n l h (last_opt {k = k} at e) = h.step n (Opt k) at (last_marked marks k l h e)

      last_back : (marks : List Bool) (ms : List ℕ) (l : ℕ) → HoldsLast l marks → LastMembers nodes bodies ms l
          → back_marked empties marks ms ≡ true
      last_back marks (m ∷ ms) l h (last_here e all) =
          if_yes (get_or marks m false) (if all_marked empties ms then true else back_marked empties marks ms)
          (back_marked empties marks ms) (last_marked marks m l h e)
          ∙ if_yes (all_marked empties ms) true (back_marked empties marks ms) (all_known ms all)
      last_back marks (m ∷ ms) l h (last_after es) = back_later marks m ms (last_back marks ms l h es)

      last_any : (marks : List Bool) (ms : List ℕ) (l : ℕ) → HoldsLast l marks → LastAlternatives nodes bodies ms l
          → any_marked marks ms ≡ true
      last_any marks (m ∷ ms) l h (last_this e) =
          if_yes (get_or marks m false) true (any_marked marks ms) (last_marked marks m l h e)
      last_any marks (m ∷ ms) l h (last_later es) =
          if_either (get_or marks m false) (any_marked marks ms) (last_any marks ms l h es)

    -- of two tests that stop, one does not hold
    one_fails : (a b rest : Bool) → (if a then (if b then false else rest) else rest) ≡ true → a ≡ true → b ≡ true → ⊥
    one_fails true true rest h x y = cc h
    one_fails true false rest h x y = cc y
    one_fails false b rest h x y = cc x

    -- and what comes after holds
    rest_holds : (a b rest : Bool) → (if a then (if b then false else rest) else rest) ≡ true → rest ≡ true
    rest_holds true true rest h = absurd (cc h)
    rest_holds true false rest h = h
    rest_holds false b rest h = h

    module _ (near last : List Bool) where
      members_clash : (ms : List ℕ) (i m : ℕ) → members_apart empties near last ms ≡ true → slice_get ms i ≡ Some m
          → IsMarked last m → front_marked empties near (drop (suc i) ms) ≡ true → ⊥
      members_clash [] i m h at is front = cc at
      members_clash (k ∷ ms) zero m h at is front =
          one_fails (get_or last k false) (front_marked empties near ms) (members_apart empties near last ms) h
          (let same : m ≡ k = cc at in subst (IsMarked last) same is) front
      members_clash (k ∷ ms) (suc i) m h at is front = members_clash ms i m
          (rest_holds (get_or last k false) (front_marked empties near ms) (members_apart empties near last ms) h) at is
          front

      others_clash : (ms : List ℕ) (i m : ℕ) → others_apart near ms ≡ true → slice_get ms i ≡ Some m
          → IsMarked near m → any_marked near (drop (suc i) ms) ≡ true → ⊥
      others_clash [] i m h at is any = cc at
      others_clash (k ∷ ms) zero m h at is any =
          one_fails (get_or near k false) (any_marked near ms) (others_apart near ms) h
          (let same : m ≡ k = cc at in subst (IsMarked near) same is) any
      others_clash (k ∷ ms) (suc i) m h at is any = others_clash ms i m
          (rest_holds (get_or near k false) (any_marked near ms) (others_apart near ms) h) at is any

      iterations_clash : (n k s : ℕ) (shape : Shape) → shape_apart empties near last n shape ≡ true
          → way_of n shape ≡ Iterations k s → IsMarked last k → IsMarked near s → ⊥
      iterations_clash n k s Any h is a b = cc is
      iterations_clash n k s (Bytes bs) h is a b = cc is
      iterations_clash n k s (Set t) h is a b = cc is
      iterations_clash n k s (Name id) h is a b = cc is
      iterations_clash n k s (Seq ms) h is a b = cc is
      iterations_clash n k s (Choice ms) h is a b = cc is
      iterations_clash n k s (Star j) h is a b =
          one_fails (get_or last j false) (get_or near n false) true h
          (let same : k ≡ j = cc is in subst (IsMarked last) same a)
          (let same : s ≡ n = cc is in subst (IsMarked near) same b)
      iterations_clash n k s (Plus j t) h is a b =
          one_fails (get_or last j false) (get_or near t false) true h
          (let same : k ≡ j = cc is in subst (IsMarked last) same a)
          (let same : s ≡ t = cc is in subst (IsMarked near) same b)
      iterations_clash n k s (Opt j) h is a b = cc is
      iterations_clash n k s (And j) h is a b = cc is
      iterations_clash n k s (Not j) h is a b = cc is
      iterations_clash n k s (Act t) h is a b = cc is
      iterations_clash n k s Open h is a b = cc is
      iterations_clash n k s Close h is a b = cc is

      pub marks_apart : (l : ℕ) → HoldsNear l near → HoldsLast l last → AreShapesApart empties near last nodes
          → IsApart nodes bodies l
      marks_apart l nears lasts apart = record {
        members = λ n i m ms at is ends begins. members_clash ms i m (apart n (Seq ms) at) is
            (last_marked last m l lasts ends) (near_front near (drop (suc i) ms) l nears begins);
        alternatives = λ n i m ms at is here later. others_clash ms i m (apart n (Choice ms) at) is
            (near_marked near m l nears here) (near_any near (drop (suc i) ms) l nears later);
        iterations = λ n k s shape at is ends begins. iterations_clash n k s shape (apart n shape at) is
            (last_marked last k l lasts ends) (near_marked near s l nears begins);
      }

either_holds : (a b r : Bool) → r ≡ true → (if a then (if b then true else r) else r) ≡ true
either_holds true true r h = refl
either_holds true false r h = h
either_holds false b r h = h

shape_there : (nodes : List Shape) (l : ℕ) → l < length nodes → (shape : Shape) × slice_get nodes l ≡ Some shape
shape_there [] l lt = absurd (omega (arith, lt))
shape_there (node ∷ nodes) zero lt = (node, refl)
shape_there (node ∷ nodes) (suc l) lt = let less : l < length nodes = omega (arith, lt) in shape_there nodes l less

module _ (nodes : List Shape) (bodies : List ℕ) where
  empty_there : (n : ℕ) → Empty nodes bodies n → (shape : Shape) × slice_get nodes n ≡ Some shape
  empty_there n (empty_bytes at) = (Bytes [], at)
  empty_there n (empty_act {t = t} at) = (Act t, at)
  empty_there n (empty_open at) = (Open, at)
  empty_there n (empty_close at) = (Close, at)
  empty_there n (empty_name {id = id} at body e) = (Name id, at)
  empty_there n (empty_seq {ms = ms} at all) = (Seq ms, at)
  empty_there n (empty_choice {ms = ms} at any) = (Choice ms, at)
  empty_there n (empty_star {k = k} at) = (Star k, at)
  empty_there n (empty_plus {k = k} {s = s} at e) = (Plus k s, at)
  empty_there n (empty_opt {k = k} at) = (Opt k, at)
  empty_there n (empty_and {k = k} at) = (And k, at)
  empty_there n (empty_not {k = k} at) = (Not k, at)

  -- a node is apart if closed marks show it
  pub apart_by_marks : (empties near : Bor (List Bool)) (last : List Bool) (l : ℕ) → l < length nodes
      → AreClosedMarks Empties nodes bodies empties.now → AreClosedMarks (Nears l empties) nodes bodies near.now
      → AreClosedMarks (Lasts empties near) nodes bodies last → AreShapesApart empties.now near.now last nodes
      → IsApart nodes bodies l
  apart_by_marks empties near last l lt flat nears lasts apart =
      let known : (n : ℕ) → Empty nodes bodies n → IsMarked empties.now n
      = empty_marked nodes bodies empties.now flat in
      let own = shape_there nodes l lt in
      let holds : HoldsNear nodes bodies empties.now known l near.now = record {
        own = nears l own.0 own.1
            (if_yes (l == l) true (near_step bodies empties.now near.now own.0) (eq-eqb l l refl));
        step = λ n shape at h. nears n shape at
            (if_either (n == l) (near_step bodies empties.now near.now shape) h);
      } in
      let ends : HoldsLast nodes bodies empties.now known l last = record {
        flat = λ n e h.
            let there = empty_there n e in
            let rest = last_step bodies empties.now last there.0 in
            lasts n there.0 there.1
            (if_yes (get_or empties.now n false) (if get_or near.now n false then true else rest) rest (known n e)
            ∙ if_yes (get_or near.now n false) true rest
            (near_marked nodes bodies empties.now known near.now n l holds h));
        step = λ n shape at h. lasts n shape at
            (either_holds (get_or empties.now n false) (get_or near.now n false)
            (last_step bodies empties.now last shape) h);
      } in
      marks_apart nodes bodies empties.now known near.now last l holds ends apart

-- what holds of the nodes before one, and of it
pub each_before_next : (P : ℕ → Shape → Type 0) (nodes : List Shape) (i : ℕ) (s : Shape) → slice_get nodes i ≡ Some s
    → P i s → ((n : ℕ) → n < i → (shape : Shape) → slice_get nodes n ≡ Some shape → P n shape)
    → (n : ℕ) → n < i + 1 → (shape : Shape) → slice_get nodes n ≡ Some shape → P n shape
each_before_next P nodes i s there here h n lt shape at = ⊎_elim
    (λ same.
    let found : slice_get nodes i ≡ Some shape = subst (λ v. slice_get nodes v ≡ Some shape) same at in
    let is : s ≡ shape = cc (there, found) in
    subst (λ v. P v shape) (sym same) (subst (P i) is here))
    (λ other. h n (omega (arith, lt, other)) shape at)
    (cases_eq n i)

pub marked_here : (marks : List Bool) (n : ℕ) (mark : Bool) → mark ≡ get_or marks n false → mark ≡ true
    → IsMarked marks n
marked_here marks n mark is h = sym is ∙ h
