-- How additions go together.
-- Serves: judge.
use Rattle.std.proofs.Common.{◌≡◌, ◌⊎◌, inl, inr, List, [], ◌∷◌, ◌++◌, refl, sym, ◌∙◌, ap, subst, append_assoc}
use Rattle.std.proofs.lemmas.List.{append-nil}
use Rattle.flatgrammar.specs.Positions.{In}
use Rattle.earleyitems.specs.ItemSets.{Adds}
use Rattle.flatgrammar.proofs.InLemmas.{in_left, at_end, before_end, different_end}

pub adds_none : {A : Type 0} (Q : A → Type 0) (old : List A) → ((a : A) → Q a → In a old) → Adds Q old old
adds_none {A = A} Q old held = record {
  added = [];
  is = sym (append-nil old);
  all = held;
  only = λ a h. inl h;
  different = λ d. d;
}

pub adds_one : {A : Type 0} (b : A) (old : List A) → (In b old → ⊥) → Adds (λ a. a ≡ b) old (old ++ b ∷ [])
adds_one {A = A} b old apart = record {
  added = b ∷ [];
  is = refl;
  all = λ a same. subst (λ v. In v (old ++ b ∷ [])) (sym same) (at_end b old);
  only = λ a h. before_end a b old h;
  different = λ d. different_end b old apart d;
}

-- one after the other, under another name for what they add together
pub adds_both : {A : Type 0} (P Q R : A → Type 0) (old mid new : List A) → Adds P old mid → Adds Q mid new →
    ((a : A) → R a → P a ⊎ Q a) → ((a : A) → P a → R a) → ((a : A) → Q a → R a) → Adds R old new
adds_both {A = A} P Q R old mid new p q cases left right = record {
  added = p.added ++ q.added;
  is = q.is ∙ (ap (λ v. v ++ q.added) p.is ∙ append_assoc old p.added q.added);
  all = λ a h. by_all a (cases a h);
  only = λ a h. by_only a (q.only a h);
  different = λ d. q.different (p.different d);
}
  where
    by_all : (a : A) → P a ⊎ Q a → In a new
    by_all a (inl h) = subst (λ v. In a v) (sym q.is) (in_left q.added (p.all a h))
    by_all a (inr h) = q.all a h

    by_mid : (a : A) → In a old ⊎ P a → In a old ⊎ R a
    by_mid a (inl h) = inl h
    by_mid a (inr h) = inr (left a h)

    by_only : (a : A) → In a mid ⊎ Q a → In a old ⊎ R a
    by_only a (inl h) = by_mid a (p.only a h)
    by_only a (inr h) = inr (right a h)

pub adds_as : {A : Type 0} (P Q : A → Type 0) (old new : List A) → ((a : A) → P a → Q a) → ((a : A) → Q a → P a)
    → Adds P old new → Adds Q old new
adds_as {A = A} P Q old new to back p = record {
  added = p.added;
  is = p.is;
  all = λ a h. p.all a (back a h);
  only = λ a h. by a (p.only a h);
  different = p.different;
}
  where
    by : (a : A) → In a old ⊎ P a → In a old ⊎ Q a
    by a (inl h) = inl h
    by a (inr h) = inr (to a h)
