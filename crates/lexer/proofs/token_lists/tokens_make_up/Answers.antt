-- Tokens and white space make up their text.
use Rattle.std.proofs.Common.{◌≡◌, ℕ, ◌+◌, ◌-◌, ◌≤◌, ◌⊎◌, Bool, All, true, List, [], ◌∷◌, ◌++◌, length, take, drop}
use Rattle.std.proofs.Common.{refl, sym, ap, ◌∙◌, subst, arith, append_assoc, length-append}
use Rattle.std.proofs.lemmas.List.{drop_at, take_at}
use Rattle.std.proofs.lemmas.List.Elements.{All-nil, All-cons}
use Rattle.lexer.specs.Pieces.{MakeUp, made_last, made_more, LiesIn, AreInOrder, IsLongest}
use Rattle.lexer.specs.SliceEnds.{Longest, NoToken, StandsAlone}
use Rattle.lexer.specs.TokenLists.{Tok, kind_of, slice_of, start_of, end_of, Next, AreTokens, last_one, one_more}
use Rattle.lexer.proofs.token_lists.tokens_make_up.Goals as goal

-- a token of a text of which nothing is left is empty
empty-front : (z r : List ℕ) {t : List ℕ} → t ≡ [] → t ≡ z ++ r → z ≡ []
empty-front [] r none cut = refl
empty-front (b ∷ z) r none cut = cc

module _ {K : Type 0} (White : List ℕ → List ℕ → Type 0) (First Stands : K → List ℕ → List ℕ → Type 0)
    (is_end : K → Bool) (white : (t r : List ℕ) → White t r → StandsAlone White t r)
    (longest : (k : K) (t r : List ℕ) → First k t r → Longest Stands k t r ⊎ NoToken Stands t)
    (last : (k : K) (t r : List ℕ) → is_end k ≡ true → First k t r → t ≡ []) where
  make-up : {total : ℕ} {t : List ℕ} {ts : List (Tok K)} → AreTokens White First is_end total t ts → MakeUp White ts t
  make-up {t = t} (last_one {x = x} n e) =
      let none = last (kind_of x) _ _ e n.first in
      made_last (subst (λ (z : List ℕ). White t z) none n.white) (empty-front (slice_of x) _ none n.cut)
  make-up (one_more {x = x} n e more) =
      let w = white _ _ n.white in
      let p = w.part in
      made_more (p.whole ∙ ap (λ (z : List ℕ). p.front ++ z) n.cut) w.alone (make-up more)

  -- where a token stands in the whole text: after some prefix, and white space
  record Placed (text : List ℕ) (front : List ℕ) (x : Tok K) (r : List ℕ) : Type 0 where
    lies : LiesIn text x
    later : length front ≤ start_of x
    front_after : List ℕ
    whole : text ≡ front_after ++ r
    end : length front_after ≡ end_of x
    longest_there : IsLongest Stands text x

  placed : (text front : List ℕ) {t r : List ℕ} {x : Tok K} → text ≡ front ++ t
      → Next White First (length text) t x r → Placed text front x r
  placed text front {r = r} {x = x} e n =
      let w = (white _ _ n.white).part in
      let before = front ++ w.front in
      let z = slice_of x in
      let whole : text ≡ before ++ (z ++ r) = e ∙ ap (λ (u : List ℕ). front ++ u)
      (w.whole ∙ ap (λ (u : List ℕ). w.front ++ u) n.cut) ∙ sym (append_assoc front w.front (z ++ r)) in
      let after : text ≡ (before ++ z) ++ r = whole ∙ sym (append_assoc before z r) in
      let sizes : length text ≡ length before + (length z + length r) = ap length whole
      ∙ length-append before (z ++ r) ∙ ap (λ (k : ℕ). length before + k) (length-append z r) in
      let token : length n.token ≡ length z + length r = ap length n.cut ∙ length-append z r in
      let start : start_of x ≡ length before = (let p = n.position in omega arith) in
      let size = n.size in
      let long = length-append front w.front in
      let end : length (before ++ z) ≡ end_of x = omega (arith, length-append before z) in
      let there : drop (start_of x) text ≡ z ++ r = ap (drop (start_of x)) whole
      ∙ drop_at before (z ++ r) (start_of x) (sym start) in
      let rest : drop (end_of x) text ≡ r = ap (drop (end_of x)) after ∙ drop_at (before ++ z) r (end_of x) end in
      let token_there : n.token ≡ drop (start_of x) text = n.cut ∙ sym there in
      record {
        lies = record {
          rises = omega arith;
          within = omega arith;
          slice = sym (ap (λ (u : List ℕ). take (end_of x - start_of x) u) there
              ∙ take_at z r (end_of x - start_of x) (omega arith));
        };
        later = omega arith;
        front_after = before ++ z;
        whole = after;
        end = end;
        longest_there = subst (λ (s : List ℕ). Longest Stands (kind_of x) (drop (start_of x) text) s
            ⊎ NoToken Stands (drop (start_of x) text)) (sym rest)
            (subst (λ (u : List ℕ). Longest Stands (kind_of x) u r ⊎ NoToken Stands u) token_there
            (longest (kind_of x) n.token r n.first));
      }

  module _ (P : List ℕ → Tok K → Type 0)
      (so : (text front : List ℕ) (x : Tok K) (r : List ℕ) → Placed text front x r → P text x) where
    all-so : (text front : List ℕ) {t : List ℕ} {ts : List (Tok K)} → text ≡ front ++ t
        → AreTokens White First is_end (length text) t ts → All (P text) ts
    all-so text front e (last_one {x = x} n h) =
        All-cons (P text) x [] (so text front x _ (placed text front e n)) (All-nil _)
    all-so text front e (one_more {x = x} {ts = ts} n h more) =
        let p = placed text front e n in
        All-cons (P text) x ts (so text front x _ p) (all-so text p.front_after p.whole more)

  in-order : (text front : List ℕ) {t : List ℕ} {ts : List (Tok K)} → text ≡ front ++ t
      → AreTokens White First is_end (length text) t ts → AreInOrder (length front) ts
  in-order text front e (last_one {x = x} n h) = ((placed text front e n).later, tt)
  in-order text front e (one_more {x = x} {ts = ts} n h more) =
      let p = placed text front e n in
      (p.later, subst (λ (k : ℕ). AreInOrder k ts) p.end (in-order text p.front_after p.whole more))

  tokens-lie : (text : List ℕ) (ts : List (Tok K)) → AreTokens White First is_end (length text) text ts
      → All (LiesIn text) ts
  tokens-lie text ts h = all-so LiesIn (λ text front x r p. p.lies) text [] refl h

  tokens-in_order : (text : List ℕ) (ts : List (Tok K)) → AreTokens White First is_end (length text) text ts
      → AreInOrder 0 ts
  tokens-in_order text ts h = in-order text [] refl h

  tokens-longest : (text : List ℕ) (ts : List (Tok K)) → AreTokens White First is_end (length text) text ts
      → All (IsLongest Stands text) ts
  tokens-longest text ts h = all-so (IsLongest Stands) (λ text front x r p. p.longest_there) text [] refl h

pub returns-clause-pieces : goal.returns-clause-pieces
returns-clause-pieces g c = λ text ts h.
    make-up g.K.Kind.white g.K.Kind.first g.K.Kind.stands g.K.Kind.is_end c.are_cut.ensures.white
    c.are_cut.ensures.longest c.are_cut.ensures.last h

pub returns-clause-slices : goal.returns-clause-slices
returns-clause-slices g c = tokens-lie g.K.Kind.white g.K.Kind.first g.K.Kind.stands g.K.Kind.is_end
    c.are_cut.ensures.white c.are_cut.ensures.longest c.are_cut.ensures.last

pub returns-clause-order : goal.returns-clause-order
returns-clause-order g c = tokens-in_order g.K.Kind.white g.K.Kind.first g.K.Kind.stands g.K.Kind.is_end
    c.are_cut.ensures.white c.are_cut.ensures.longest c.are_cut.ensures.last

pub returns-clause-longest : goal.returns-clause-longest
returns-clause-longest g c = tokens-longest g.K.Kind.white g.K.Kind.first g.K.Kind.stands g.K.Kind.is_end
    c.are_cut.ensures.white c.are_cut.ensures.longest c.are_cut.ensures.last
