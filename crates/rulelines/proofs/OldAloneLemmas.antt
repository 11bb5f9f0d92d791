-- What the end of a search says.
-- Serves: old_alone.
use Rattle.std.proofs.Common.{◌≡◌, ◌↔◌, ℕ, zero, suc, ◌<◌, ◌≤◌, Bool, List, [], ◌∷◌, ◌++◌, length}
use Rattle.std.proofs.Common.{reverse, refl, sym}
use Rattle.std.proofs.Common.{◌∙◌, ap, subst, arith, ◌⊎◌, inl, inr, append_assoc}
use Rattle.std.proofs.lemmas.List.{reverse-append}
use Rattle.std.proofs.lemmas.Option.{slice_get_within}
use Rattle.std.specs.Prelude.{slice_get, Some, Contains}
use Rattle.abnfread.specs.Element.{Rule}
use Rattle.abnfcheck.specs.Derivable.{RuleDerives}
use Rattle.flatgrammar.specs.Flat.{Flat}
use Rattle.flatgrammar.specs.FlatVerdicts.{DerivesLine}
use Rattle.flatgrammar.specs.NodeSteps.{flat_of}
use Rattle.flatgrammar.proofs.CallOfLemmas.{get_map}
use Rattle.flatgrammar.specs.Stacks.{AreUncounted, IsStackClosure, MarksLast}
use Rattle.lazydfa.specs.Conts.{last_of}
use Rattle.lazydfa.specs.RunVerdicts.{IsOne}
use Rattle.lazydfa.specs.StateSets.{AreMoreStates, AreStatesOf, grammar_of, IsStartState, last_in, StateSets}
use Rattle.lazydfa.proofs.StateSetsLemmas.{got_at}
use Rattle.rulelines.specs.Alone.{AreOfGrammar, DerivesAsRule}
use Rattle.rulelines.specs.declared.pairs.SearchedPair.{SearchedPair}
use Rattle.rulelines.specs.declared.search.PairSearch.{PairSearch}
use Rattle.rulelines.specs.FirstLines.{HasNoLine, HasNoLineUpTo, IsFirstLine, IsOfOldAlone}
use Rattle.rulelines.specs.FoundPairs.{AreSearched, EndWithNew, FoundPair, IsOldDead, IsWordOf, next, start}
use Rattle.rulelines.specs.Search.{found_in, found_pair, found_pairs, IsOldAloneAt, IsPairAdded, IsPairSearch, Searches}
use Rattle.rulelines.specs.StatePairs.{AcceptsRule, AreSamples, IsStartPair}
use Rattle.rulelines.proofs.FoundPairsLemmas.{comes_first, none_after, none_up_to, one_word}
use Rattle.rulelines.proofs.SearchLemmas.{state_is}

-- a word by parents, from its end: what leads to a pair on the way leads on by the symbols that were met
abbrev pub LeadsTo : List SearchedPair → ℕ → ℕ → List ℕ → Type 0
LeadsTo pairs index at met = (olds news : StateSets) (u : List ℕ) → IsWordOf (found_pairs olds news pairs) at u
    → IsWordOf (found_pairs olds news pairs) index (u ++ reverse met)

module _ (pairs : List SearchedPair) (index : ℕ) where
  pub leads_more : (at : ℕ) (p : SearchedPair) (met more : List ℕ) → slice_get pairs at ≡ Some p → p.parent < at
      → more ≡ met ++ p.symbol ∷ [] → LeadsTo pairs index at met → LeadsTo pairs index p.parent more
  leads_more at p met more is lt added leads olds news u h =
      subst (λ v. IsWordOf (found_pairs olds news pairs) index (u ++ reverse v)) (sym added)
      (subst (λ v. IsWordOf (found_pairs olds news pairs) index v)
      (append_assoc u (p.symbol ∷ []) (reverse met) ∙ ap (λ v. u ++ v) (sym (reverse-append met (p.symbol ∷ []))))
      (leads olds news (u ++ p.symbol ∷ [])
      (next {e = found_pair olds news p} (get_map (found_pair olds news) pairs at is) lt h)))

  pub leads_all : (at : ℕ) (met word : List ℕ) → at ≡ 0 → word ≡ reverse met → LeadsTo pairs index at met
      → (olds news : StateSets) → IsWordOf (found_pairs olds news pairs) index word
  leads_all at met word none is leads olds news =
      subst (λ v. IsWordOf (found_pairs olds news pairs) index v) (sym is)
      (leads olds news [] (subst (λ v. IsWordOf (found_pairs olds news pairs) v []) (sym none) start))

-- the states of a grammar stay so
of_states : (flat : Flat) (sets : StateSets) → AreStatesOf flat sets → AreOfGrammar flat sets
of_states flat sets s = record {
  is = s.is;
  one = subst (λ v. IsOne v) (sym s.is) s.one;
  uncounted = subst (λ v. AreUncounted v) (sym s.is) s.uncounted;
  tail_positions = subst (λ v. MarksLast v (last_in sets)) (sym s.is) s.tail_positions;
}

pub still_of : (flat : Flat) (old new : StateSets) → new.tables ≡ old.tables → AreOfGrammar flat old
    → AreOfGrammar flat new
still_of flat old new same a = record {
  is = ap (λ v. flat_of v) same ∙ a.is;
  one = subst (λ v. IsOne (flat_of v)) (sym same) a.one;
  uncounted = subst (λ v. AreUncounted (flat_of v)) (sym same) a.uncounted;
  tail_positions = subst (λ v. MarksLast (flat_of v) (last_of v)) (sym same) a.tail_positions;
}

pub begun_of : (flat : Flat) (none some : StateSets) → AreStatesOf flat none → AreMoreStates none some
    → AreOfGrammar flat some
begun_of flat none some are more = still_of flat none some more.same (of_states flat none are)

-- the start states as the first pair
module _ (olds news : StateSets) (a b : ℕ) (old_start : IsStartState olds a) (new_start : IsStartState news b) where
  abbrev Opening : SearchedPair
  Opening = record { old = a; new = b; parent = 0; symbol = 0 }

  starts_there : IsStartPair (grammar_of olds) (last_in olds) (grammar_of news) (last_in news)
      (found_pair olds news Opening).pair
  starts_there = record {
    old_starts = λ x. subst (λ v. IsStackClosure (grammar_of olds) (last_in olds) x 0 (Contains v.stacks) v.ended [])
        (sym (state_is olds a old_start.state old_start.is)) (old_start.closure x);
    new_starts = λ x. subst (λ v. IsStackClosure (grammar_of news) (last_in news) x 0 (Contains v.stacks) v.ended [])
        (sym (state_is news b new_start.state new_start.is)) (new_start.closure x);
  }

  only_first : (i : ℕ) (p : SearchedPair) → slice_get (Opening ∷ []) i ≡ Some p → (i ≡ 0) × (Opening ≡ p)
  only_first zero p is = (refl, cc is)
  only_first (suc i) p is = absurd (cc is)

  only_found : (i : ℕ) (e : FoundPair) → slice_get (found_pairs olds news (Opening ∷ [])) i ≡ Some e → i ≡ 0
  only_found zero e is = refl
  only_found (suc i) e is = absurd (cc is)

  pub search_begun : (has : ℕ → Bool) (samples : List ℕ) (pairs : List SearchedPair) → pairs ≡ Opening ∷ []
      → IsPairSearch has samples olds news pairs 0 0 0
  search_begun has samples pairs one = subst (λ v. IsPairSearch has samples olds news v 0 0 0) (sym one) (record {
    old_within = λ i p is. subst (λ v. v.old < length olds.states) (only_first i p is).1
        (slice_get_within olds.states a old_start.state old_start.is);
    new_within = λ i p is. subst (λ v. v.new < length news.states) (only_first i p is).1
        (slice_get_within news.states b new_start.state new_start.is);
    found = record {
      first = found_pair olds news Opening;
      is_first = refl;
      starts = starts_there;
      parents = λ i e lt is. absurd (let none = only_found i e is in omega (arith, lt, none));
      order = λ i j e f some lt is at. absurd (let none = only_found i e is in omega (arith, some, none));
    };
    recent = λ i p lt is. absurd (let none = (only_first i p is).0 in omega (arith, lt, none));
    searched = λ i j e c lt. absurd (none i j lt);
    met = omega arith;
    agree = λ i e lt. absurd (omega (arith, lt));
  })
    where
      none : (i j : ℕ) → (i < 0) ⊎ ((i ≡ 0) × (j < 0)) → ⊥
      none i j (inl lt) = omega (arith, lt)
      none i j (inr h) = let lt = h.1 in omega (arith, lt)

-- what stacks accept, the rule derives
pub accepts_lines : (has : ℕ → Bool) (rules : List Rule) (rule : ℕ) (flat : Flat) (sets : StateSets)
    → AreOfGrammar flat sets
    → DerivesAsRule has rules rule flat → (most : ℕ)
    → AcceptsRule has rules rule (grammar_of sets) (last_in sets) most
accepts_lines has rules rule flat sets a derives most = record {
  body = a.one.0;
  whole = a.one.1;
  tail_positions = a.tail_positions;
  uncounted = a.uncounted;
  derives = λ x short symbols.
      subst (λ v. DerivesLine v x ↔ RuleDerives has rules rule x) (sym a.is) (derives x symbols);
}

-- the end of a search
module _ (old new : Flat) (has : ℕ → Bool) (samples : List ℕ) (search : PairSearch) (old_rules new_rules : List Rule)
    (old_rule new_rule : ℕ) (olds_are : AreOfGrammar old search.olds) (news_are : AreOfGrammar new search.news)
    (each : AreSamples (grammar_of search.olds) (grammar_of search.news) has samples)
    (old_derives : DerivesAsRule has old_rules old_rule old) (new_derives : DerivesAsRule has new_rules new_rule new)
  where
    abbrev Lines : List ℕ → Type 0
    Lines = IsOfOldAlone has old_rules old_rule new_rules new_rule

    abbrev Searched : ℕ → Type 0
    Searched n = AreSearched (grammar_of search.olds) (last_in search.olds) (grammar_of search.news)
        (last_in search.news) (found_in search) IsOldDead samples n

    searched_to : (n k m : ℕ) → Searches has samples search n k m → Searched n
    searched_to n k m s i e lt is c h = s.searched i h.0 e c (inl lt) is (got_at samples c h)

    agree_to : (n k m : ℕ) → n ≤ m → Searches has samples search n k m → EndWithNew (found_in search) n
    agree_to n k m le s i e lt is = s.agree i e (omega (arith, lt, le)) is

    olds_accept : (most : ℕ)
        → AcceptsRule has old_rules old_rule (grammar_of search.olds) (last_in search.olds) most
    olds_accept most = accepts_lines has old_rules old_rule old search.olds olds_are old_derives most

    news_accept : (most : ℕ)
        → AcceptsRule has new_rules new_rule (grammar_of search.news) (last_in search.news) most
    news_accept most = accepts_lines has new_rules new_rule new search.news news_are new_derives most

    pub first_is : (n : ℕ) → Searches has samples search n 0 n → IsOldAloneAt (found_in search) n → (w : List ℕ)
        → IsWordOf (found_in search) n w → IsFirstLine Lines w
    first_is n s at w word =
        comes_first has old_rules new_rules old_rule new_rule (grammar_of search.olds) (last_in search.olds)
        (grammar_of search.news) (last_in search.news) n (olds_accept n) (news_accept n) samples each (found_in search)
        s.found n (searched_to n 0 n s) (agree_to n 0 n (omega arith) s) at.entry w at.is word (omega arith)
        at.old_ended at.new_runs

    pub never_is : (n : ℕ) → length (found_in search) ≤ n → Searches has samples search n 0 n → HasNoLine Lines
    never_is n le s x alone =
        none_up_to has old_rules new_rules old_rule new_rule (grammar_of search.olds) (last_in search.olds)
        (grammar_of search.news) (last_in search.news) (length x) (olds_accept (length x)) (news_accept (length x))
        samples each (found_in search) s.found n (searched_to n 0 n s) (agree_to n 0 n (omega arith) s) (length x)
        (omega arith) (λ w h. absurd (none_after (found_in search) s.found.first s.found.is_first h le)) x
        (omega arith) alone

    pub up_to_is : (n k m : ℕ) → n ≤ m → Searches has samples search n k m → (w : List ℕ)
        → IsWordOf (found_in search) n w → (most : ℕ) → most < length w → HasNoLineUpTo Lines most
    up_to_is n k m le s w word most lt =
        none_up_to has old_rules new_rules old_rule new_rule (grammar_of search.olds) (last_in search.olds)
        (grammar_of search.news) (last_in search.news) most (olds_accept most) (news_accept most) samples each
        (found_in search) s.found n (searched_to n k m s) (agree_to n k m le s) most (omega arith)
        (λ v h. let same = ap (λ t. length t) (one_word h word refl) in omega (arith, lt, same))

-- a pair added to none
pub first_added : (none pairs : List SearchedPair) (p : SearchedPair) → none ≡ [] → IsPairAdded none p pairs
    → pairs ≡ p ∷ []
first_added none pairs p is (inl h) =
    absurd (let lt = slice_get_within none h.1.index h.1.pair h.1.is in let e = ap (λ v. length v) is in
    omega (arith, lt, e))
first_added none pairs p is (inr added) = added ∙ ap (λ v. v ++ p ∷ []) is
