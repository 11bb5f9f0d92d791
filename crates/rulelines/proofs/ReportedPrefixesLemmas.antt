-- The first prefixes of states, from the search of states.
-- Serves: new, next
use Rattle.std.proofs.Common.{◌≡◌, ◌⊎◌, inl, inr, ℕ, zero, suc, ◌+◌, ◌<◌, ◌≤◌, List, [], ◌∷◌, ◌++◌, length, refl, sym}
use Rattle.std.proofs.Common.{◌∙◌, ap, subst, arith, append_assoc, append-nil, length-append, get_or, ◌-◌}
use Rattle.std.proofs.lemmas.Bool.{cases_lt}
use Rattle.std.proofs.lemmas.List.{length-map}
use Rattle.std.proofs.lemmas.List.Elements.{All-push, Contains-append_left, Contains-get_or, Contains-push}
use Rattle.std.proofs.lemmas.List.Elements.{Contains-push_cases}
use Rattle.std.proofs.lemmas.List.Quantifiers.{all_pairs_push}
use Rattle.std.proofs.lemmas.Option.{slice_get_within}
use Rattle.std.specs.List.{All}
use Rattle.std.specs.Prelude.{Bool, true, false, not, Some, slice_get, Contains}
use Rattle.abnfread.specs.Element.{Rule}
use Rattle.abnfcheck.specs.Derivable.{AreLetters, RuleDerives}
use Rattle.flatgrammar.specs.Flat.{Flat, Dot}
use Rattle.flatgrammar.proofs.CallOfLemmas.{get_unmap}
use Rattle.lazydfa.specs.StateSets.{AreMoreStates, grammar_of, last_in, StateSet}
use Rattle.ruletable.specs.Letters.{has as has_letter}
use Rattle.ruletable.specs.declared.alphabet.Alphabet.{Alphabet}
use Rattle.lazydfa.proofs.StateSetsLemmas.{got_at}
use Rattle.rulelines.specs.declared.list.keys.LineSymbols.{LineSymbols}
use Rattle.rulelines.specs.declared.miss.prefixes.NextPrefix.{NextPrefix}
use Rattle.rulelines.specs.declared.miss.prefixes.NextPrefix.TheVariants.{Prefix, Done}
use Rattle.rulelines.specs.declared.miss.prefixes.StatePrefix.{StatePrefix}
use Rattle.rulelines.specs.Alone.{AreOfGrammar}
use Rattle.rulelines.specs.FirstLines.{ComesFirst, IsShortlexBefore}
use Rattle.rulelines.specs.FoundPairs.{AreFound, FoundPair, IsOldDead, IsWordOf, LeadsToFound, next, start}
use Rattle.rulelines.specs.Misses.{AreAllPrefixes, AreReportedWrong, HasPrefixFor, IsStatePrefix, IsViableLine}
use Rattle.rulelines.specs.MissSearch.{AreEndsOf, AreFoundStill, AreKeptWithin, AreLedBy, ArePrefixesOf, AreReportedIn}
use Rattle.rulelines.specs.MissSearch.{FoundStates, GivesPrefixesTo, IsExpanded, IsFoundAt, IsLive, IsNextLive}
use Rattle.rulelines.specs.MissSearch.{IsPrefixStep, IsSearchBegun, IsSearchFor, IsStatePassed, IsStateSearch}
use Rattle.rulelines.specs.MissSearch.{IsStepIn, IsWordIn, PrefixSet, SearchesStates, symbols_in}
use Rattle.rulelines.specs.WrongSymbols.{AreWrongTo}
use Rattle.rulelines.specs.Samples.{AreInLineOrder}
use Rattle.rulelines.specs.Search.{found_pair, found_pairs, state_at}
use Rattle.rulelines.specs.StatePairs.{AreSamples, HasSample}
use Rattle.rulelines.specs.StateTables.{line_symbols}
use Rattle.rulelines.proofs.ComesFirstLemmas.{before_trans, first_append, first_length, first_trans, last_first}
use Rattle.rulelines.proofs.ComesFirstLemmas.{prefix_first}
use Rattle.rulelines.proofs.FoundPairsLemmas.{lead_order, one_word, word_closures, word_found, word_symbols}
use Rattle.rulelines.proofs.FoundPairsLemmas.{words_ascend, words_in_order}
use Rattle.rulelines.proofs.LineOrderLemmas.{inner_letters}
use Rattle.rulelines.proofs.MissSearchLemmas.{found_back, found_still, word_still}
use Rattle.rulelines.proofs.OldAloneLemmas.{still_of}
use Rattle.rulelines.proofs.SearchLemmas.{old_there, search_iteration, search_skip}
use Rattle.rulelines.proofs.StateClosuresLemmas.{lead_next, LeadTo}
use Rattle.rulelines.proofs.StatePairsLemmas.{element_at}
use Rattle.rulelines.proofs.ReportedWrongLemmas.{none_reported_wrong, wrong_reported}
use Rattle.rulelines.proofs.ViableLemmas.{astray_wrong, derives_ended, ended_derives, follows_some, letters_left}
use Rattle.rulelines.proofs.ViableLemmas.{letters_right, live_viable, on_can, same_rests, viable_prefix, viable_live}
use Rattle.rulelines.proofs.ViableLemmas.{Viable}

-- a list before one that comes no later than another
before_first : (u v w : List ℕ) → IsShortlexBefore u v → ComesFirst v w → IsShortlexBefore u w
before_first u v w b (inl same) = subst (λ x. IsShortlexBefore u x) same b
before_first u v w b (inr a) = before_trans b a

no_stacks : (s : StateSet) → (IsLive s → ⊥) → s.stacks ≡ []
no_stacks s dead = by s.stacks (λ full. dead (inl full))
  where
    by : {A : Type 0} (xs : List A) → ((xs ≡ [] → ⊥) → ⊥) → xs ≡ []
    by [] none = refl
    by (x ∷ xs) none = absurd (none (λ e. cc e))

-- states that no line leads to are skipped
module _ (has : ℕ → Bool) (samples : List ℕ) (search : FoundStates) where
  pub states_skipped : (n d m : ℕ) → m ≡ n + d → m ≤ length search.pairs
      → ((i : ℕ) → n ≤ i → i < m → IsStatePassed search i) → SearchesStates has samples search n 0
      → SearchesStates has samples search m 0
  states_skipped n zero m is le passed s = subst (λ v. SearchesStates has samples search v 0) (omega (arith, is)) s
  states_skipped n (suc d) m is le passed s =
      let before = states_skipped n d (n + d) refl (omega (arith, is, le))
      (λ i low lt. passed i low (omega (arith, is, lt))) s in
      let g = element_at search.pairs (n + d) (omega (arith, is, le)) in
      let here = old_there has samples search.states search.states search.pairs (n + d) 0 0 before.found
      (n + d) g.0 g.1 in
      let dead = no_stacks (state_at search.states g.0.old)
      ((passed (n + d) (omega arith) (omega (arith, is))).1 (state_at search.states g.0.old) (g.0, g.1, here)) in
      subst (λ v. SearchesStates has samples search v 0) (omega (arith, is)) (record {
        found = search_skip has samples search.states search.states search.pairs (n + d) 0 before.found g.0
            g.1 dead;
        own = before.own;
      })

abbrev pub state_of : FoundPair → StateSet
state_of e = record { stacks = e.pair.old; ended = e.pair.old_ended }

module _ (inner : LineSymbols) (limit : ℕ) (rules : List Rule) (id : ℕ) (flat : Flat)
    (gives : GivesPrefixesTo inner.alphabet limit rules id flat) (samples : List ℕ)
    (each : AreSamples flat flat (line_symbols inner) samples) (search : FoundStates)
    (grammar : AreOfGrammar flat search.states) (n : ℕ)
    (searched : SearchesStates (line_symbols inner) samples search n 0) where
  abbrev G : Flat
  G = grammar_of search.states

  abbrev L : Dot → Bool
  L = last_in search.states

  abbrev Inner : ℕ → Bool
  Inner = line_symbols inner

  abbrev Found : List FoundPair
  Found = found_pairs search.states search.states search.pairs

  gives_here : GivesPrefixesTo inner.alphabet limit rules id G
  gives_here = subst (λ v. GivesPrefixesTo inner.alphabet limit rules id v) (sym grammar.is) gives

  each_here : AreSamples G G Inner samples
  each_here = subst (λ v. AreSamples v v Inner samples) (sym grammar.is) each

  found_so : AreFound G L G L Found Inner
  found_so = searched.found.found

  pub letters_of : (u : List ℕ) → AreLetters Inner u → AreLetters (has_letter inner.alphabet) u
  letters_of u letters = inner_letters inner.alphabet inner.terminator u letters

  pub found_state : (i : ℕ) (e : FoundPair) → slice_get Found i ≡ Some e → IsFoundAt search i (state_of e)
  found_state i e is =
      let u = get_unmap (found_pair search.states search.states) search.pairs i e is in (
        u.from,
        u.at,
        subst (λ v. slice_get search.states.states u.from.old ≡ Some (state_of v)) u.is
            (old_there Inner samples search.states search.states search.pairs n 0 0 searched.found i u.from
            u.at),
      )

  -- the symbols of a pair lead to its state
  pub word_leads : {i : ℕ} {w : List ℕ} → IsWordOf Found i w → (e : FoundPair) → slice_get Found i ≡ Some e
      → LeadTo G L w (state_of e)
  word_leads h e is rest = (word_closures Inner G L G L Found found_so h e is rest).old_closure

  pub letters_found : {i : ℕ} {w : List ℕ} → IsWordOf Found i w → AreLetters Inner w
  letters_found h = word_symbols Inner G L G L Found found_so h

  live_of : (u : List ℕ) (s : StateSet) → LeadTo G L u s → AreLetters Inner u → length u ≤ limit
      → Viable inner.alphabet rules id u → IsLive s
  live_of u s leads letters le viable =
      viable_live inner.alphabet inner.terminator limit rules id G L gives_here grammar.one grammar.uncounted
      grammar.tail_positions u s leads (letters_of u letters) le viable

  -- a pair whose state the symbols lead to, and whose own symbols come no later
  record AtState (u : List ℕ) : Type 0 where
    pub index : ℕ
    pub entry : FoundPair
    pub is : slice_get Found index ≡ Some entry
    pub word : List ℕ
    pub word_is : IsWordOf Found index word
    pub leads : LeadTo G L u (state_of entry)
    pub order : ComesFirst word u

  -- a live one that was not searched
  record IsPast (v : List ℕ) : Type 0 where
    pub index : ℕ
    pub entry : FoundPair
    pub is : slice_get Found index ≡ Some entry
    pub past : n ≤ index
    pub live : IsLive (state_of entry)
    pub word : List ℕ
    pub word_is : IsWordOf Found index word
    pub order : ComesFirst word v

  at_start : AtState []
  at_start = record {
    index = 0;
    entry = found_so.first;
    is = found_so.is_first;
    word = [];
    word_is = start;
    leads = word_leads start found_so.first found_so.is_first;
    order = inl refl;
  }

  at_next : (u : List ℕ) (c : ℕ) → Inner c ≡ true → AreLetters Inner u → length u ≤ limit
      → Viable inner.alphabet rules id (u ++ c ∷ []) → (here : AtState u) → here.index < n → AtState (u ++ c ∷ [])
  at_next u c symbol letters le viable here lt =
      by (searched.found.searched here.index h.is.0 here.entry h.sample (inl lt) here.is (got_at samples h.sample h.is))
    where
      h : HasSample G G samples c
      h = each_here c symbol

      go : LeadsToFound G L G L Found here.index here.entry h.sample → AtState (u ++ c ∷ [])
      go l =
          let g = word_found Inner G L G L Found found_so l.index l.next l.is in
          record {
            index = l.index;
            entry = l.next;
            is = l.is;
            word = g.0;
            word_is = g.1;
            leads = lead_next G L u (state_of here.entry) here.leads c h.sample h.old_alike (state_of l.next)
                l.leads.old_next;
            order = first_trans g.0 (here.word ++ c ∷ []) (u ++ c ∷ [])
                (first_trans g.0 (here.word ++ h.sample ∷ []) (here.word ++ c ∷ [])
                (lead_order Inner G L G L Found found_so here.word_is g.1 l refl)
                (last_first here.word h.sample c h.order)) (first_append here.word u (c ∷ []) here.order);
          }

      by : IsOldDead here.entry.pair ⊎ LeadsToFound G L G L Found here.index here.entry h.sample
          → AtState (u ++ c ∷ [])
      by (inl dead) = absurd (follows_some inner.alphabet inner.terminator limit rules id G L gives_here grammar.one
          grammar.uncounted grammar.tail_positions u (state_of here.entry) here.leads (letters_of u letters) le c
          ((letters_of (c ∷ []) (symbol, tt)).0) viable dead)
      by (inr l) = go l

  past_there : (u w : List ℕ) → AreLetters Inner (u ++ w) → length (u ++ w) ≤ limit
      → Viable inner.alphabet rules id (u ++ w) → (here : AtState u) → n ≤ here.index → IsPast (u ++ w)
  past_there u w letters le viable here past = record {
    index = here.index;
    entry = here.entry;
    is = here.is;
    past = past;
    live = live_of u (state_of here.entry) here.leads (letters_left Inner u w letters)
        (let l = length-append u w in omega (arith, le, l))
        (viable_prefix inner.alphabet rules id u w (letters_of w (letters_right Inner u w letters)) viable);
    word = here.word;
    word_is = here.word_is;
    order = first_trans here.word u (u ++ w) here.order (prefix_first u w);
  }

  words_walked : (w u : List ℕ) → AreLetters Inner (u ++ w) → length (u ++ w) ≤ limit
      → Viable inner.alphabet rules id (u ++ w) → AtState u → AtState (u ++ w) ⊎ IsPast (u ++ w)
  words_walked [] u letters le viable here = inl (subst AtState (sym (append-nil u)) here)
  words_walked (c ∷ w) u letters le viable here =
      by (λ all fits begins there. words_walked w (u ++ c ∷ []) all fits begins there) (cases_lt here.index n)
    where
      same : (u ++ c ∷ []) ++ w ≡ u ++ c ∷ w
      same = append_assoc u (c ∷ []) w

      symbol : Inner c ≡ true
      symbol = (letters_right Inner u (c ∷ w) letters).0

      by : (AreLetters Inner ((u ++ c ∷ []) ++ w) → length ((u ++ c ∷ []) ++ w) ≤ limit
          → Viable inner.alphabet rules id ((u ++ c ∷ []) ++ w) → AtState (u ++ c ∷ [])
          → AtState ((u ++ c ∷ []) ++ w) ⊎ IsPast ((u ++ c ∷ []) ++ w))
          → (here.index < n) ⊎ (n ≤ here.index) → AtState (u ++ c ∷ w) ⊎ IsPast (u ++ c ∷ w)
      by on (inr past) = inr (past_there u (c ∷ w) letters le viable here past)
      by on (inl less) =
          let all = subst (λ v. AreLetters Inner v) (sym same) letters in
          let fits = subst (λ v. length v ≤ limit) (sym same) le in
          let begins = subst (λ v. Viable inner.alphabet rules id v) (sym same) viable in
          let short = length-append u (c ∷ w) in
          subst (λ v. AtState v ⊎ IsPast v) same
          (on all fits begins
          (at_next u c symbol (letters_left Inner u (c ∷ w) letters) (omega (arith, le, short))
          (viable_prefix inner.alphabet rules id (u ++ c ∷ []) w
          (letters_of w (letters_right Inner (u ++ c ∷ []) w all)) begins) here less))

  -- a viable prefix leads to a state that was searched, or comes after one that was not
  abbrev IsCovered : List ℕ → Type 0
  IsCovered v = ((here : AtState v) × (here.index < n)) ⊎ IsPast v

  prefix_covered : (v : List ℕ) → IsViableLine inner.alphabet inner.terminator limit rules id v → IsCovered v
  prefix_covered v line = by (words_walked v [] line.symbols line.within line.viable at_start)
    where
      at_end : (here : AtState v) → (here.index < n) ⊎ (n ≤ here.index) → IsCovered v
      at_end here (inl less) = inl (here, less)
      at_end here (inr past) = inr (subst IsPast (append-nil v)
          (past_there v [] (subst (λ x. AreLetters Inner x) (sym (append-nil v)) line.symbols)
          (subst (λ x. length x ≤ limit) (sym (append-nil v)) line.within)
          (subst (λ x. Viable inner.alphabet rules id x) (sym (append-nil v)) line.viable) here past))

      by : AtState v ⊎ IsPast v → IsCovered v
      by (inl here) = at_end here (cases_lt here.index n)
      by (inr past) = inr past

  -- by the prefixes that are reported
  module _ (ps : List StatePrefix)
      (reported : (i : ℕ) → i < n → IsStatePassed search i ⊎ ((q : StatePrefix) × Contains ps q
      × IsWordIn search.pairs i q.prefix.items))
      (from : (q : StatePrefix) → Contains ps q → (i : ℕ) × (i < n)
      × IsWordIn search.pairs i q.prefix.items) where
    prefix_there : (v : List ℕ) → IsViableLine inner.alphabet inner.terminator limit rules id v → (here : AtState v)
        → here.index < n → HasPrefixFor inner.alphabet inner.terminator limit rules id ps v
    prefix_there v line here lt = by (reported here.index lt)
      where
        by : IsStatePassed search here.index ⊎ ((q : StatePrefix) × Contains ps q
            × IsWordIn search.pairs here.index q.prefix.items)
            → HasPrefixFor inner.alphabet inner.terminator limit rules id ps v
        by (inl passed) = absurd (passed.1 (state_of here.entry) (found_state here.index here.entry here.is)
            (live_of v (state_of here.entry) here.leads line.symbols line.within line.viable))
        by (inr q) =
            let word = q.2 search.states search.states in
            record {
              one = q.0;
              is = q.1;
              order = subst (λ x. ComesFirst x v) (one_word here.word_is word refl) here.order;
              rests = same_rests inner.alphabet inner.terminator limit rules id G L gives_here grammar.one
                  grammar.uncounted grammar.tail_positions q.0.prefix.items v (state_of here.entry)
                  (word_leads word here.entry here.is) here.leads
                  (letters_of q.0.prefix.items (letters_found word)) (letters_of v line.symbols);
            }

    all_before : (v : List ℕ) → IsPast v → All (λ p. IsShortlexBefore p.prefix.items v) ps
    all_before v past k d lt =
        let f = from (get_or ps k d) (Contains-get_or ps k d lt) in
        let less = f.1 in
        let le = past.past in
        before_first (get_or ps k d).prefix.items past.word v
        (words_ascend Inner G L G L Found found_so (f.2 search.states search.states) past.word_is
        (omega (arith, less, le))) past.order

    pub prefixes_rest : (v : List ℕ) → IsViableLine inner.alphabet inner.terminator limit rules id v
        → HasPrefixFor inner.alphabet inner.terminator limit rules id ps v
        ⊎ All (λ p. IsShortlexBefore p.prefix.items v) ps
    prefixes_rest v line = by (prefix_covered v line)
      where
        by : IsCovered v → HasPrefixFor inner.alphabet inner.terminator limit rules id ps v
            ⊎ All (λ p. IsShortlexBefore p.prefix.items v) ps
        by (inl h) = inl (prefix_there v line h.0 h.1)
        by (inr past) = inr (all_before v past)

    all_if : ((v : List ℕ) → IsViableLine inner.alphabet inner.terminator limit rules id v → IsPast v → ⊥)
        → AreAllPrefixes inner.alphabet inner.terminator limit rules id ps
    all_if none v line = by (prefix_covered v line)
      where
        by : IsCovered v → HasPrefixFor inner.alphabet inner.terminator limit rules id ps v
        by (inl h) = prefix_there v line h.0 h.1
        by (inr past) = absurd (none v line past)

    past_within : (v : List ℕ) (past : IsPast v) → past.index < length search.pairs
    past_within v past =
        let lt = slice_get_within Found past.index past.entry past.is in
        let l = length-map search.pairs (found_pair search.states search.states) in
        omega (arith, lt, l)

    not_passed : (v : List ℕ) (past : IsPast v) → IsStatePassed search past.index → ⊥
    not_passed v past passed =
        passed.1 (state_of past.entry) (found_state past.index past.entry past.is) past.live

    -- no state is left, or the prefixes that are left are too long
    pub none_left : ((i : ℕ) → n ≤ i → i < length search.pairs → IsStatePassed search i)
        → AreAllPrefixes inner.alphabet inner.terminator limit rules id ps
    none_left passed = all_if (λ v line past.
        not_passed v past (passed past.index past.past (past_within v past)))

    pub long_left : (at : ℕ) (w : List ℕ) → ((i : ℕ) → n ≤ i → i < at → IsStatePassed search i)
        → IsWordIn search.pairs at w → limit < length w
        → AreAllPrefixes inner.alphabet inner.terminator limit rules id ps
    long_left at w passed word long = all_if (λ v line past. by v line past (cases_lt past.index at))
      where
        by : (v : List ℕ) → IsViableLine inner.alphabet inner.terminator limit rules id v → (past : IsPast v)
            → (past.index < at) ⊎ (at ≤ past.index) → ⊥
        by v line past (inl less) = not_passed v past (passed past.index past.past less)
        by v line past (inr more) =
            let a = first_length w past.word (words_in_order Inner G L G L Found found_so
            (word search.states search.states) past.word_is more) in
            let b = first_length past.word v past.order in
            let c = line.within in
            omega (arith, a, b, c, long)

  -- the prefix of a state
  module _ (at : ℕ) (w : List ℕ) (word : IsWordIn search.pairs at w) (e : FoundPair)
      (at_e : slice_get Found at ≡ Some e) (within : length w ≤ limit) where
    here_word : IsWordOf Found at w
    here_word = word search.states search.states

    here_leads : LeadTo G L w (state_of e)
    here_leads = word_leads here_word e at_e

    viable_here : (0 < at → IsLive (state_of e)) → 0 < length w → Viable inner.alphabet rules id w
    viable_here live some = by (cases_lt 0 at)
      where
        parent_of : 0 < at → Viable inner.alphabet rules id w
        parent_of lt =
            let p = found_so.parents at e lt at_e in
            let g = word_found Inner G L G L Found found_so e.parent p.parent p.is in
            let same = one_word (next {e = e} at_e p.earlier g.1) here_word refl in
            let l = length-append g.0 (e.symbol ∷ []) in
            let short = ap length same in
            subst (λ v. Viable inner.alphabet rules id v) same
            (live_viable inner.alphabet inner.terminator limit rules id G L gives_here grammar.one grammar.uncounted
            grammar.tail_positions g.0 (state_of p.parent) (word_leads g.1 p.parent p.is)
            (letters_of g.0 (letters_found g.1)) (omega (arith, l, short, within)) e.symbol
            ((letters_of (e.symbol ∷ []) (p.symbol, tt)).0) (state_of e) p.leads.old_next (live lt))

        by : (0 < at) ⊎ (at ≤ 0) → Viable inner.alphabet rules id w
        by (inl lt) = parent_of lt
        by (inr le) =
            let none : at ≡ 0 = omega (arith, le) in
            let same = one_word here_word start none in
            let l = ap length same in
            absurd (omega (arith, some, l))

    -- the samples that lead astray are reported, if there is room for one
    module _ (in_order : AreInLineOrder Inner samples) (edges : Bool) (ends : AreEndsOf edges flat Inner samples)
        (live : List Bool) (same : length live ≡ length samples)
        (led : AreLedBy G L samples (length samples) (state_of e) live) (wrong : List ℕ)
        (are : AreWrongTo samples live edges (length samples) wrong) where
      ends_here : AreEndsOf edges G Inner samples
      ends_here = subst (λ v. AreEndsOf edges v Inner samples) (sym grammar.is) ends

      wrong_there : length w < limit → AreReportedWrong inner.alphabet inner.terminator limit rules id edges w wrong
      wrong_there room = wrong_reported G L (state_of e) inner.alphabet inner.terminator limit rules id w
          (on_can inner.alphabet inner.terminator limit rules id G L gives_here grammar.one grammar.uncounted
          grammar.tail_positions w (state_of e) here_leads (letters_found here_word) within)
          (λ c symbol a. astray_wrong inner.alphabet inner.terminator limit rules id G L gives_here grammar.one
          grammar.uncounted grammar.tail_positions w (state_of e) here_leads (letters_found here_word) within c symbol
          room a) samples each_here in_order edges ends_here live same led wrong are

      pub wrong_within : (new : List ℕ) → AreKeptWithin limit (length w) wrong new
          → AreReportedWrong inner.alphabet inner.terminator limit rules id edges w new
      wrong_within new kept = by (cases_lt (length w) limit)
        where
          by : (length w < limit) ⊎ (limit ≤ length w)
              → AreReportedWrong inner.alphabet inner.terminator limit rules id edges w new
          by (inl room) = subst (λ v. AreReportedWrong inner.alphabet inner.terminator limit rules id edges w v)
              (sym (kept.0 room)) (wrong_there room)
          by (inr full) = none_reported_wrong inner.alphabet inner.terminator limit rules id edges w new full
              (kept.1 full)

    pub prefix_is : (0 < at → IsLive (state_of e)) → (edges : Bool) (p : StatePrefix) → p.prefix.items ≡ w
        → p.is_refused ≡ not e.pair.old_ended
        → AreReportedWrong inner.alphabet inner.terminator limit rules id edges w p.wrong.items
        → IsStatePrefix inner.alphabet inner.terminator limit rules id edges p
    prefix_is live edges p is refused wrong = record {
      symbols = subst (λ v. AreLetters Inner v) (sym is) (letters_found here_word);
      within = subst (λ v. length v ≤ limit) (sym is) within;
      viable = subst (λ v. 0 < length v → Viable inner.alphabet rules id v) (sym is) (viable_here live);
      refused = λ so d. cc (
        so,
        refused,
        derives_ended inner.alphabet inner.terminator limit rules id G L gives_here grammar.one grammar.uncounted
            grammar.tail_positions w (state_of e) here_leads (letters_of w (letters_found here_word)) within
            (subst (λ v. RuleDerives (has_letter inner.alphabet) rules id v) is d),
      );
      derived = λ runs. subst (λ v. RuleDerives (has_letter inner.alphabet) rules id v) (sym is)
          (ended_derives inner.alphabet inner.terminator limit rules id G L gives_here grammar.one grammar.uncounted
          grammar.tail_positions w (state_of e) here_leads (letters_of w (letters_found here_word)) within
          (true_of e.pair.old_ended (sym refused ∙ runs)));
      wrong = subst (λ v. AreReportedWrong inner.alphabet inner.terminator limit rules id edges v p.wrong.items)
          (sym is) wrong;
    }
      where
        true_of : (b : Bool) → not b ≡ false → b ≡ true
        true_of true so = refl
        true_of false so = cc so

-- one more prefix is reported
module _ (inner : LineSymbols) (flat : Flat) (samples : List ℕ) (old mid new : FoundStates)
    (for : IsSearchFor flat inner samples old) (at : ℕ) (ahead : IsNextLive old (Some at)) (live : List Bool)
    (e : IsExpanded samples old mid at live) (states : new.states ≡ mid.states)
    (pairs : new.pairs ≡ mid.pairs) (index : new.at ≡ at + 1) where
  states_grown : AreMoreStates old.states new.states
  states_grown = subst (λ v. AreMoreStates old.states v) (sym states) e.more

  pairs_still : AreFoundStill old.pairs new.pairs
  pairs_still = subst (λ v. AreFoundStill old.pairs v) (sym pairs) e.still

  at_old : SearchesStates (line_symbols inner) samples old at 0
  at_old =
      let le = ahead.0 in
      let lt = ahead.1 in
      states_skipped (line_symbols inner) samples old old.at (at - old.at) at (omega (arith, le)) (omega (arith, lt))
      ahead.3 for.searches

  at_mid : SearchesStates (line_symbols inner) samples mid (at + 1) 0
  at_mid =
      let s = e.search (line_symbols inner) for.order at_old in
      record {
        found = search_iteration (line_symbols inner) samples mid.states mid.states mid.pairs at 0 (length samples)
            (omega arith) s.found;
        own = s.own;
      }

  at_new : SearchesStates (line_symbols inner) samples new new.at 0
  at_new = subst (λ v. SearchesStates (line_symbols inner) samples new v 0) (sym index)
      (subst (λ v. IsStateSearch (line_symbols inner) samples v new.pairs (at + 1) 0) (sym states)
      (subst (λ v. IsStateSearch (line_symbols inner) samples mid.states v (at + 1) 0) (sym pairs) at_mid))

  pub search_on : IsSearchFor flat inner samples new
  search_on = record {
    grammar = still_of flat old.states new.states states_grown.same for.grammar;
    searches = at_new;
    each = for.each;
    order = for.order;
  }

  -- the entry of the state
  entry_here : (f : FoundPair) × (slice_get (found_pairs old.states old.states old.pairs) at ≡ Some f)
  entry_here = element_at (found_pairs old.states old.states old.pairs) at
      (let lt = ahead.1 in let l = length-map old.pairs (found_pair old.states old.states) in
      omega (arith, lt, l))

  still_passed : (i : ℕ) → i < length old.pairs → IsStatePassed old i → IsStatePassed new i
  still_passed i lt passed = (
    passed.0,
    λ s f live. passed.1 s (found_back old new states_grown pairs_still (line_symbols inner) samples old.at 0
        for.searches i lt s f)
        live,
  )

  module _ (limit : ℕ) (rules : List Rule) (id : ℕ) (gives : GivesPrefixesTo inner.alphabet limit rules id flat)
      (w : List ℕ) (word : IsWordIn old.pairs at w) (within : length w ≤ limit) (edges : Bool)
      (ends : AreEndsOf edges flat (line_symbols inner) samples) (p : StatePrefix)
      (is : p.prefix.items ≡ w)
      (refused : (s : StateSet) → IsFoundAt new at s → p.is_refused ≡ not s.ended)
      (wrong : List ℕ) (are : AreWrongTo samples live edges (length samples) wrong)
      (kept : AreKeptWithin limit (length w) wrong p.wrong.items) where
    prefix_right : IsStatePrefix inner.alphabet inner.terminator limit rules id edges p
    prefix_right =
        let f = entry_here in
        let there = found_state inner limit rules id flat gives samples for.each old for.grammar at at_old at f.0 f.1 in
        prefix_is inner limit rules id flat gives samples for.each old for.grammar at at_old at w word f.0 f.1 within
        (λ lt. ahead.2 lt (state_of f.0) there) edges p is
        (refused (state_of f.0) (found_still old new states_grown pairs_still at (state_of f.0) there))
        (wrong_within inner limit rules id flat gives samples for.each old for.grammar at at_old at w word f.0 f.1
        within for.order edges ends live e.count (e.led (state_of f.0) there) wrong are p.wrong.items kept)

    module _ (ps : List StatePrefix) (reported : AreReportedIn inner limit rules id edges old ps) where
      abbrev More : List StatePrefix
      More = ps ++ p ∷ []

      word_new : IsWordIn new.pairs at p.prefix.items
      word_new = subst (λ v. IsWordIn new.pairs at v) (sym is)
          (word_still old.pairs new.pairs pairs_still at w word)

      abbrev IsReportedNow : ℕ → Type 0
      IsReportedNow i = IsStatePassed new i ⊎ ((q : StatePrefix) × Contains More q
          × IsWordIn new.pairs i q.prefix.items)

      each_reported : (i : ℕ) → i < new.at → IsReportedNow i
      each_reported i lt = by (cases_lt i old.at) (cases_lt i at)
        where
          before : IsStatePassed old i ⊎ ((q : StatePrefix) × Contains ps q
              × IsWordIn old.pairs i q.prefix.items) → i < length old.pairs → IsReportedNow i
          before (inl passed) less = inl (still_passed i less passed)
          before (inr q) less = inr (
            q.0,
            Contains-append_left ps (p ∷ []) q.0 q.1,
            word_still old.pairs new.pairs pairs_still i q.0.prefix.items q.2,
          )

          by : (i < old.at) ⊎ (old.at ≤ i) → (i < at) ⊎ (at ≤ i) → IsReportedNow i
          by (inl less) _ = before (reported.each i less)
              (let le = ahead.0 in let below = ahead.1 in omega (arith, less, le, below))
          by (inr ge) (inl less) = inl (still_passed i (let below = ahead.1 in omega (arith, less, below))
              (ahead.3 i ge less))
          by (inr ge) (inr after) =
              let here : at ≡ i = omega (arith, after, lt, index) in
              inr (p, Contains-push ps p, subst (λ v. IsWordIn new.pairs v p.prefix.items) here word_new)

      from_reported : (q : StatePrefix) → Contains More q → (i : ℕ) × (i < new.at)
          × IsWordIn new.pairs i q.prefix.items
      from_reported q h = by (Contains-push_cases ps p q h)
        where
          by : Contains ps q ⊎ (p ≡ q) → (i : ℕ) × (i < new.at) × IsWordIn new.pairs i q.prefix.items
          by (inl there) =
              let f = reported.from q there in (
                f.0,
                (let lt = f.1 in let le = ahead.0 in omega (arith, lt, le, index)),
                word_still old.pairs new.pairs pairs_still f.0 q.prefix.items f.2,
              )
          by (inr same) = (
            at,
            omega (arith, index),
            subst (λ v. IsWordIn new.pairs at v.prefix.items) same word_new,
          )

      prefixes_rise : (k : ℕ) (d : StatePrefix) → k < length ps
          → IsShortlexBefore (get_or ps k d).prefix.items p.prefix.items
      prefixes_rise k d lt =
          let f = reported.from (get_or ps k d) (Contains-get_or ps k d lt) in
          let less = f.1 in
          let le = ahead.0 in
          subst (λ v. IsShortlexBefore (get_or ps k d).prefix.items v) (sym is)
          (words_ascend (line_symbols inner) (grammar_of old.states) (last_in old.states) (grammar_of old.states)
          (last_in old.states) (found_pairs old.states old.states old.pairs) at_old.found.found
          (f.2 old.states old.states) (word old.states old.states) (omega (arith, less, le)))

      pub one_more_reported : AreReportedIn inner limit rules id edges new More
      one_more_reported = record {
        first = record {
          are = All-push (IsStatePrefix inner.alphabet inner.terminator limit rules id edges) ps p
              reported.first.are prefix_right;
          rise = all_pairs_push (λ a b. IsShortlexBefore a.prefix.items b.prefix.items) ps p
              reported.first.rise prefixes_rise;
          rest = prefixes_rest inner limit rules id flat gives samples for.each new search_on.grammar new.at at_new
              More each_reported from_reported;
        };
        each = each_reported;
        from = from_reported;
      }

-- no prefix is reported yet
pub none_reported : (inner : LineSymbols) (limit : ℕ) (rules : List Rule) (id : ℕ) (edges : Bool)
    (search : FoundStates) → search.at ≡ 0 → AreReportedIn inner limit rules id edges search []
none_reported inner limit rules id edges search first = record {
  first = record {
    are = λ k d lt. absurd (omega (arith, lt));
    rise = λ i j d lt less. absurd (omega (arith, less));
    rest = λ v line. inr (λ k d lt. absurd (omega (arith, lt)));
  };
  each = λ i lt. absurd (omega (arith, lt, first));
  from = λ q h. absurd (let lt = h.1 in omega (arith, lt));
}

-- a search that begins
pub begun_for : (flat : Flat) (inner : LineSymbols) (samples : List ℕ) (search : FoundStates)
    → IsSearchBegun flat search → AreSamples flat flat (line_symbols inner) samples
    → AreInLineOrder (line_symbols inner) samples → IsSearchFor flat inner samples search
begun_for flat inner samples search begun each in_order = record {
  grammar = begun.grammar;
  searches = subst (λ v. SearchesStates (line_symbols inner) samples search v 0) (sym begun.at_first)
      (begun.starts (line_symbols inner) samples);
  each = each;
  order = in_order;
}

pub prefixes_begun : (alphabet : Alphabet) (terminator limit : ℕ) (edges : Bool) (rules : List Rule) (id : ℕ)
    (flat : Flat) (search : FoundStates) → GivesPrefixesTo alphabet limit rules id flat → search.at ≡ 0
    → ArePrefixesOf alphabet terminator limit edges rules id (record {
      set = record { flat = flat; alphabet = alphabet; terminator = terminator; limit = limit; edges = edges };
      search = Some search;
    })
prefixes_begun alphabet terminator limit edges rules id flat search gives first = record {
  alphabet_is = refl;
  terminator_is = refl;
  limit_is = refl;
  edges_is = refl;
  gives = gives;
  none = record {
    search = search;
    is = refl;
    reported = none_reported (record { alphabet = alphabet; terminator = terminator }) limit rules id edges search
        first;
  };
}

-- a step of a search is one of the list
pub search_step : (rules : List Rule) (id : ℕ) (set : PrefixSet) (old new : FoundStates) (step : NextPrefix)
    → IsStepIn (symbols_in set) set.limit rules id set.edges old new step
    → IsPrefixStep rules id (record { set = set; search = Some old }) (record { set = set; search = Some new }) step
search_step rules id set old new (Prefix p) is = λ ps t.
    let one : t.search ≡ old = cc t.is in
    record {
      search = new;
      is = refl;
      reported = is ps (subst (λ v. AreReportedIn (symbols_in set) set.limit rules id set.edges v ps) one t.reported);
    }
search_step rules id set old new Done is = λ ps t.
    let one : t.search ≡ old = cc t.is in
    is ps (subst (λ v. AreReportedIn (symbols_in set) set.limit rules id set.edges v ps) one t.reported)
