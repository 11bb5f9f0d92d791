-- A shortest list of each way.
-- Serves: made_words
use Rattle.std.proofs.Common.{◌≡◌, ◌⊎◌, inl, inr, ⊎_elim, ℕ, ◌+◌, ◌<◌, ◌≤◌, Bool, true, false, List, [], ◌∷◌}
use Rattle.std.proofs.Common.{◌++◌, map, append-nil, append_assoc, Option, Some, None, Vec, Global}
use Rattle.std.proofs.Common.{refl, sym}
use Rattle.std.proofs.Common.{◌∙◌, ap, subst, arith}
use Rattle.std.specs.Prelude.{MatchOption}
use Rattle.std.proofs.lemmas.Bool.{cases_eq}
use Rattle.std.proofs.lemmas.List.Elements.{Contains-append_left, Contains-append_right, Contains-append_cases}
use Rattle.abnfread.specs.Element as e
use Rattle.abnfread.specs.Element.{Element, Elements, Rule}
use Rattle.abnfcheck.specs.Derivable.{AreLetters, AtMost, Derives, DerivesTimes}
use Rattle.ruletable.specs.Letters.{has}
use Rattle.coverlines.specs.Goals as g
use Rattle.coverlines.specs.Goals.{HasNoneIn, IsFirstIn, IsLastIn, IsRoundGoal, Makes, member_at, swapped_case}
use Rattle.coverlines.specs.MadeWords.{AddsMade, AreMade, AreMadeIn, HasMade, MakesSo, made_of}
use Rattle.coverlines.specs.Shortest.{Admitted, IsShortest, IsShortestOf, may, Spells, SpellsTimes}
use Rattle.coverlines.specs.declared.bounds.LineBounds.{LineBounds}
use Rattle.coverlines.specs.declared.made.MadeWord.{MadeWord}
use Rattle.coverlines.specs.declared.way.GoalWay.{GoalWay}
use Rattle.coverlines.specs.declared.way.GoalWay.TheVariants.{Chosen, Taken, LeftOut, Rounds, First, Last, Same}
use Rattle.coverlines.specs.declared.way.GoalWay.TheVariants.{OtherCase}
use Rattle.coverlines.proofs.MemberLemmas.{first_in, none_in, only_in}
use Rattle.coverlines.proofs.ShortestLemmas.{alike_shortest}

-- the alternatives so far
abbrev pub IsChosenBelow : ℕ → GoalWay → Type 0
IsChosenBelow n way = (i : ℕ) × (i < n) × (way ≡ Chosen i)

module _ (b : LineBounds) (rules : List Rule) (el : Element) where
  -- one way
  one_made : (way : GoalWay) (word : Option (Vec ℕ Global)) → IsShortest (MakesSo b rules el way) b.limit word
      → AreMadeIn b rules el (λ v. v ≡ way) (made_of way word)
  one_made way None h = record {
    right = λ m among. absurd (none_in m among);
    complete = λ v w is s le. let n = h w (subst (λ x. MakesSo b rules el x w) is s) in absurd (omega (arith, n, le));
  }
  one_made way (Some t) h = record {
    right = λ m among. subst (λ x. IsShortestOf (MakesSo b rules el x.way) b.limit x.word.items)
        (only_in (record { way = way; word = t }) m among) h;
    complete = λ v w is s le. record {
      made = record { way = way; word = t };
      among = first_in (record { way = way; word = t }) [];
      same = sym is;
      within = h.least w (subst (λ x. MakesSo b rules el x w) is s);
    };
  }

  pub adds_one : (way : GoalWay) (word : Option (Vec ℕ Global)) (old new : List MadeWord)
      → IsShortest (MakesSo b rules el way) b.limit word → new ≡ old ++ made_of way word
      → AddsMade b rules el (λ v. v ≡ way) old new
  adds_one way word old new h is = record { added = made_of way word; made = one_made way word h; is = is }

  pub adds_none : (old : List MadeWord) → AddsMade b rules el (λ v. ⊥) old old
  adds_none old = record {
    added = [];
    made = record { right = λ m among. absurd (none_in m among); complete = λ v w is s le. absurd is };
    is = sym (append-nil old);
  }

  longer_left : (xs ys : List MadeWord) (way : GoalWay) (w : List ℕ) → HasMade b rules el xs way w
      → HasMade b rules el (xs ++ ys) way w
  longer_left xs ys way w h = record {
    made = h.made;
    among = Contains-append_left xs ys h.made h.among;
    same = h.same;
    within = h.within;
  }

  longer_right : (xs ys : List MadeWord) (way : GoalWay) (w : List ℕ) → HasMade b rules el ys way w
      → HasMade b rules el (xs ++ ys) way w
  longer_right xs ys way w h = record {
    made = h.made;
    among = Contains-append_right xs ys h.made h.among;
    same = h.same;
    within = h.within;
  }

  -- the ways of two sets
  pub adds_both : (P Q R : GoalWay → Type 0) (old mid new : List MadeWord) → ((way : GoalWay) → R way → P way ⊎ Q way)
      → AddsMade b rules el P old mid → AddsMade b rules el Q mid new → AddsMade b rules el R old new
  adds_both P Q R old mid new either one two = record {
    added = one.added ++ two.added;
    made = record {
      right = λ m among. ⊎_elim (λ l. one.made.right m l) (λ r. two.made.right m r)
          (Contains-append_cases one.added two.added m among);
      complete = λ way w is s le. ⊎_elim
          (λ p. longer_left one.added two.added way w (one.made.complete way w p s le))
          (λ q. longer_right one.added two.added way w (two.made.complete way w q s le)) (either way is);
    };
    is = two.is ∙ ap (λ xs. xs ++ two.added) one.is ∙ append_assoc old one.added two.added;
  }

  pub adds_fewer : (P R : GoalWay → Type 0) (old new : List MadeWord) → ((way : GoalWay) → R way → P way)
      → AddsMade b rules el P old new → AddsMade b rules el R old new
  adds_fewer P R old new to h = record {
    added = h.added;
    made = record { right = h.made.right; complete = λ way w is s le. h.made.complete way w (to way is) s le };
    is = h.is;
  }

  -- all ways
  pub all_made : (P : GoalWay → Type 0) (new : List MadeWord) → ((way : GoalWay) (w : List ℕ)
      → MakesSo b rules el way w → P way)
      → AddsMade b rules el P [] new → AreMade b rules el new
  all_made P new every h = subst (AreMade b rules el) (sym h.is) (record {
    right = h.made.right;
    complete = λ way w s le. h.made.complete way w (every way w s) s le;
  })

module _ (b : LineBounds) (rules : List Rule) where
  -- of each way a shortest list
  pub chosen_shortest : (es : Elements) (i : ℕ) (d : Element) (word : Option (Vec ℕ Global)) → member_at es i ≡ Some d
      → IsShortest (Spells b rules d) b.limit word
      → IsShortest (MakesSo b rules (e.Alt es) (Chosen i)) b.limit word
  chosen_shortest es i d word is h = alike_shortest b.limit word
      (λ w s. record { symbols = s.symbols; is = g.chosen is s.is })
      (λ w s. record { symbols = s.symbols; is = own s.is }) h
    where
      own : {w : List ℕ} → Makes (has b.alphabet) (may b) rules (e.Alt es) (Chosen i) w
          → Derives (has b.alphabet) rules d w
      own {w} (g.chosen {e = m} at s) = let same : m ≡ d = cc (at, is) in
          subst (λ k. Derives (has b.alphabet) rules k w) same s

  pub taken_shortest : (d : Element) (word : Option (Vec ℕ Global)) → IsShortest (Spells b rules d) b.limit word
      → IsShortest (MakesSo b rules (e.Opt d) Taken) b.limit word
  taken_shortest d word h = alike_shortest b.limit word
      (λ w s. record { symbols = s.symbols; is = g.taken s.is })
      (λ w s. record { symbols = s.symbols; is = own s.is }) h
    where
      own : {w : List ℕ} → Makes (has b.alphabet) (may b) rules (e.Opt d) Taken w → Derives (has b.alphabet) rules d w
      own (g.taken s) = s

  pub left_shortest : (d : Element) (word : Vec ℕ Global) → word.items ≡ []
      → IsShortest (MakesSo b rules (e.Opt d) LeftOut) b.limit (Some word)
  left_shortest d word is = subst (IsShortestOf (MakesSo b rules (e.Opt d) LeftOut) b.limit) (sym is) (record {
    is = record { symbols = tt; is = g.left_out };
    within = omega arith;
    least = λ v s. omega arith;
  })

  pub rounds_made : (a : ℕ) (most : Option ℕ) (d : Element) (k : ℕ) (word : Option (Vec ℕ Global))
      → IsRoundGoal a most k → a ≤ k → AtMost k most → IsShortest (SpellsTimes b rules d k) b.limit word
      → IsShortest (MakesSo b rules (e.Rep a most d) (Rounds k)) b.limit word
  rounds_made a most d k word goal low high h = alike_shortest b.limit word
      (λ w s. record { symbols = s.symbols; is = g.rounds goal low high s.is })
      (λ w s. record { symbols = s.symbols; is = own s.is }) h
    where
      own : {w : List ℕ} → Makes (has b.alphabet) (may b) rules (e.Rep a most d) (Rounds k) w
          → DerivesTimes (has b.alphabet) rules d k w
      own (g.rounds goal low high s) = s

  -- rounds that the bounds do not allow
  pub no_rounds_made : (a : ℕ) (most : Option ℕ) (d : Element) (k : ℕ) → ((a ≤ k) × AtMost k most → ⊥)
      → IsShortest (MakesSo b rules (e.Rep a most d) (Rounds k)) b.limit None
  no_rounds_made a most d k never = λ w s. absurd (own s.is)
    where
      own : {w : List ℕ} → Makes (has b.alphabet) (may b) rules (e.Rep a most d) (Rounds k) w → ⊥
      own (g.rounds goal low high s) = never (low, high)

  pub same_text_shortest : (folds : Bool) (t : List ℕ) (word : Option (Vec ℕ Global))
      → IsShortest (Admitted b (λ w. w ≡ t)) b.limit word
      → IsShortest (MakesSo b rules (e.Text folds t) Same) b.limit word
  same_text_shortest folds t word h = alike_shortest b.limit word
      (λ w s. record {
        symbols = s.symbols;
        is = subst (Makes (has b.alphabet) (may b) rules (e.Text folds t) Same)
            (sym s.is) g.same_text;
      })
      (λ w s. record { symbols = s.symbols; is = own s.is }) h
    where
      own : {folds : Bool} {t w : List ℕ} → Makes (has b.alphabet) (may b) rules (e.Text folds t) Same w → w ≡ t
      own g.same_text = refl

  pub other_text_shortest : (t : List ℕ) (word : Option (Vec ℕ Global))
      → IsShortest (Admitted b (λ w. w ≡ map swapped_case t)) b.limit word
      → IsShortest (MakesSo b rules (e.Text true t) OtherCase) b.limit word
  other_text_shortest t word h = alike_shortest b.limit word
      (λ w s. record {
        symbols = s.symbols;
        is = subst (Makes (has b.alphabet) (may b) rules (e.Text true t) OtherCase)
            (sym s.is) g.other_text;
      })
      (λ w s. record { symbols = s.symbols; is = own s.is }) h
    where
      own : {w : List ℕ} → Makes (has b.alphabet) (may b) rules (e.Text true t) OtherCase w → w ≡ map swapped_case t
      own g.other_text = refl

  pub same_values_shortest : (vs : List ℕ) (word : Option (Vec ℕ Global))
      → ((w : List ℕ) → AreLetters (may b) w → AreLetters (has b.alphabet) w)
      → IsShortest (Admitted b (λ w. w ≡ vs)) b.limit word
      → IsShortest (MakesSo b rules (e.Values vs) Same) b.limit word
  same_values_shortest vs word weaker h = alike_shortest b.limit word
      (λ w s. record {
        symbols = s.symbols;
        is = subst (Makes (has b.alphabet) (may b) rules (e.Values vs) Same)
            (sym s.is) (g.same_values (weaker vs (subst (AreLetters (may b)) s.is s.symbols)));
      })
      (λ w s. record { symbols = s.symbols; is = own s.is }) h
    where
      own : {w : List ℕ} → Makes (has b.alphabet) (may b) rules (e.Values vs) Same w → w ≡ vs
      own (g.same_values a) = refl

  pub first_shortest : (low high : ℕ) (first : Option ℕ) (word : Option (Vec ℕ Global)) →
      MatchOption first (HasNoneIn (may b) low high) (IsFirstIn (may b) low high) →
      MatchOption first (word ≡ None) (λ c. IsShortest (Admitted b (λ v. v ≡ c ∷ [])) b.limit word) →
      IsShortest (MakesSo b rules (e.Range low high) First) b.limit word
  first_shortest low high None word never is = subst (IsShortest (MakesSo b rules (e.Range low high) First) b.limit)
      (sym is) (λ w s. absurd (own s.is))
    where
      own : {w : List ℕ} → Makes (has b.alphabet) (may b) rules (e.Range low high) First w → ⊥
      own (g.first {c = c} f) = let n = never c f.from f.to in let y = f.is in cc (n, y)
  first_shortest low high (Some c) word first h = alike_shortest b.limit word
      (λ w s. record {
        symbols = s.symbols;
        is = subst (Makes (has b.alphabet) (may b) rules (e.Range low high) First)
            (sym s.is) (g.first first);
      })
      (λ w s. record { symbols = s.symbols; is = own s.is }) h
    where
      own : {w : List ℕ} → Makes (has b.alphabet) (may b) rules (e.Range low high) First w → w ≡ c ∷ []
      own (g.first {c = d} f) =
          let l = f.least c first.from first.to first.is in
          let m = first.least d f.from f.to f.is in
          ap (λ x. x ∷ []) (omega (arith, l, m))

  pub last_shortest : (low high : ℕ) (last : Option ℕ) (word : Option (Vec ℕ Global)) →
      MatchOption last (HasNoneIn (may b) low high) (IsLastIn (may b) low high) →
      MatchOption last (word ≡ None) (λ c. IsShortest (Admitted b (λ v. v ≡ c ∷ [])) b.limit word) →
      IsShortest (MakesSo b rules (e.Range low high) Last) b.limit word
  last_shortest low high None word never is = subst (IsShortest (MakesSo b rules (e.Range low high) Last) b.limit)
      (sym is) (λ w s. absurd (own s.is))
    where
      own : {w : List ℕ} → Makes (has b.alphabet) (may b) rules (e.Range low high) Last w → ⊥
      own (g.last {c = c} f) = let n = never c f.from f.to in let y = f.is in cc (n, y)
  last_shortest low high (Some c) word last h = alike_shortest b.limit word
      (λ w s. record {
        symbols = s.symbols;
        is = subst (Makes (has b.alphabet) (may b) rules (e.Range low high) Last)
            (sym s.is) (g.last last);
      })
      (λ w s. record { symbols = s.symbols; is = own s.is }) h
    where
      own : {w : List ℕ} → Makes (has b.alphabet) (may b) rules (e.Range low high) Last w → w ≡ c ∷ []
      own (g.last {c = d} f) =
          let l = f.most c last.from last.to last.is in
          let m = last.most d f.from f.to f.is in
          ap (λ x. x ∷ []) (omega (arith, l, m))

  -- a text that does not fold has no other case
  pub no_other_case : (t : List ℕ) → IsShortest (MakesSo b rules (e.Text false t) OtherCase) b.limit None
  no_other_case t = λ w s. absurd (own s.is)
    where
      own : {w : List ℕ} → Makes (has b.alphabet) (may b) rules (e.Text false t) OtherCase w → ⊥
      own m = elim m [ ]

  -- the ways of each kind of element
  text_ways : (folds : Bool) (t : List ℕ) (way : GoalWay) (w : List ℕ) → MakesSo b rules (e.Text folds t) way w
      → (way ≡ Same) ⊎ (way ≡ OtherCase)
  text_ways folds t way w s = own s.is
    where
      own : {folds : Bool} {t : List ℕ} {way : GoalWay} {w : List ℕ}
          → Makes (has b.alphabet) (may b) rules (e.Text folds t) way w → (way ≡ Same) ⊎ (way ≡ OtherCase)
      own g.same_text = inl refl
      own g.other_text = inr refl

  pub two_made : (el : Element) (one two : GoalWay) (v w : Option (Vec ℕ Global)) (mid new : List MadeWord)
      → ((way : GoalWay) (w : List ℕ) → MakesSo b rules el way w → (way ≡ one) ⊎ (way ≡ two))
      → IsShortest (MakesSo b rules el one) b.limit v → mid ≡ made_of one v
      → IsShortest (MakesSo b rules el two) b.limit w → new ≡ mid ++ made_of two w → AreMade b rules el new
  two_made el one two v w mid new ways h is k at = all_made b rules el (λ way. (way ≡ one) ⊎ (way ≡ two)) new ways
      (adds_both b rules el (λ way. way ≡ one) (λ way. way ≡ two) (λ way. (way ≡ one) ⊎ (way ≡ two)) [] mid new
      (λ way either. either) (adds_one b rules el one v [] mid h is) (adds_one b rules el two w mid new k at))

  pub text_made : (folds : Bool) (t : List ℕ) (v w : Option (Vec ℕ Global)) (mid new : List MadeWord)
      → IsShortest (Admitted b (λ x. x ≡ t)) b.limit v → mid ≡ made_of Same v
      → IsShortest (MakesSo b rules (e.Text folds t) OtherCase) b.limit w → new ≡ mid ++ made_of OtherCase w
      → AreMade b rules (e.Text folds t) new
  text_made folds t v w mid new h is k at = two_made (e.Text folds t) Same OtherCase v w mid new (text_ways folds t)
      (same_text_shortest folds t v h) is k at

  pub values_made : (vs : List ℕ) (v : Option (Vec ℕ Global)) (new : List MadeWord)
      → ((w : List ℕ) → AreLetters (may b) w → AreLetters (has b.alphabet) w)
      → IsShortest (Admitted b (λ x. x ≡ vs)) b.limit v → new ≡ made_of Same v → AreMade b rules (e.Values vs) new
  values_made vs v new weaker h is = all_made b rules (e.Values vs) (λ way. way ≡ Same) new (λ way w s. own s.is)
      (adds_one b rules (e.Values vs) Same v [] new (same_values_shortest vs v weaker h) is)
    where
      own : {way : GoalWay} {w : List ℕ} → Makes (has b.alphabet) (may b) rules (e.Values vs) way w → way ≡ Same
      own (g.same_values a) = refl

  pub range_ways : (low high : ℕ) (way : GoalWay) (w : List ℕ) → MakesSo b rules (e.Range low high) way w
      → (way ≡ First) ⊎ (way ≡ Last)
  range_ways low high way w s = own s.is
    where
      own : {way : GoalWay} {w : List ℕ} → Makes (has b.alphabet) (may b) rules (e.Range low high) way w
          → (way ≡ First) ⊎ (way ≡ Last)
      own (g.first f) = inl refl
      own (g.last f) = inr refl

  pub opt_ways : (d : Element) (way : GoalWay) (w : List ℕ) → MakesSo b rules (e.Opt d) way w
      → (way ≡ Taken) ⊎ (way ≡ LeftOut)
  opt_ways d way w s = own s.is
    where
      own : {way : GoalWay} {w : List ℕ} → Makes (has b.alphabet) (may b) rules (e.Opt d) way w
          → (way ≡ Taken) ⊎ (way ≡ LeftOut)
      own (g.taken h) = inl refl
      own g.left_out = inr refl

  pub none_chosen : (el : Element) (all : List MadeWord) → all ≡ [] → AddsMade b rules el (IsChosenBelow 0) [] all
  none_chosen el all is = subst (AddsMade b rules el (IsChosenBelow 0) []) (sym is)
      (adds_fewer b rules el (λ v. ⊥) (IsChosenBelow 0) [] [] (λ way h. omega (arith, h.1)) (adds_none b rules el []))

  pub next_chosen : (es : Elements) (i : ℕ) (d : Element) (word : Option (Vec ℕ Global)) (mid new : List MadeWord)
      → member_at es i ≡ Some d → IsShortest (Spells b rules d) b.limit word
      → AddsMade b rules (e.Alt es) (IsChosenBelow i) [] mid → new ≡ mid ++ made_of (Chosen i) word
      → AddsMade b rules (e.Alt es) (IsChosenBelow (i + 1)) [] new
  next_chosen es i d word mid new is h old at = adds_both b rules (e.Alt es) (IsChosenBelow i) (λ way. way ≡ Chosen i)
      (IsChosenBelow (i + 1)) [] mid new
      (λ way k. ⊎_elim (λ same. inr (k.2 ∙ ap Chosen same)) (λ other. inl (k.0, omega (arith, k.1, other), k.2))
      (cases_eq k.0 i))
      old (adds_one b rules (e.Alt es) (Chosen i) word mid new (chosen_shortest es i d word is h) at)

  pub all_chosen : (es : Elements) (n : ℕ) (new : List MadeWord) → ((i : ℕ) (d : Element) → member_at es i ≡ Some d
      → i < n)
      → AddsMade b rules (e.Alt es) (IsChosenBelow n) [] new → AreMade b rules (e.Alt es) new
  all_chosen es n new below h = all_made b rules (e.Alt es) (IsChosenBelow n) new (λ way w s. own s.is) h
    where
      own : {way : GoalWay} {w : List ℕ} → Makes (has b.alphabet) (may b) rules (e.Alt es) way w → IsChosenBelow n way
      own (g.chosen {i = i} {e = d} is s) = (i, below i d is, refl)

  -- the rounds
  round_ways : (a : ℕ) (most : Option ℕ) (d : Element) (last single : ℕ)
      → MatchOption most (last ≡ a + 1) (λ m. last ≡ m) → MatchOption most (single ≡ a) (λ m. single ≡ 1)
      → (way : GoalWay) (w : List ℕ) → MakesSo b rules (e.Rep a most d) way w
      → ((way ≡ Rounds a) ⊎ (way ≡ Rounds last)) ⊎ (way ≡ Rounds single)
  round_ways a most d last single is one way w s = own s.is
    where
      goals : (most : Option ℕ) (k : ℕ) → MatchOption most (last ≡ a + 1) (λ m. last ≡ m)
          → MatchOption most (single ≡ a) (λ m. single ≡ 1) → IsRoundGoal a most k
          → ((Rounds k ≡ Rounds a) ⊎ (Rounds k ≡ Rounds last)) ⊎ (Rounds k ≡ Rounds single)
      goals None k is one goal = ⊎_elim (λ l. inl (inl (ap Rounds l))) (λ r. inl (inr (ap Rounds (r ∙ sym is)))) goal
      goals (Some m) k is one goal = ⊎_elim (λ l. inl (inl (ap Rounds l)))
          (λ r. ⊎_elim (λ l. inl (inr (ap Rounds (l ∙ sym is)))) (λ u. inr (ap Rounds (u ∙ sym one))) r) goal

      own : {way : GoalWay} {w : List ℕ} → Makes (has b.alphabet) (may b) rules (e.Rep a most d) way w
          → ((way ≡ Rounds a) ⊎ (way ≡ Rounds last)) ⊎ (way ≡ Rounds single)
      own (g.rounds {k = k} goal low high h) = goals most k is one goal

  pub first_goal : (a : ℕ) (most : Option ℕ) → IsRoundGoal a most a
  first_goal a None = inl refl
  first_goal a (Some m) = inl refl

  pub last_goal : (a : ℕ) (most : Option ℕ) (last : ℕ) → MatchOption most (last ≡ a + 1) (λ m. last ≡ m)
      → IsRoundGoal a most last
  last_goal a None last is = inr is
  last_goal a (Some m) last is = inr (inl is)

  pub single_goal : (a : ℕ) (most : Option ℕ) (single : ℕ) → MatchOption most (single ≡ a) (λ m. single ≡ 1)
      → IsRoundGoal a most single
  single_goal a None single is = inl is
  single_goal a (Some m) single is = inr (inr is)

  pub all_rounds : (a : ℕ) (most : Option ℕ) (d : Element) (last single : ℕ)
      → MatchOption most (last ≡ a + 1) (λ m. last ≡ m) → MatchOption most (single ≡ a) (λ m. single ≡ 1)
      → (u v w : Option (Vec ℕ Global)) (one two new : List MadeWord)
      → IsShortest (MakesSo b rules (e.Rep a most d) (Rounds a)) b.limit u → one ≡ made_of (Rounds a) u
      → IsShortest (MakesSo b rules (e.Rep a most d) (Rounds last)) b.limit v → two ≡ one ++ made_of (Rounds last) v
      → IsShortest (MakesSo b rules (e.Rep a most d) (Rounds single)) b.limit w
      → new ≡ two ++ made_of (Rounds single) w → AreMade b rules (e.Rep a most d) new
  all_rounds a most d last single is alone u v w one two new h at k to l up = all_made b rules (e.Rep a most d)
      (λ way. ((way ≡ Rounds a) ⊎ (way ≡ Rounds last)) ⊎ (way ≡ Rounds single)) new
      (round_ways a most d last single is alone)
      (adds_both b rules (e.Rep a most d) (λ way. (way ≡ Rounds a) ⊎ (way ≡ Rounds last)) (λ way. way ≡ Rounds single)
      (λ way. ((way ≡ Rounds a) ⊎ (way ≡ Rounds last)) ⊎ (way ≡ Rounds single)) [] two new (λ way either. either)
      (adds_both b rules (e.Rep a most d) (λ way. way ≡ Rounds a) (λ way. way ≡ Rounds last)
      (λ way. (way ≡ Rounds a) ⊎ (way ≡ Rounds last)) [] one two (λ way either. either)
      (adds_one b rules (e.Rep a most d) (Rounds a) u [] one h at)
      (adds_one b rules (e.Rep a most d) (Rounds last) v one two k to))
      (adds_one b rules (e.Rep a most d) (Rounds single) w two new l up))

  -- elements without goals
  pub no_goals : (el : Element) (new : List MadeWord) → ((way : GoalWay) (w : List ℕ) → MakesSo b rules el way w → ⊥)
      → new ≡ [] → AreMade b rules el new
  no_goals el new never is = all_made b rules el (λ v. ⊥) new never
      (subst (AddsMade b rules el (λ v. ⊥) []) (sym is) (adds_none b rules el []))

  pub no_concat_goals : (es : Elements) (way : GoalWay) (w : List ℕ) → MakesSo b rules (e.Concat es) way w → ⊥
  no_concat_goals es way w s = elim s.is [ ]

  pub no_name_goals : (n : List ℕ) (way : GoalWay) (w : List ℕ) → MakesSo b rules (e.Name n) way w → ⊥
  no_name_goals n way w s = elim s.is [ ]

  pub no_prose_goals : (t : List ℕ) (way : GoalWay) (w : List ℕ) → MakesSo b rules (e.Prose t) way w → ⊥
  no_prose_goals t way w s = elim s.is [ ]
