-- Lines that a rule does not derive, by its first prefixes.
-- Serves: next, abnfg_main
use Rattle.std.proofs.Common.{◌≡◌, inl, inr, ℕ, ◌+◌, ◌<◌, ◌≤◌, List, [], ◌∷◌, ◌++◌, length, refl, sym}
use Rattle.std.proofs.Common.{◌∙◌, ap, subst, arith, append_assoc, append-nil, length-append, take, get_or, Vec, Global}
use Rattle.std.proofs.lemmas.Grind.{flat_map-append}
use Rattle.std.proofs.lemmas.List.Elements.{All-append, All-cons, All-head, All-map, All-nil, All-tail}
use Rattle.std.proofs.lemmas.List.Elements.{Contains-get_or}
use Rattle.std.proofs.lemmas.List.{map-append, reverse-append, take_all, take_more}
use Rattle.std.specs.List.{All, flat_map}
use Rattle.std.specs.Prelude.{Bool, true, false, map, reverse, Contains}
use Rattle.abnfread.specs.Element.{Rule}
use Rattle.abnfcheck.specs.Derivable.{RuleDerives}
use Rattle.abnfcheck.specs.Prefixes.{BeginsMember}
use Rattle.ruletable.specs.Letters.{has as has_letter}
use Rattle.ruletable.specs.declared.alphabet.Alphabet.{Alphabet}
use Rattle.rulelines.specs.declared.miss.prefixes.StatePrefix.{StatePrefix}
use Rattle.rulelines.specs.LineSets.{is_line_symbol}
use Rattle.rulelines.specs.Misses.{AreAllPrefixes, AreFirstPrefixes, IsMiss, IsReportedWrong}
use Rattle.rulelines.specs.Misses.{IsStatePrefix, IsViable, prefix_lines, refused_lines, wrong_lines}
use Rattle.rulelines.specs.MissLists.{AreAllMissesOf, AreFirstMisses, AreFirstMissesOf, AreLinesReported, MissList}
use Rattle.rulelines.specs.MissLists.{item_lines, waiting_lines}
use Rattle.rulelines.specs.MissSearch.{ArePrefixesReported}
use Rattle.rulelines.proofs.SearchLemmas.{or_left}
use Rattle.rulelines.proofs.ViableLemmas.{derived_viable, letters_join, take_prefix}

-- one more line
pub lines_more : (lines : List (Vec ℕ Global)) (line : Vec ℕ Global)
    → item_lines (lines ++ line ∷ []) ≡ item_lines lines ++ line.items ∷ []
lines_more lines line = map-append (λ l. l.items) lines (line ∷ [])

-- a prefix with one more symbol after it
pub wrong_more : (u symbols : List ℕ) (c : ℕ)
    → wrong_lines u (symbols ++ c ∷ []) ≡ wrong_lines u symbols ++ (u ++ c ∷ []) ∷ []
wrong_more u symbols c = map-append (λ d. u ++ d ∷ []) symbols (c ∷ [])

-- lines that were put last first
pub waiting_more : (lines : List (Vec ℕ Global)) (line : Vec ℕ Global)
    → waiting_lines (lines ++ line ∷ []) ≡ line.items ∷ waiting_lines lines
waiting_more lines line =
    ap (λ v. reverse v) (map-append (λ l. l.items) lines (line ∷ []))
    ∙ reverse-append (map (λ l. l.items) lines) (line.items ∷ [])

-- lines that were put first first wait once they are reversed
pub reversed_lines : (lines : List (Vec ℕ Global)) → waiting_lines (reverse lines) ≡ item_lines lines
reversed_lines [] = refl
reversed_lines (line ∷ lines) =
    ap (λ v. waiting_lines v) (reverse-append (line ∷ []) lines) ∙ (waiting_more (reverse lines) line
    ∙ ap (λ v. line.items ∷ v) (reversed_lines lines))

-- a prefix with one more of some symbols, and with all of them
pub one_more_wrong : (u wrong : List ℕ) (i : ℕ) (old now new : List (List ℕ)) → i < length wrong
    → now ≡ old ++ wrong_lines u (take i wrong) → new ≡ now ++ (u ++ get_or wrong i 0 ∷ []) ∷ []
    → new ≡ old ++ wrong_lines u (take (i + 1) wrong)
one_more_wrong u wrong i old now new lt before pushed =
    pushed ∙ (ap (λ v. v ++ (u ++ get_or wrong i 0 ∷ []) ∷ []) before
    ∙ (append_assoc old (wrong_lines u (take i wrong)) ((u ++ get_or wrong i 0 ∷ []) ∷ [])
    ∙ ap (λ v. old ++ v) (sym (ap (λ v. wrong_lines u v) (take_more wrong i 0 lt)
    ∙ wrong_more u (take i wrong) (get_or wrong i 0)))))

pub all_wrong : (u wrong : List ℕ) (i : ℕ) (old now : List (List ℕ)) → length wrong ≤ i
    → now ≡ old ++ wrong_lines u (take i wrong) → now ≡ old ++ wrong_lines u wrong
all_wrong u wrong i old now le before = before ∙ ap (λ v. old ++ wrong_lines u v) (take_all i wrong le)

-- the lines of a prefix, the last one first
pub prefix_waits : (p : StatePrefix) (old mid new last : List (Vec ℕ Global)) → old ≡ []
    → item_lines mid ≡ item_lines old ++ refused_lines p.is_refused p.prefix.items
    → item_lines new ≡ item_lines mid ++ wrong_lines p.prefix.items p.wrong.items → last ≡ reverse new
    → waiting_lines last ≡ prefix_lines p
prefix_waits p old mid new last none first then reversed =
    ap (λ v. waiting_lines v) reversed ∙ (reversed_lines new
    ∙ (then ∙ ap (λ v. v ++ wrong_lines p.prefix.items p.wrong.items)
    (first ∙ ap (λ v. item_lines v ++ refused_lines p.is_refused p.prefix.items) none)))

module _ (alphabet : Alphabet) (terminator limit : ℕ) (rules : List Rule) (id : ℕ) (edges : Bool) where
  abbrev Miss : List ℕ → Type 0
  Miss = IsMiss alphabet terminator limit rules id edges

  module _ (p : StatePrefix) (is : IsStatePrefix alphabet terminator limit rules id edges p) where
    abbrev Here : List ℕ
    Here = p.prefix.items

    refused_is : p.is_refused ≡ true → Miss Here
    refused_is so = record {
      symbols = is.symbols;
      within = is.within;
      refused = is.refused so;
      after = length Here;
      furthest = record {
        within = omega arith;
        begins = is.viable;
        last = λ m lt le b. omega (arith, lt, le);
      };
      near = inl refl;
    }

    viable_there : (c : ℕ) → IsViable alphabet terminator limit rules id Here
        → BeginsMember (has_letter alphabet) rules id (Here ++ c ∷ []) (length Here)
    viable_there c b = record {
      rest = b.rest;
      letters = b.letters;
      derives = subst (λ v. RuleDerives (has_letter alphabet) rules id (v ++ b.rest))
          (ap (λ v. take (length Here) v) (sym (append-nil Here))
          ∙ (take_prefix Here [] ∙ sym (take_prefix Here (c ∷ [])))) b.derives;
    }

    wrong_is : (c : ℕ) → IsReportedWrong alphabet terminator limit rules id edges Here c → Miss (Here ++ c ∷ [])
    wrong_is c w = record {
      symbols = letters_join (is_line_symbol alphabet terminator) Here (c ∷ []) is.symbols (w.cannot.symbol, tt);
      within = (let room = w.cannot.room in omega (arith, room, long));
      refused = λ d. w.cannot.not_viable (derived_viable alphabet rules id (Here ++ c ∷ []) d);
      after = length Here;
      furthest = record {
        within = omega (arith, long);
        begins = λ some. viable_there c (is.viable some);
        last = λ m lt le b. w.cannot.not_viable
            (subst (λ v. BeginsMember (has_letter alphabet) rules id (Here ++ c ∷ []) v)
            (omega (arith, lt, le, long)) b);
      };
      near = inr (Here, c, refl, refl, w);
    }
      where
        long : length (Here ++ c ∷ []) ≡ length Here + 1
        long = length-append Here (c ∷ [])

    by_refused : (b : Bool) → (b ≡ true → Miss Here) → All Miss (refused_lines b Here)
    by_refused true miss = All-cons Miss Here [] (miss refl) (All-nil Miss)
    by_refused false miss = All-nil Miss

    by_wrong : (symbols : List ℕ)
        → ((c : ℕ) → Contains symbols c → IsReportedWrong alphabet terminator limit rules id edges Here c)
        → All Miss (wrong_lines Here symbols)
    by_wrong symbols are = All-map Miss (λ c. Here ++ c ∷ []) symbols
        (λ k d lt. wrong_is (get_or symbols k d) (are (get_or symbols k d) (Contains-get_or symbols k d lt)))

    lines_right : All Miss (prefix_lines p)
    lines_right = All-append Miss (refused_lines p.is_refused Here) (wrong_lines Here p.wrong.items)
        (by_refused p.is_refused refused_is) (by_wrong p.wrong.items (λ c. (is.wrong.are c).0))

  all_right : (ps : List StatePrefix) → All (IsStatePrefix alphabet terminator limit rules id edges) ps
      → All Miss (flat_map prefix_lines ps)
  all_right [] all = All-nil Miss
  all_right (p ∷ ps) all = All-append Miss (prefix_lines p) (flat_map prefix_lines ps)
      (lines_right p (All-head (IsStatePrefix alphabet terminator limit rules id edges) p ps all))
      (all_right ps (All-tail (IsStatePrefix alphabet terminator limit rules id edges) p ps all))

  all_left : (ws rest : List (List ℕ)) → All Miss (ws ++ rest) → All Miss ws
  all_left ws rest all k d lt = subst Miss (or_left ws rest k d lt)
      (all k d (let l = length-append ws rest in omega (arith, lt, l)))

  pub first_misses : (ps : List StatePrefix) → AreFirstPrefixes alphabet terminator limit rules id edges ps
      → (ws rest : List (List ℕ)) → flat_map prefix_lines ps ≡ ws ++ rest
      → AreFirstMisses alphabet terminator limit rules id edges ws
  first_misses ps first ws rest are = record {
    prefixes = ps;
    first = first;
    rest = rest;
    are = are;
    right = all_left ws rest (subst (All Miss) are (all_right ps first.are));
  }

-- what lines are reported
module _ (rules : List Rule) (id : ℕ) (list : MissList) (ws : List (List ℕ))
    (t : AreLinesReported rules id list ws) where
  pub reported_first : AreFirstMissesOf rules id list ws
  reported_first = first_misses list.prefixes.set.alphabet list.prefixes.set.terminator list.prefixes.set.limit rules id
      list.prefixes.set.edges t.prefixes t.reported.reported.first ws list.waiting t.are

  none_waiting : list.waiting ≡ [] → flat_map prefix_lines t.prefixes ≡ ws
  none_waiting none = t.are ∙ (ap (λ v. ws ++ v) none ∙ append-nil ws)

  -- all prefixes are reported
  pub all_reported : list.waiting ≡ [] → AreAllPrefixes list.prefixes.set.alphabet list.prefixes.set.terminator
      list.prefixes.set.limit rules id t.prefixes
      → AreAllMissesOf rules id list ws
  all_reported none all = record {
    prefixes = t.prefixes;
    first = t.reported.reported.first;
    all = all;
    are = none_waiting none;
  }

  -- the lines of one more wait
  pub lines_refilled : (new : MissList) (p : StatePrefix) → list.waiting ≡ []
      → ArePrefixesReported rules id new.prefixes (t.prefixes ++ p ∷ []) → new.waiting ≡ prefix_lines p
      → AreLinesReported rules id new ws
  lines_refilled new p none reported waits = record {
    prefixes = t.prefixes ++ p ∷ [];
    reported = reported;
    are = flat_map-append prefix_lines t.prefixes (p ∷ [])
        ∙ (ap (λ v. v ++ (prefix_lines p ++ [])) (none_waiting none)
        ∙ ap (λ v. ws ++ v) (append-nil (prefix_lines p) ∙ sym waits));
  }

  -- one of them is reported
  pub one_reported : (new : MissList) (w : List ℕ) → new.prefixes ≡ list.prefixes → list.waiting ≡ w ∷ new.waiting
      → AreLinesReported rules id new (ws ++ w ∷ [])
  one_reported new w same waits = record {
    prefixes = t.prefixes;
    reported = subst (λ v. ArePrefixesReported rules id v t.prefixes) (sym same) t.reported;
    are = t.are ∙ (ap (λ v. ws ++ v) waits ∙ sym (append_assoc ws (w ∷ []) new.waiting));
  }

-- none is reported yet
pub no_lines_reported : (rules : List Rule) (id : ℕ) (list : MissList) → ArePrefixesReported rules id list.prefixes []
    → list.waiting ≡ [] → AreLinesReported rules id list []
no_lines_reported rules id list reported none = record { prefixes = []; reported = reported; are = sym none }

-- .. and no prefix
pub no_prefixes : (alphabet : Alphabet) (terminator limit : ℕ) (rules : List Rule) (id : ℕ) (edges : Bool)
    → AreFirstPrefixes alphabet terminator limit rules id edges []
no_prefixes alphabet terminator limit rules id edges = record {
  are = λ k d lt. absurd (omega (arith, lt));
  rise = λ i j d lt less. absurd (omega (arith, less));
  rest = λ v line. inr (λ k d lt. absurd (omega (arith, lt)));
}
