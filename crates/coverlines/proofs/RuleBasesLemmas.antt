-- Where the lists that are known of rules are parts of others, and the lines that are kept.
-- Serves: cover_lines
use Rattle.std.proofs.Common.{◌≡◌, ◌⊎◌, inl, inr, ⊎_elim, ℕ, zero, suc, ◌+◌, ◌<◌, ◌≤◌, Bool, List, [], ◌∷◌, ◌++◌, map}
use Rattle.std.proofs.Common.{take, get_or, length, length-append, Contains, Option, Some, Vec, Global, refl, sym}
use Rattle.std.proofs.Common.{◌∙◌, ap, subst, arith}
use Rattle.std.specs.List.{AllPairs}
use Rattle.std.proofs.lemmas.List.{get_or-take, get_or_default, length-map, length-take-le, map-append}
use Rattle.std.proofs.lemmas.List.Elements.{Contains-append_cases, Contains-append_left, Contains-append_right}
use Rattle.std.proofs.lemmas.List.Elements.{Contains-get_or}
use Rattle.std.proofs.lemmas.List.Quantifiers.{all_pairs_push}
use Rattle.fixpoint.specs.NumberMarks.{IsMarked}
use Rattle.fixpoint.specs.Reach.{Reaches, further, here}
use Rattle.fixpoint.specs.StepRows.{AreStepsWithin, Step, row_at, rows_of}
use Rattle.coverlines.specs.CoverLines.{ComesLater, Falls, line_items}
use Rattle.coverlines.specs.KnownWords.{known_at}
use Rattle.coverlines.specs.NeededLines.{AddsNamedLines, AreBases, AreNamedWords, AreNeeded, AreRowIds, HasKnown}
use Rattle.coverlines.specs.NeededLines.{HasWord}
use Rattle.coverlines.specs.NeededLines.{HaveIdsBelow, IsBaseLine, IsCopyIn, IsCovered, IsKeptKnown}
use Rattle.coverlines.specs.NeededLines.{IsNamedLine, IsNamedWord, IsPart, IsReachedIn, IsWithin, NamesIn, itself}
use Rattle.coverlines.specs.NeededLines.{part_of}
use Rattle.coverlines.specs.RuleContexts.{context_at, sites_at}
use Rattle.coverlines.specs.Sites.{Stood, stood_of}
use Rattle.coverlines.specs.declared.context.LineContext.{LineContext}
use Rattle.coverlines.specs.declared.cover.CoverLine.{CoverLine}
use Rattle.coverlines.specs.declared.needed.Bases.{Bases}
use Rattle.coverlines.specs.declared.needed.RuleWord.{RuleWord}
use Rattle.coverlines.specs.declared.sites.Site.{Site}
use Rattle.coverlines.specs.declared.words.Words.{Words}
use Rattle.coverlines.proofs.MemberLemmas.{first_in, from_mapped, item_in, mapped_in, none_in, only_in, taken_more}
use Rattle.coverlines.proofs.MemberLemmas.{taken_past}

-- rules that sites name
pub no_named_words : (words : Words) (sites : List Stood) → AreNamedWords words sites []
no_named_words words sites = λ n among. absurd (none_in n among)

module _ (words : Words) (all : List Site) (i : ℕ) (site : Site) (lt : i < length all) (is : site ≡ get_or all i site)
  where
    sites_more : map stood_of (take (i + 1) all) ≡ map stood_of (take i all) ++ stood_of site ∷ []
    sites_more = ap (map stood_of) (taken_more all i site lt is) ∙ map-append stood_of (take i all) (site ∷ [])

    pub same_named : (old : List RuleWord) → AreNamedWords words (map stood_of (take i all)) old
        → AreNamedWords words (map stood_of (take (i + 1) all)) old
    same_named old h = λ n among.
        let at = h n among in record {
          site = at.site;
          among = subst (λ xs. Contains xs at.site) (sym sites_more)
              (Contains-append_left (map stood_of (take i all)) (stood_of site ∷ []) at.site at.among);
          named = at.named;
        }

    pub next_named : (old new : List RuleWord) (x : RuleWord) → new ≡ old ++ x ∷ []
        → IsNamedWord words (stood_of site) x → AreNamedWords words (map stood_of (take i all)) old
        → AreNamedWords words (map stood_of (take (i + 1) all)) new
    next_named old new x same one h = λ n among. ⊎_elim (λ l. same_named old h n l)
        (λ r. record {
          site = stood_of site;
          among = subst (λ xs. Contains xs (stood_of site)) (sym sites_more)
              (Contains-append_right (map stood_of (take i all)) (stood_of site ∷ []) (stood_of site)
              (first_in (stood_of site) []));
          named = subst (IsNamedWord words (stood_of site)) (only_in x n r) one;
        }) (Contains-append_cases old (x ∷ []) n (subst (λ xs. Contains xs n) same among))

pub all_named : (words : Words) (all : List Site) (n : ℕ) (found : List RuleWord) → length all ≤ n
    → AreNamedWords words (map stood_of (take n all)) found → AreNamedWords words (map stood_of all) found
all_named words all n found le h = subst (λ (xs : List Site). AreNamedWords words (map stood_of xs) found)
    (taken_past all n le) h

-- the id of one more
pub next_id : (named : List RuleWord) (i : ℕ) (one : RuleWord) (word old new : List ℕ) → i < length named
    → one ≡ get_or named i one → one.word.items ≡ word → new ≡ old ++ one.id ∷ []
    → ((id : ℕ) → Contains old id → HasWord named word id) → (id : ℕ) → Contains new id → HasWord named word id
next_id named i one word old new lt is word_is same h = λ id among. ⊎_elim (λ prior. h id prior)
    (λ last. record {
      one = one;
      among = item_in named i one lt is;
      id_is = only_in one.id id last;
      word_is = word_is;
    }) (Contains-append_cases old (one.id ∷ []) id (subst (λ xs. Contains xs id) same among))

-- lines of one more
pub next_named_line : (outer : LineContext) (context : Option LineContext) (named : List RuleWord) (i : ℕ)
    (one : RuleWord) (line : RuleWord) (first old new : List RuleWord) → context ≡ Some outer → i < length named
    → one ≡ get_or named i one → line.id ≡ one.id
    → line.word.items ≡ outer.before.items ++ (one.word.items ++ outer.after.items) → new ≡ old ++ line ∷ []
    → AddsNamedLines context named first old → AddsNamedLines context named first new
next_named_line outer context named i one line first old new outer_is lt is id_is word_is same h = λ l among. ⊎_elim
    (λ prior. h l prior)
    (λ last. inr (subst (IsNamedLine context named) (only_in line l last) (record {
      outer = outer;
      one = one;
      outer_is = outer_is;
      among = item_in named i one lt is;
      id_is = id_is;
      word_is = word_is;
    }))) (Contains-append_cases old (line ∷ []) l (subst (λ xs. Contains xs l) same among))

-- a row more
row_pushed : (rs : List (List ℕ)) (r : List ℕ) (q m : ℕ) → Contains (row_at (rs ++ r ∷ []) q) m
    → Contains (row_at rs q) m ⊎ ((q ≡ length rs) × Contains r m)
row_pushed [] r zero m h = inr (refl, h)
row_pushed [] r (suc q) m h = inl h
row_pushed (x ∷ rs) r zero m h = inl h
row_pushed (x ∷ rs) r (suc q) m h = ⊎_elim (λ l. inl l) (λ p. inr (ap suc p.0, p.1)) (row_pushed rs r q m h)

module _ (words : Words) (sites : List (Vec Site Global)) (contexts : List (Option LineContext)) where
  pub record AreBasesTo (n : ℕ) (rows : List (Vec ℕ Global)) (lines : List RuleWord) : Type 0 where
    pub count : length rows ≡ n
    pub rows_are : (outer id : ℕ) → Step (rows_of rows) outer id → IsPart words sites outer id
    pub below : (outer id : ℕ) → Step (rows_of rows) outer id → id < length words.known.now
    pub lines_are : (l : RuleWord) → Contains lines l → NamesIn words sites contexts l.word.items l.id
    pub within : HaveIdsBelow (length words.known.now) lines

  pub no_bases : AreBasesTo 0 [] []
  no_bases = record {
    count = refl;
    rows_are = λ outer id step. absurd (none_in id (no_row outer id step));
    below = λ outer id step. absurd (none_in id (no_row outer id step));
    lines_are = λ l among. absurd (none_in l among);
    within = λ l among. absurd (none_in l among);
  }
    where
      no_row : (q m : ℕ) → Contains (row_at [] q) m → Contains [] m
      no_row zero m h = h
      no_row (suc q) m h = h

  pub next_bases : (n : ℕ) (named : List RuleWord) (known : Option (Vec ℕ Global)) (context : Option LineContext)
      (ids : Vec ℕ Global) (rows rows' : List (Vec ℕ Global)) (old new : List RuleWord)
      → known_at words.known.now n ≡ known → context_at contexts n ≡ context
      → AreNamedWords words (sites_at sites n) named → AreRowIds known named ids.items → rows' ≡ rows ++ ids ∷ []
      → AddsNamedLines context named old new → AreBasesTo n rows old → AreBasesTo (n + 1) rows' new
  next_bases n named known context ids rows rows' old new known_is context_is are row same adds h = record {
    count = let k = h.count in let m = ap length same in let l = length-append rows (ids ∷ []) in
        omega (arith, k, m, l);
    rows_are = λ outer id step. ⊎_elim (λ l. h.rows_are outer id l)
        (λ r. part outer id (r.0 ∙ counted) r.1) (cases outer id step);
    below = λ outer id step. ⊎_elim (λ l. h.below outer id l)
        (λ r. let w = row id r.1 in let a = (are w.has.one w.has.among).named.inside in
        subst (λ k. k < length words.known.now) w.has.id_is a) (cases outer id step);
    lines_are = λ l among. ⊎_elim (λ prior. h.lines_are l prior) (λ r. names l r) (adds l among);
    within = λ l among. ⊎_elim (λ prior. h.within l prior)
        (λ r. let a = (are r.one r.among).named.inside in
        subst (λ k. k < length words.known.now) (sym r.id_is) a) (adds l among);
  }
    where
      counted : length (rows_of rows) ≡ n
      counted = let e = length-map rows (λ (v : Vec ℕ Global). v.items) in e ∙ h.count

      cases : (outer id : ℕ) → Step (rows_of rows') outer id
          → Step (rows_of rows) outer id ⊎ ((outer ≡ length (rows_of rows)) × Contains ids.items id)
      cases outer id step = row_pushed (rows_of rows) ids.items outer id
          (subst (λ rs. Contains (row_at rs outer) id)
          (ap rows_of same ∙ map-append (λ (v : Vec ℕ Global). v.items) rows (ids ∷ [])) step)

      part : (outer id : ℕ) → outer ≡ n → Contains ids.items id → IsPart words sites outer id
      part outer id at among =
          let w = row id among in subst (λ q. IsPart words sites q id) (sym at) (record {
            list = w.list;
            one = w.has.one;
            known_is = known_is ∙ w.known_is;
            at = are w.has.one w.has.among;
            id_is = w.has.id_is;
            is = w.has.word_is;
          })

      names : (l : RuleWord) → IsNamedLine context named l → NamesIn words sites contexts l.word.items l.id
      names l r = record {
        rule = n;
        context = r.outer;
        one = r.one;
        context_is = context_is ∙ r.outer_is;
        at = are r.one r.among;
        id_is = sym r.id_is;
        is = r.word_is;
      }

  pub all_bases : (n : ℕ) (found : Bases) → length sites ≤ n → n ≤ length sites
      → AreBasesTo n found.rows.items found.lines.items → AreBases words sites contexts found
  all_bases n found le ge h = record {
    count = let k = h.count in omega (arith, k, le, ge);
    rows = h.rows_are;
    below = h.below;
    lines = h.lines_are;
    within = h.within;
  }

  pub steps_within : (found : Bases) → length words.known.now ≡ length sites → AreBases words sites contexts found
      → AreStepsWithin (rows_of found.rows.items)
  steps_within found same are = record {
    within = λ n m step. let lt = are.below n m step in let k = are.count in
        let l = length-map found.rows.items (λ (v : Vec ℕ Global). v.items) in omega (arith, lt, k, l, same);
  }

-- the lines that are kept
module _ (words : Words) (sites : List (Vec Site Global)) (contexts : List (Option LineContext)) where
  chain_within : (rows : List (List ℕ)) → ((outer id : ℕ) → Step rows outer id → IsPart words sites outer id)
      → {root id : ℕ} → Reaches rows root id → IsWithin words sites root id
  chain_within rows parts here = itself
  chain_within rows parts (further {n = n} {m = m} chain step) = part_of (chain_within rows parts chain)
      (parts n m step)

  pub line_has : (found : Bases) (line : List ℕ) (id : ℕ) → AreBases words sites contexts found
      → IsReachedIn found.lines.items (rows_of found.rows.items) line id → HasKnown words sites contexts line id
  line_has found line id are r =
      let one = r.has.one in
      let names = are.lines one r.has.among in record {
        root = r.root;
        names = subst (λ w. NamesIn words sites contexts w r.root) r.has.word_is
            (subst (λ i. NamesIn words sites contexts one.word.items i) r.has.id_is names);
        within = chain_within (rows_of found.rows.items) are.rows r.chain;
      }

  -- the lines so far
  pub record AreNeededTo (lines kept : List CoverLine) (marks : List Bool) : Type 0 where
    pub order : AllPairs ComesLater kept
    pub right : (k : CoverLine) → Contains kept k → IsCopyIn lines k
    pub covered : (l : CoverLine) → Contains lines l → IsCovered words sites contexts kept l
    pub marked : (id : ℕ) → IsMarked marks id → IsKeptKnown words sites contexts kept id

  pub none_needed : (marks : List Bool) → ((id : ℕ) → IsMarked marks id → ⊥) → AreNeededTo [] [] marks
  none_needed marks none = record {
    order = λ i j d lt within. absurd (omega (arith, within));
    right = λ k among. absurd (none_in k among);
    covered = λ l among. absurd (none_in l among);
    marked = λ id is. absurd (none id is);
  }

  pub all_needed : (lines kept : List CoverLine) (marks : List Bool) (n : ℕ) → length lines ≤ n
      → AreNeededTo (take n lines) kept marks → AreNeeded words sites contexts lines kept
  all_needed lines kept marks n le h =
      let whole = subst (λ (xs : List CoverLine). AreNeededTo xs kept marks) (taken_past lines n le) h in
      record { right = whole.right; covered = whole.covered }

  module _ (lines : List CoverLine) (i : ℕ) (line : CoverLine) (lt : i < length lines)
      (is : line ≡ get_or lines i line) where
    longer_copy : (k : CoverLine) → IsCopyIn (take i lines) k → IsCopyIn (take (i + 1) lines) k
    longer_copy k c = record {
      line = c.line;
      among = subst (λ xs. Contains xs c.line) (sym (taken_more lines i line lt is))
          (Contains-append_left (take i lines) (line ∷ []) c.line c.among);
      goal_is = c.goal_is;
      line_is = c.line_is;
    }

    taken_cases : (l : CoverLine) → Contains (take (i + 1) lines) l → Contains (take i lines) l ⊎ (line ≡ l)
    taken_cases l among = ⊎_elim (λ a. inl a) (λ r. inr (only_in line l r)) (Contains-append_cases (take i lines)
        (line ∷ []) l (subst (λ xs. Contains xs l) (taken_more lines i line lt is) among))

    -- a line that is left out
    pub left_out : (kept : List CoverLine) (marks : List Bool)
        → (Contains (line_items kept) line.line.items
        ⊎ (IsMarked marks line.goal.rule × IsBaseLine words.known.now contexts line))
        → AreNeededTo (take i lines) kept marks → AreNeededTo (take (i + 1) lines) kept marks
    left_out kept marks why h = record {
      order = h.order;
      right = λ k among. longer_copy k (h.right k among);
      covered = λ l among. ⊎_elim (λ prior. h.covered l prior)
          (λ same. subst (IsCovered words sites contexts kept) same
          (⊎_elim (λ a. inl a) (λ b. inr (record { base = b.1; kept_known = h.marked line.goal.rule b.0 })) why))
          (taken_cases l among);
      marked = h.marked;
    }

    -- a line that is kept
    module _ (kept new : List CoverLine) (copy : CoverLine) (same : new ≡ kept ++ copy ∷ [])
        (goal_is : copy.goal ≡ line.goal) (line_is : copy.line.items ≡ line.line.items) where
      still_kept : (k : CoverLine) → Contains kept k → Contains new k
      still_kept k among = subst (λ xs. Contains xs k) (sym same) (Contains-append_left kept (copy ∷ []) k among)

      copy_kept : Contains new copy
      copy_kept = subst (λ xs. Contains xs copy) (sym same)
          (Contains-append_right kept (copy ∷ []) copy (first_in copy []))

      still_known : (id : ℕ) → IsKeptKnown words sites contexts kept id → IsKeptKnown words sites contexts new id
      still_known id k = record { other = k.other; among = still_kept k.other k.among; has = k.has }

      still_covered : (l : CoverLine) → IsCovered words sites contexts kept l
          → IsCovered words sites contexts new l
      still_covered l (inl among) =
          let m = from_mapped (λ (x : CoverLine). x.line.items) l.line.items kept among in
          inl (subst (Contains (line_items new)) m.2
          (mapped_in (λ (x : CoverLine). x.line.items) m.0 new (still_kept m.0 m.1)))
      still_covered l (inr n) = inr (record {
        base = n.base;
        kept_known = still_known l.goal.rule n.kept_known;
      })

      pub one_kept : (marks marks' : List Bool) → AllPairs Falls lines
          → (Contains (line_items kept) line.line.items → ⊥)
          → ((id : ℕ) → IsMarked marks' id → IsMarked marks id ⊎ HasKnown words sites contexts line.line.items id)
          → AreNeededTo (take i lines) kept marks → AreNeededTo (take (i + 1) lines) new marks'
      one_kept marks marks' falls absent more h = record {
        order = subst (AllPairs ComesLater) (sym same) (all_pairs_push ComesLater kept copy h.order before);
        right = λ k among. ⊎_elim (λ prior. longer_copy k (h.right k prior))
            (λ last. subst (IsCopyIn (take (i + 1) lines)) (only_in copy k last) (record {
              line = line;
              among = subst (λ xs. Contains xs line) (sym (taken_more lines i line lt is))
                  (Contains-append_right (take i lines) (line ∷ []) line (first_in line []));
              goal_is = goal_is;
              line_is = line_is;
            })) (Contains-append_cases kept (copy ∷ []) k (subst (λ xs. Contains xs k) same among));
        covered = λ l among. ⊎_elim (λ prior. still_covered l (h.covered l prior))
            (λ own. subst (IsCovered words sites contexts new) own
            (inl (subst (Contains (line_items new)) line_is
            (mapped_in (λ (x : CoverLine). x.line.items) copy new copy_kept)))) (taken_cases l among);
        marked = λ id at. ⊎_elim (λ old. still_known id (h.marked id old))
            (λ has. record {
              other = copy;
              among = copy_kept;
              has = subst (λ w. HasKnown words sites contexts w id) (sym line_is) has;
            }) (more id at);
      }
        where
          before : (n : ℕ) (d : CoverLine) → n < length kept → ComesLater (get_or kept n d) copy
          before n d less =
              let k = get_or kept n d in
              let among = Contains-get_or kept n d less in
              let c = h.right k among in record {
                shorter = rw (line_is, c.line_is) (falls_to c.line c.among);
                other = λ e. absent (subst (Contains (line_items kept)) (e ∙ line_is)
                    (mapped_in (λ (x : CoverLine). x.line.items) k kept among));
              }
            where
              falls_to : (l : CoverLine) → Contains (take i lines) l → length line.line.items ≤ length l.line.items
              falls_to l (j, below, at) =
                  let m = length-take-le i lines (omega (arith, lt)) in
                  let less : j < i = omega (arith, below, m) in
                  let e : get_or lines j line ≡ l = get_or_default lines j line l (omega (arith, less, lt))
                  ∙ (sym (get_or-take i lines j l less) ∙ at) in
                  let f = falls j i line less lt in
                  subst (λ (x : CoverLine). length x.line.items ≤ length l.line.items) (sym is)
                  (subst (λ (x : CoverLine). length (get_or lines i line).line.items ≤ length x.line.items) e f)
