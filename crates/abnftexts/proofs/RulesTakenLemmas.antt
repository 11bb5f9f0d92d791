-- What is taken of texts, step by step.
-- Serves: join_texts
use Rattle.std.proofs.Common.{◌≡◌, ℕ, Bool, true, false, Option, None, Some, option_map, zero, suc, ◌+◌, ◌<◌, ◌≤◌, List}
use Rattle.std.proofs.Common.{[], ◌∷◌, ◌++◌, length, get_or, map, take}
use Rattle.std.proofs.Common.{drop, refl, sym, ap, ◌∙◌, append-nil, append_assoc, arith, subst}
use Rattle.std.proofs.Math.Seq.{drop-cons}
use Rattle.std.proofs.lemmas.Grind.{flat_map-append, take_at_read}
use Rattle.std.proofs.lemmas.List.{at_drop_all, drop-map, drop_all, length-append, length-drop, length-map, map-append}
use Rattle.std.proofs.lemmas.List.{take-map, take_all}
use Rattle.ruletable.specs.declared.fault.ReadFault.{ReadFault}
use Rattle.abnfblocks.specs.TextLines.{NumberedLine, after_mark, numbered}
use Rattle.abnfblocks.specs.FoundRules.{AreFound}
use Rattle.abnfblocks.specs.MaskedLines.{AreRead, ReadsLines, ShowsText}
use Rattle.rfcforms.specs.XmlTags.{begins_xml}
use Rattle.abnfblocks.specs.declared.rfctext.text_line.TextLine.{TextLine}
use Rattle.abnfblocks.specs.RuleCuts.{blanks_first, lines_text, margin_at}
use Rattle.abnfblocks.specs.declared.found.RuleSearch.{RuleSearch}
use Rattle.abnfblocks.specs.declared.found.RuleSearch.TheVariants as found
use Rattle.abnftexts.specs.RulesGathered.{ReportedRule, RuleLines, RulesGathered, NamedText, both_given, named_text}
use Rattle.abnftexts.specs.RulesGathered.{none_given, one_rule, reported_alone}
use Rattle.abnftexts.specs.TakenRules.{AddSketches, AddsReport, AreTextRows, AreTextsFound, FindsShown, TakesGroups}
use Rattle.abnftexts.specs.TakenRules.{TakesMore, TakesRule, TextRows, next_found, none_found as no_text_found}
use Rattle.abnftexts.specs.TakenRules.{rule_count, text_found, text_rows}
use Rattle.abnftexts.specs.declared.gathered.FoundText.{FoundText}
use Rattle.abnftexts.specs.WrittenLists.{AreExpanded, WritesLists, as_they_are, with_lists}
use Rattle.rfcforms.specs.Lists.{Expands}
use Rattle.rfcforms.specs.declared.lists.written.ListForm.{ListForm}
use Rattle.abnftexts.specs.TextRules.{AreSketches, FindTexts, FindsText, GiveFound, GivesFound, GivesGroups}
use Rattle.abnftexts.specs.TextRules.{IsRuleReported, SpellRule, TextFound, asks_lists, given_by, next_rule}
use Rattle.abnftexts.specs.TextRules.{next_sketch, next_text, next_there, no_rule, no_sketches, no_texts, none_found}
use Rattle.abnftexts.specs.TextRules.{none_there, position_in, report_with, rules_seen}
use Rattle.abnftexts.specs.ValueRuns.{found_rules, groups_of, seen_at}
use Rattle.rfcvalues.specs.RuleSketches.{IsSketch, RuleSeen, SketchedRule, rule_sketched}
use Rattle.rfcvalues.specs.declared.sketch.RuleSketch.{RuleSketch}
use Rattle.abnftexts.specs.ShownTexts.{AreShown, IsShown, AreListsOut, asked, next_shown, none_shown, not_asked}
use Rattle.abnftexts.specs.declared.gathered.ShownText.{ShownText}
use Rattle.abnftexts.specs.declared.gathered.SourceText.{SourceText}
use Rattle.abnftexts.proofs.EachLemmas.{Each, each_next}
use Rattle.abnftexts.proofs.PlacedRulesLemmas.{IsReadAlone, ReadAlone}

-- the element at a position stands before what follows it
pub one-after : {A : Type 0} (xs : List A) (i : ℕ) (d : A) → i < length xs
    → drop i xs ≡ get_or xs i d ∷ drop (i + 1) xs
one-after {A} xs i d lt =
    let next : suc i ≡ i + 1 = omega arith in
    drop-cons xs i d lt ∙ ap (λ (k : ℕ). get_or xs i d ∷ drop k xs) next

-- what is given follows one and another
pub both-assoc : (a b c : RulesGathered) → both_given (both_given a b) c ≡ both_given a (both_given b c)
both-assoc a b c =
    rw (
      append_assoc a.positions b.positions c.positions,
      append_assoc a.rules b.rules c.rules,
      append_assoc a.reported b.reported c.reported,
      append_assoc a.list b.list c.list,
    ) refl

pub both-none : (a : RulesGathered) → both_given a none_given ≡ a
both-none a = rw (append-nil a.positions, append-nil a.rules, append-nil a.reported, append-nil a.list) refl

-- something is reported, and all else is as it was
with-reported : (g : RulesGathered) (reported : List ReportedRule) (more : ReportedRule)
    → reported ≡ g.reported ++ more ∷ []
    → record { positions = g.positions; rules = g.rules; reported = reported; list = g.list }
    ≡ both_given g (reported_alone more)
with-reported g reported more e = rw (e, append-nil g.positions, append-nil g.rules, append-nil g.list) refl

-- nothing is taken
pub none-taken : (Gives : RulesGathered → Type 0) (g : RulesGathered) → Gives none_given → TakesMore Gives g g
none-taken Gives g none = (none_given, none, sym (both-none g))

-- one thing is taken, and then another
pub more-taken : (One Other Both : RulesGathered → Type 0) (g h end : RulesGathered)
    → ((a b : RulesGathered) → One a → Other b → Both (both_given a b)) → TakesMore One g h → TakesMore Other h end
    → TakesMore Both g end
more-taken One Other Both g h end join one other =
    let e : end ≡ both_given g (both_given one.0 other.0) =
    other.2 ∙ ap (λ (x : RulesGathered). both_given x other.0) one.2 ∙ both-assoc g one.0 other.0 in
    (both_given one.0 other.0, join one.0 other.0 one.1 other.1, e)

abbrev position_with : List ℕ → ℕ → List NumberedLine → List NumberedLine → ℕ → List ℕ → List ℕ → RuleLines
position_with name margin sources lines blanks comments text = record {
  name = name;
  margin = margin;
  sources = sources;
  lines = lines;
  blanks = blanks;
  comments = comments;
  text = text;
}

position-same : (name : List ℕ) (m n : ℕ) (vs ws xs ys : List NumberedLine) (k l : ℕ) (comments text : List ℕ)
    → m ≡ n → vs ≡ ws → xs ≡ ys → k ≡ l → comments ≡ [] → text ≡ lines_text n ys
    → position_with name m vs xs k comments text ≡ position_with name n ws ys l [] (lines_text n ys)
position-same name m n vs ws xs ys k l comments text e d f g h t = rw (e, d, f, g, h, t) refl

pub position-made : (name : List ℕ) (all_sources rest own after : List TextLine) (count margin blanks : ℕ)
    (sources first lines : List TextLine) (comments text : List ℕ) → own ≡ take count rest → after ≡ drop count rest
    → margin ≡ margin_at (map numbered own) → sources ≡ first → first ≡ take count all_sources → lines ≡ own
    → blanks ≡ blanks_first (map numbered after) → comments ≡ [] → text ≡ lines_text margin (map numbered own)
    → position_with name margin (map numbered sources) (map numbered lines) blanks comments text
    ≡ position_in name (map numbered all_sources) (map numbered rest) count
position-made name all_sources rest own after count margin blanks sources first lines comments text front back cut
    from front_first same empty none all =
    let own_is : map numbered own ≡ take count (map numbered rest) =
    ap (λ (xs : List TextLine). map numbered xs) front ∙ sym (take-map numbered count rest) in
    let after_is : map numbered after ≡ drop count (map numbered rest) =
    ap (λ (xs : List TextLine). map numbered xs) back ∙ sym (drop-map numbered count rest) in
    let margin_is = cut ∙ ap (λ (xs : List NumberedLine). margin_at xs) own_is in
    let sources_are : map numbered sources ≡ take count (map numbered all_sources) =
    ap (λ (xs : List TextLine). map numbered xs) (from ∙ front_first) ∙ sym (take-map numbered count all_sources) in
    position-same name _ _ _ _ _ _ _ _ comments text margin_is sources_are
    (ap (λ (xs : List TextLine). map numbered xs) same ∙ own_is)
    (empty ∙ ap (λ (xs : List NumberedLine). blanks_first xs) after_is) none
    (all ∙ ap (λ (xs : List NumberedLine). lines_text margin xs) own_is
    ∙ ap (λ (m : ℕ). lines_text m (take count (map numbered rest))) margin_is)

each-at : {X : Type 0} (P : X → Type 0) (xs : List X) (i : ℕ) (d : X) → Each P xs → i < length xs → P (get_or xs i d)
each-at P [] i d h lt = absurd (omega (arith, lt))
each-at P (x ∷ xs) zero d (each_next p h) lt = p
each-at P (x ∷ xs) (suc i) d (each_next p h) lt = each-at P xs i d h (omega (arith, lt))

module _ (asks : Bool) (name : List ℕ) (kept lines : List NumberedLine) (all : List RuleSearch) (i : ℕ)
    (d : RuleSearch) where
  pub rule-more : (first count : ℕ) (sources rest : List NumberedLine) (g h end : RulesGathered) → i < length all
      → get_or all i d ≡ found.Rule first count → sources ≡ drop first kept → rest ≡ drop first lines
      → Each (IsReadAlone lines) all → TakesRule name sources rest count g h
      → TakesMore (GivesFound asks name kept lines (drop (i + 1) all)) h end
      → TakesMore (GivesFound asks name kept lines (drop i all)) g end
  rule-more first count sources rest g h end lt is froms rows alone takes more =
      let others = drop (i + 1) all in
      let here : drop i all ≡ found.Rule first count ∷ others =
      one-after all i d lt ∙ ap (λ (x : RuleSearch). x ∷ others) is in
      let own : ReadAlone (take count (drop first lines)) =
      subst (λ (x : RuleSearch). IsReadAlone lines x) is (each-at (IsReadAlone lines) all i d alone lt) in
      let spells : SpellRule (lines_text (margin_at (take count (drop first lines))) (take count (drop first lines)))
      (given_by own.definition) = record { definition = own.definition; reads = own.reads; is = refl } in
      let one : RulesGathered =
      one_rule (position_in name (drop first kept) (drop first lines) count) (given_by own.definition) in
      let from : TakesRule name (drop first kept) rest count g h =
      subst (λ (xs : List NumberedLine). TakesRule name xs rest count g h) froms takes in
      let taken : TakesRule name (drop first kept) (drop first lines) count g h =
      subst (λ (xs : List NumberedLine). TakesRule name (drop first kept) xs count g h) rows from in
      subst (λ (xs : List RuleSearch). TakesMore (GivesFound asks name kept lines xs) g end) (sym here)
      (more-taken (λ x. x ≡ one) (GivesFound asks name kept lines others)
      (GivesFound asks name kept lines (found.Rule first count ∷ others)) g h end (λ a b x y. rw x (next_rule spells y))
      (one, refl, taken own.definition own.reads) more)

  pub no_rule-more : (first count : ℕ) (fault : ReadFault) (rows : List NumberedLine) (g : RulesGathered)
      (reported : List ReportedRule) (end : RulesGathered) → i < length all
      → get_or all i d ≡ found.NotAbnf first count fault
      → rows ≡ take count (drop first lines) → AddsReport asks name rows fault g.reported reported
      → TakesMore (GivesFound asks name kept lines (drop (i + 1) all))
      (record { positions = g.positions; rules = g.rules; reported = reported; list = g.list }) end
      → TakesMore (GivesFound asks name kept lines (drop i all)) g end
  no_rule-more first count fault rows g reported end lt is are adds more =
      let own = take count (drop first lines) in
      let others = drop (i + 1) all in
      let here : drop i all ≡ found.NotAbnf first count fault ∷ others =
      one-after all i d lt ∙ ap (λ (x : RuleSearch). x ∷ others) is in
      let is_reported : IsRuleReported asks name own fault adds.0 =
      subst (λ (xs : List NumberedLine). IsRuleReported asks name xs fault adds.0) are adds.1 in
      let report : ReportedRule = report_with adds.0 own in
      let more_is : reported ≡ g.reported ++ report ∷ [] =
      adds.2 ∙ ap (λ (xs : List NumberedLine). g.reported ++ report_with adds.0 xs ∷ []) are in
      let one : RulesGathered = reported_alone report in
      let h : RulesGathered =
      record { positions = g.positions; rules = g.rules; reported = reported; list = g.list } in
      subst (λ (xs : List RuleSearch). TakesMore (GivesFound asks name kept lines xs) g end) (sym here)
      (more-taken (λ x. x ≡ one) (GivesFound asks name kept lines others)
      (GivesFound asks name kept lines (found.NotAbnf first count fault ∷ others)) g h end
      (λ a b x y. rw x (no_rule is_reported y)) (one, refl, with-reported g reported report more_is) more)

pub lines-from : (kept lines : List TextLine) (first : ℕ) → lines ≡ drop first kept
    → map numbered lines ≡ drop first (map numbered kept)
lines-from kept lines first from =
    ap (λ (xs : List TextLine). map numbered xs) from ∙ sym (drop-map numbered first kept)

-- so many of these lines as the code takes them
pub lines-taken : (kept after lines : List TextLine) (first count : ℕ) → after ≡ drop first kept
    → lines ≡ take count after → map numbered lines ≡ take count (drop first (map numbered kept))
lines-taken kept after lines first count from front =
    ap (λ (xs : List TextLine). map numbered xs) front ∙ sym (take-map numbered count after)
    ∙ ap (λ (xs : List NumberedLine). take count xs) (lines-from kept after first from)

pub found-all : (asks : Bool) (name : List ℕ) (kept lines : List NumberedLine) (all : List RuleSearch) (i : ℕ)
    (g : RulesGathered) → length all ≤ i → TakesMore (GivesFound asks name kept lines (drop i all)) g g
found-all asks name kept lines all i g le =
    subst (λ (xs : List RuleSearch). TakesMore (GivesFound asks name kept lines xs) g g)
    (sym (at_drop_all (λ xs. xs) all i le)) (none-taken (GivesFound asks name kept lines []) g none_found)

-- the lines of a text that is shown are those of that text
shown-read : {lists : Option ListForm} {text : NamedText} {shown : ShownText} {kept : List NumberedLine}
    → IsShown lists text shown → ReadsLines shown.of_xml shown.bytes.items kept → AreRead (after_mark text.bytes) kept
shown-read {text = text} {shown} {kept} is reads = record {
  source = shown.bytes.items;
  shows = subst (λ (b : Bool). ShowsText b (after_mark text.bytes) shown.bytes.items) is.of_xml is.shows;
  reads = subst (λ (b : Bool). ReadsLines b shown.bytes.items kept) is.of_xml reads;
}

-- what is written for the lines of a text, which is shown with lists written out or not
module _ (one_kept : (text : List ℕ) (a b : List NumberedLine) → AreRead text a → AreRead text b → a ≡ b) where
  pub rows-with : {shown : ShownText} {kept lines : List NumberedLine} {new : List ℕ}
      → option_map (λ v. v.items) shown.written ≡ Some new
      → ((source : List ℕ) (form : ListForm) → Expands form source new → source ≡ lines_text 0 kept
      → WritesLists form kept new lines)
      → (lists : Option ListForm) (text : NamedText) → IsShown lists text shown
      → ReadsLines shown.of_xml shown.bytes.items kept → AreExpanded lists kept lines × (false ≡ asks_lists lists)
  rows-with {shown} {kept} {lines} {new} some writes lists text is reads =
      go (subst (λ (o : Option (List ℕ)). AreListsOut shown.of_xml shown.bytes.items lists o) some is.lists_out)
    where
      go : {form : Option ListForm} → AreListsOut shown.of_xml shown.bytes.items form (Some new)
          → AreExpanded form kept lines × (false ≡ asks_lists form)
      go (asked {form} other r e) =
          let same : other ≡ kept = one_kept (after_mark text.bytes) other kept (shown-read is r)
          (shown-read is reads) in (
            with_lists (writes (lines_text 0 other) form e (ap (λ (xs : List NumberedLine). lines_text 0 xs) same)),
            refl,
          )

pub rows-without : {shown : ShownText} {kept lines : List NumberedLine}
    → option_map (λ v. v.items) shown.written ≡ None → lines ≡ kept → (lists : Option ListForm) (text : NamedText)
    → IsShown lists text shown → ReadsLines shown.of_xml shown.bytes.items kept
    → AreExpanded lists kept lines × (true ≡ asks_lists lists)
rows-without {shown} {kept} {lines} none same lists text is reads =
    go (subst (λ (o : Option (List ℕ)). AreListsOut shown.of_xml shown.bytes.items lists o) none is.lists_out)
  where
    go : {form : Option ListForm} → AreListsOut shown.of_xml shown.bytes.items form None
        → AreExpanded form kept lines × (true ≡ asks_lists form)
    go not_asked = (subst (λ (xs : List NumberedLine). AreExpanded None kept xs) (sym same) as_they_are, refl)

-- what is found in a text that is shown
pub shown-found : (shown : ShownText) (kept : List NumberedLine) (text : FoundText)
    → ReadsLines shown.of_xml shown.bytes.items kept → AreTextRows shown kept (text_rows text.rows)
    → AreFound 0 (map numbered text.rows.lines.items) text.found.items → FindsShown shown text
shown-found shown kept text reads of finds lists named is =
    let rows = text_rows text.rows in
    let both = of.lists_are lists named is reads in (
      record {
        name = of.name ∙ is.name;
        keeps = subst (λ (xs : List NumberedLine). AreRead (after_mark named.bytes) xs) (sym of.kept_are)
            (shown-read is reads);
        written = subst (λ (xs : List NumberedLine). AreExpanded lists xs rows.lines) (sym of.kept_are) both.0;
        are_found = finds;
      },
      both.1,
    )

-- of texts that are shown, one that is left is shown, and so are those after it
shown-there : {lists : Option ListForm} (i : ℕ) (d : ShownText) {named : List NamedText} {texts : List ShownText}
    → AreShown lists named texts
    → i < length texts
    → (text : NamedText) × IsShown lists text (get_or texts i d) × (drop i named ≡ text ∷ drop (suc i) named)
shown-there i d none_shown lt = absurd (omega (arith, lt))
shown-there zero d (next_shown {text} is more) lt = (text, is, refl)
shown-there (suc i) d (next_shown is more) lt = shown-there i d more (omega (arith, lt))

shown-length : {lists : Option ListForm} {named : List NamedText} {texts : List ShownText}
    → AreShown lists named texts → length named ≡ length texts
shown-length none_shown = refl
shown-length (next_shown is more) = omega (arith, shown-length more)

-- a text is shown that has the bytes of a source
pub shown-made : (lists : Option ListForm) (text : NamedText) (shown : ShownText) (source : List ℕ)
    → shown.name.now ≡ text.name
    → source ≡ after_mark text.bytes → shown.of_xml ≡ begins_xml source
    → ShowsText shown.of_xml source shown.bytes.items
    → AreListsOut shown.of_xml shown.bytes.items lists (option_map (λ v. v.items) shown.written)
    → IsShown lists text shown
shown-made lists text shown source name e is shows out = record {
  name = name;
  of_xml = is ∙ ap (λ (xs : List ℕ). begins_xml xs) e;
  shows = subst (λ (xs : List ℕ). ShowsText shown.of_xml xs shown.bytes.items) e shows;
  lists_out = out;
}

-- one more text is shown
pub shown-more : {lists : Option ListForm} {named : List NamedText} {texts : List ShownText} (text : NamedText)
    (shown : ShownText)
    → AreShown lists named texts → IsShown lists text shown → AreShown lists (named ++ text ∷ []) (texts ++ shown ∷ [])
shown-more text shown none_shown is = next_shown is none_shown
shown-more text shown (next_shown x more) is = next_shown x (shown-more text shown more is)

-- so it is with one more of these texts
pub shown-next : (lists : Option ListForm) (texts : List SourceText) (i : ℕ) (d : SourceText) (shown : ShownText)
    (all new : List ShownText) → i < length texts → AreShown lists (map named_text (take i texts)) all
    → IsShown lists (named_text (get_or texts i d)) shown
    → new ≡ all ++ shown ∷ [] → AreShown lists (map named_text (take (i + 1) texts)) new
shown-next lists texts i d shown all new lt so_far is e =
    let text : NamedText = named_text (get_or texts i d) in
    let rows : map named_text (take (i + 1) texts) ≡ map named_text (take i texts) ++ text ∷ [] =
    ap (λ (xs : List SourceText). map named_text xs) (take_at_read texts i d lt).1
    ∙ map-append named_text (take i texts) (get_or texts i d ∷ []) in
    let one : AreShown lists (map named_text (take i texts) ++ text ∷ []) (all ++ shown ∷ []) =
    shown-more text shown so_far is in
    let there : AreShown lists (map named_text (take (i + 1) texts)) (all ++ shown ∷ []) =
    subst (λ (xs : List NamedText). AreShown lists xs (all ++ shown ∷ [])) (sym rows) one in
    subst (λ (xs : List ShownText). AreShown lists (map named_text (take (i + 1) texts)) xs) (sym e) there

pub shown-all : (lists : Option ListForm) (texts : List SourceText) (i : ℕ) (all : List ShownText) → length texts ≤ i
    → AreShown lists (map named_text (take i texts)) all → AreShown lists (map named_text texts) all
shown-all lists texts i all le so_far =
    subst (λ (xs : List SourceText). AreShown lists (map named_text xs) all) (take_all i texts le) so_far

-- so it is with what is found in them
take-next : {X : Type 0} (i : ℕ) (xs : List X) (x : X) (rest : List X) → drop i xs ≡ x ∷ rest
    → take (suc i) xs ≡ take i xs ++ x ∷ []
take-next zero xs x rest e = rw e refl
take-next (suc i) [] x rest e = absurd (cc)
take-next {X} (suc i) (y ∷ ys) x rest e = ap (λ (zs : List X). y ∷ zs) (take-next i ys x rest e)

found-more : {lists : Option ListForm} {named : List NamedText} {texts : List FoundText} (text : NamedText)
    (there : FoundText) → AreTextsFound lists named texts → FindsText lists text (text_found there)
    → there.rows.asks ≡ asks_lists lists → AreTextsFound lists (named ++ text ∷ []) (texts ++ there ∷ [])
found-more text there no_text_found finds asks = next_found finds asks no_text_found
found-more text there (next_found x a more) finds asks = next_found x a (found-more text there more finds asks)

pub found-next : (lists : Option ListForm) (named : List NamedText) (texts : List ShownText) (i : ℕ) (d : ShownText)
    (there : FoundText) (all new : List FoundText) → AreShown lists named texts → i < length texts
    → FindsShown (get_or texts i d) there → AreTextsFound lists (take i named) all → new ≡ all ++ there ∷ []
    → AreTextsFound lists (take (i + 1) named) new
found-next lists named texts i d there all new shown lt finds are e =
    let it = shown-there i d shown lt in
    let both = finds lists it.0 it.1 in
    let next : suc i ≡ i + 1 = omega arith in
    let rows : take (i + 1) named ≡ take i named ++ it.0 ∷ [] =
    ap (λ (k : ℕ). take k named) (sym next) ∙ take-next i named it.0 (drop (suc i) named) it.2 in
    let more : AreTextsFound lists (take (i + 1) named) (all ++ there ∷ []) =
    subst (λ (ns : List NamedText). AreTextsFound lists ns (all ++ there ∷ [])) (sym rows)
    (found-more it.0 there are both.0 both.1) in
    subst (λ (ts : List FoundText). AreTextsFound lists (take (i + 1) named) ts) (sym e) more

pub found-in_all : (lists : Option ListForm) (named : List NamedText) (texts : List ShownText) (i : ℕ)
    (all : List FoundText) → AreShown lists named texts → length texts ≤ i → AreTextsFound lists (take i named) all
    → AreTextsFound lists named all
found-in_all lists named texts i all shown le are =
    subst (λ (ns : List NamedText). AreTextsFound lists ns all)
    (take_all i named (omega (arith, shown-length shown, le))) are

pub find-texts : {lists : Option ListForm} {named : List NamedText} {texts : List FoundText}
    → AreTextsFound lists named texts → FindTexts lists named (map text_found texts)
find-texts no_text_found = no_texts
find-texts (next_found x a more) = next_text x (find-texts more)

found-there : {lists : Option ListForm} (i : ℕ) (d : FoundText) {named : List NamedText} {texts : List FoundText}
    → AreTextsFound lists named texts → i < length texts → (text : NamedText)
    × FindsText lists text (text_found (get_or texts i d)) × ((get_or texts i d).rows.asks ≡ asks_lists lists)
found-there i d no_text_found lt = absurd (omega (arith, lt))
found-there zero d (next_found {named} x a more) lt = (named, x, a)
found-there (suc i) d (next_found x a more) lt = found-there i d more (omega (arith, lt))

-- the sketches of what is found
sketches-both : {rules others : List RuleSeen} {xs ys : List SketchedRule} → AreSketches rules xs
    → AreSketches others ys → AreSketches (rules ++ others) (xs ++ ys)
sketches-both no_sketches k = k
sketches-both (next_sketch is h) k = next_sketch is (sketches-both h k)

pub sketch-count : {rules : List RuleSeen} {xs : List SketchedRule} → AreSketches rules xs → length rules ≡ length xs
sketch-count no_sketches = refl
sketch-count (next_sketch is h) = ap suc (sketch-count h)

pub sketch-more : (rows : TextRows) (all : List RuleSearch) (i : ℕ) (d : RuleSearch) (sketch : SketchedRule)
    (old now new : List SketchedRule) → i < length all → IsSketch (seen_at rows.kept rows.lines (get_or all i d)) sketch
    → AddSketches rows (take i all) old now → new ≡ now ++ sketch ∷ [] → AddSketches rows (take (i + 1) all) old new
sketch-more rows all i d sketch old now new lt is adds e =
    let seen : RuleSearch → RuleSeen = seen_at rows.kept rows.lines in
    let front : map seen (take (i + 1) all) ≡ map seen (take i all) ++ seen (get_or all i d) ∷ [] =
    ap (λ (its : List RuleSearch). map seen its) (take_at_read all i d lt).1
    ∙ map-append seen (take i all) (get_or all i d ∷ []) in
    let both = sketches-both adds.1 (next_sketch is no_sketches) in (
      adds.0 ++ sketch ∷ [],
      subst (λ (rs : List RuleSeen). AreSketches rs (adds.0 ++ sketch ∷ [])) (sym front) both,
      e ∙ ap (λ (xs : List SketchedRule). xs ++ sketch ∷ []) adds.2 ∙ append_assoc old adds.0 (sketch ∷ []),
    )

pub text-sketched : (texts : List FoundText) (i : ℕ) (d : FoundText) (old new : List SketchedRule) → i < length texts
    → AreSketches (rules_seen (map text_found (take i texts))) old
    → AddSketches (text_rows (get_or texts i d).rows) (get_or texts i d).found.items old new
    → AreSketches (rules_seen (map text_found (take (i + 1) texts))) new
text-sketched texts i d old new lt are adds =
    let text = get_or texts i d in
    let front = map text_found (take i texts) in
    let here : List RuleSeen = map (seen_at (text_rows text.rows).kept (text_rows text.rows).lines) text.found.items in
    let seen : TextFound → List RuleSeen = λ there. map (seen_at there.kept there.lines) there.all_found in
    let all : rules_seen (map text_found (take (i + 1) texts)) ≡ rules_seen front ++ here =
    ap (λ (ts : List FoundText). rules_seen (map text_found ts)) (take_at_read texts i d lt).1
    ∙ ap (λ (ts : List TextFound). rules_seen ts) (map-append text_found (take i texts) (text ∷ []))
    ∙ flat_map-append seen front (text_found text ∷ [])
    ∙ ap (λ (rs : List RuleSeen). rules_seen front ++ rs) (append-nil here) in
    subst (λ (xs : List SketchedRule). AreSketches (rules_seen (map text_found (take (i + 1) texts))) xs) (sym adds.2)
    (subst (λ (rs : List RuleSeen). AreSketches rs (old ++ adds.0)) (sym all) (sketches-both are adds.1))

-- what is found in one text after another is taken
module _ (lists : Option ListForm) (texts : List FoundText) (i : ℕ) (own : List RuleSketch) (marks : List Bool) where
  -- what these texts give from that one on, where these are the sketches and marks that are left
  abbrev pub GivesLeft : RulesGathered → Type 0
  GivesLeft g = GiveFound (asks_lists lists) (map text_found (drop i texts)) (map rule_sketched own) marks g

  pub texts-end : (g : RulesGathered) → length texts ≤ i → TakesMore GivesLeft g g
  texts-end g le =
      subst (λ (ts : List FoundText). TakesMore (GiveFound (asks_lists lists) (map text_found ts)
      (map rule_sketched own) marks) g g)
      (sym (drop_all i texts le))
      (none-taken (GiveFound (asks_lists lists) [] (map rule_sketched own) marks) g none_there)

  count-there : (d : FoundText) → i < length texts → rule_count (drop i texts)
      ≡ length (get_or texts i d).found.items + rule_count (drop (i + 1) texts)
  count-there d lt =
      let text = get_or texts i d in
      let seen = seen_at (text_rows text.rows).kept (text_rows text.rows).lines in
      ap rule_count (one-after texts i d lt)
      ∙ length-append (map seen text.found.items) (rules_seen (map text_found (drop (i + 1) texts)))
      ∙ ap (λ (n : ℕ). n + rule_count (drop (i + 1) texts)) (length-map text.found.items seen)

  pub room-next : (d : FoundText) → i < length texts → rule_count (drop i texts) ≤ length own
      → rule_count (drop i texts) ≤ length marks
      → (rule_count (drop (i + 1) texts) ≤ length (drop (length (get_or texts i d).found.items) own))
      × (rule_count (drop (i + 1) texts) ≤ length (drop (length (get_or texts i d).found.items) marks))
  room-next d lt many enough =
      let n = length (get_or texts i d).found.items in (
        omega (arith, count-there d lt, length-drop n own, many),
        omega (arith, count-there d lt, length-drop n marks, enough),
      )

  pub text-more : (named : List NamedText) (d : FoundText) (g h end : RulesGathered)
      → AreTextsFound lists named texts → i < length texts → rule_count (drop i texts) ≤ length own
      → rule_count (drop i texts) ≤ length marks
      → TakesGroups (text_rows (get_or texts i d).rows) (get_or texts i d).found.items (map rule_sketched own) marks g h
      → TakesMore (GiveFound (asks_lists lists) (map text_found (drop (i + 1) texts))
      (map rule_sketched (drop (length (get_or texts i d).found.items) own))
      (drop (length (get_or texts i d).found.items) marks)) h end
      → TakesMore GivesLeft g end
  text-more named d g h end are lt many enough takes more =
      let text = get_or texts i d in
      let n = length text.found.items in
      let others = map text_found (drop (i + 1) texts) in
      let sketches = map rule_sketched own in
      let asks = asks_lists lists in
      let it = found-there i d are lt in
      let few : n ≤ length sketches = omega (arith, count-there d lt, length-map own rule_sketched, many) in
      let marked : n ≤ length marks = omega (arith, count-there d lt, enough) in
      let taken = takes (after_mark it.0.bytes) lists it.1.keeps it.1.written it.1.are_found few marked in
      let Here : Bool → RulesGathered → Type 0 = λ b. GivesGroups b text.rows.name.now (text_rows text.rows).kept
      (text_rows text.rows).lines
      (groups_of (text_rows text.rows).lines (found_rules text.found.items sketches marks)) in
      let After : List SketchedRule → RulesGathered → Type 0 = λ xs. GiveFound asks others xs (drop n marks) in
      let Both : RulesGathered → Type 0 = GiveFound asks (text_found text ∷ others) sketches marks in
      subst (λ (ts : List FoundText). TakesMore (GiveFound asks (map text_found ts) sketches marks) g end)
      (sym (one-after texts i d lt))
      (more-taken (Here asks) (After (drop n sketches)) Both g h end (λ a b x y. next_there x y)
      (subst (λ (b : Bool). TakesMore (Here b) g h) it.2 taken)
      (subst (λ (xs : List SketchedRule). TakesMore (After xs) h end) (sym (drop-map rule_sketched n own)) more))
