-- What explains a note is one text.
-- Serves: one_statement_of_abnf, run_abnf (right)
use Rattle.std.proofs.Common.{◌≡◌, ℕ, ◌+◌, ◌-◌, Bool, true, false, List, [], ◌∷◌, ◌++◌, length, take, drop, Option}
use Rattle.std.proofs.Common.{Some, None, map, refl, sym, ◌∙◌, ap, arith, subst}
use Rattle.std.specs.Borrow.{Bor}
use Rattle.std.specs.Prelude.{codes, if◌then◌else◌, is_some, option_map, position}
use Rattle.std.proofs.lemmas.List.{drop-map, length-append, length-map, map-append, take-map, take_at}
use Rattle.ruletable.proofs.TableLemmas.{position-map}
use Rattle.ruletable.specs.Notes.{Said}
use Rattle.ruletable.specs.declared.note.NoteKind.{NoteKind}
use Rattle.ruletable.specs.declared.note.NoteKind.TheVariants.{Redefined, ExtendedEarly, Undefined, Prose, Unused}
use Rattle.ruletable.specs.declared.note.NoteKind.TheVariants.{LeftRecursion, Loop}
use Rattle.ruletable.specs.Rules as table
use Rattle.ruletable.specs.Rules.{find_in, names_of, same_name}
use Rattle.ruletable.specs.declared.table.NameCase.{NameCase}
use Rattle.ruletable.specs.declared.table.NameCase.TheVariants.{Fold}
use Rattle.abnfread.specs.AbnfReading.{Reads}
use Rattle.abnfread.specs.AbnfTable.{IsCoreTable, IsTableOf}
use Rattle.abnfread.specs.AbnfViews.{rule_of, rules_of}
use Rattle.abnfread.specs.declared.elem.Elem.{Elem}
use Rattle.abnfread.specs.Element.{Definition, Rule}
use Rattle.abnfcheck.specs.AbnfUses.{rule_names}
use Rattle.abnfcheck.specs.NameChains.{AreLast, AreNameChains, IsNameChain}
use Rattle.abnfcheck.specs.NameIds.{all_names}
use Rattle.abnfcheck.proofs.JoinLemmas.{position_found}
use Rattle.abnfcheck.specs.WithCore.{has_name, with_core}
use Rattle.abnfcheck.specs.declared.reached_names.ChainEnds.{ChainEnds}
use Rattle.abnfcheck.specs.declared.reached_names.NameChains.{NameChains}
use Rattle.abnfexplain.specs.AbnfNoteLines.{ExplainsNote, IsFirstProse, IsUsedForm}
use Rattle.abnfexplain.specs.ChainLines.{chain_line, chain_reported, ends_line}
use Rattle.diagnostics.proofs.NearNamesLemmas.{meant-line-one}
use Rattle.diagnostics.specs.BodyMentions.{MentionedAt, mentioned_at}
use Rattle.diagnostics.specs.declared.noteplaces.forms.UseForm.{UseForm}
use Rattle.diagnostics.specs.declared.noteplaces.forms.UseForm.TheVariants.{Plain, CodePoint, Range}
use Rattle.diagnostics.specs.declared.noteplaces.mentions.Mention.{Mention}
use Rattle.diagnostics.specs.NearNames.{IsMeant, IsMeantIf, is_before_limit, meant_reported}
use Rattle.abnfrun.specs.AbnfNoted.{all_rules}
use Rattle.abnfrun.specs.AbnfExplainedNotes.{AreAllRules, AreProseLines, AreUndefinedLines}
use Rattle.abnfrun.specs.AbnfExplainedNotes.{ExplainsAbnfNote, IsMeantLine, IsPerhapsLine}
use Rattle.abnfrun.specs.AbnfExplainedNotes.{IsReachAfter, IsReachLine, between_brackets, is_early_name}
use Rattle.abnfrun.specs.AbnfExplainedNotes.{named_line}
use Rattle.abnfrun.proofs.AllRulesLemmas.{all_same, any_map}

-- the lines of positions are one text
abbrev LinesAreOne : Type 0
LinesAreOne = (text : List ℕ) (start : Option (List ℕ)) (note : Said) (a b : List ℕ) → ExplainsNote text start note a
    → ExplainsNote text start note b → a ≡ b

-- a text reads as one list of definitions
abbrev ReadingsAreOne : Type 0
ReadingsAreOne = (text : List ℕ) (a b : List Definition) → Reads text a → Reads text b → a ≡ b

-- a rule's first prose is one
abbrev ProsesAreOne : Type 0
ProsesAreOne = (text name : List ℕ) (a b : Option (List ℕ)) → IsFirstProse text name a → IsFirstProse text name b
    → a ≡ b

-- the use by which a name is noted has one form
abbrev FormsAreOne : Type 0
FormsAreOne = (text : List ℕ) (start : Option (List ℕ)) (name : List ℕ) (a b : UseForm) → IsUsedForm text start name a
    → IsUsedForm text start name b → a ≡ b

-- a chain of names is one
abbrev ChainsAreOne : Type 0
ChainsAreOne = (rules : List Rule) (given : Option (List ℕ)) (name : List ℕ) (a b : Option (List (List ℕ)))
    → IsNameChain rules given name a → IsNameChain rules given name b → a ≡ b

-- what is perhaps meant is one line
perhaps_is_one : (form : UseForm) (rules : List Rule) (start : Option (List ℕ)) (name a b : List ℕ)
    → IsPerhapsLine form rules start name a → IsPerhapsLine form rules start name b → a ≡ b
perhaps_is_one CodePoint rules start name a b g h = g ∙ sym h
perhaps_is_one Range rules start name a b g h = g ∙ sym h
perhaps_is_one Plain rules start name a b g h =
    meant-line-one (is_early_name rules start name) (rule_names rules) name a b g h

module _ (proses : ProsesAreOne) (forms : FormsAreOne) (reading : ReadingsAreOne) (one : ChainsAreOne) (text : List ℕ)
    (start : Option (List ℕ)) where
  reach_is_one : (name a b : List ℕ) → IsReachLine text start name a → IsReachLine text start name b → a ≡ b
  reach_is_one name a b g h =
      let same = reading text h.definitions g.definitions h.reads g.reads in
      let moved = subst (λ z. IsNameChain (all_rules z) start name h.chain) same h.is_chain in
      g.is ∙ (ap chain_reported (one (all_rules g.definitions) start name g.chain h.chain g.is_chain moved) ∙ sym h.is)

  undefined_is_one : (name a b : List ℕ) → AreUndefinedLines text start name a → AreUndefinedLines text start name b
      → a ≡ b
  undefined_is_one name a b g h =
      let same = reading text h.definitions g.definitions h.reads g.reads in
      let form = forms text start name h.form g.form h.is_form g.is_form in
      let moved = subst (λ f. IsPerhapsLine f (all_rules g.definitions) start name h.meant) form
      (subst (λ z. IsPerhapsLine h.form (all_rules z) start name h.meant) same h.is_meant) in
      g.is
      ∙ ap (λ (z : List ℕ). z ++ g.reach)
      (perhaps_is_one g.form (all_rules g.definitions) start name g.meant h.meant g.is_meant moved)
      ∙ ap (λ (z : List ℕ). h.meant ++ z) (reach_is_one name g.reach h.reach g.is_reach h.is_reach) ∙ sym h.is

  prose_is_one : (name a b : List ℕ) → AreProseLines text start name a → AreProseLines text start name b → a ≡ b
  prose_is_one name a b g h =
      let same = reading text g.definitions h.definitions g.reads h.reads in
      g.is
      ∙ ap (λ (ds : List Definition). named_line (all_rules ds) g.prose ++ g.reach) same
      ∙ ap (λ (p : Option (List ℕ)). named_line (all_rules h.definitions) p ++ g.reach)
      (proses text name g.prose h.prose g.is_prose h.is_prose)
      ∙ ap (λ (z : List ℕ). named_line (all_rules h.definitions) h.prose ++ z)
      (reach_is_one name g.reach h.reach g.is_reach h.is_reach) ∙ sym h.is

  after_is_one : (kind : NoteKind) (name a b : List ℕ) → IsReachAfter text start kind name a
      → IsReachAfter text start kind name b → a ≡ b
  after_is_one Redefined name a b g h = g ∙ sym h
  after_is_one ExtendedEarly name a b g h = g ∙ sym h
  after_is_one Undefined name a b g h = undefined_is_one name a b g h
  after_is_one Prose name a b g h = prose_is_one name a b g h
  after_is_one Unused name a b g h = g ∙ sym h
  after_is_one LeftRecursion name a b g h = g ∙ sym h
  after_is_one Loop name a b g h = g ∙ sym h

pub explanation_is_one : LinesAreOne → ProsesAreOne → FormsAreOne → ReadingsAreOne → ChainsAreOne → (text : List ℕ)
    (start : Option (List ℕ)) (note : Said) (a b : List ℕ) → ExplainsAbnfNote text start note a
    → ExplainsAbnfNote text start note b → a ≡ b
explanation_is_one lines proses forms reading one text start note a b g h =
    g.is
    ∙ (ap (λ z. z ++ g.line) (lines text start note g.lines h.lines g.explains h.explains)
    ∙ (ap (λ z. h.lines ++ z)
    (after_is_one proses forms reading one text start note.kind note.name g.line h.line g.after h.after)
    ∙ sym h.is))

-- the rules of a text with the core rules that it leaves alone
pub rules_are_all : (text : List ℕ) (file core : table.Rules Elem) (again early : List ℕ) (rules : table.Rules Elem)
    (count : ℕ) → count ≡ length file.rules
    → ((definitions : List Definition) × Reads text definitions × IsTableOf definitions file again early)
    → IsCoreTable core → rules ≡ with_core file core.rules → AreAllRules text rules count
rules_are_all text file core again early rules count many (ds, reads, t) c is = record {
  definitions = ds;
  reads = reads;
  folds = ap (λ z. z.names) is ∙ t.names;
  all = ap rules_of is ∙ all_same ds file core t.names t.kept c.listed;
  counted = many ∙ sym (length-map file.rules rule_of) ∙ ap length t.kept;
}

-- the line of prose that is a rule's name, and that of a chain, stand after notes of one kind
pub prose_stands : (text : List ℕ) (start : Option (List ℕ)) (kind : NoteKind) (name line : List ℕ)
    → kind ≡ Prose → AreProseLines text start name line → IsReachAfter text start kind name line
prose_stands text start kind name line is r = rw is r

-- and that of a chain with the line of a rule that is meant after those of another
pub undefined_stands : (text : List ℕ) (start : Option (List ℕ)) (kind : NoteKind) (name line : List ℕ)
    → kind ≡ Undefined → AreUndefinedLines text start name line → IsReachAfter text start kind name line
undefined_stands text start kind name line is r = rw is r

take-front : (xs ys : List (List ℕ)) → take (length xs) (xs ++ ys) ≡ xs
take-front [] ys = refl
take-front (x ∷ xs) ys = ap (λ (zs : List (List ℕ)). x ∷ zs) (take-front xs ys)

-- the first names of a grammar are those of its rules
pub rules_first : (rules : List Rule) (given : Option (List ℕ)) (names : List (List ℕ)) (count : ℕ)
    → names ≡ all_names rules given → count ≡ length rules → take count names ≡ rule_names rules
rules_first rules given names count is many =
    ap (λ (k : ℕ). take k names) (many ∙ sym (length-map rules (λ (r : Rule). r.name)))
    ∙ ap (λ (ns : List (List ℕ)). take (length (rule_names rules)) ns) is
    ∙ take-front (rule_names rules) _

module _ (rules : List Rule) (given : Option (List ℕ)) (found : NameChains) (name : List ℕ) (count : ℕ) (early : Bool)
    (are : AreNameChains rules given found) (many : count ≡ length rules)
    (is : early ≡ is_before_limit count (find_in found.names name)) where
  early_same : is_early_name rules given name ≡ early
  early_same = sym (is
      ∙ ap (λ (o : Option ℕ). is_before_limit count o)
      (sym (position-map (λ (r : table.Rule (Unit {0})). r.name) (same_name found.names.names name) found.names.rules)
      ∙ ap (λ (c : NameCase). position (same_name c name) (names_of found.names)) are.folds
      ∙ ap (λ (ns : List (List ℕ)). position (same_name Fold name) ns) are.graph.all)
      ∙ ap (λ (n : ℕ). is_before_limit n (position (same_name Fold name) (all_names rules given))) many)

  -- nothing follows where the name is not early
  pub meant_none : early ≡ false → IsMeantLine rules given name []
  meant_none late = subst (λ (b : Bool). IsMeantIf b (rule_names rules) name []) (sym (early_same ∙ late)) refl

  -- and else the rule that is meant
  pub meant_some : (o : Option (List ℕ)) → early ≡ true → IsMeant name (take count (names_of found.names)) o
      → IsMeantLine rules given name (meant_reported o)
  meant_some o soon meant = subst (λ (b : Bool). IsMeantIf b (rule_names rules) name (meant_reported o))
      (sym (early_same ∙ soon)) (
        o,
        subst (λ (ns : List (List ℕ)). IsMeant name ns o)
            (rules_first rules given (names_of found.names) count are.graph.all many) meant,
        refl,
      )

-- the line of a chain is that of its ends
pub line_of_ends : (name : ℕ → List ℕ) (ids : List ℕ) (ends : ChainEnds) → AreLast 7 ids ends
    → ends_line ends.left (map name ends.ids.items) ≡ chain_line (map name ids)
line_of_ends name ids ends are = rw (
  length-map ids name,
  are.left,
  are.is,
  map-append name (take 1 ids) (drop (length ids - 8 + 1) ids),
  take-map name 1 ids,
  drop-map name (length ids - 8 + 1) ids,
)
    refl

-- a rule of a table that folds names is found exactly if one has the name
pub named_found : (rules : table.Rules Elem) (name : List ℕ) → rules.names ≡ Fold → is_some (find_in rules name)
    ≡ has_name Fold (rules_of rules) name
named_found rules name folds =
    position_found (λ (r : table.Rule Elem). same_name rules.names name r.name) rules.rules
    ∙ sym (any_map rule_of (λ (r : Rule). same_name rules.names name r.name) rules.rules)
    ∙ ap (λ (c : NameCase). has_name c (rules_of rules) name) folds

-- the line of prose by whether a rule is found
pub line_found : (rules : table.Rules Elem) (prose : List ℕ) (found : Bool) → rules.names ≡ Fold
    → found ≡ is_some (find_in rules (between_brackets prose)) → named_line (rules_of rules) (Some prose)
    ≡ (if found then codes "  without < and > this is the rule of that name\n" else [])
line_found rules prose found folds is =
    ap (λ (b : Bool). if b then codes "  without < and > this is the rule of that name\n" else [])
    (sym (named_found rules (between_brackets prose) folds) ∙ sym is)

-- the text of prose
pub prose_text : (found : Option (Bor Mention)) → option_map (λ m. m.now.text.items) found
    ≡ option_map (λ (m : MentionedAt). m.text) (option_map (λ m. mentioned_at m.now) found)
prose_text None = refl
prose_text (Some m) = refl

-- what stands between the first byte and the last one
pub cut_brackets : (prose rest name : List ℕ) (x y : ℕ) → prose ≡ x ∷ rest → rest ≡ name ++ y ∷ []
    → length name + 1 ≡ length rest → name ≡ between_brackets prose
cut_brackets prose rest name x y first last size =
    rw (first, last) (sym (take_at name (y ∷ []) (length (name ++ y ∷ []) - 1)
    (omega (arith, length-append name (y ∷ [])))))

-- nothing stands between them where there is one byte, or none
pub cut_one : (prose rest : List ℕ) (x : ℕ) → prose ≡ x ∷ rest → length rest ≡ 0 → rest ≡ between_brackets prose
cut_one prose [] x first none = rw first refl
cut_one prose (y ∷ rest) x first none = absurd (omega (arith, none))

pub cut_none : (prose : List ℕ) → length prose ≡ 0 → prose ≡ between_brackets prose
cut_none [] none = refl
cut_none (x ∷ prose) none = absurd (omega (arith, none))
