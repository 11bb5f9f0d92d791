-- The uses in the bodies so far, with those in one body more.
-- Serves: check_peg
use Rattle.std.proofs.Common.{◌≡◌, ℕ, ◌+◌, ◌<◌, ◌==◌, ◌||◌, Bool, true, cond, List, [], ◌∷◌, ◌++◌, length, map, get_or}
use Rattle.std.proofs.Common.{take, slice_get, position, Some, None, refl, sym, ap, ◌∙◌, append_assoc, append-nil}
use Rattle.std.proofs.Common.{add-one}
use Rattle.std.proofs.Math.Bool.{or-false}
use Rattle.std.proofs.Math.Seq.{take-suc}
use Rattle.std.proofs.lemmas.List.{map-append}
use Rattle.std.proofs.lemmas.List.Folds.{list_any-append}
use Rattle.std.proofs.lemmas.Option.{slice_get-map, none-some}
use Rattle.std.proofs.lemmas.Simd.{map-map}
use Rattle.std.specs.List.{list_any}
use Rattle.std.specs.Option.{option_map}
use Rattle.std.specs.Prelude.{option_to_list, Result, Ok, Err, IfOk}
use Rattle.std.specs.Str.{bytes_eq}
use Rattle.ruletable.specs.Rules as table
use Rattle.ruletable.specs.Rules.{Rules, find_in, names_of, same_name}
use Rattle.ruletable.specs.declared.table.NameCase.{NameCase}
use Rattle.ruletable.specs.declared.table.NameCase.TheVariants.{Exact}
use Rattle.fixpoint.specs.FirstUses.{is_among, news}
use Rattle.fixpoint.specs.NameUses.{IsAdded}
use Rattle.fixpoint.proofs.IsAddedLemmas.{found_in}
use Rattle.fixpoint.proofs.IsPositionLemmas.{position_among, position_append, position_of, position-none}
use Rattle.fixpoint.proofs.IsPositionLemmas.{same_position}
use Rattle.fixpoint.proofs.IsScannedLemmas.{news_append, used_next}
use Rattle.pegread.specs.Pattern.{Pattern, Rule}
use Rattle.pegread.specs.PegViews.{patterns, patterns_of, pattern_of, rule_of, rules_of}
use Rattle.pegread.specs.declared.expr.Expr.{Expr}
use Rattle.gramcheck.specs.GrammarNotes.{start_of}
use Rattle.gramcheck.specs.Uses.{names_in, names_in_all, names_used, rule_names, AreUses}
use Rattle.gramcheck.proofs.RuleNameLemmas.{names-same, other-name}

-- no name is used yet
pub uses-none : (rules : List Rule) (missing : Rules (Unit {0})) → missing.names ≡ Exact → missing.rules ≡ []
    → AreUses rules [] [] missing
uses-none rules missing exact none = record {
  compares = exact;
  all = ap (map (λ (rule : table.Rule (Unit {0})). rule.name)) none;
  known = λ name id own. refl;
}

-- where a table finds a name
pub finds-name : (t : Rules Expr) → t.names ≡ Exact → (name : List ℕ) → find_in t name
    ≡ position (bytes_eq name) (rule_names (rules_of t))
finds-name t exact name =
    found_in t name ∙ ap (λ (case : NameCase). position (same_name case name) (names_of t)) exact
    ∙ ap (position (bytes_eq name)) (sym (names-same t))

-- one use more: of a rule's name, or of a name that no rule has
module _ (rules : List Rule) (seen : List (List ℕ)) (n : List ℕ) where
  abbrev names : List (List ℕ)
  names = rule_names rules

  among-next : (name : List ℕ) → is_among Exact (seen ++ n ∷ []) name ≡ (is_among Exact seen name || bytes_eq name n)
  among-next name = list_any-append (bytes_eq name) seen (n ∷ [])
      ∙ ap (λ b. is_among Exact seen name || b) (or-false (bytes_eq name n))

  news-next : (m : List (List ℕ)) → news Exact names seen ≡ m → (b : Bool) → is_among Exact (names ++ m) n ≡ b
      → news Exact names (seen ++ n ∷ []) ≡ m ++ cond b [] (n ∷ [])
  news-next m is b e =
      news_append Exact names seen (n ∷ [])
      ∙ ap (λ l. l ++ news Exact (names ++ l) (n ∷ [])) is
      ∙ ap (λ b. m ++ cond b [] (n ∷ [])) e

  pub known-use : (ids : List ℕ) (missing : Rules (Unit {0})) (i : ℕ) → AreUses rules seen ids missing
      → position (bytes_eq n) names ≡ Some i → AreUses rules (seen ++ n ∷ []) (ids ++ i ∷ []) missing
  known-use ids missing i u at =
      let position = position_of Exact n names i at in
      record {
        compares = u.compares;
        all = u.all ∙ sym (append-nil (news Exact names seen))
            ∙ sym (news-next (news Exact names seen) refl true
            (position_among Exact (position_append Exact (news Exact names seen) position)));
        known = λ name id own.
            list_any-append (λ other. other == id) ids (i ∷ [])
            ∙ ap (λ b. list_any (λ other. other == id) ids || b)
            (or-false (i == id) ∙ same_position Exact n name position (position_of Exact name names id own))
            ∙ ap (λ b. b || bytes_eq name n) (u.known name id own) ∙ sym (among-next name);
      }

  pub missing-use : (ids : List ℕ) (old new : Rules (Unit {0})) (k : ℕ) → AreUses rules seen ids old
      → position (bytes_eq n) names ≡ None → IsAdded old new n k → AreUses rules (seen ++ n ∷ []) ids new
  missing-use ids old new k u none a =
      let not-known = position-none (bytes_eq n) names none in
      let added : names_of new ≡ names_of old ++ news Exact (names_of old) (n ∷ []) = rw u.compares at a.all in
      record {
        compares = a.case ∙ u.compares;
        all = added ∙ ap (λ l. l ++ news Exact l (n ∷ [])) u.all
            ∙ sym (news-next (news Exact names seen) refl (is_among Exact (news Exact names seen) n)
            (list_any-append (bytes_eq n) names (news Exact names seen)
            ∙ ap (λ b. b || is_among Exact (news Exact names seen) n) not-known));
        known = λ name id own.
            u.known name id own ∙ sym (or-false (is_among Exact seen name))
            ∙ ap (λ b. is_among Exact seen name || b) (sym (other-name name n (λ is.
            none-some id (sym none ∙ ap (λ x. position (bytes_eq x) names) (sym is) ∙ own))))
            ∙ sym (among-next name);
      }

-- the uses in one more member
all-more : (ps : List Pattern) (p : Pattern) → names_in_all (patterns (ps ++ p ∷ [])) ≡ names_in_all (patterns ps)
    ++ names_in p
all-more [] p = append-nil (names_in p)
all-more (q ∷ ps) p = ap (λ l. names_in q ++ l) (all-more ps p)
    ∙ sym (append_assoc (names_in q) (names_in_all (patterns ps)) (names_in p))

pub all-next : (es : List Expr) (i : ℕ) (e : Expr) → i < length es → e ≡ get_or es i e →
    names_in_all (patterns_of (take (i + 1) es)) ≡ names_in_all (patterns_of (take i es)) ++ names_in (pattern_of e)
all-next es i e lt is =
    ap (λ (l : List Expr). names_in_all (patterns_of l)) (ap (λ (k : ℕ). take k es) (add-one i) ∙ take-suc es i e lt
    ∙ ap (λ x. take i es ++ x ∷ []) (sym is))
    ∙ ap (λ (l : List Pattern). names_in_all (patterns l)) (map-append pattern_of (take i es) (e ∷ []))
    ∙ all-more (map pattern_of (take i es)) (pattern_of e)

-- the uses in one more rule
pub used-next : (rules : List (table.Rule Expr)) (i : ℕ) (e : Expr) → slice_get (map (λ rule. rule.body) rules) i
    ≡ Some e →
    names_used (take (i + 1) (map rule_of rules)) ≡ names_used (take i (map rule_of rules)) ++ names_in (pattern_of e)
used-next rules i e h =
    let used = λ (rule : Rule). names_in rule.body in
    let bodies = map-map (λ (e : Expr). names_in (pattern_of e)) (λ (rule : table.Rule Expr). rule.body) rules in
    used_next used (map rule_of rules) i (names_in (pattern_of e))
    (ap (λ l. slice_get l i) (map-map used rule_of rules ∙ sym bodies)
    ∙ slice_get-map (λ (e : Expr). names_in (pattern_of e)) (map (λ rule. rule.body) rules) i
    ∙ ap (option_map (λ (e : Expr). names_in (pattern_of e))) h)

-- without a given start the first rule is the start rule
pub first-start : (rules : List (table.Rule Expr)) (n : List ℕ) → slice_get (map (λ rule. rule.name) rules) 0 ≡ Some n
    → n ∷ [] ≡ option_to_list (start_of None (map rule_of rules))
first-start [] n h = absurd (cc h)
first-start (rule ∷ rules) n h = let is : rule.name ≡ n = cc h in ap (λ x. x ∷ []) (sym is)

-- what an `Ok` means, said in other words
pub ok-then : {T E : Type 0} (P Q : T → Type 0) (r : Result T E) → ((x : T) → P x → Q x) → IfOk r P → IfOk r Q
ok-then P Q (Ok x) f h = f x h
ok-then P Q (Err x) f h = tt
