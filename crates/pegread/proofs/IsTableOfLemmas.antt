-- The table of definitions, one definition more.
-- Serves: print_peg, read_peg
use Rattle.std.proofs.Common.{◌≡◌, ℕ, zero, suc, List, [], ◌∷◌, ◌++◌, length, Option, Some, None, refl, sym, ap, ◌∙◌}
use Rattle.std.proofs.Common.{append_assoc, append-nil, bytes_eq, arith, ◌<◌, inl, inr, Contains, length-append}
use Rattle.std.proofs.lemmas.List.Quantifiers.{position-Some}
use Rattle.std.proofs.lemmas.List.Elements.{Contains-append_cases}
use Rattle.std.proofs.lemmas.List.{map-append, length-map}
use Rattle.ruletable.proofs.TableLemmas.{position-map}
use Rattle.ruletable.specs.Rules as table
use Rattle.ruletable.specs.Rules.{find_in, Defines, AreIds}
use Rattle.ruletable.specs.declared.table.NameCase.TheVariants.{Exact}
use Rattle.ruletable.specs.declared.table.Defined.TheVariants.{Added, Duplicate}
use Rattle.pegread.specs.declared.expr.Expr.{Expr}
use Rattle.pegread.specs.declared.reader.Definition.{Definition}
use Rattle.pegread.specs.Pattern.{Rule}
use Rattle.pegread.specs.PegViews.{rule_of, rules_of}
use Rattle.pegread.specs.Definitions.{id_in, firsts, agains, IsTableOf}
use Rattle.pegread.specs.Steps.{rule_from}

-- a table and what is left make up the table of all definitions
pub record Goes (all : List Rule) (rules : table.Rules Expr) (redefined : List ℕ) (left : List Rule) : Type 0 where
  pub names : rules.names ≡ Exact
  pub kept : rules_of rules ++ firsts (rules_of rules) left ≡ firsts [] all
  pub again : redefined ++ agains (rules_of rules) left ≡ agains [] all

-- the code's rule of a definition
abbrev pub row_of : Definition → table.Rule Expr
row_of d = record { name = d.name.now; body = d.body; span = d.span }

found-in : (rules : table.Rules Expr) (n : List ℕ) → rules.names ≡ Exact → find_in rules n ≡ id_in (rules_of rules) n
found-in rules n exact = rw exact (sym (position-map rule_of (λ (rule : Rule). bytes_eq n rule.name) rules.rules))

module _ (all : List Rule) (old new : table.Rules Expr) (redefined : List ℕ) (d : Definition) (left : List Rule) where
  pub goes-added : (id : ℕ) → Goes all old redefined (rule_from d ∷ left) → Defines old new (row_of d) (Added id)
      → Goes all new redefined left
  goes-added id g h =
      let unknown = sym (found-in old d.name.now g.names) ∙ h.0 in
      let first = rw (unknown, firsts) at g.kept in
      let again = rw (unknown, agains) at g.again in
      let same : rules_of new ≡ rules_of old ++ rule_from d ∷ [] = ap rules_of h.2
      ∙ map-append rule_of old.rules (row_of d ∷ []) in
      record {
        names = ap (λ (t : table.Rules Expr). t.names) h.2 ∙ g.names;
        kept = rw same (append_assoc (rules_of old) (rule_from d ∷ []) _ ∙ first);
        again = rw same again;
      }

  pub goes-again : (id : ℕ) → Goes all old redefined (rule_from d ∷ left) → Defines old new (row_of d) (Duplicate id)
      → Goes all new (redefined ++ id ∷ []) left
  goes-again id g h =
      let known = sym (found-in old d.name.now g.names) ∙ h.0 in
      let first = rw (known, firsts) at g.kept in
      let again = rw (known, agains) at g.again in
      rw h.1 (record { names = g.names; kept = first; again = append_assoc redefined (id ∷ []) _ ∙ again })

pub goes-first : (all : List Rule) (rules : table.Rules Expr) (redefined : List ℕ) → rules.names ≡ Exact
    → rules.rules ≡ [] → redefined ≡ [] → Goes all rules redefined all
goes-first all rules redefined names none fresh =
    record { names = names; kept = rw none refl; again = rw (none, fresh) refl }

pub goes-last : (all : List Rule) (rules : table.Rules Expr) (redefined : List ℕ) → Goes all rules redefined []
    → IsTableOf all rules redefined
goes-last all rules redefined g = record {
  names = g.names;
  kept = sym (append-nil (rules_of rules)) ∙ g.kept;
  again = sym (append-nil redefined) ∙ g.again;
}

-- where no name is defined again, the rules are the definitions
none-again-by : (known ds : List Rule) (d : Rule) (x : Option ℕ) → id_in known d.name ≡ x →
    (agains (known ++ d ∷ []) ds ≡ [] → firsts (known ++ d ∷ []) ds ≡ ds) → agains known (d ∷ ds) ≡ []
    → firsts known (d ∷ ds) ≡ d ∷ ds
none-again-by known ds d None e more h = let rest = rw (e, agains) at h in
    rw (e, firsts) (ap (λ (rs : List Rule). d ∷ rs) (more rest))
none-again-by known ds d (Some id) e more h = let none = rw (e, agains) at h in cc

pub none-again : (known ds : List Rule) → agains known ds ≡ [] → firsts known ds ≡ ds
none-again known [] h = refl
none-again known (d ∷ ds) h = none-again-by known ds d (id_in known d.name) refl
    (λ k. none-again (known ++ d ∷ []) ds k) h

only-one : (i id : ℕ) → Contains (i ∷ []) id → i ≡ id
only-one i id (zero, lt, e) = e
only-one i id (suc k, lt, e) = absurd (omega (arith, lt))

agains-within-by : (known ds : List Rule) (d : Rule) (x : Option ℕ) → id_in known d.name ≡ x → (id : ℕ) →
    ((rules : List Rule) → Contains (agains rules ds) id → id < length (rules ++ firsts rules ds))
    → Contains (agains known (d ∷ ds)) id → id < length (known ++ firsts known (d ∷ ds))
agains-within-by known ds d None e id more h =
    let c = rw (e, agains) at h in
    let lt = more (known ++ d ∷ []) c in
    rw (e, firsts) (omega (
      arith,
      lt,
      length-append (known ++ d ∷ []) (firsts (known ++ d ∷ []) ds),
      length-append known (d ∷ []),
      length-append known (d ∷ firsts (known ++ d ∷ []) ds),
    ))
agains-within-by known ds d (Some i) e id more h =
    let c = rw (e, agains) at h in
    let there = position-Some (λ (rule : Rule). bytes_eq d.name rule.name) known i d e in
    rw (e, firsts) (elim (Contains-append_cases (i ∷ []) (agains known ds) id c) [
      | inl one ↦ (let lt = there.0 in let same = only-one i id one in
          omega (arith, same, lt, length-append known (firsts known ds)))
      | inr rest ↦ more known rest
    ])

agains-within : (ds known : List Rule) (id : ℕ) → Contains (agains known ds) id → id < length (known ++ firsts known ds)
agains-within [] known id (k, lt, e) = absurd (omega (arith, lt))
agains-within (d ∷ ds) known id h = agains-within-by known ds d (id_in known d.name) refl id
    (λ rules k. agains-within ds rules id k) h

-- the ids of rules that are defined again are ids
pub table-ids : (definitions : List Rule) (rules : table.Rules Expr) (redefined : List ℕ)
    → IsTableOf definitions rules redefined → AreIds rules redefined
table-ids definitions rules redefined h id k =
    let lt = agains-within definitions [] id (let e = h.again in rw e at k) in
    omega (arith, lt, ap length h.kept, length-map rules.rules rule_of)

-- some definition gives some rule
pub table-some : (definitions : List Rule) (rules : table.Rules Expr) (redefined : List ℕ)
    → IsTableOf definitions rules redefined → 0 < length definitions → 0 < length rules.rules
table-some [] rules redefined h lt = absurd (omega (arith, lt))
table-some (d ∷ ds) rules redefined h lt = omega (arith, ap length h.kept, length-map rules.rules rule_of)
