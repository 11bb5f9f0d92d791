-- The lines and names of one rule more.
-- Serves: abnfd_main
use Rattle.std.proofs.Common.{◌≡◌, ◌∙◌, ap, ap₂, refl, sym, ℕ, ◌+◌, Bool, List, [], ◌∷◌, ◌++◌}
use Rattle.std.proofs.Common.{arith, take, add-one, append-nil, append_assoc}
use Rattle.std.proofs.Math.Seq.{take-suc}
use Rattle.std.proofs.lemmas.Grind.{flat_map-append}
use Rattle.std.proofs.lemmas.List.{map-append}
use Rattle.std.proofs.lemmas.List.Elements.{All-append, All-cons, All-nil, filter-append}
use Rattle.std.proofs.lemmas.Option.{get_or_from_slice_get, slice_get_within}
use Rattle.std.specs.Prelude.{Some, codes, is_some, max, slice_get}
use Rattle.std.specs.List.{filter, list_any}
use Rattle.abnfcheck.proofs.JoinLemmas.{position_found}
use Rattle.abnfd.specs.RulesByName.{EndsAs, HasRows, RuleRow, greatest_code, is_named, names_text, row_text}
use Rattle.ruletable.specs.declared.alphabet.Alphabet.{Alphabet}
use Rattle.fixpoint.proofs.IsAddedLemmas.{found_in}
use Rattle.ruletable.specs.Rules.{Rules, find_in, names_of, same_name}
use Rattle.ruletable.specs.declared.table.NameCase.{NameCase}
use Rattle.ruletable.specs.declared.table.NameCase.TheVariants.{Fold}
use Rattle.toolrun.specs.Status.{code_of}
use Rattle.toolrun.specs.declared.status.Status.{Status}
use Rattle.toolrun.specs.declared.status.Status.TheVariants.{Done}

-- the names that pass, up to the next one
pub next_passes : (p : List ℕ → Bool) (names : List (List ℕ)) (i : ℕ) (name : List ℕ) → slice_get names i ≡ Some name
    → filter p (take (i + 1) names) ≡ filter p (take i names) ++ filter p (name ∷ [])
next_passes p names i name at =
    ap (λ (k : ℕ). filter p (take k names)) (add-one i)
    ∙ (ap (filter p) (take-suc names i name (slice_get_within names i name at))
    ∙ (ap (λ (x : List ℕ). filter p (take i names ++ x ∷ [])) (get_or_from_slice_get names i name name at)
    ∙ filter-append p (take i names) (name ∷ [])))

-- the text of the names that pass, with that of the next one
pub text_more : (mark : List ℕ) (p : List ℕ → Bool) (names : List (List ℕ)) (i : ℕ) (name base text line : List ℕ)
    → slice_get names i ≡ Some name → text ≡ base ++ names_text mark (filter p (take i names))
    → line ≡ text ++ names_text mark (filter p (name ∷ []))
    → line ≡ base ++ names_text mark (filter p (take (i + 1) names))
text_more mark p names i name base text line at is written =
    let before = filter p (take i names) in
    let next = filter p (name ∷ []) in
    written ∙ (ap (λ (l : List ℕ). l ++ names_text mark next) is
    ∙ (append_assoc base (names_text mark before) (names_text mark next)
    ∙ ap (λ (l : List ℕ). base ++ l)
    (sym (flat_map-append (λ (n : List ℕ). mark ++ (n ++ codes "\n")) before next)
    ∙ ap (names_text mark) (sym (next_passes p names i name at)))))

-- a table finds the names that it has
pub named_found : (t : Rules (Unit {0})) (name : List ℕ) → t.names ≡ Fold
    → is_some (find_in t name) ≡ is_named (names_of t) name
named_found t name folds = ap is_some (found_in t name) ∙ (position_found (same_name t.names name) (names_of t)
    ∙ ap (λ (case : NameCase). list_any (same_name case name) (names_of t)) folds)

greatest_both : (rows more : List RuleRow) → greatest_code (rows ++ more)
    ≡ max (greatest_code rows) (greatest_code more)
greatest_both [] more = omega arith
greatest_both (row ∷ rows) more = let both = greatest_both rows more in omega (arith, both)

module _ (alphabet : Alphabet) (old new : List ℕ) where
  pub no_rows : HasRows alphabet old new [] [] Done
  no_rows = record {
    rows = [];
    are_rows = record { are_named = refl; end = All-nil _ };
    written = refl;
    greatest = refl;
  }

  -- what holds of a row
  abbrev Ends : RuleRow → Type 0
  Ends row = EndsAs alphabet old new row.name row.status

  pub one_row : (name : List ℕ) (status : Status) → EndsAs alphabet old new name status
      → HasRows alphabet old new (name ∷ []) (row_text name status) status
  one_row name status ends =
      let row : RuleRow = record { name = name; status = status } in
      record {
        rows = row ∷ [];
        are_rows = record { are_named = refl; end = All-cons Ends row [] ends (All-nil Ends) };
        written = sym (append-nil (row_text name status));
        greatest = omega arith;
      }

  pub more_rows : (names more : List (List ℕ)) (text line : List ℕ) (most status next : Status)
      → HasRows alphabet old new names text most → HasRows alphabet old new more line status
      → code_of next ≡ max (code_of most) (code_of status)
      → HasRows alphabet old new (names ++ more) (text ++ line) next
  more_rows names more text line most status next first then greatest = record {
    rows = first.rows ++ then.rows;
    are_rows = record {
      are_named = map-append (λ (r : RuleRow). r.name) first.rows then.rows
          ∙ ap₂ (λ (a b : List (List ℕ)). a ++ b) first.are_rows.are_named then.are_rows.are_named;
      end = All-append Ends first.rows then.rows first.are_rows.end then.are_rows.end;
    };
    written = ap₂ (λ (a b : List ℕ). a ++ b) first.written then.written
        ∙ sym (flat_map-append (λ (r : RuleRow). row_text r.name r.status) first.rows then.rows);
    greatest = greatest ∙ (ap₂ max first.greatest then.greatest ∙ sym (greatest_both first.rows then.rows));
  }
