-- What the words ask for, from what is found and what the getters read of it.
-- Serves: asked_of
use Rattle.std.proofs.Common.{◌≡◌, ◌∙◌, ap, subst, sym, refl, true, true≢false, is_some, List, Option, None, Some}
use Rattle.std.specs.Prelude.{codes, option_map, IsSome}
use Rattle.std.specs.Borrow.{Bor}
use Rattle.clap.specs.Words.{Row, Text, first_of, first_value, one_of, one_text, rows_of}
use Rattle.clap.specs.declared.parser.matches.Found.{Found}
use Rattle.clap.proofs.WalkLemmas.{first_value-rows, one_text-rows}
use Rattle.cli.specs.Asked.{AreWhole, Ask, IsLimitOf, explained_in, format_named, input_named, mode_named}
use Rattle.cli.specs.declared.settings.Asked.{Asked}

first_found : (f : Found) (rows : List Row) → rows_of f ≡ rows → (id : Text) → first_value f id ≡ first_of id rows
first_found f rows e id = first_value-rows f id ∙ ap (first_of id) e

one_found : (f : Found) (rows : List Row) → rows_of f ≡ rows → (id : Text) → one_text f id ≡ one_of id rows
one_found f rows e id = one_text-rows f id ∙ ap (one_of id) e

pub words_ask : {O : Type 0} (Asks : List Row → O → Type 0) (f : Found) (rows : List Row) → rows_of f ≡ rows
    → AreWhole f → (a : Asked O) (path : Option (Bor Text))
    → a.settings.mode ≡ mode_named (first_value f (codes "mode"))
    → IsLimitOf (one_text f (codes "limit")) a.settings.limit
    → option_map (λ s. s.now) a.settings.start ≡ first_value f (codes "rule")
    → a.settings.input.now ≡ input_named (first_value f (codes "file"))
    → a.settings.explain ≡ explained_in (rows_of f)
    → Asks (rows_of f) a.settings.options
    → option_map (λ s. s.now) path ≡ first_value f (codes "grammar") → path ≡ Some a.path
    → option_map (λ s. s.now) a.file ≡ first_value f (codes "file")
    → a.format ≡ format_named (first_of (codes "format") (rows_of f)) → Ask Asks rows a
words_ask Asks f rows e whole a path mode limit start input explain options word is file format =
    let w = whole.limit in
    let number = subst (λ o. IsLimitOf o a.settings.limit) w.1 limit in
    record {
      mode = mode ∙ ap mode_named (first_found f rows e (codes "mode"));
      limit = (w.0, sym (one_found f rows e (codes "limit")) ∙ w.1, w.2, number w.2.0 w.2.1 w.2.2);
      start = start ∙ first_found f rows e (codes "rule");
      input = input ∙ ap input_named (first_found f rows e (codes "file"));
      explain = explain ∙ ap explained_in e;
      options = subst (λ r. Asks r a.settings.options) e options;
      grammar = sym (first_found f rows e (codes "grammar"))
          ∙ (sym word ∙ ap (option_map (λ (s : Bor Text). s.now)) is);
      file = file ∙ first_found f rows e (codes "file");
      format = format ∙ ap (λ (r : List Row). format_named (first_of (codes "format") r)) e;
    }

-- what is mapped to something is something
pub some_mapped : {A B : Type 0} (f : A → B) (o : Option A) (p : Option B) → option_map f o ≡ p → is_some p ≡ true
    → IsSome o
some_mapped f None p e some = absurd (true≢false (sym some ∙ ap is_some (sym e)))
some_mapped f (Some x) p e some = refl
