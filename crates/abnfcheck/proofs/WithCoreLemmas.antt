-- A file's rules with the core rules after them begin with those of the file.
-- Serves: check_abnf (notes, sound)
use Rattle.std.proofs.Common.{◌≡◌, List, ◌++◌, map, refl, sym, ◌∙◌, ap}
use Rattle.std.proofs.lemmas.List.{map-append}
use Rattle.ruletable.specs.Rules as table
use Rattle.ruletable.specs.Rules.{names_of}
use Rattle.abnfread.specs.AbnfViews.{rules_of}
use Rattle.abnfread.specs.declared.elem.Elem.{Elem}
use Rattle.abnfcheck.specs.AbnfUses.{rule_names}
use Rattle.abnfcheck.specs.WithCore.{left_alone, with_core}
use Rattle.abnfcheck.proofs.NameIdsLemmas.{names_same}

pub record Extends (old new : table.Rules Elem) : Type 0 where
  pub more : List (table.Rule Elem)
  pub is : new.rules ≡ old.rules ++ more
  pub names : new.names ≡ old.names

pub extends_file : (file : table.Rules Elem) (core : List (table.Rule Elem)) → Extends file (with_core file core)
extends_file file core = record { more = left_alone file core; is = refl; names = refl }

pub names_begin : (file all : table.Rules Elem) (e : Extends file all) → names_of all ≡ rule_names (rules_of file)
    ++ map (λ rule. rule.name) e.more
names_begin file all e = ap (map (λ (rule : table.Rule Elem). rule.name)) e.is
    ∙ map-append (λ (rule : table.Rule Elem). rule.name) file.rules e.more
    ∙ ap (λ l. l ++ map (λ (rule : table.Rule Elem). rule.name) e.more) (sym (names_same file.rules))
