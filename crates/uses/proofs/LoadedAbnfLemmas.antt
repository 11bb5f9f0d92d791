-- What the checks of a grammar return is what its text is loaded as.
-- Serves: load_abnf
use Rattle.std.proofs.Common.{◌≡◌, ℕ, List, ap, ◌∙◌}
use Rattle.std.specs.Prelude.{Some, None, Option, MatchOption}
use Rattle.abnfcheck.specs.AbnfGrammar.{Grammar}
use Rattle.abnfcheck.specs.AbnfNotes.{IsSoundUnlessRefused, judged_in}
use Rattle.abnfcheck.specs.WithCore.{with_core}
use Rattle.abnfread.specs.AbnfReading.{Reads}
use Rattle.abnfread.specs.AbnfTable.{IsCoreTable, IsTableOf}
use Rattle.abnfread.specs.AbnfViews.{rules_of}
use Rattle.abnfread.specs.Element.{Definition}
use Rattle.abnfread.specs.declared.elem.Elem.{Elem}
use Rattle.abnfrun.specs.AbnfNoted.{IsRefusedFor, all_rules, judged_of}
use Rattle.abnfrun.proofs.AllRulesLemmas.{all_same}
use Rattle.ruletable.specs.Rules as table
use Rattle.uses.specs.LoadedAbnf.{IsAbnfLoaded}

pub is_loaded : (text : List ℕ) (given : Option (List ℕ)) (file core : table.Rules Elem) (again early : List ℕ)
    (sound : Option Grammar)
    → ((definitions : List Definition) × Reads text definitions × IsTableOf definitions file again early)
    → IsCoreTable core → IsSoundUnlessRefused (rules_of file) (with_core file core.rules) again given sound
    → IsAbnfLoaded text given sound
is_loaded text given file core again early sound (ds, reads, t) c ready = record {
  definitions = ds;
  reads = reads;
  ready = by sound ready;
}
  where
    all : rules_of (with_core file core.rules) ≡ all_rules ds
    all = all_same ds file core t.names t.kept c.listed

    by : (sound : Option Grammar) →
        IsSoundUnlessRefused (rules_of file) (with_core file core.rules) again given sound →
        MatchOption sound (IsRefusedFor ds given) (λ g. (IsRefusedFor ds given → ⊥) × (rules_of g.rules ≡ all_rules ds)
        × (g.judged ≡ judged_of ds given))
    by None h = rw (all, t.kept, t.again) at h
    by (Some g) h = (rw (all, t.kept, t.again) at h.0, ap rules_of h.1 ∙ all, h.2 ∙ ap (judged_in given) all)
