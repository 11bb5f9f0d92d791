-- How the comparison of the rules with one name ends.
-- Serves: abnfd_main
use Rattle.std.proofs.Common.{◌≡◌, ◌∙◌, ap, inl, inr, refl, sym, ℕ, List, subst}
use Rattle.std.specs.Prelude.{Some, slice_get}
use Rattle.abnfcheck.proofs.AbnfNotesLemmas.{sound_unless_refused}
use Rattle.abnfcheck.specs.AbnfGrammar.{IsSound, IsSoundGrammar}
use Rattle.abnfd.proofs.UnchangedRulesLemmas.{unchanged_known}
use Rattle.abnfd.specs.ComparedTexts.{AreLinesKnown}
use Rattle.abnfd.specs.ComparisonText.{verdict_between, verdict_status}
use Rattle.abnfd.specs.RulesByName.{AreBothChecked, AreChecked, EndsAs, has_found, is_rejected}
use Rattle.abnfd.specs.declared.by_name.BothRules.{BothRules}
use Rattle.abnfd.specs.declared.by_name.CheckedRules.{CheckedRules}
use Rattle.abnfprint.specs.AbnfReadBack.{file_rules}
use Rattle.abnfread.specs.AbnfViews.{rules_of}
use Rattle.abnfread.specs.Element.{Rule, id_of}
use Rattle.abnfrun.specs.AbnfNoted.{IsRefusedFor, again_in, all_rules, judged_of}
use Rattle.fixpoint.specs.NumberMarks.{IsMarked}
use Rattle.ruletable.specs.declared.alphabet.Alphabet.{Alphabet}
use Rattle.rulelines.specs.declared.alone.Alone.TheVariants.{Never}
use Rattle.rulelines.specs.declared.comparison.Comparison.{Comparison}
use Rattle.toolrun.specs.declared.status.Status.{Status}
use Rattle.toolrun.specs.declared.status.Status.TheVariants.{Done, Refused}

module _ (text : List ℕ) (checked : CheckedRules) (are : AreChecked text checked) (name : List ℕ) (id : ℕ)
    (is : id ≡ id_of (rules_of checked.rules) name) where
  judged_at : id ≡ judged_of are.definitions (Some name)
  judged_at = is ∙ ap (λ (rules : List Rule). id_of rules name) are.kept

  passes_marked : IsMarked checked.sound.items id → IsRefusedFor are.definitions (Some name) → ⊥
  passes_marked on = are.accepted name (subst (λ (k : ℕ). IsMarked checked.sound.items k) judged_at on)

  fails_unmarked : (IsMarked checked.sound.items id → ⊥) → IsRefusedFor are.definitions (Some name)
  fails_unmarked off =
      are.rejected name (λ on. off (subst (λ (k : ℕ). IsMarked checked.sound.items k) (sym judged_at) on))

  pub sound_at : IsMarked checked.sound.items id → IsSoundGrammar (record { rules = checked.rules; judged = id })
  sound_at on =
      let sound = sound_unless_refused (file_rules are.definitions) (all_rules are.definitions)
      (again_in are.definitions) (Some name) (passes_marked on) in
      record {
        folds = are.folds;
        sound = subst (λ (rules : List Rule). IsSound rules id) (sym are.kept)
            (subst (λ (k : ℕ). IsSound (all_rules are.definitions) k) (sym judged_at) sound);
      }

module _ (alphabet : Alphabet) (old new : List ℕ) (both : BothRules) (are : AreBothChecked old new both)
    (name : List ℕ) (id new_id : ℕ) (is : id ≡ id_of (rules_of both.old.rules) name) where
  pub old_rejected : (IsMarked both.old.sound.items id → ⊥) → EndsAs alphabet old new name Refused
  old_rejected off = is_rejected are.olds_are.reads are.news_are.reads
      (inl (fails_unmarked old both.old are.olds_are name id is off))

  module _ (new_is : new_id ≡ id_of (rules_of both.new.rules) name) where
    pub new_rejected : (IsMarked both.new.sound.items new_id → ⊥) → EndsAs alphabet old new name Refused
    new_rejected off = is_rejected are.olds_are.reads are.news_are.reads
        (inr (fails_unmarked new both.new are.news_are name new_id new_is off))

    module _ (on : IsMarked both.old.sound.items id) (new_on : IsMarked both.new.sound.items new_id) where
      pub ends_found : (found : Comparison) (status : Status)
          → AreLinesKnown alphabet (rules_of both.old.rules) id (rules_of both.new.rules) new_id found
          → status ≡ verdict_status (verdict_between found.old_alone found.new_alone)
          → EndsAs alphabet old new name status
      ends_found found status known same =
          let first = judged_at old both.old are.olds_are name id is in
          let second = judged_at new both.new are.news_are name new_id new_is in
          subst (λ (s : Status). EndsAs alphabet old new name s) (sym same)
          (has_found found are.olds_are.reads are.news_are.reads
          (passes_marked old both.old are.olds_are name id is on)
          (passes_marked new both.new are.news_are name new_id new_is new_on)
          (rw (are.olds_are.kept, are.news_are.kept, first, second) at known))

      pub ends_unchanged : slice_get both.partners.items id ≡ Some (Some new_id) → EndsAs alphabet old new name Done
      ends_unchanged paired =
          let found : Comparison = record { old_alone = Never; new_alone = Never } in
          ends_found found Done (unchanged_known alphabet (rules_of both.old.rules) (rules_of both.new.rules)
          both.partners.items are.pairs id new_id found paired refl refl) refl
