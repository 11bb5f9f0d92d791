-- What is written of a report, and what the words ask for.
-- Serves: abnfd_main (right)
use Rattle.std.proofs.Common.{◌≡◌, ◌∙◌, ap, ap₂, sym, subst, refl, ℕ, Bool, List, [], Option, arith}
use Rattle.std.proofs.Common.{true, false}
use Rattle.std.specs.Prelude.{Result, Ok, Err, codes}
use Rattle.std.specs.Io.KnownBytes.{Appends}
use Rattle.abnfd.specs.CompareAnswers.{CompareAnswers, FilesCompared, answer_reply, clash_text, clashes}
use Rattle.abnfd.specs.CompareAnswers.{compares_files, shared_text, shares}
use Rattle.abnfd.specs.CompareWords.{all_asked, explain_asked, is_clash, new_rule_asked, new_rule_found}
use Rattle.abnfd.specs.CompareWords.{is_shared, old_rule_asked, symbols_asked}
use Rattle.clap.specs.Words.{Text, first_of, first_value, rows_of}
use Rattle.clap.specs.declared.parser.matches.Found.{Found}
use Rattle.clap.proofs.WalkLemmas.{first_value-rows}
use Rattle.ruletable.specs.declared.alphabet.Alphabet.{Alphabet}
use Rattle.ruletable.specs.Writing.{AppendsPart}
use Rattle.ruletable.specs.declared.sink.WriteFault.{WriteFault}
use Rattle.toolrun.specs.Input.{Input}
use Rattle.toolrun.specs.Plan.{IsReportedAnd}
use Rattle.toolrun.specs.Reply.{Reply}
use Rattle.toolrun.specs.Stopped.{Performs}
use Rattle.toolrun.specs.Stream.{no_input}
use Rattle.toolrun.specs.declared.status.Status.{Status}
use Rattle.toolrun.specs.declared.status.Status.TheVariants.{Refused}
use Rattle.toolrun.specs.declared.stop.Stop.{Stop}
use Rattle.toolrun.specs.declared.stop.Stop.TheVariants.{Quiet}

module _ (text : List ℕ) (status : Status) (s0 s1 : Option (List ℕ)) (was failed : Bool) where
  abbrev Writes : Result Stop WriteFault → Type 0
  Writes r = Performs (λ input reply. reply ≡ answer_reply text status) no_input
      (record { old = s0; new = s1; was = was; failed = failed }) r

  pub answer_written : Appends s0 s1 text → failed ≡ was → Writes (Ok (Quiet status))
  answer_written more flag = record {
    stopped = (
      [],
      text,
      refl,
      more,
      record {
        stated = answer_reply text status;
        states = refl;
        written = (refl, refl, refl);
        within = omega arith;
        exact = λ other. refl;
      },
    );
    flag = flag;
  }

  pub answer_cut : (fault : WriteFault) → AppendsPart s0 s1 text → failed ≡ true → Writes (Err fault)
  answer_cut fault part flag = record {
    stopped = (
      [],
      part.0,
      refl,
      part.2,
      record {
        stated = answer_reply text status;
        states = refl;
        written = part.1;
        within = omega arith;
        exact = tt;
      },
    );
    flag = flag;
  }

-- what the getters read is what the rows ask for
module _ (f : Found) (all : Bool) (new_rule : Option Text) (flag : all ≡ all_asked (rows_of f))
    (new : new_rule ≡ new_rule_found (first_value f (codes "new-rule")) (first_value f (codes "rule"))) where
  rule_asked : new_rule ≡ new_rule_asked (rows_of f)
  rule_asked =
      let rows = rows_of f in
      let first = first_value-rows f in
      new
      ∙ (ap (λ (o : Option Text). new_rule_found o (first_value f (codes "rule"))) (first (codes "new-rule"))
      ∙ ap (new_rule_found (first_of (codes "new-rule") rows)) (first (codes "rule")))

  clash_asked : is_clash all new_rule ≡ is_clash (all_asked (rows_of f)) (new_rule_asked (rows_of f))
  clash_asked = ap₂ is_clash flag rule_asked

  pub asked_twice : is_clash all new_rule ≡ true → (input : Input) (notes : List ℕ) (reply : Reply)
      → IsReportedAnd clash_text (Quiet Refused) input notes reply → CompareAnswers (rows_of f) input notes reply
  asked_twice twice input notes reply is = rw (is.0, is.1) (clashes (sym clash_asked ∙ twice))

  pub asked_shared : is_clash all new_rule ≡ false → is_shared (rows_of f) ≡ true → (input : Input) (notes : List ℕ)
      (reply : Reply) → IsReportedAnd shared_text (Quiet Refused) input notes reply
      → CompareAnswers (rows_of f) input notes reply
  asked_shared once both input notes reply is = rw (is.0, is.1) (shares (sym clash_asked ∙ once) both)

  pub asked_compared : (explain : Bool) (alphabet : Alphabet) (old_rule : Option Text)
      → explain ≡ explain_asked (rows_of f) → alphabet ≡ symbols_asked (rows_of f)
      → old_rule ≡ first_value f (codes "rule")
      → is_clash all new_rule ≡ false → is_shared (rows_of f) ≡ false
      → (input : Input) (notes : List ℕ) (reply : Reply)
      → FilesCompared all explain alphabet old_rule new_rule input notes reply
      → CompareAnswers (rows_of f) input notes reply
  asked_compared explain alphabet old_rule explained letters old once apart input notes reply is =
      let rows = rows_of f in
      let first = first_value-rows f in
      let e2 : old_rule ≡ old_rule_asked rows = old ∙ first (codes "rule") in
      compares_files (sym clash_asked ∙ once) apart
      (subst (λ (b : Bool). FilesCompared b (explain_asked rows) (symbols_asked rows) (old_rule_asked rows)
      (new_rule_asked rows) input notes reply) flag
      (subst (λ (b : Bool). FilesCompared all b (symbols_asked rows) (old_rule_asked rows) (new_rule_asked rows) input
      notes reply) explained
      (subst (λ (a : Alphabet). FilesCompared all explain a (old_rule_asked rows) (new_rule_asked rows) input notes
      reply) letters
      (subst (λ (o : Option Text). FilesCompared all explain alphabet o (new_rule_asked rows) input notes reply) e2
      (subst (λ (o : Option Text). FilesCompared all explain alphabet old_rule o input notes reply) rule_asked is)))))
