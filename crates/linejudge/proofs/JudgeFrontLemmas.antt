-- A batch of lines, and the run after it.
-- Serves: run_lines
use Rattle.std.proofs.Common.{◌≡◌, ℕ, suc, ◌+◌, ◌≤◌, Bool, true, false, Some, List, [], ◌∷◌, ◌++◌, length, take, drop}
use Rattle.std.proofs.Common.{refl, sym, ◌∙◌, ap, arith, subst, append_assoc}
use Rattle.std.proofs.lemmas.List.{append-nil, drop-append-le, drop-drop}
use Rattle.memchr.specs.Find.{IsFirstByte, is_byte}
use Rattle.ruletable.specs.Writing.{IsPrefixOf}
use Rattle.feed.specs.declared.held.Flow.{Flow}
use Rattle.toolrun.specs.Agrees.{Agrees}
use Rattle.toolrun.specs.Input.{Input}
use Rattle.toolrun.proofs.AgreesLemmas.{rest_is}
use Rattle.toolrun.proofs.ExplainedIfLemmas.{if_not_asked}
use Rattle.linejudge.specs.InputLines.{
  GoesBy,
  Lines,
  StandsAt,
  next_position,
  kept_line,
  kept_size,
  printed_line,
  one_more,
}
use Rattle.linejudge.specs.InputLines.{with_end}
use Rattle.linejudge.specs.LineRefusals.{Refusals, ReportedUpTo, is_reported, none_after, one_reported}
use Rattle.linejudge.specs.LineSteps.{AddsLines}
use Rattle.linejudge.specs.declared.answers.Answer.{Answer}
use Rattle.linejudge.specs.declared.line.LineForm.{LineForm}
use Rattle.linejudge.specs.declared.reached.LinePosition.{LinePosition}
use Rattle.linejudge.proofs.KeptLineLemmas.{kept_is}
use Rattle.linejudge.proofs.NextLineLemmas.{first_found}

-- a line that was found in bytes stands where these stand
pub found_stands : (form : LineForm) (input : Input) (start len n s : ℕ) (front rest : List ℕ)
    → drop start input.bytes ≡ front ++ rest → s ≡ start + len → len ≤ length front
    → IsFirstByte (is_byte form.end) (drop len front) (Some n) → n ≤ form.limit
    → StandsAt form input s (take (kept_size form n) (drop len front)) (n + 1)
found_stands form input start len n s front rest is here within (before, found) short =
    let xs : List ℕ = drop len front in
    let line : List ℕ = take n xs in
    let split = first_found form.end n xs before found in
    let there : drop s input.bytes ≡ xs ++ rest =
    rw here (sym (drop-drop len start input.bytes) ∙ ap (drop len) is ∙ drop-append-le len front rest within) in
    let kept = kept_is form n xs line (drop (suc n) xs) split.0 split.2 in
    rw kept (subst (λ (k : ℕ). StandsAt form input s (kept_line form line) (k + 1)) split.2 (with_end line (record {
      after = drop (suc n) xs ++ rest;
      cut = there ∙ ap (λ t. t ++ rest) split.0 ∙ append_assoc line (form.end ∷ drop (suc n) xs) rest;
      one = split.1;
      within = omega (arith, split.2, short);
    })))

module _ (Reported : List ℕ → Answer → Type 0) (asked : Bool) (Refusal : List ℕ → ℕ → List ℕ → Type 0) (form : LineForm)
    (input : Input) where
  pub goes_nowhere : (at : LinePosition) → AddsLines Reported asked Refusal form input at at []
  goes_nowhere at = record { lines = λ text l. rw append-nil l; refusals = λ lacks reported r. r }

  -- a line of which nothing is explained
  reported_on : asked ≡ false → (lacks : Bool) (at : LinePosition) (reported line : List ℕ) (n : ℕ) (said : Answer)
      → ReportedUpTo Reported asked Refusal form input lacks at reported → GoesBy form input at line n
      → Reported line said
      → ReportedUpTo Reported asked Refusal form input lacks (next_position at n said) reported
  reported_on not false at reported line n said r stands says =
      subst (λ t. Refusals Reported asked Refusal form input (next_position at n said) t) (append-nil reported)
      (one_reported at reported line n said [] r stands says
      (if_not_asked (is_reported asked at.refused said) (Refusal line (at.count + 1)) (rw not refl)))
  reported_on not true at reported line n said r stands says = none_after at reported line n said r stands says

  pub goes_one_on : asked ≡ false → (old at : LinePosition) (added line : List ℕ) (n : ℕ) (said : Answer)
      → AddsLines Reported asked Refusal form input old at added → GoesBy form input at line n → Reported line said
      → AddsLines Reported asked Refusal form input old (next_position at n said)
      (added ++ printed_line form (at.count + 1) line said)
  goes_one_on not old at added line n said goes stands says = record {
    lines = λ text l. subst (λ t. Lines Reported form input (next_position at n said) t)
        (append_assoc text added (printed_line form (at.count + 1) line said))
        (one_more at (text ++ added) line n said (goes.lines text l) stands says);
    refusals = λ lacks reported r. reported_on not lacks at reported line n said
        (goes.refusals lacks reported r) stands says;
  }

  -- a batch of lines that was judged in bytes at the front of what is held
  pub batch_goes : {flow : Flow} (before items front added : List ℕ) (at next : LinePosition) → length before
      ≡ at.position
      → IsPrefixOf front items → Agrees (before ++ items) flow input →
      ((input : Input) (rest : List ℕ) → drop at.position input.bytes ≡ front ++ rest
      → AddsLines Reported asked Refusal form input at next added) →
      AddsLines Reported asked Refusal form input at next added
  batch_goes before items front added at next here (rest, is) agrees goes =
      goes input (rest ++ agrees.more) (rest_is before items here agrees ∙ ap (λ t. t ++ agrees.more) is
      ∙ append_assoc front rest agrees.more)
