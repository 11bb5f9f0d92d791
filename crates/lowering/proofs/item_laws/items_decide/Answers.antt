use Rattle.std.proofs.Common.{ℕ, ◌≤◌, Bool, List, length, arith}
use Rattle.abnfread.specs.Element.{Rule}
use Rattle.abnfcheck.specs.Derivable.{AreLetters}
use Rattle.flatgrammar.specs.Flat.{Flat}
use Rattle.flatgrammar.specs.FlatVerdicts.{IsFlatVerdict}
use Rattle.flatgrammar.specs.declared.verdict.Verdict.{Verdict}
use Rattle.flatgrammar.specs.declared.verdict.Verdict.TheVariants.{Yes, No}
use Rattle.lowering.specs.GivenPrefixes.{GivesPrefixes}
use Rattle.lowering.specs.Verdicts.{IsVerdict}
use Rattle.lowering.proofs.ArePrunedLemmas.{gives_prefixes}
use Rattle.lowering.proofs.AwaitedItemsLemmas.{awaited_exactly}
use Rattle.lowering.proofs.AwaitsElementLemmas.{awaited_element}
use Rattle.lowering.proofs.PrunedOneLemmas.{pruned_one}
use Rattle.lowering.proofs.RuleDerivesLemmas.{derives_exactly}
use Rattle.lowering.proofs.RuleStartsLemmas.{rule_starts}
use Rattle.lowering.proofs.item_laws.items_decide.Goals as goal

verdict_of : (has : ℕ → Bool) (rules : List Rule) (judged : ℕ) (flat : Flat) (x : List ℕ) (verdict : Verdict)
    → GivesPrefixes has rules judged flat → length x ≤ flat.limit → AreLetters has x → IsFlatVerdict flat x verdict
    → IsVerdict has rules judged x verdict
verdict_of has rules judged flat x Yes prefixes short letters derives = (prefixes.lines x short letters).0 derives
verdict_of has rules judged flat x (No n) prefixes short letters is = (
  λ derived. is.0 ((prefixes.lines x short letters).1 derived),
  record {
    within = is.1.within;
    begins = λ some. (prefixes.viable x n short letters some is.1.within).0 (is.1.item some);
    last = λ m past most begins.
        is.1.last m past most ((prefixes.viable x m short letters (omega (arith, past)) most).1 begins);
  },
)

pub returns-clause-derives : goal.returns-clause-derives
returns-clause-derives c = λ has rules judged flat x lowered line letters.
    derives_exactly has rules judged flat lowered x line letters

pub returns-clause-verdict : goal.returns-clause-verdict
returns-clause-verdict c = verdict_of

pub returns-clause-awaited : goal.returns-clause-awaited
returns-clause-awaited c = λ has rules judged flat x lowered line letters rule top s n k site is stands.
    awaited_exactly has rules judged flat lowered x line letters rule top s n k site is stands

pub returns-clause-pruned : goal.returns-clause-pruned
returns-clause-pruned c = pruned_one

pub returns-clause-prefixes : goal.returns-clause-prefixes
returns-clause-prefixes c = λ has rules left judged flat pruned lowered.
    gives_prefixes has rules left pruned judged flat lowered

pub returns-clause-element : goal.returns-clause-element
returns-clause-element c = λ has rules judged x n rule k site body part is awaited.
    awaited_element has rules judged x n rule site part k body is awaited

pub returns-clause-starts : goal.returns-clause-starts
returns-clause-starts c = λ has rules judged flat lowered s id w is derives.
    rule_starts has rules judged flat lowered s id w is derives
