-- The name's rule has its id.
use Rattle.std.proofs.Common.{◌≡◌, ◌≤◌, length, refl, arith}
use Rattle.std.proofs.lemmas.Result.{IfOk-weaker}
use Rattle.abnfread.specs.AbnfViews.{rules_of}
use Rattle.abnfread.specs.Element.{Name, id_of}
use Rattle.abnfcheck.proofs.RuleIdLemmas.{id_found}
use Rattle.coverlines.specs.KnownWords.{known_at}
use Rattle.coverlines.specs.Shortest.{Spells}
use Rattle.coverlines.proofs.WordsLemmas.{copy_shortest, known_past, none_known}
use Rattle.coverlines.proofs.words.known_word.Goals as goal

pub returns-in-Some : goal.returns-in-Some
returns-in-Some c =
    let at = id_found c.args.words.now.rules.now c.args.name.now c.in_ok-id.field-0
    (length c.args.words.now.rules.now.rules) c.requires.names c.in_ok-id.ensures.found refl in
    let is : c.in-Some.id ≡ id_of (rules_of c.args.words.now.rules.now) c.args.name.now = rw c.in-Some.is at at in
    IfOk-weaker c.copy_known.result _ _ (λ w copy rules known. copy_shortest
    (Spells c.args.words.now.bounds rules (Name c.args.name.now)) c.args.words.now.bounds.limit
    (known_at c.args.words.now.known.now c.in-Some.id) w copy (rw is (known c.args.name.now))) c.copy_known.ensures

pub returns-in-None : goal.returns-in-None
returns-in-None c = λ rules known. none_known c.args.words.now rules c.args.name.now known
    (known_past c.args.words.now.known.now (id_of (rules_of c.args.words.now.rules.now) c.args.name.now) far)
  where
    far : length c.args.words.now.known.now ≤ id_of (rules_of c.args.words.now.rules.now) c.args.name.now
    far = let at = id_found c.args.words.now.rules.now c.args.name.now c.in_ok-id.field-0
        (length c.args.words.now.rules.now.rules) c.requires.names c.in_ok-id.ensures.found refl in
        let is : length c.args.words.now.rules.now.rules
        ≡ id_of (rules_of c.args.words.now.rules.now) c.args.name.now = rw c.in-None.is at at in
        omega (arith, is, c.requires.count)
