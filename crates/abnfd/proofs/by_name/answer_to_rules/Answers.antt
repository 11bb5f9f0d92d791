-- The lines, and then the names that one text alone defines.
use Rattle.std.proofs.Common.{◌≡◌, ◌∙◌, ◌++◌, List, ℕ, ap, append_assoc, codes, rules}
use Rattle.abnfd.specs.RulesByName.{has_rows, missing_in, names_text}
use Rattle.ruletable.specs.Rules.{names_of}
use Rattle.abnfd.proofs.by_name.answer_to_rules.Goals as goal

pub push_missing-requires : goal.push_missing-requires
push_missing-requires c = c.requires.2.news_are.names_fold

pub push_missing-requires-2 : goal.push_missing-requires-2
push_missing-requires-2 c = c.requires.2.olds_are.names_fold

pub returns : goal.returns
returns c = λ old new are.
    let both = c.args.both.now in
    let lines = c.in_ok-text.field-0.text.items in
    let olds = names_text (codes "< ") (missing_in (names_of both.new.names) (names_of both.old.names)) in
    let news = names_text (codes "> ") (missing_in (names_of both.old.names) (names_of both.new.names)) in
    let first : c.push_missing.new.out.items ≡ lines ++ olds = search rules in
    let written : c.push_missing-2.new.out.items ≡ lines ++ (olds ++ news) =
    c.in_ok-push_missing-2.ensures ∙ (ap (λ (l : List ℕ). l ++ news) first ∙ append_assoc lines olds news) in
    rw (written, are.olds_are.names_are, are.news_are.names_are) (has_rows are.olds_are.reads are.news_are.reads
    (rw (are.olds_are.names_are, are.news_are.names_are) at c.in_ok-text.ensures old new are))
