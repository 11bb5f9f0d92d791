-- The new text defines the name, or not.
use Rattle.std.proofs.Common.{◌≡◌, ◌∙◌, [], append-nil, false, sym, true}
use Rattle.std.proofs.lemmas.Result.{IfOk-weaker}
use Rattle.abnfd.specs.RulesByName.{is_named, row_text}
use Rattle.abnfd.proofs.RulesByNameLemmas.{no_rows, one_row}
use Rattle.ruletable.specs.Rules.{names_of}
use Rattle.abnfd.proofs.by_name.push_if_shared.Goals as goal

pub returns-then-not-is_shared : goal.returns-then-not-is_shared
returns-then-not-is_shared c =
    let is : is_named (names_of c.args.both.now.new.names) c.args.name.now ≡ false =
    sym c.in_ok-is_shared.ensures ∙ c.if-not-is_shared.true in
    ([], (λ old new are. rw is (no_rows _ _ _)), sym (append-nil _))

pub returns : goal.returns
returns c =
    let named : is_named (names_of c.args.both.now.new.names) c.args.name.now ≡ true =
    sym c.in_ok-is_shared.ensures ∙ c.if-not-is_shared.false in
    IfOk-weaker c.push_row.result _ _
    (λ status is. (
      row_text c.args.name.now status,
      (λ old new are. rw named (one_row _ _ _ c.args.name.now status (is.0 old new are))),
      is.1,
    )) c.push_row.ensures
