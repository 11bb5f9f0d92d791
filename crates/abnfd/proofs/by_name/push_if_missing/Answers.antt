-- A rule has the name, or none has.
use Rattle.std.proofs.Common.{◌≡◌, ◌∙◌, ◌++◌, List, ℕ, ap, append-nil, append_assoc, codes, false, sym, true}
use Rattle.abnfd.specs.RulesByName.{is_named}
use Rattle.ruletable.specs.Rules.{names_of}
use Rattle.abnfd.proofs.by_name.push_if_missing.Goals as goal

pub returns-then-is_there : goal.returns-then-is_there
returns-then-is_there c =
    let is : is_named (names_of c.args.names.now) c.args.name.now ≡ true =
    sym c.in_ok-is_there.ensures ∙ c.if-is_there.true in
    rw is (sym (append-nil _))

pub returns : goal.returns
returns c =
    let is : is_named (names_of c.args.names.now) c.args.name.now ≡ false =
    sym c.in_ok-is_there.ensures ∙ c.if-is_there.false in
    let mark = c.args.mark.now in
    let name = c.args.name.now in
    let end = codes "\n" in
    let written = c.in_ok-extend_from_slice-3.ensures.items
    ∙ ap (λ (l : List ℕ). l ++ end) (c.in_ok-extend_from_slice-2.ensures.items
    ∙ ap (λ (l : List ℕ). l ++ name) c.in_ok-extend_from_slice.ensures.items) in
    let out = c.args.out.now.items in
    rw is (written ∙ (append_assoc (out ++ mark) name end ∙ (append_assoc out mark (name ++ end)
    ∙ ap (λ (l : List ℕ). out ++ l) (sym (append-nil (mark ++ (name ++ end)))))))
