-- The key is new exactly where the name is.
use Rattle.std.proofs.Common.{◌≡◌, ap, ◌∙◌, sym, refl, subst, Some, None, ◌++◌, ◌∷◌, []}
use Rattle.std.proofs.lemmas.List.{length-map}
use Rattle.std.specs.Option.{option_copied}
use Rattle.ruletable.proofs.TableLemmas.{found_by_key, has_pushed, rules_in-push}
use Rattle.std.specs.HashMap.{UpdatesBy, get_by}
use Rattle.std.specs.Str.{bytes_eq}
use Rattle.ruletable.specs.RuleRows.{HasIdsOf, rule_in, rules_in, table_of}
use Rattle.ruletable.specs.Rules.{key_of}
use Rattle.ruletable.proofs.table.RuleTable.define.Goals.{in-Ok, in-Err}
use Rattle.ruletable.proofs.table.RuleTable.define.Goals as goal

pub returns-in-Some-clause-defines : goal.returns-in-Some-clause-defines
returns-in-Some-clause-defines g c =
    rw (← c.self.view_is) (
      sym (found_by_key c.self.inside.names c.self.inside.rows.items c.self.inside.ids c.args.name.now
          c.as_slice.result.now c.self.invariant (c.as_slice.ensures.value ∙ c.in_ok-key.ensures))
          ∙ sym c.get.ensures.value ∙ ap option_copied c.in-Some.is,
      refl,
    )

pub invariant_of-self-in-Ok : goal.invariant_of-self-in-Ok
invariant_of-self-in-Ok g c =
    let ids = c.self.inside.ids in
    let none : get_by (λ k. bytes_eq c.in_ok-key.key.items k.items) ids ≡ None =
    ap (λ t. get_by (λ k. bytes_eq t k.items) ids) (sym c.as_slice.ensures.value) ∙ sym c.get.ensures.value
    ∙ ap option_copied c.in_default.is in
    subst (λ l. HasIdsOf c.self.inside.names l c.insert.new.self) (sym c.in_ok-push.ensures.items)
    (has_pushed c.self.inside.names c.self.inside.rows.items _ c.in_ok-key.key ids c.insert.new.self c.self.invariant
    (c.in_ok-key.ensures ∙ ap (key_of c.self.inside.names) (sym c.in_ok-name.ensures.items)) none
    (subst (λ n. UpdatesBy (λ x y. bytes_eq x.items y.items) (λ k. bytes_eq c.in_ok-key.key.items k.items) ids
    c.insert.new.self (Some n)) (c.len-id.ensures ∙ c.self.inside.rows.ok.0) c.in-Ok.ensures.updates))

pub returns-clause-defines : goal.returns-clause-defines
returns-clause-defines g c = elim c.match-insert.branch [
  | in-Ok w ↦ rw (w.result-is, w.self-is, ← c.self.view_is) (
    sym (found_by_key c.self.inside.names c.self.inside.rows.items c.self.inside.ids c.args.name.now
        c.as_slice.result.now c.self.invariant (c.as_slice.ensures.value ∙ c.in_ok-key.ensures))
        ∙ sym c.get.ensures.value ∙ ap option_copied c.in_default.is,
    c.len-id.ensures ∙ c.self.inside.rows.ok.0 ∙ sym (length-map c.self.inside.rows.items rule_in),
    ap (λ l. table_of c.self.inside.names l) c.in_ok-push.ensures.items
        ∙ ap (λ rules. record { names = c.self.inside.names; rules = rules })
        (rules_in-push c.self.inside.rows.items _
        ∙ ap (λ n. rules_in c.self.inside.rows.items
        ++ record { name = n; body = c.args.body; span = c.args.span } ∷ [])
        c.in_ok-name.ensures.items),
  )
  | in-Err w ↦ rw w.result-is tt
]
