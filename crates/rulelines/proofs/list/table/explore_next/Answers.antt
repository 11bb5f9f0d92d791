use Rattle.std.proofs.Common.{◌≡◌, ◌<◌, ℕ, arith, length, refl, subst, sym}
use Rattle.std.specs.Prelude.{Contains, IfSome}
use Rattle.rulelines.specs.StateTables.{IsRowOf, IsWholeRow}
use Rattle.rulelines.proofs.StateTableLemmas.{row_added, row_within, rows_kept, seen_kept, states_added}
use Rattle.rulelines.proofs.list.table.explore_next.Goals as goal

pub returns-in_default : goal.returns-in_default
returns-in_default c =
    let table = c.args.table.now in
    let more = c.in_ok-row.ensures.more in
    states_added table _ c.requires.table refl refl refl more
    (seen_kept table.states c.lead_row.new.states more table.seen c.requires.table.seen) refl
    (rows_kept table.states c.lead_row.new.states more table.starts.items table.rows.items c.requires.table.rows_are)

pub returns-then-end-table : goal.returns-then-end-table
returns-then-end-table c =
    let table = c.args.table.now in
    let sets = c.lead_row.new.states in
    let more = c.in_ok-row.ensures.more in
    let row = c.in-Some.row in
    let whole = subst (λ v. IsWholeRow sets v c.len-state.result row.items) c.deref.ensures.value
    (subst (λ v. IfSome v (λ row. IsWholeRow sets c.deref.result.now c.len-state.result row.items)) c.in-Some.is
    c.in_ok-row.ensures.row) in
    let size : c.len-state.result ≡ length table.rows.items =
    (let a = c.len-state.ensures in let b = table.rows.ok.0 in omega (arith, a, b)) in
    states_added table _ c.requires.table refl refl refl more
    (c.row_end-end.ensures (length sets.states) (subst (λ v. (t : ℕ) → Contains v t → t < length sets.states)
    (sym c.deref-2.ensures.value)
    (row_within sets table.starts.items c.len-state.result row.items whole.0 whole.1))) refl
    (row_added table.states sets more table.starts.items table.rows.items c.push.new.self.items row
    c.requires.table.rows_are (subst (λ v. IsRowOf sets table.starts.items v row.items) size whole.1)
    c.in_ok-push.ensures.items)

pub returns-else-end-table : goal.returns-else-end-table
returns-else-end-table c =
    let table = c.args.table.now in
    let sets = c.lead_row.new.states in
    let more = c.in_ok-row.ensures.more in
    let row = c.in-Some.row in
    let whole = subst (λ v. IsWholeRow sets v c.len-state.result row.items) c.deref.ensures.value
    (subst (λ v. IfSome v (λ row. IsWholeRow sets c.deref.result.now c.len-state.result row.items)) c.in-Some.is
    c.in_ok-row.ensures.row) in
    let size : c.len-state.result ≡ length table.rows.items =
    (let a = c.len-state.ensures in let b = table.rows.ok.0 in omega (arith, a, b)) in
    states_added table _ c.requires.table refl refl refl more
    (seen_kept table.states sets more table.seen c.requires.table.seen) refl
    (row_added table.states sets more table.starts.items table.rows.items c.push.new.self.items row
    c.requires.table.rows_are (subst (λ v. IsRowOf sets table.starts.items v row.items) size whole.1)
    c.in_ok-push.ensures.items)
