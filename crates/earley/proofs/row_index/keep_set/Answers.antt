use Rattle.std.proofs.Common.{◌≡◌, length, sym, ◌∙◌, ap, subst}
use Rattle.std.proofs.lemmas.List.{with_items_is}
use Rattle.std.specs.Vec.{with_items}
use Rattle.earley.specs.RowIndexes.{AreIndexedBelow}
use Rattle.earley.proofs.RowIndexesLemmas.{indexed_more}
use Rattle.earley.proofs.row_index.keep_set.Goals as goal

pub returns-clause-indexed : goal.returns-clause-indexed
returns-clause-indexed c positions indexed =
    let old = c.args.filled.now in
    let rows = c.args.kept.rows.items in
    let own_same = c.in_ok-index_rows.ensures.own ∙ c.deref_mut.ensures.len in
    let rest_same = c.in_ok-index_rows.ensures.rest ∙ c.deref_mut-2.ensures.len in
    let union_same = c.in_ok-index_rows.ensures.union ∙ c.deref_mut-3.ensures.len in
    let own_is = with_items_is old.own c.index_rows.new.own own_same in
    let rest_is = with_items_is old.rest c.index_rows.new.rest rest_same in
    let union_is = with_items_is old.union c.index_rows.new.union union_same in
    let number : c.len-number.result ≡ length old.sets.items = c.len-number.ensures ∙ old.sets.ok.0 in
    let one = subst (λ r. AreIndexedBelow c.len-number.result (length r) r c.deref_mut.result.now
    c.deref_mut-2.result.now c.deref_mut-3.result.now c.index_rows.new.own c.index_rows.new.rest
    c.index_rows.new.union) c.deref.ensures.value c.in_ok-index_rows.ensures.indexes in
    let two = subst (λ n. AreIndexedBelow n (length rows) rows c.deref_mut.result.now c.deref_mut-2.result.now
    c.deref_mut-3.result.now c.index_rows.new.own c.index_rows.new.rest c.index_rows.new.union) number one in
    let three = subst (λ r. AreIndexedBelow (length old.sets.items) (length rows) rows r c.deref_mut-2.result.now
    c.deref_mut-3.result.now c.index_rows.new.own c.index_rows.new.rest c.index_rows.new.union)
    c.deref_mut.ensures.value two in
    let four = subst (λ r. AreIndexedBelow (length old.sets.items) (length rows) rows old.own.items r
    c.deref_mut-3.result.now c.index_rows.new.own c.index_rows.new.rest c.index_rows.new.union)
    c.deref_mut-2.ensures.value three in
    let five = subst (λ r. AreIndexedBelow (length old.sets.items) (length rows) rows old.own.items old.rest.items r
    c.index_rows.new.own c.index_rows.new.rest c.index_rows.new.union) c.deref_mut-3.ensures.value four in
    indexed_more positions c.args.kept old (record {
      sets = c.push.new.self;
      own = with_items old.own c.index_rows.new.own;
      rest = with_items old.rest c.index_rows.new.rest;
      union = with_items old.union c.index_rows.new.union;
    }) indexed (ap (λ v. length v) own_is ∙ (own_same ∙ old.own.ok.0))
    (ap (λ v. length v) rest_is ∙ (rest_same ∙ old.rest.ok.0))
    (ap (λ v. length v) union_is ∙ (union_same ∙ old.union.ok.0)) c.in_ok-push.ensures.items
    (subst (λ r. AreIndexedBelow (length old.sets.items) (length rows) rows old.own.items old.rest.items
    old.union.items (with_items old.own c.index_rows.new.own).items (with_items old.rest c.index_rows.new.rest).items r)
    (sym union_is)
    (subst (λ r. AreIndexedBelow (length old.sets.items) (length rows) rows old.own.items old.rest.items
    old.union.items (with_items old.own c.index_rows.new.own).items r c.index_rows.new.union) (sym rest_is)
    (subst (λ r. AreIndexedBelow (length old.sets.items) (length rows) rows old.own.items old.rest.items
    old.union.items r c.index_rows.new.rest c.index_rows.new.union) (sym own_is) five)))
