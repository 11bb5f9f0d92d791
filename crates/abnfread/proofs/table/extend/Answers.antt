use Rattle.std.proofs.Common.{length, ap, ◌∙◌, arith}
use Rattle.ruletable.specs.Rules as table
use Rattle.abnfread.specs.declared.elem.Elem.{Elem}
use Rattle.abnfread.proofs.JoinedTableLemmas.{length-set, with-twice}
use Rattle.abnfread.proofs.table.extend.Goals as goal

pub body_mut-requires : goal.body_mut-requires
body_mut-requires c =
    let t = c.take_body-old.ensures.rest in
    let e = ap (λ (x : table.Rules Elem). length x.rules) t.is in
    let n = length-set c.args.rules.now.rules c.args.id t.body in
    let lt = c.requires in
    omega (arith, e, n, lt)

pub returns-clause-body : goal.returns-clause-body
returns-clause-body c =
    let t = c.take_body-old.ensures.rest in
    record {
      body = c.take_body-old.result;
      joins = c.in_ok-new.new;
      there = c.take_body-old.ensures.body;
      is = ap (λ (x : table.Rules Elem). table.with_body x c.args.id c.in_ok-new.new) t.is
          ∙ with-twice c.args.rules.now c.args.id t.body c.in_ok-new.new;
      sums = c.in_ok-new.ensures;
    }
