use Rattle.std.proofs.Common.{◌≡◌, ◌-◌, refl, ap, subst, sym, ◌∙◌, arith}
use Rattle.std.specs.Prelude.{Some, slice_get}
use Rattle.std.proofs.lemmas.Option.{slice_get-get_or}
use Rattle.lazydfa.proofs.kernels.find_lead.Goals as goal

pub returns-then-is_of : goal.returns-then-is_of
returns-then-is_of c =
    let first : slice_get c.args.leads.now.items.items (c.loop.entry - 1) ≡ Some c.index.result.now =
    slice_get-get_or c.args.leads.now.items.items (c.loop.entry - 1) c.index.result.now
    (let a = c.if-entry-eq0.false in let b = c.if-entry-len.false in let l = c.len.ensures in omega (arith, a, b, l))
    ∙ ap (λ v. Some v) (sym c.index.ensures) in
    let again : slice_get c.args.leads.now.items.items (c.loop.entry - 1) ≡ Some c.index-then-is_of.result.now =
    slice_get-get_or c.args.leads.now.items.items (c.loop.entry - 1) c.index-then-is_of.result.now
    (let a = c.if-entry-eq0.false in let b = c.if-entry-len.false in let l = c.len.ensures in omega (arith, a, b, l))
    ∙ ap (λ v. Some v) (sym c.index-then-is_of.ensures) in
    let same : c.index.result.now ≡ c.index-then-is_of.result.now = cc (first, again) in
    record {
      position = c.loop.entry - 1;
      lead = c.index-then-is_of.result.now;
      is = again;
      kernel_is = subst (λ v. v.kernel.items ≡ c.args.kernel.now) same (c.if-is_of.ensures refl);
      to_is = refl;
    }
