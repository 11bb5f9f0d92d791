use Rattle.std.proofs.Common.{◌≡◌, ◌+◌, ◌∷◌, [], arith, ap, length, length-append, refl}
use Rattle.fixpoint.specs.declared.needs.ListEntry.{ListEntry}
use Rattle.fixpoint.proofs.AreListsLemmas as l
use Rattle.fixpoint.proofs.needs.Users.add.Goals as goal

pub returns : goal.returns
returns c =
    let items = c.in_ok-push.ensures.items in
    let more = ap length items in
    let link : ListEntry = record { user = c.args.n; next = c.index.result.now } in
    let size = length-append c.args.self.now.links.items (link ∷ []) in
    let len = c.len.ensures in
    let ok = c.push.new.self.ok.0 in
    let first : c.len.result ≡ length c.args.self.now.links.items + 1 = omega (arith, more, size, len, ok) in
    l.adds_one _ _ _ _ _ _ c.requires c.index.ensures items first refl
