-- The bodies of the pair.
use Rattle.std.proofs.Common.{◌≡◌, length, refl}
use Rattle.std.proofs.lemmas.Option.{slice_get_read}
use Rattle.std.proofs.lemmas.Result.{IfOk-weaker}
use Rattle.std.specs.Prelude.{Some, slice_get}
use Rattle.abnfread.specs.AbnfViews.{element_of}
use Rattle.abnfd.proofs.UnchangedRulesLemmas.{body_there}
use Rattle.abnfd.proofs.alike.Pairing.is_alike_pair.Goals as goal

pub returns : goal.returns
returns c =
    let s = c.args.self.now in
    let entry = c.in-Some-Some.ensures.lookup in
    let there : slice_get s.partners.now c.args.id ≡ Some c.in-Some-Some.field-0.now =
    slice_get_read s.partners.now (length s.partners.now) c.args.id c.in-Some-Some.field-0.now refl entry.3.0
    entry.1 in
    IfOk-weaker c.are_alike.result _ _
    (λ alike are other is at.
    let same : c.in-Some-Some.other ≡ other = cc (there, at, c.in-Some-Some.field-0-is) in
    record {
      body = element_of c.body.result.now;
      other_body = element_of c.body-2.result.now;
      is = body_there s.old.now.rules c.args.id c.body.result.now c.body.ensures;
      other_is = body_there s.new.now.rules other c.body-2.result.now (rw same at c.body-2.ensures);
      alike = are is;
    }) c.are_alike.ensures
