use Rattle.std.proofs.lemmas.Result.{IfOk-weaker}
use Rattle.pegread.proofs.SpellsBytesLemmas.{literal-quoted}
use Rattle.pegread.proofs.literal.literal_bytes.Goals as goal

pub text_bytes-requires : goal.text_bytes-requires
text_bytes-requires c = let q = literal-quoted c.requires in rw (c.inside.ensures q.mark q.mark q.inside q.cut) q.paired

pub returns : goal.returns
returns c =
    let q = literal-quoted c.requires in
    let e = c.inside.ensures q.mark q.mark q.inside q.cut in
    IfOk-weaker c.text_bytes.result _ _ (λ bytes h. record {
      mark = q.mark;
      inside = q.inside;
      cut = q.cut;
      chars = rw e at h;
    }) c.text_bytes.ensures
