use Rattle.std.proofs.Common.{◌∙◌, ap, map, refl, List, None, subst}
use Rattle.std.proofs.lemmas.Simd.{map-map}
use Rattle.lexer.specs.TokenLists.{Tok}
use Rattle.diagnostics.specs.BodyMentions.{mentions_in}
use Rattle.diagnostics.specs.DefinitionHeads.{defined_at, sign_at}
use Rattle.diagnostics.specs.NameIndexes.{Rises}
use Rattle.diagnostics.proofs.RisingStartsLemmas.{starts-rise}
use Rattle.diagnostics.proofs.noteplaces.explained.positions_by.Goals as goal

pub returns : goal.returns
returns g c =
    let heads = c.in_ok-heads.ensures in
    let mentions = c.in_ok-mentions.ensures in
    record {
      tokens = heads.tokens;
      are_tokens = heads.are_tokens;
      names_are = refl;
      heads_are = heads.all;
      mentions_are = mentions.all ∙ ap (λ (ts : List (Tok _)). mentions_in c.args.rule c.args.text.now None
          (map (sign_at g.S.Signs.sign_of) ts))
          (c.one_list.ensures c.args.text.now mentions.tokens heads.tokens mentions.are_tokens heads.are_tokens);
    }

pub index_names-requires : goal.index_names-requires
index_names-requires g c =
    rw c.deref.ensures.value (subst (Rises 0) (map-map (λ d. d.start) defined_at c.in_ok-heads.heads.items)
    (starts-rise g.K.Kind.white g.K.Kind.first g.K.Kind.is_end c.are_cut.ensures.white c.are_cut.ensures.less
    g.S.Signs.sign_of c.args.rule c.args.text.now (map defined_at c.in_ok-heads.heads.items) c.in_ok-heads.ensures))

pub invariant_of-result : goal.invariant_of-result
invariant_of-result g c = record {
  rise = subst (Rises 0) (map-map (λ d. d.start) defined_at c.in_ok-heads.heads.items)
      (starts-rise g.K.Kind.white g.K.Kind.first g.K.Kind.is_end c.are_cut.ensures.white c.are_cut.ensures.less
      g.S.Signs.sign_of c.args.rule c.args.text.now (map defined_at c.in_ok-heads.heads.items) c.in_ok-heads.ensures);
  heads_listed = (let h = c.in_ok-index.ensures.heads in rw c.deref.ensures.value at h);
  uses_listed = (let h = c.in_ok-index.ensures.uses in rw c.deref-2.ensures.value at h);
  bodies_listed = (let h = c.in_ok-index.ensures.bodies in rw (c.deref.ensures.value, c.deref-2.ensures.value) at h);
}
