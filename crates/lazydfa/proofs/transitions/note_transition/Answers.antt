use Rattle.std.proofs.Common.{◌≡◌, ◌+◌, ◌*◌, Bool, true, false, refl, subst, sym, ap, ◌∙◌, arith}
use Rattle.std.specs.Int.{from_bool}
use Rattle.std.specs.Prelude.{Some, slice_get}
use Rattle.std.proofs.lemmas.Option.{slice_get-get_or}
use Rattle.lazydfa.specs.Transitions.{last_word}
use Rattle.lazydfa.proofs.AreTransitionsLemmas.{transitions_put}
use Rattle.lazydfa.proofs.transitions.note_transition.Goals as goal

word_from : (ended : Bool) → from_bool ended ≡ last_word ended
word_from true = refl
word_from false = refl

pub returns : goal.returns
returns c =
    let wide : c.in-Some.stride ≡ c.args.classes + 1 = let e = c.in-Some.ensures in omega (arith, e) in
    let word : c.in-Ok-Some.word ≡ c.in-Some-Some.row = let e = c.in-Ok-Some.ensures in
    first_of (omega (arith, e), grind (arith, e)) in
    let row : c.in-Some-Some.row ≡ c.args.to * (c.args.classes + 1) + 0 =
    subst (λ v. c.in-Some-Some.row ≡ c.args.to * v + 0) wide c.in-Some-Some.ensures' in
    transitions_put c.args.cache.now.states.items c.args.classes c.args.state c.args.class c.args.to c.in-Some-dot.at
    c.in-Ok-Some.word c.in-Ok-Some.last c.from.result c.in-Some-Some.there.now c.args.transitions.now.items
    c.put_transition.new.transitions.items c.put_transition-2.new.transitions.items
    (subst (λ v. slice_get v c.args.to ≡ Some c.in-Some-Some.there.now) c.deref-2.ensures.value
    (slice_get-get_or c.deref-2.result.now c.args.to c.in-Some-Some.there.now
    (let t = c.in-Some-Some.ensures.lookup.0 in grind (arith, t))
    ∙ ap (λ v. Some v) (sym c.in-Some-Some.ensures.lookup.1)))
    (let lt = c.if-class-classes.false in omega (arith, lt))
    (subst (λ v. c.in-Some-dot.at ≡ c.args.state * v + c.args.class) wide c.in-Some-dot.ensures)
    (word ∙ row)
    (let e = c.in-Ok-Some.ensures' in omega (arith, e, word))
    (c.from.ensures ∙ word_from c.in-Some-Some.there.now.ended) c.in_ok-put_transition.ensures
    c.in_ok-put_transition-2.ensures
