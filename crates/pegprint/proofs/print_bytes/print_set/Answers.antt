-- Byte 255 is a member, so the runs are those of the complement.
use Rattle.std.proofs.Common.{◌≡◌, ℕ, ◌<◌, not, cond, false, List, [], ◌∷◌, ◌++◌, ap, sym, ◌∙◌, subst, arith}
use Rattle.std.proofs.lemmas.Bool.{lt-ltb}
use Rattle.std.specs.List.{flat_map}
use Rattle.ruletable.specs.Runs.{test_of}
use Rattle.ruletable.specs.Writing.{Writes}
use Rattle.ruletable.proofs.RunsLemmas.{after-same}
use Rattle.pegread.specs.Classes.{complement}
use Rattle.pegread.specs.Escapes.{run_text, runs_text, class_text}
use Rattle.pegprint.proofs.print_bytes.print_set.Goals as goal

pub returns-then-has-clause-bytes : goal.returns-then-has-clause-bytes
returns-then-has-clause-bytes g c =
    let f = test_of c.args.set.now in
    let same : (b : ℕ) → b < 256 → test_of c.complement.result b ≡ complement f b =
    λ b h. c.complement.ensures.members b h ∙ sym (ap (λ v. cond v (not (f b)) false) (lt-ltb b 256 h)) in
    let runs = ap (λ rs. flat_map run_text rs) (after-same (test_of c.complement.result) (complement f) 0 (omega arith)
    same) in
    let text : class_text f ≡ 91 ∷ 94 ∷ (runs_text (complement f) ++ 93 ∷ []) =
    ap (λ v. cond v (91 ∷ 94 ∷ (runs_text (complement f) ++ 93 ∷ [])) (91 ∷ (runs_text f ++ 93 ∷ [])))
    (sym c.has.ensures ∙ c.if-has.true) in
    subst (λ (x : List ℕ). Writes (g.W.Sink.contents c.args.w.now) (g.W.Sink.contents c.print_class.new.w) x
    c.print_class.result)
    (ap (λ (x : List ℕ). 91 ∷ 94 ∷ (x ++ 93 ∷ [])) runs ∙ sym text) c.print_class.ensures.bytes
