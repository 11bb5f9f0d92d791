-- The pieces, joined.
use Rattle.std.proofs.Common.{◌≡◌, List, ℕ, ◌++◌, decimal, rules, subst, append_assoc, []}
use Rattle.std.proofs.lemmas.List.{append-nil}
use Rattle.ruletable.specs.Writing.{Writes}
use Rattle.toolrun.proofs.stop.write_excess.Goals as goal

-- five pieces
joined : (a b c d e : List ℕ) → a ++ (b ++ (c ++ (d ++ (e ++ [])))) ≡ (((a ++ b) ++ c) ++ d) ++ e
joined a b c d e = simp (append_assoc, append-nil)

pub returns-clause-bytes : goal.returns-clause-bytes
returns-clause-bytes g c =
    let position : c.as_bytes-position.result.now ≡ decimal c.args.at = search rules in
    let most : c.as_bytes-most.result.now ≡ decimal c.args.limit = search rules in
    let h = (rw (position, most) at c.write_pieces.ensures.bytes) in
    subst (λ (t : List ℕ). Writes (g.W.Sink.contents c.args.w.now) (g.W.Sink.contents c.write_pieces.new.w) t
    c.write_pieces.result)
    (joined c.args.what.now (decimal c.args.at) c.args.over.now (decimal c.args.limit) c.args.unit.now) h
