-- Words in which something is wrong name no file, and standard input for nothing.
use Rattle.std.proofs.Common.{map, string_bytes, Global, codes, ◌∙◌, refl}
use Rattle.clap.specs.Words.{fault_of, first_of, matches_of}
use Rattle.cli.proofs.InputLemmas.{file_of_wrong, shared_of_wrong}
use Rattle.cli.proofs.input.open_input.Goals as goal

pub returns-in-Err : goal.returns-in-Err
returns-in-Err g c =
    let said = c.in-Err.ensures.asked in
    let words = map (string_bytes {Z = Global}) c.args.words.now in
    let rows = matches_of said.0 words in (
      said.0,
      said.1,
      (
        rw (file_of_wrong (fault_of said.0 words) (first_of (codes "file") rows) c.in-Err.error said.2
            (λ e. absurd (cc (rw (c.kind.ensures ∙ e) at c.if-eq.ensures))))
            refl,
        shared_of_wrong (fault_of said.0 words) rows c.in-Err.error said.2
            (λ e. absurd (cc (rw (c.kind.ensures ∙ e) at c.if-eq.ensures))),
      ),
    )
