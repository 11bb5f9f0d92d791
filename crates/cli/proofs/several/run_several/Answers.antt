-- What is done is what the words ask for.
use Rattle.std.proofs.Common.{◌≡◌, ◌∙◌, codes, inr, map, refl, sym}
use Rattle.clap.specs.Words.{found_of, rows_of}
use Rattle.clap.proofs.WalkLemmas.{raw_values-rows}
use Rattle.toolrun.specs.Status.{code_of}
use Rattle.toolrun.specs.Stream.{passed}
use Rattle.cli.specs.FileRuns.{HasRunFiles, writes_asked}
use Rattle.cli.proofs.FileRunsLemmas.{few_asked, files_named, grammars_ran, ran_asked}
use Rattle.toolrun.specs.declared.settings.Mode.{Mode}
use Rattle.toolrun.specs.declared.settings.Mode.TheVariants.{Check, Print, Run}
use Rattle.cli.proofs.several.run_several.Goals as goal

pub returns-then-are_few-clause-none : goal.returns-then-are_few-clause-none
returns-then-are_few-clause-none g c = λ e.
    let said = c.in-Ok.ensures.parses in
    let named = files_named c.get_strs.result _ c.unwrap_or-names.result _
    (c.get_strs.ensures ∙ raw_values-rows (found_of c.in-Ok.matches) (codes "file")) refl c.unwrap_or-names.ensures in (
      refl,
      refl,
      (
        said.0,
        said.1,
        inr (few_asked g.P.Program.asks (rows_of (found_of c.in-Ok.matches)) _ c.asked_of-asked.result
            (map (λ s. s.now) c.unwrap_or-names.result.now) said.2.1 c.asked_of-asked.ensures named
            (c.are_few.ensures.few c.if-are_few.true) (sym c.is_plain.ensures ∙ c.if-is_plain.true)),
      ),
    )

pub returns-then-eq-2-clause-some : goal.returns-then-eq-2-clause-some
returns-then-eq-2-clause-some g c =
    let said = c.in-Ok.ensures.parses in
    let named = files_named c.get_strs.result _ c.unwrap_or-names.result _
    (c.get_strs.ensures ∙ raw_values-rows (found_of c.in-Ok.matches) (codes "file")) refl c.unwrap_or-names.ensures in (
      said.0,
      said.1,
      ran_asked g.P.Program.language g.P.Program.asks g.P.Program.states (rows_of (found_of c.in-Ok.matches)) _
          c.asked_of-asked.result
          (map (λ s. s.now) c.unwrap_or-names.result.now)
          (passed g.O.Sink.contents g.O.Sink.failed c.args.out.now c.check_and_run.new.out)
          (passed g.E.Sink.contents g.E.Sink.failed c.args.err.now c.check_and_run.new.err)
          (code_of c.check_and_run.result) said.2.1 c.asked_of-asked.ensures named
          (by_mode c.asked_of-asked.result.settings.mode refl),
    )
  where
    by_mode : (mode : Mode) → c.asked_of-asked.result.settings.mode ≡ mode
        → HasRunFiles (writes_asked g.P.Program.language c.asked_of-asked.result) g.P.Program.states mode
        c.asked_of-asked.result.settings c.asked_of-asked.result.path.now
        (map (λ s. s.now) c.unwrap_or-names.result.now)
        (passed g.O.Sink.contents g.O.Sink.failed c.args.out.now c.check_and_run.new.out)
        (passed g.E.Sink.contents g.E.Sink.failed c.args.err.now c.check_and_run.new.err)
        (code_of c.check_and_run.result)
    by_mode Run e = rw c.inputs_of.ensures at c.check_and_run.ensures
    by_mode Check e = absurd (cc (rw e at c.if-eq-2.ensures))
    by_mode Print e = absurd (cc (rw e at c.if-eq-2.ensures))

pub returns-clause-some : goal.returns-clause-some
returns-clause-some g c =
    let said = c.in-Ok.ensures.parses in
    let named = files_named c.get_strs.result _ c.unwrap_or-names.result _
    (c.get_strs.ensures ∙ raw_values-rows (found_of c.in-Ok.matches) (codes "file")) refl c.unwrap_or-names.ensures in (
      said.0,
      said.1,
      ran_asked g.P.Program.language g.P.Program.asks g.P.Program.states (rows_of (found_of c.in-Ok.matches)) _
          c.asked_of-asked.result
          (map (λ s. s.now) c.unwrap_or-names.result.now)
          (passed g.O.Sink.contents g.O.Sink.failed c.args.out.now c.run_grammars.new.out)
          (passed g.E.Sink.contents g.E.Sink.failed c.args.err.now c.run_grammars.new.err)
          (code_of c.run_grammars.result) said.2.1 c.asked_of-asked.ensures named
          (grammars_ran g.P.Program.language g.P.Program.asks g.P.Program.states _ c.asked_of-asked.result.settings.mode
          _ _ _ _ _ _
          (λ e. absurd (cc (rw e at c.if-eq-2.ensures))) c.run_grammars.ensures),
    )
