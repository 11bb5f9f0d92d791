-- Runs of an open grammar, as runs of its text report them.
use Rattle.std.specs.Prelude.{◌≡◌, ℕ, false, List, ◌++◌}
use Rattle.memoryrun.specs.MemoryRun.{IsMemoryRun}
use Rattle.memoryrun.specs.declared.outputs.Outputs.{Outputs}
use Rattle.pegrun.specs.Answers.{States}
use Rattle.toolrun.specs.Status.{code_of}
use Rattle.toolrun.specs.declared.settings.Mode.TheVariants.{Run}
use Rattle.pegrun.specs.PegSettings.{PegSettings}

-- A run of the grammar's text on the input writes this, after what it reports the grammar. The settings ask for a run
-- whose messages are not explained.
abbrev pub RunsAlone : List ℕ → PegSettings → List ℕ → Outputs → Type 0
RunsAlone text settings input wrote = settings.mode ≡ Run → settings.explain ≡ false → (reported : List ℕ)
    × IsMemoryRun (States text settings) input wrote.out.items (reported ++ wrote.err.items) (code_of wrote.status)
