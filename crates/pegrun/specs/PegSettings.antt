-- What a run of the peg tool is asked for.
use Rattle.pegrun.specs.declared.options.PegOptions.{PegOptions}
use Rattle.toolrun.specs.declared.settings.Settings.{Settings}

abbrev pub PegSettings : Type 0
PegSettings = Settings PegOptions
