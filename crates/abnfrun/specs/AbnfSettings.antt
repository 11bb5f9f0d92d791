-- What a run of the ABNF tool is asked for.
use Rattle.abnfrun.specs.declared.options.AbnfOptions.{AbnfOptions}
use Rattle.toolrun.specs.declared.settings.Settings.{Settings}

abbrev pub AbnfSettings : Type 0
AbnfSettings = Settings AbnfOptions
