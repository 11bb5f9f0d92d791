-- Texts that were read from files.
use Rattle.abnftexts.specs.RulesGathered.{NamedText}
use Rattle.abnfx.specs.declared.texts.FileText.{FileText}

-- a text is named by the path of its file
abbrev pub text_read : FileText → NamedText
text_read text = record { name = text.path.now; bytes = text.bytes.items }
