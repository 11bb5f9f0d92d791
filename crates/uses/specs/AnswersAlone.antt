-- Answers of an open grammar, as runs report them.
use Rattle.std.specs.Prelude.{◌≡◌, ℕ, false, List, []}
use Rattle.abnfrun.specs.AbnfAnswers.{AbnfStates}
use Rattle.abnfrun.specs.AbnfReply.{form_of}
use Rattle.abnfrun.specs.OpenAbnf.{answer_alone, line_alone}
use Rattle.linejudge.specs.InputLines.{HasNoEnd}
use Rattle.linejudge.specs.declared.answers.Answer.{Answer}
use Rattle.toolrun.specs.declared.settings.Mode.TheVariants.{Run}
use Rattle.abnfrun.specs.AbnfSettings.{AbnfSettings}

-- A run of the grammar on the line alone answers so, after what it reports the grammar. The line does not hold the
-- byte that ends lines, and the settings ask for a run whose messages are not explained, of lines without their ends.
abbrev pub AnswersAlone : List ℕ → AbnfSettings → List ℕ → Answer → Type 0
AnswersAlone text settings line said = settings.mode ≡ Run → settings.explain ≡ false
    → settings.options.keeps ≡ false → HasNoEnd (form_of settings).end line
    → (reported : List ℕ) × AbnfStates text settings (line_alone settings line) reported
    (answer_alone settings line said [])
