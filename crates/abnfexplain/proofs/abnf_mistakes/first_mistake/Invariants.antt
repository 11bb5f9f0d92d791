use Rattle.std.proofs.Common.{◌≡◌, map, drop}
use Rattle.std.specs.Option.{option_map}
use Rattle.abnfread.specs.MarkedTokens.{marked_of}
use Rattle.abnfexplain.specs.AbnfMistakeRows.{mistake_of}
use Rattle.abnfexplain.specs.AbnfMistakes.{first_mistake}
use Rattle.abnfexplain.proofs.abnf_mistakes.first_mistake.Given as goal

abbrev pub invariant-loop-row : goal.invariant-loop-row
invariant-loop-row l = first_mistake (map mistake_of (drop l.row-index l.rows)) (option_map marked_of l.earlier)
    (option_map marked_of l.before) (marked_of l.token)
    ≡ first_mistake (map mistake_of l.rows) (option_map marked_of l.earlier) (option_map marked_of l.before)
    (marked_of l.token)
