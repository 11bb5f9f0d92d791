-- The words of the program: its command, as a parse reads it, and what the words ask for.
use Prim.Native.Char.{code}
use Rattle.std.specs.Prelude.{List, [], ◌∷◌, Bool, true, Option, Some, None, codes, if◌then◌else◌, unwrap_or}
use Rattle.clap.specs.Words.{App, Row, Text, all_of, first_of}
use Rattle.abnftexts.specs.declared.joined.JoinForm.{JoinForm}
use Rattle.abnftexts.specs.declared.joined.JoinForm.TheVariants.{Plain, Canonical, Listed}
use Rattle.cli.specs.Asked.{is_flagged}
use Rattle.cli.specs.Command.{flag_rule, long_flag_rule, operands_rule, program_app}
use Rattle.rfcforms.specs.declared.lists.written.ListForm.{ListForm}
use Rattle.rfcforms.specs.declared.lists.written.ListForm.TheVariants.{Receive, Send}

-- `abnfx [-c | -l] [-x] [--expand | --expand-send] TEXT..`
abbrev pub abnfx_app : App
abnfx_app = program_app (codes "abnfx") (flag_rule (codes "canonical") (code "c")
    ∷ flag_rule (codes "list") (code "l") ∷ flag_rule (codes "explain") (code "x")
    ∷ long_flag_rule (codes "expand") ∷ long_flag_rule (codes "expand-send") ∷ operands_rule
    (codes "text") true ∷ [])

-- the paths of the texts
abbrev pub paths_asked : List Row → List Text
paths_asked rows = unwrap_or (all_of (codes "text") rows) []

-- the form that two flags ask for, canonical and list; none where both are given, since they exclude each other
abbrev pub form_flagged : Bool → Bool → Option JoinForm
form_flagged canonical list = if list then (if canonical then None else Some Listed) else
    Some (if canonical then Canonical else Plain)

-- the form that the words ask for
abbrev pub form_asked : List Row → Option JoinForm
form_asked rows =
    form_flagged (is_flagged (first_of (codes "canonical") rows)) (is_flagged (first_of (codes "list") rows))

-- the words ask for explanations
abbrev pub explains_asked : List Row → Bool
explains_asked rows = is_flagged (first_of (codes "explain") rows)

-- the form of lists that two flags ask for, for recipients and for senders, if they ask for one; none where both are
-- given, since they exclude each other
abbrev pub lists_flagged : Bool → Bool → Option (Option ListForm)
lists_flagged receive send = if send then (if receive then None else Some (Some Send)) else
    Some (if receive then Some Receive else None)

-- the form of lists that the words ask for
abbrev pub lists_asked : List Row → Option (Option ListForm)
lists_asked rows = lists_flagged (is_flagged (first_of (codes "expand") rows))
    (is_flagged (first_of (codes "expand-send") rows))
