use Rattle.abnfprint.proofs.terminal.+digits.Given as goal

-- proposed from what the function passes where it calls itself
abbrev pub decreases-print_digits : goal.decreases-print_digits
decreases-print_digits g l = l.value
