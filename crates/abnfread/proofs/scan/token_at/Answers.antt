use Rattle.std.proofs.Common.{rules}
use Rattle.abnfread.proofs.AbnfFirstLemmas.{longest-name, longest-count}
use Rattle.abnfread.proofs.scan.token_at.Goals as goal

pub returns-then-is_ascii_alphabetic : goal.returns-then-is_ascii_alphabetic
returns-then-is_ascii_alphabetic c = longest-name (search rules) c.after_run.ensures.run c.after_run.ensures.all

pub returns-then-is_in : goal.returns-then-is_in
returns-then-is_in c = longest-count (search rules) c.after_count.ensures.count c.after_count.ensures.longest
