-- Replies that are the same but for what explains.
-- Serves: one_statement, one_statement_of_abnf, explanations_change_no_answer
use Rattle.std.proofs.Common.{◌≡◌, Bool, refl, sym, ◌∙◌, ap}
use Rattle.toolrun.specs.Reply.{Reply, SameButWhy}

pub same_itself : (asked : Bool) (reply : Reply) → SameButWhy asked reply reply
same_itself asked reply = record { out = refl; status = refl; taken = refl; err = λ unasked. refl }

-- two replies that are one, but for what explains them
pub same_twice : (asked : Bool) (a b p q : Reply) → SameButWhy asked a p → SameButWhy asked b q → p ≡ q
    → SameButWhy asked a b
same_twice asked a b p q g h is = record {
  out = g.out ∙ ap (λ r. r.out) is ∙ sym h.out;
  status = g.status ∙ ap (λ r. r.status) is ∙ sym h.status;
  taken = g.taken ∙ ap (λ r. r.taken) is ∙ sym h.taken;
  err = λ unasked. g.err unasked ∙ ap (λ r. r.err) is ∙ sym (h.err unasked);
}
