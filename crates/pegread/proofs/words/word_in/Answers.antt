-- Each kind of token says its word.
use Rattle.std.proofs.Common.{◌≡◌, ℕ, List, [], ◌∷◌, ◌++◌, sym, ◌∙◌, subst}
use Rattle.pegread.specs.Words.{says_name, says_arrow, says_begin, says_end_cap, says_slash, says_amp, says_bang}
use Rattle.pegread.specs.Words.{says_quest, says_star, says_plus, says_dot, says_lparen, says_rparen, says_end}
use Rattle.pegread.specs.Words.{says_literal, says_class, says_action}
use Rattle.pegread.proofs.words.word_in.Goals as goal

pub returns-in-Ident : goal.returns-in-Ident
returns-in-Ident c = rw c.in-Ident.is says_name

pub returns-in-Arrow : goal.returns-in-Arrow
returns-in-Arrow c = rw c.in-Arrow.is says_arrow

pub returns-in-Begin : goal.returns-in-Begin
returns-in-Begin c = rw c.in-Begin.is says_begin

pub returns-in-EndCap : goal.returns-in-EndCap
returns-in-EndCap c = rw c.in-EndCap.is says_end_cap

pub returns-in-Slash : goal.returns-in-Slash
returns-in-Slash c = rw c.in-Slash.is says_slash

pub returns-in-Amp : goal.returns-in-Amp
returns-in-Amp c = rw c.in-Amp.is says_amp

pub returns-in-Bang : goal.returns-in-Bang
returns-in-Bang c = rw c.in-Bang.is says_bang

pub returns-in-Quest : goal.returns-in-Quest
returns-in-Quest c = rw c.in-Quest.is says_quest

pub returns-in-Star : goal.returns-in-Star
returns-in-Star c = rw c.in-Star.is says_star

pub returns-in-Plus : goal.returns-in-Plus
returns-in-Plus c = rw c.in-Plus.is says_plus

pub returns-in-Dot : goal.returns-in-Dot
returns-in-Dot c = rw c.in-Dot.is says_dot

pub returns-in-LParen : goal.returns-in-LParen
returns-in-LParen c = rw c.in-LParen.is says_lparen

pub returns-in-RParen : goal.returns-in-RParen
returns-in-RParen c = rw c.in-RParen.is says_rparen

pub returns-in-End : goal.returns-in-End
returns-in-End c = rw c.in-End.is says_end

pub returns-in_ok-literal_bytes-in-Literal : goal.returns-in_ok-literal_bytes-in-Literal
returns-in_ok-literal_bytes-in-Literal c = rw c.in-Literal.is (says_literal c.in_ok-literal_bytes-in-Literal.ensures)

pub returns-in-Class : goal.returns-in-Class
returns-in-Class c = rw c.in-Class.is (says_class c.class_set.ensures)

pub returns-in_ok-template-in-Action : goal.returns-in_ok-template-in-Action
returns-in_ok-template-in-Action c =
    let braced = rw c.in-Action.is at c.requires in
    let same = c.in_ok-template-in-Action.ensures.items ∙ c.inside.ensures 123 125 braced.0 braced.1 in
    rw c.in-Action.is (says_action (subst (λ (t : List ℕ). c.args.token.slice.now ≡ 123 ∷ (t ++ 125 ∷ [])) (sym same)
    braced.1))
