-- A position of the code.
use Rattle.std.specs.Prelude.{◌≡◌, Bool, List, reverse}
use Rattle.abnfexplain.specs.declared.abnf_stand.OpenBracket.{OpenBracket}
use Rattle.abnfexplain.specs.declared.abnf_stand.Form.{Form}
use Rattle.abnfexplain.specs.declared.abnf_stand.Position.{Position}
use Rattle.abnfexplain.specs.declared.abnf_stand.Stand.{Stand}
use Rattle.abnfexplain.specs.AbnfStands.{allows, innermost}

-- the brackets that are open, the innermost first
abbrev pub brackets_of : Position → List OpenBracket
brackets_of p = reverse p.brackets.items

-- whether such a token can stand there
abbrev pub position_allows : Position → Form → Bool
position_allows p form = allows p.stand (innermost (brackets_of p)) form

-- the position is that
pub record IsPositionAt (p : Position) (s : Stand) (bs : List OpenBracket) : Type 0 where
  pub stand : p.stand ≡ s
  pub brackets : brackets_of p ≡ bs
