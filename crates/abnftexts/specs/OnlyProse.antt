-- Elements that hold nothing but prose (RFC 5234, section 4, `prose-val`).
use Rattle.std.specs.Prelude.{Bool, true, false, ◌&&◌}
use Rattle.abnfread.specs.Element.{Element, Elements, Text, Values, Range, Concat, Alt, Rep, Opt, Name, Prose, none}
use Rattle.abnfread.specs.Element.{more}

abbrev mutual
  pub only_prose : Element → Bool
  only_prose (Text folds text) = false
  only_prose (Values values) = false
  only_prose (Range low high) = false
  only_prose (Concat es) = all_prose es
  only_prose (Alt es) = all_prose es
  only_prose (Rep least most e) = only_prose e
  only_prose (Opt e) = only_prose e
  only_prose (Name name) = false
  only_prose (Prose text) = true

  pub all_prose : Elements → Bool
  all_prose none = true
  all_prose (more e es) = only_prose e && all_prose es
