-- What the events of a success print: captures and templates (peg(1), 'yytext'; where the manual is vague the rules are
-- this project's own).
use Rattle.std.specs.Prelude.{ℕ, List, [], ◌∷◌, ◌++◌, Option, Some, None, slice_range}
use Rattle.gramcheck.specs.Outcome.{Event, Opened, Closed, Acted}
use Rattle.pegmatch.specs.TemplateEscapes.{printed_by}
use Rattle.pegmatch.specs.declared.style.PrintStyle.{PrintStyle}

-- What the events print, with the position where a capture was opened last, and the capture so far.
abbrev pub text_after : PrintStyle → List ℕ → List Event → Option ℕ → List ℕ → List ℕ
text_after style x [] start capture = []
text_after style x (Opened p ∷ events) start capture = text_after style x events (Some p) capture
text_after style x (Closed q ∷ events) None capture = text_after style x events None capture
text_after style x (Closed q ∷ events) (Some p) capture = text_after style x events (Some p) (slice_range x p q)
text_after style x (Acted template ∷ events) start capture =
    printed_by style template capture ++ text_after style x events start capture

-- the printed text of a unit's events: nothing is open and the capture is empty where it begins
abbrev pub text_of : PrintStyle → List ℕ → List Event → List ℕ
text_of style x events = text_after style x events None []
