-- Texts as their lines are read. It serves private helpers alone.
use Rattle.std.specs.Prelude.{◌≡◌, ℕ, ◌∷◌, [], Bool, List, Option, None, Some, option_map}
use Rattle.abnfblocks.specs.MaskedLines.{ReadsLines, ShowsText}
use Rattle.abnfblocks.specs.RuleCuts.{lines_text}
use Rattle.abnfblocks.specs.TextLines.{NumberedLine, after_mark}
use Rattle.rfcforms.specs.Lists.{Expands}
use Rattle.rfcforms.specs.declared.lists.written.ListForm.{ListForm}
use Rattle.rfcforms.specs.XmlTags.{begins_xml}
use Rattle.abnftexts.specs.RulesGathered.{NamedText}
use Rattle.abnftexts.specs.declared.gathered.ShownText.{ShownText}

-- the lines of a text with lists written out, where a form is asked for
pub data AreListsOut (of_xml : Bool) (bytes : List ℕ) : Option ListForm → Option (List ℕ) → Type 0 where
  not_asked : AreListsOut of_xml bytes None None
  asked : {form : ListForm} (kept : List NumberedLine) {new : List ℕ} → ReadsLines of_xml bytes kept
      → Expands form (lines_text 0 kept) new → AreListsOut of_xml bytes (Some form) (Some new)

-- the code's text has the bytes that are read of that one
pub record IsShown (lists : Option ListForm) (text : NamedText) (shown : ShownText) : Type 0 where
  pub name : shown.name.now ≡ text.name
  pub of_xml : shown.of_xml ≡ begins_xml (after_mark text.bytes)
  pub shows : ShowsText shown.of_xml (after_mark text.bytes) shown.bytes.items
  pub lists_out : AreListsOut shown.of_xml shown.bytes.items lists (option_map (λ v. v.items) shown.written)

-- so it is with each text
pub data AreShown (lists : Option ListForm) : List NamedText → List ShownText → Type 0 where
  none_shown : AreShown lists [] []
  next_shown : {text : NamedText} {shown : ShownText} {texts : List NamedText} {all : List ShownText}
      → IsShown lists text shown → AreShown lists texts all → AreShown lists (text ∷ texts) (shown ∷ all)
