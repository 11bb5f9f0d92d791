-- The lines of a grammar that was opened.
-- Serves: lines_open
use Rattle.std.proofs.Common.{ℕ, List}
use Rattle.std.specs.Prelude.{None, Some}
use Rattle.abnfcheck.specs.AbnfGrammar.{Grammar}
use Rattle.abnfrun.specs.AbnfSettings.{AbnfSettings}
use Rattle.capi.specs.GrammarsCompared.{IsGrammarOpening}
use Rattle.capi.specs.LineLists.{IsLinesOpening, IsListingFor}
use Rattle.capi.specs.OpenCall.{not_read, opens, refuses}
use Rattle.capi.specs.declared.listing.ListKind.{ListKind}
use Rattle.capi.specs.declared.listing.Listing.{Listing}

module _ (kind : ListKind) (text : List ℕ) (settings : AbnfSettings) (reported : List ℕ) where
  -- what is listed of a grammar that was opened
  pub grammar_is_listed : (grammar : Grammar) (listing : Listing) (code : ℕ)
      → IsListingFor kind settings grammar listing → IsGrammarOpening text settings reported (Some grammar) code
      → IsLinesOpening kind text settings reported (Some listing) code
  grammar_is_listed grammar listing code is (opens notes _ _ made hinted) =
      opens notes reported listing (grammar, made, is) hinted

  -- a grammar that is rejected has no lines
  pub none_is_listed : (code : ℕ) → IsGrammarOpening text settings reported None code
      → IsLinesOpening kind text settings reported None code
  none_is_listed code (refuses notes _ made hinted) = refuses notes reported made hinted
  none_is_listed code (not_read _ _ fault) = not_read reported code fault
