-- Explanations change no answer and no status.
-- Serves: explanations_change_no_answer
use Rattle.std.proofs.Common.{◌≡◌, ◌≢◌, ℕ, Bool, true, false, inl, inr, List, [], refl, sym, ◌∙◌}
use Rattle.gramcheck.specs.Checked.{is_refused}
use Rattle.pegread.specs.Definitions.{firsts}
use Rattle.pegread.specs.Reading.{IsFaultOf, Reads}
use Rattle.pegread.proofs.IsFaultOfLemmas.{one-reading, one-fault, no-fault}
use Rattle.pegrun.specs.Answers.{States, refused, unexplained, noted, checked, runs, cut_notes, again}
use Rattle.pegrun.specs.Answers.{cut_again, printed, no_memory}
use Rattle.pegrun.specs.Noted.{AreAgain, AreNotesOn, start_given}
use Rattle.pegrun.specs.PegReply.{printed_text}
use Rattle.pegrun.specs.PegSettings.{PegSettings}
use Rattle.pegrun.proofs.SettingsLemmas.{plain_by}
use Rattle.pegrun.proofs.StatesLemmas.{RunOf, again_is_one, notes_are_one, one_run}
use Rattle.pegrun.proofs.WhyStoppedLemmas.{same_but_why}
use Rattle.toolrun.specs.Explained.{explained_by}
use Rattle.toolrun.specs.Input.{Input}
use Rattle.toolrun.specs.Reply.{Reply, SameButWhy, refusal}
use Rattle.toolrun.proofs.OneStatementLemmas.{Stated, one_stated, is_noted, is_checked, is_run, is_again, is_printed}
use Rattle.toolrun.proofs.SameButWhyLemmas.{same_itself, same_twice}

module _ (settings : PegSettings) (input : Input) (text : List ℕ) where
  -- what is stated where nothing is explained, without the notes
  abbrev IsBare : Reply → Type 0
  IsBare reply = Stated (IsFaultOf text) (λ fault why. why ≡ []) (Reads text)
      (λ definitions. AreNotesOn definitions (start_given settings))
      (λ definitions notes. is_refused notes ≡ true) (λ definitions notes. is_refused notes ≡ false) AreAgain
      (λ notes reported. reported ≡ []) (λ notes reported. reported ≡ []) (RunOf settings input) printed_text
      settings.mode [] reply

  -- .. but for what explains
  abbrev IsBarely : Reply → Type 0
  IsBarely reply = (bare : Reply) × IsBare bare × SameButWhy true reply bare

  is_itself : (reply : Reply) → IsBare reply → IsBarely reply
  is_itself reply is = (reply, is, same_itself true reply)

  bare_parts : (asked : Bool) (notes : List ℕ) (reply : Reply)
      → States text (explained_by asked settings) input notes reply → reply.status ≢ 5 → IsBarely reply
  bare_parts asked notes reply (refused fault why f m reported) ample = (
    refusal fault [],
    inl (record {
      fault = fault;
      is_fault = f;
      other = m;
      why = [];
      explains = refl;
      none = refl;
      reported = refl;
    }),
    record { out = refl; status = refl; taken = refl; err = λ unasked. absurd (cc) },
  )
  bare_parts asked notes reply (unexplained fault f m is) ample = absurd (ample refl)
  bare_parts asked notes reply (noted ds said reported r are reports bad mode) ample =
      is_itself reply (inr (record { definitions = ds; reads = r; states = is_noted said [] are refl bad mode }))
  bare_parts asked notes reply (checked ds said reported r are reports fine mode) ample =
      is_itself reply (inr (record { definitions = ds; reads = r; states = is_checked said [] are refl fine mode }))
  bare_parts asked notes reply (runs ds said reported start stated r are reports fine mode is run) ample =
      let plain = same_but_why (firsts [] ds) start (explained_by asked settings) input stated run ample in (
        plain.0,
        inr (record {
          definitions = ds;
          reads = r;
          states = is_run said [] plain.0 are refl fine mode (record {
            start = start;
            is_start = is;
            replies = plain_by (firsts [] ds) start (explained_by asked settings) settings input refl refl refl refl
                refl plain.0 plain.1;
          });
        }),
        record {
          out = plain.2.out;
          status = plain.2.status;
          taken = plain.2.taken;
          err = λ unasked. absurd (cc);
        },
      )
  bare_parts asked notes reply (cut_notes ds said reported r are cut mode) ample = absurd (ample refl)
  bare_parts asked notes reply (again ds said reported r are reports some mode) ample =
      is_itself reply (inr (record { definitions = ds; reads = r; states = is_again said [] are refl some mode }))
  bare_parts asked notes reply (cut_again ds said reported r are cut mode) ample = absurd (ample refl)
  bare_parts asked notes reply (printed ds r are mode) ample =
      is_itself reply (inr (record { definitions = ds; reads = r; states = is_printed are mode }))
  bare_parts asked notes reply (no_memory within) ample = absurd (ample refl)

  one_bare : (a b : Reply) → IsBare a → IsBare b → a.status ≢ 5 → b.status ≢ 5 → a ≡ b
  one_bare a b g h m n =
      let both = one_stated (IsFaultOf text) (λ fault why. why ≡ []) (Reads text)
      (λ definitions. AreNotesOn definitions (start_given settings))
      (λ definitions notes. is_refused notes ≡ true) (λ definitions notes. is_refused notes ≡ false) AreAgain
      (λ notes reported. reported ≡ []) (λ notes reported. reported ≡ []) (RunOf settings input) printed_text
      settings.mode (one-reading text) (one-fault text) (λ fault x y p q. p ∙ sym q) (no-fault text)
      (notes_are_one settings input) again_is_one (λ notes x y p q. p ∙ sym q) (λ notes x y p q. p ∙ sym q)
      (λ definitions notes bad fine. absurd (cc)) (one_run settings input) [] [] a b g h m n in
      both.1

-- one output, one status and as many bytes taken, with and without explanations
pub no_answer_changes : (text : List ℕ) (settings : PegSettings) (asked : Bool) (input : Input)
    (notes others : List ℕ) (a b : Reply) → States text settings input notes a
    → States text (explained_by asked settings) input others b → a.status ≢ 5 → b.status ≢ 5 → SameButWhy true a b
no_answer_changes text settings asked input notes others a b g h m n =
    let p = bare_parts settings input text settings.explain notes a g m in
    let q = bare_parts settings input text asked others b h n in
    let same : p.0 ≡ q.0 = one_bare settings input text p.0 q.0 p.1 q.1 (λ e. m (p.2.status ∙ e))
    (λ e. n (q.2.status ∙ e)) in
    same_twice true a b p.0 q.0 p.2 q.2 same
