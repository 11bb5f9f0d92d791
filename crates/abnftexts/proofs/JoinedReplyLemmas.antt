-- Texts have one joined grammar, and a run that joins them has one reply.
-- Serves: one_joining
use Rattle.std.proofs.Common.{◌≡◌, ◌≢◌, ℕ, Bool, true, false, List, [], ◌++◌, Option, None, Some, refl, sym, ap, ◌∙◌}
use Rattle.std.proofs.Common.{subst}
use Rattle.ruletable.specs.declared.fault.ReadFault.{ReadFault}
use Rattle.ruletable.specs.declared.fault.ReadFault.TheVariants as faults
use Rattle.abnfread.specs.AbnfReading.{IsFaultOf}
use Rattle.abnfread.specs.Element.{Definition}
use Rattle.rfcforms.specs.declared.lists.written.ListForm.{ListForm}
use Rattle.toolrun.specs.Input.{Input}
use Rattle.toolrun.specs.Reply.{Reply}
use Rattle.abnftexts.specs.JoinRun.{IsWrittenAs, JoinStates, JoinedReply, a_list, as_it_is, canonical, canonical_of}
use Rattle.abnftexts.specs.JoinRun.{joined_status, joins, no_memory, no_room, nothing, text_written, too_long, writes}
use Rattle.abnftexts.specs.JoinedGrammar.{AreTextsJoined, GrammarJoined, UsesPrinted, gathered_joined}
use Rattle.abnftexts.specs.JoinedGrammar.{standing_positions}
use Rattle.abnftexts.specs.JoinedGrammar.{standing_rules}
use Rattle.abnftexts.specs.NamedRules.{AreRenamed}
use Rattle.abnfexplain.specs.AbnfExplained.{Explains}
use Rattle.abnftexts.specs.RuleReports.{AreReports, ExplainsIfAsked, ExplainsText, it_reads, its_fault, next_report}
use Rattle.abnftexts.specs.RuleReports.{no_reports}
use Rattle.abnftexts.specs.RulesGathered.{NamedText, ReportedRule, RulesGathered}
use Rattle.abnftexts.specs.UsedNames.{UsedName}
use Rattle.abnftexts.specs.declared.joined.JoinForm.{JoinForm}
use Rattle.abnftexts.specs.declared.joined.JoinForm.TheVariants.{Listed}
use Rattle.abnftexts.proofs.OneRenameLemmas.{naming-same}
use Rattle.abnftexts.proofs.TextRulesLemmas.{OneReading, texts-same, uses-same}

module _ (one : OneReading) where
  pub joined-same : (lists : Option ListForm) (texts : List NamedText) (a b : GrammarJoined)
      → AreTextsJoined lists texts a → AreTextsJoined lists texts b → a ≡ b
  joined-same lists texts a b x y =
      let given : x.given ≡ y.given = texts-same one x.gives y.gives in
      let named : AreRenamed y.given x.gathered =
      subst (λ (g : RulesGathered). AreRenamed g x.gathered) given x.names in
      let same : x.gathered ≡ y.gathered = naming-same one named y.names in
      let here : UsesPrinted (standing_positions y.gathered) (standing_rules y.gathered) x.uses =
      subst (λ (g : RulesGathered). UsesPrinted (standing_positions g) (standing_rules g) x.uses) same x.are_uses in
      let uses : x.uses ≡ y.uses = uses-same one here y.are_uses in
      x.is ∙ ap (λ (g : RulesGathered). gathered_joined g x.uses) same
      ∙ ap (λ (us : List UsedName). gathered_joined y.gathered us) uses ∙ sym y.is

  module _ (j : GrammarJoined) where
    written-same : {form : JoinForm} {t u : List ℕ} → IsWrittenAs j form t → IsWrittenAs j form u → t ≡ u
    written-same a_list a_list = refl
    written-same a_list (nothing no_list e) = absurd (no_list refl)
    written-same (nothing no_list e) a_list = absurd (no_list refl)
    written-same (nothing n e) (nothing m f) = refl
    written-same (nothing n e) (as_it_is some reads) = absurd (some e)
    written-same (nothing n e) (canonical some reads) = absurd (some e)
    written-same (as_it_is some reads) (nothing n e) = absurd (some e)
    written-same (as_it_is some reads) (as_it_is some_too reads_too) = refl
    written-same (canonical some reads) (nothing n e) = absurd (some e)
    written-same (canonical some reads) (canonical some_too reads_too) =
        ap (λ (ds : List Definition). canonical_of ds) (one.definitions _ _ _ reads reads_too)

    -- what is written is rejected for no fault
    not-refused : {form : JoinForm} {t : List ℕ} → IsWrittenAs j form t → form ≢ Listed → (fault : ReadFault)
        → IsFaultOf j.grammar fault → fault ≢ faults.Memory → j.grammar ≢ [] → ⊥
    not-refused a_list no_list fault f n some = no_list refl
    not-refused (nothing m e) no_list fault f n some = some e
    not-refused (as_it_is more reads) no_list fault f n some = one.no_fault _ _ fault f n reads
    not-refused (canonical more reads) no_list fault f n some = one.no_fault _ _ fault f n reads

    long-reported : faults.TooLong ≢ faults.Memory
    long-reported bad = absurd (cc)

    reply-same : {form : JoinForm} {a b : Reply} → JoinedReply form j a → JoinedReply form j b → a.status ≢ 5
        → b.status ≢ 5 → a ≡ b
    reply-same (writes t) (writes u) p q =
        ap (λ (text : List ℕ). text_written text (joined_status j)) (written-same t u)
    reply-same (writes t) (too_long no_list some f) p q =
        absurd (not-refused t no_list faults.TooLong f long-reported some)
    reply-same (writes t) no_memory p q = absurd (q refl)
    reply-same (too_long no_list some f) (writes t) p q =
        absurd (not-refused t no_list faults.TooLong f long-reported some)
    reply-same (too_long l s f) (too_long k r g) p q = refl
    reply-same (too_long l s f) no_memory p q = absurd (q refl)
    reply-same no_memory r p q = absurd (p refl)

  module _ (one_why : (text : List ℕ) (fault : ReadFault) (a b : List ℕ) → Explains text fault a
      → Explains text fault b → a ≡ b) where
    text_why-same : {text a b : List ℕ} → ExplainsText text a → ExplainsText text b → a ≡ b
    text_why-same {text} (its_fault {fault} {why} f n x) (its_fault {fault = other} {why = second} g m y) =
        let same : other ≡ fault = one.one_fault text other fault g f m n in
        one_why text fault why second x (subst (λ (w : ReadFault). Explains text w second) same y)
    text_why-same (its_fault {fault} f n x) (it_reads reads) = absurd (one.no_fault _ _ fault f n reads)
    text_why-same (it_reads reads) (its_fault {fault} g m y) = absurd (one.no_fault _ _ fault g m reads)
    text_why-same (it_reads reads) (it_reads reads_too) = refl

    why-same : (explains : Bool) (lines : Option (List ℕ)) {a b : List ℕ} → ExplainsIfAsked explains lines a
        → ExplainsIfAsked explains lines b → a ≡ b
    why-same true (Some text) x y = text_why-same x y
    why-same true None x y = x ∙ sym y
    why-same false lines x y = x ∙ sym y

    reports-same : {explains : Bool} {reports : List ReportedRule} {a b : List ℕ} → AreReports explains reports a
        → AreReports explains reports b → a ≡ b
    reports-same no_reports no_reports = refl
    reports-same {explains} (next_report {report} why {more} x xs) (next_report second {more = others} y ys) =
        ap (λ (w : List ℕ). report.message ++ (w ++ more)) (why-same explains report.lines x y)
        ∙ ap (λ (m : List ℕ). report.message ++ (second ++ m)) (reports-same xs ys)

    pub stated-same : (lists : Option ListForm) (texts : List NamedText) {form : JoinForm} {explains : Bool}
        {input : Input} {notes others : List ℕ} {a b : Reply} → JoinStates texts lists form explains input notes a
        → JoinStates texts lists form explains input others b → a.status ≢ 5 → b.status ≢ 5
        → (notes ≡ others) × (a ≡ b)
    stated-same lists texts {form} {explains} (joins {j} {reports} {reply} x rs r)
        (joins {j = k} {reports = seconds} {reply = other} y ss s) p q =
        let same : j ≡ k = joined-same lists texts j k x y in
        let here : JoinedReply form k reply = subst (λ (g : GrammarJoined). JoinedReply form g reply) same r in
        let mine : AreReports explains k.reports reports =
        subst (λ (g : GrammarJoined). AreReports explains g.reports reports) same rs in (
          ap (λ (g : GrammarJoined). reports ++ g.reported) same
              ∙ ap (λ (t : List ℕ). t ++ k.reported) (reports-same mine ss),
          reply-same k here s p q,
        )
    stated-same lists texts (joins x rs r) no_room p q = absurd (q refl)
    stated-same lists texts no_room s p q = absurd (p refl)
