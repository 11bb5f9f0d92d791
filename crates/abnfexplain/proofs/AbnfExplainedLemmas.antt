-- The lines that explain a fault, piece by piece.
-- Serves: explain_abnf_fault
use Rattle.std.proofs.Common.{◌≡◌, ◌≢◌, ℕ, zero, suc, ◌≤◌, ◌⊎◌, inl, inr, ◌&&◌, Bool, true, false}
use Rattle.std.proofs.Common.{Option, Some, None}
use Rattle.std.proofs.Common.{List, [], ◌∷◌, ◌++◌, length, slice_get, map, take, refl, sym, ap, ◌∙◌, arith}
use Rattle.std.proofs.Common.{append_assoc, All}
use Rattle.std.proofs.lemmas.Option.{slice_get_within, get_or_from_slice_get, slice_get-map}
use Rattle.std.specs.Option.{option_map}
use Rattle.std.specs.Prelude.{codes, decimal}
use Rattle.lexer.specs.Pieces.{LiesIn}
use Rattle.lexer.specs.TokenLists.{Tok, start_of, end_of, kind_of}
use Rattle.lexer.specs.declared.limits.TheConstants.{MAX_GRAMMAR}
use Rattle.diagnostics.specs.PhraseLists.{listed}
use Rattle.diagnostics.specs.ReportedPhrases.{AreAllReported}
use Rattle.diagnostics.proofs.PhraseLemmas.{reported-same}
use Rattle.abnfread.specs.declared.kind.AbnfKind.{AbnfKind}
use Rattle.abnfread.specs.declared.marks.MarkedToken.{MarkedToken}
use Rattle.abnfread.specs.AbnfReading.{is_bracket, IsDecidedAt, IsFaultOf}
use Rattle.abnfread.specs.AbnfSays.{IsHopeless, IsOver}
use Rattle.abnfread.specs.MarkedTokens.{Marked, marked, tok_of, marked_of, marks, margin, AreTokens, AreMarked}
use Rattle.ruletable.specs.declared.fault.ReadFault.{ReadFault}
use Rattle.ruletable.specs.declared.fault.ReadFault.TheVariants as faults
use Rattle.abnfexplain.specs.declared.abnf_decide.Refused.{Refused}
use Rattle.abnfexplain.specs.declared.abnf_stand.Form.{Form}
use Rattle.abnfexplain.specs.declared.abnf_stand.Position.{Position}
use Rattle.abnfexplain.specs.AbnfDecisions.{first_marked, IsTokenOf, ReportsForms, IsRefused, NoneDecides}
use Rattle.abnfexplain.specs.AbnfExpected.{CanStand, phrases}
use Rattle.abnfexplain.specs.AbnfExplained.{indent, line_fact, is_later_name, name_fact, token_position, token_facts}
use Rattle.abnfexplain.specs.AbnfExplained.{Why}
use Rattle.abnfexplain.specs.AbnfExplained.{hopeless, too_deep, too_large}
use Rattle.abnfexplain.specs.AbnfPositions.{position_allows}
use Rattle.abnfexplain.specs.AbnfStands.{defines}

-- pieces, one after the other
pub three-pieces : (o a b c x y z : List ℕ) → a ≡ o ++ x → b ≡ a ++ y → c ≡ b ++ z → c ≡ o ++ (x ++ (y ++ z))
three-pieces o a b c x y z f g h =
    let whole : c ≡ ((o ++ x) ++ y) ++ z = rw (h, g, f) refl in
    whole ∙ simp append_assoc

pub five-pieces : (o a b c d e x y z u v : List ℕ) → a ≡ o ++ x → b ≡ a ++ y → c ≡ b ++ z → d ≡ c ++ u → e ≡ d ++ v
    → e ≡ o ++ (x ++ (y ++ (z ++ (u ++ v))))
five-pieces o a b c d e x y z u v f g h k l =
    let whole : e ≡ ((((o ++ x) ++ y) ++ z) ++ u) ++ v = rw (l, k, h, g, f) refl in
    whole ∙ simp append_assoc

pub line-is : (text : List ℕ) (o : Option Marked) (p : Marked) (x : Tok AbnfKind) (g f : Bool) (n m : ℕ) → o ≡ Some p
    → f ≡ true → n ≡ indent text (marked x g f) → m ≡ indent text p → line_fact text o (marked x g f)
    ≡ codes "  its line begins a rule: it is indented by " ++ (decimal n ++ (codes ", the first by " ++ (decimal m
    ++ codes "\n")))
line-is text o p x g f n m e t a b = rw (e, t, a, b) refl

pub name-is : (text : List ℕ) (o b : Option Marked) (p q m : Marked) (n : ℕ) → o ≡ Some p → b ≡ Some q
    → (is_later_name q && defines (kind_of (tok_of m))) ≡ true → n ≡ indent text p → name_fact text o b m
    ≡ codes "  the name before it does not begin a rule: rules are indented by at most " ++ (decimal n ++ codes "\n")
name-is text o b p q m n e f t a = rw (e, f, t, a) refl

-- the tokens of marked ones
pub marks-tokens : (text : List ℕ) (m : Option ℕ) (n : ℕ) (xs : List (Tok AbnfKind))
    → map tok_of (marks text m n xs) ≡ xs
marks-tokens text m n [] = refl
marks-tokens text m n (x ∷ xs) = ap (λ (ys : List (Tok AbnfKind)). x ∷ ys) (marks-tokens text m (end_of x) xs)

abbrev Lies : List ℕ → Type 0
Lies text = (ts : List (Tok AbnfKind)) → AreTokens text ts → All (LiesIn text) ts

-- a token of a text lies in it
token-within : (text : List ℕ) (all : List Marked) (i : ℕ) (m : Marked) → Lies text → AreMarked text all
    → slice_get all i ≡ Some m → start_of (tok_of m) ≤ length text
token-within text all i m lies are there =
    let same : map tok_of all ≡ are.tokens = ap (map tok_of) are.same
    ∙ marks-tokens text (margin text are.tokens) 0 are.tokens in
    let got : slice_get are.tokens i ≡ Some (tok_of m) = ap (λ (ts : List (Tok AbnfKind)). slice_get ts i) (sym same)
    ∙ slice_get-map tok_of all i ∙ ap (option_map tok_of) there in
    let at = lies are.tokens are.are_tokens i (tok_of m) (slice_get_within are.tokens i (tok_of m) got) in
    let here : LiesIn text (tok_of m) = rw (get_or_from_slice_get are.tokens i (tok_of m) (tok_of m) got) at at in
    let rises = here.rises in
    let within = here.within in
    omega arith

first-get : (i : ℕ) (ms : List Marked) (m : Marked) → first_marked (take i ms) ≡ Some m → slice_get ms 0 ≡ Some m
first-get zero ms m e = absurd (let no : None ≡ Some m = e in cc)
first-get (suc i) [] m e = absurd (let no : None ≡ Some m = e in cc)
first-get (suc i) (x ∷ ms) m e = e

module _ (text : List ℕ) (lies : Lies text) where
  pub start-within : (m : Marked) (D : List Marked → ℕ → Type 0) → IsTokenOf text m D
      → start_of (tok_of m) ≤ length text
  start-within m D h = token-within text h.all h.number m lies h.are_tokens h.there

  pub origin-within : (r : Refused) → IsTokenOf text (marked_of r.token) (IsRefused r) → (o : MarkedToken)
      → r.origin ≡ Some o → start_of (tok_of (marked_of o)) ≤ length text
  origin-within r h o e =
      let first : first_marked (take h.number h.all) ≡ Some (marked_of o) =
      sym (h.holds).origin ∙ ap (option_map marked_of) e in
      token-within text h.all 0 (marked_of o) lies h.are_tokens (first-get h.number h.all (marked_of o) first)

module _ (position : Position) (ms : List Marked) (i : ℕ) (h : ReportsForms position ms i) where
  by-test : (form : Form) (b : Bool) → position_allows position form ≡ b → CanStand ms i form
      → position_allows position form ≡ true
  by-test form true e s = e
  by-test form false e s = absurd (h.other form e s)

  -- what the position says can stand there
  position-reports : {ws : List (List ℕ)} → AreAllReported (λ k. position_allows position k ≡ true) phrases ws
      → AreAllReported (CanStand ms i) phrases ws
  position-reports t = reported-same h.stand (λ k s. by-test k (position_allows position k) refl s) t

module _ (text : List ℕ) (within : length text ≤ MAX_GRAMMAR) where
  pub hopeless-why : (r : Refused) (reported : List (List ℕ)) (why : List ℕ)
      → IsTokenOf text (marked_of r.token) (IsRefused r) → AreAllReported
      (λ k. position_allows r.position k ≡ true) phrases reported
      → why ≡ token_position text (marked_of r.token) ++ (codes "expected " ++ (listed reported ++ (codes "\n"
      ++ token_facts text (option_map marked_of r.origin) (option_map marked_of r.earlier)
      (option_map marked_of r.before) (marked_of r.token))))
      → Why text why
  hopeless-why r reported why h reports e =
      let d = h.holds in
      rw (e, d.origin, d.earlier, d.before)
      (hopeless within h.are_tokens h.there d.hopeless (position-reports r.position h.all h.number d.reports reports))

  pub deep-why : (m : Marked) (why : List ℕ) → IsTokenOf text m (λ us i. IsOver us i × (is_bracket m ≡ true))
      → why ≡ token_position text m ++ codes "200 brackets are open before it\n" → Why text why
  deep-why m why h e = rw e (too_deep within h.are_tokens h.there h.holds.0 h.holds.1)

  pub large-why : (m : Marked) (why : List ℕ) → IsTokenOf text m (λ us i. IsOver us i × (is_bracket m ≡ false))
      → why ≡ token_position text m ++ codes "above 4294967295\n" → Why text why
  large-why m why h e = rw e (too_large within h.are_tokens h.there h.holds.0 h.holds.1)

-- a fault of what is not too long is that of a token
at-token : (text : List ℕ) (line : ℕ) (D : List Marked → ℕ → Marked → Type 0)
    → ((ms : List Marked) (i : ℕ) (m : Marked) → D ms i m → IsHopeless ms i ⊎ IsOver ms i) → IsDecidedAt text line D
    → NoneDecides text → ⊥
at-token text line D f h none = none h.all h.are_tokens h.number (f h.all h.number h.token h.decides)

pub fault-decided : (text : List ℕ) (fault : ReadFault) → fault ≢ faults.Memory → fault ≢ faults.TooLong
    → IsFaultOf text fault → (length text ≤ MAX_GRAMMAR) × (NoneDecides text → ⊥)
fault-decided text (faults.Syntax line) m l h = (h.size, at-token text line _ (λ ms i t d. inl d) h)
fault-decided text (faults.NumberTooLarge line) m l h = (h.size, at-token text line _ (λ ms i t d. inr d.0) h)
fault-decided text (faults.Depth line) m l h = (h.size, at-token text line _ (λ ms i t d. inr d.0) h)
fault-decided text faults.TooLong m l h = absurd (l refl)
fault-decided text faults.Memory m l h = absurd (m refl)
fault-decided text (faults.CodePredicate line) m l h = absurd h

-- after nothing
pub six-pieces : (o a b c d e x y z u v : List ℕ) → o ≡ [] → a ≡ o ++ x → b ≡ a ++ y → c ≡ b ++ z → d ≡ c ++ u
    → e ≡ d ++ v → e ≡ x ++ (y ++ (z ++ (u ++ v)))
six-pieces o a b c d e x y z u v n f g h k l =
    let whole : e ≡ (((x ++ y) ++ z) ++ u) ++ v = rw (l, k, h, g, f, n) refl in
    whole ∙ simp append_assoc
