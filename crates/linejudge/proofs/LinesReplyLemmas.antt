-- The lines of an input, the explanations of rejected ones, and how a run of them ends are one, and so is its reply.
-- Serves: one_reply_of_abnf, one_statement_of_abnf
use Rattle.std.proofs.Common.{◌≡◌, ◌≢◌, ℕ, suc, ◌+◌, ◌<◌, ◌≤◌, Bool, List, [], ◌∷◌, ◌++◌, length, take, drop, get_or}
use Rattle.std.proofs.Common.{false, refl}
use Rattle.std.proofs.Common.{sym, ◌∙◌, ap, subst, arith, inl, inr, length-append, length-take}
use Rattle.std.proofs.Math.Seq.{get_or-append_seam}
use Rattle.std.proofs.lemmas.Bool.{cases_lt}
use Rattle.std.proofs.lemmas.List.{get_or-take}
use Rattle.std.proofs.lemmas.List.Elements.{All-head, All-tail, All-get_or}
use Rattle.toolrun.specs.Input.{Input}
use Rattle.toolrun.specs.Reply.{Reply, explained_reply}
use Rattle.toolrun.specs.Explained.{ExplainedIf}
use Rattle.toolrun.specs.RunEnd.{more_refused}
use Rattle.toolrun.specs.RunSteps.{Replies}
use Rattle.toolrun.proofs.ExplainedIfLemmas.{if-explained}
use Rattle.toolrun.specs.Status.{code_of}
use Rattle.toolrun.specs.Stop.{message_of, status_of}
use Rattle.toolrun.specs.declared.stop.Stop.{Stop}
use Rattle.linejudge.specs.InputLines.{HasNoEnd, printed_line, next_position, position_taken, IsLine, IsLastAt}
use Rattle.linejudge.specs.InputLines.{StandsAt}
use Rattle.linejudge.specs.InputLines.{with_end, without_end, Lines, none, one_more, LinesEnd, broken, overlong}
use Rattle.linejudge.specs.InputLines.{GoesBy, costly, finished, is_over, kept_line, rejected}
use Rattle.linejudge.specs.LineRefusals.{
  LinesReply,
  Refusals,
  count_unreported,
  is_reported,
  none_reported,
  one_reported,
  stop_lines,
}
use Rattle.linejudge.specs.declared.answers.Answer.{Answer}
use Rattle.linejudge.specs.declared.line.LineForm.{LineForm}
use Rattle.linejudge.specs.declared.reached.LinePosition.{LinePosition}

-- what stands before the first end is one
one_front : (end : ℕ) (a b x y : List ℕ) → HasNoEnd end a → HasNoEnd end b → a ++ end ∷ x ≡ b ++ end ∷ y → a ≡ b
one_front end [] [] x y h k e = refl
one_front end [] (c ∷ b) x y h k e =
    let f = ap (λ (l : List ℕ). get_or l 0 0) e in absurd (All-head (λ v. v ≢ end) c b k (sym f))
one_front end (c ∷ a) [] x y h k e = absurd (All-head (λ v. v ≢ end) c a h (ap (λ (l : List ℕ). get_or l 0 0) e))
one_front end (c ∷ a) (d ∷ b) x y h k e =
    let first : c ≡ d = ap (λ (l : List ℕ). get_or l 0 0) e in
    let rest : a ++ end ∷ x ≡ b ++ end ∷ y = ap (λ (l : List ℕ). drop 1 l) e in
    let front : a ≡ b = one_front end a b x y (All-tail (λ v. v ≢ end) c a h) (All-tail (λ v. v ≢ end) d b k) rest in
    cc

-- a list with an end is not without one
has_end : (end : ℕ) (xs line after : List ℕ) → xs ≡ line ++ end ∷ after → HasNoEnd end xs → ⊥
has_end end xs line after cut h =
    let l = ap length cut in
    let here : get_or xs (length line) 0 ≡ end = ap (λ (t : List ℕ). get_or t (length line) 0) cut
    ∙ get_or-append_seam line end after 0 in
    All-get_or (λ v. v ≢ end) xs (length line) 0 (omega (arith, l, length-append line (end ∷ after))) h here

-- nor is a front of it that reaches over the end
has_end_within : (end n : ℕ) (xs line after : List ℕ) → xs ≡ line ++ end ∷ after → length line ≤ n
    → HasNoEnd end (take (suc n) xs) → ⊥
has_end_within end n xs line after cut le h =
    let l = ap length cut in
    let here : get_or (take (suc n) xs) (length line) 0 ≡ end =
    get_or-take (suc n) xs (length line) 0 (omega (arith, le)) ∙ ap (λ (t : List ℕ). get_or t (length line) 0) cut
    ∙ get_or-append_seam line end after 0 in
    All-get_or (λ v. v ≢ end) (take (suc n) xs) (length line) 0
    (omega (arith, l, le, length-take (suc n) xs, length-append line (end ∷ after))) h here

module _ (form : LineForm) (input : Input) where
  -- one line with its end at a position
  one_line : (s : ℕ) (a b : List ℕ) → IsLine form input s a → IsLine form input s b → a ≡ b
  one_line s a b h k = one_front form.end a b h.after k.after h.one k.one (sym h.cut ∙ k.cut)

  -- no last line where a line has an end
  not_both : (s : ℕ) (line : List ℕ) → IsLine form input s line → IsLastAt form input s → ⊥
  not_both s line is (free, some, short, fine) = has_end form.end (drop s input.bytes) line is.after is.cut free

  -- two lines at a position are the same, and take as many bytes
  record OneStands (a b : List ℕ) (n m : ℕ) : Type 0 where
    lines : a ≡ b
    sizes : n ≡ m

  one_stands : (s : ℕ) (a b : List ℕ) (n m : ℕ) → StandsAt form input s a n → StandsAt form input s b m
      → OneStands a b n m
  one_stands s a b n m (with_end line is) (with_end other has) =
      let same : line ≡ other = one_line s line other is has in
      record { lines = ap (kept_line form) same; sizes = ap (λ (l : List ℕ). length l + 1) same }
  one_stands s a b n m (with_end line is) (without_end last) = absurd (not_both s line is last)
  one_stands s a b n m (without_end last) (with_end line is) = absurd (not_both s line is last)
  one_stands s a b n m (without_end last) (without_end other) = record { lines = refl; sizes = refl }

module _ (NeedsMore : List ℕ → ℕ → Type 0) (never : (line : List ℕ) (budget : ℕ) → NeedsMore line budget → ⊥)
    (form : LineForm) (input : Input) where
  -- no run ends where it goes on by a line
  no_end : (at : LinePosition) (line last : List ℕ) (n : ℕ) (why : Stop) → is_over form at ≡ false
      → StandsAt form input at.position line n → LinesEnd NeedsMore form input at last why → ⊥
  no_end at line last n why on (with_end it is) (rejected over) = absurd (cc)
  no_end at line last n why on (with_end it is) (broken goes (free, short, fault)) =
      has_end form.end (drop at.position input.bytes) it is.after is.cut free
  no_end at line last n why on (with_end it is) (overlong goes (free, long)) =
      has_end_within form.end form.limit (drop at.position input.bytes) it is.after is.cut is.within free
  no_end at line last n why on (with_end it is) (finished goes (empty, fine)) =
      let l = ap length is.cut in
      let m = ap length empty in
      omega (arith, l, m, length-append it (form.end ∷ is.after))
  no_end at line last n why on stands (costly other m budget goes more) = absurd (never other budget more)
  no_end at line last n why on (without_end last_is) (rejected over) = absurd (cc)
  no_end at line last n why on (without_end (free, some, short, fine)) (broken goes (free', short', fault)) =
      absurd (cc)
  no_end at line last n why on (without_end (free, some, short, fine)) (overlong goes (free', long)) =
      absurd (omega (arith, short, long))
  no_end at line last n why on (without_end (free, some, short, fine)) (finished goes (empty, fine')) =
      absurd (let l = ap length empty in omega (arith, l, some))

  -- two ends are the same
  record OneEnd (last other : List ℕ) (why end : Stop) : Type 0 where
    lasts : last ≡ other
    stops : why ≡ end

  one_end : (at : LinePosition) (last other : List ℕ) (why end : Stop) → LinesEnd NeedsMore form input at last why
      → LinesEnd NeedsMore form input at other end → OneEnd last other why end
  one_end at last other why end (broken g (free, short, fault)) (broken h (free', short', fault')) =
      record { lasts = refl; stops = refl }
  one_end at last other why end (broken g (free, short, fault)) (overlong h (free', long)) =
      absurd (omega (arith, short, long))
  one_end at last other why end (broken g (free, short, fault)) (finished h (empty, fine)) = absurd (cc)
  one_end at last other why end (overlong g (free, long)) (broken h (free', short, fault)) =
      absurd (omega (arith, short, long))
  one_end at last other why end (overlong g (free, long)) (overlong h (free', long')) =
      record { lasts = refl; stops = refl }
  one_end at last other why end (overlong g (free, long)) (finished h (empty, fine)) =
      absurd (let l = ap length empty in omega (arith, l, long))
  one_end at last other why end (finished g (empty, fine)) (broken h (free', short, fault)) = absurd (cc)
  one_end at last other why end (finished g (empty, fine)) (overlong h (free, long)) =
      absurd (let l = ap length empty in omega (arith, l, long))
  one_end at last other why end (finished g (empty, fine)) (finished h (empty', fine')) =
      record { lasts = refl; stops = refl }
  one_end at last other why end (costly line n budget goes more) e = absurd (never line budget more)
  one_end at last other why end e (costly line n budget goes more) = absurd (never line budget more)
  one_end at last other why end (broken g is) (rejected over) = absurd (cc)
  one_end at last other why end (rejected over) (broken g is) = absurd (cc)
  one_end at last other why end (overlong g is) (rejected over) = absurd (cc)
  one_end at last other why end (rejected over) (overlong g is) = absurd (cc)
  one_end at last other why end (finished g is) (rejected over) = absurd (cc)
  one_end at last other why end (rejected over) (finished g is) = absurd (cc)
  one_end at last other why end (rejected over) (rejected again) = record { lasts = refl; stops = refl }

module _ (Reported : List ℕ → Answer → Type 0) (one_answer : (line : List ℕ) (a b : Answer) → Reported line a
    → Reported line b
    → a ≡ b) (NeedsMore : List ℕ → ℕ → Type 0) (never : (line : List ℕ) (budget : ℕ) → NeedsMore line budget → ⊥)
    (form : LineForm) (input : Input) where
  abbrev LinesTo : LinePosition → List ℕ → Type 0
  LinesTo at text = Lines Reported form input at text

  -- two positions, and the answers up to them, are the same
  record Same (at other : LinePosition) (text more : List ℕ) : Type 0 where
    positions : at ≡ other
    texts : text ≡ more

  -- both go on by a line
  same_next : (at other : LinePosition) (text more line next : List ℕ) (n m : ℕ) (said reported : Answer)
      → Same at other text more
      → StandsAt form input at.position line n → StandsAt form input other.position next m → Reported line said
      → Reported next reported
      → Same (next_position at n said) (next_position other m reported)
      (text ++ printed_line form (at.count + 1) line said)
      (more ++ printed_line form (other.count + 1) next reported)
  same_next at other text more line next n m said reported same h k s t =
      let position = same.positions in
      let words = same.texts in
      let one = one_stands form input at.position line next n m h
      (subst (λ (v : LinePosition). StandsAt form input v.position next m) (sym position) k) in
      let lines = one.lines in
      let sizes = one.sizes in
      let answers : said ≡ reported = one_answer line said reported s
      (subst (λ (l : List ℕ). Reported l reported) (sym lines) t) in
      let numbers : at.count + 1 ≡ other.count + 1 = ap (λ (v : LinePosition). v.count + 1) position in
      let shown : printed_line form (at.count + 1) line said ≡ printed_line form (other.count + 1) next reported =
      ap (λ k. printed_line form k line said) numbers ∙ ap (λ l. printed_line form (other.count + 1) l said) lines
      ∙ ap (printed_line form (other.count + 1) next) answers in
      record { positions = cc; texts = cc }

  -- as many lines lead to one position
  same_position : (at : LinePosition) (text : List ℕ) → LinesTo at text → (other : LinePosition) (more : List ℕ)
      → LinesTo other more
      → at.count ≡ other.count → Same at other text more
  same_position at text none other more none e = record { positions = refl; texts = refl }
  same_position at text none other more (one_more before front line n said u is says) e = absurd (omega (arith, e))
  same_position at text (one_more before front line n said u is says) other more none e = absurd (omega (arith, e))
  same_position at text (one_more before front line n said u is says) other more
      (one_more prior begun next m reported v has reports) e =
      same_next before prior front begun line next n m said reported
      (same_position before front u prior begun v (omega (arith, e))) is.stands has.stands says reports

  -- after so many lines there is a further one
  record GoesOn (count : ℕ) : Type 0 where
    at : LinePosition
    text : List ℕ
    lines : LinesTo at text
    here : at.count ≡ count
    line : List ℕ
    size : ℕ
    is : GoesBy form input at line size

  goes_on : (count : ℕ) (at : LinePosition) (text : List ℕ) → LinesTo at text → count < at.count → GoesOn count
  goes_on count at text none lt = absurd (omega (arith, lt))
  goes_on count at text (one_more before front line n said u is says) lt = elim (cases_lt count before.count) [
    | inl less ↦ goes_on count before front u less
    | inr ge ↦ record {
      at = before;
      text = front;
      lines = u;
      here = omega (arith, lt, ge);
      line = line;
      size = n;
      is = is;
    }
  ]

  -- no run ends after fewer lines than another run answers
  no_earlier_end : (at other : LinePosition) (text more last : List ℕ) (why : Stop) → LinesTo at text
      → LinesEnd NeedsMore form input at last why → LinesTo other more → at.count < other.count → ⊥
  no_earlier_end at other text more last why lines ends further lt =
      let g = goes_on at.count other more further lt in
      let same = same_position at text lines g.at g.text g.lines (sym g.here) in
      let by : GoesBy form input at g.line g.size =
      subst (λ (v : LinePosition). GoesBy form input v g.line g.size) (sym same.positions) g.is in
      no_end NeedsMore never form input at g.line last g.size why by.goes by.stands ends

  abbrev HasReply : Reply → Type 0
  HasReply reply = Replies (Lines Reported form input) (LinesEnd NeedsMore form input)
      (position_taken form.limit input) reply

  -- two replies end at one position, in one way
  record OneReply (a b : Reply) (r : HasReply a) (q : HasReply b) : Type 0 where
    same : Same r.point q.point r.before q.before
    ends : OneEnd NeedsMore never form input r.last q.last r.stop q.stop

  ends_there : (a b : Reply) (r : HasReply a) (q : HasReply b) → Same r.point q.point r.before q.before
      → OneReply a b r q
  ends_there a b r q same = record {
    same = same;
    ends = one_end NeedsMore never form input r.point r.last q.last r.stop q.stop r.ends
        (subst (λ (v : LinePosition). LinesEnd NeedsMore form input v q.last q.stop) (sym same.positions) q.ends);
  }

  -- one reply, but for what is explained
  one_plain_reply : (a b : Reply) (r : HasReply a) (q : HasReply b) → OneReply a b r q
  one_plain_reply a b r q = elim (cases_lt r.point.count q.point.count) [
    | inl lt ↦ absurd (no_earlier_end r.point q.point r.before q.before r.last r.stop r.steps r.ends q.steps lt)
    | inr ge ↦ elim (cases_lt q.point.count r.point.count) [
      | inl lt ↦ absurd (no_earlier_end q.point r.point q.before r.before q.last q.stop q.steps q.ends r.steps lt)
      | inr le ↦ ends_there a b r q (same_position r.point r.before r.steps q.point q.before q.steps
          (omega (arith, ge, le)))
    ]
  ]

  same_reply : (a b : Reply) (r : HasReply a) (q : HasReply b) → OneReply a b r q → a ≡ b
  same_reply a b r q one =
      let position = one.same.positions in
      let last = one.ends.lasts in
      let why = one.ends.stops in
      let out : a.out ≡ b.out = r.out ∙ ap (λ t. t ++ r.last) one.same.texts ∙ ap (λ t. q.before ++ t) last
      ∙ sym q.out in
      let err : a.err ≡ b.err = r.err ∙ ap (λ w. message_of w) why ∙ sym q.err in
      let status : a.status ≡ b.status = r.status ∙ ap (λ w. code_of (status_of w)) why ∙ sym q.status in
      let taken : a.taken ≡ b.taken = r.taken ∙ ap (λ (v : LinePosition). position_taken form.limit input v) position
      ∙ sym q.taken in
      let is : record { out = a.out; err = a.err; status = a.status; taken = a.taken }
      ≡ record { out = b.out; err = b.err; status = b.status; taken = b.taken } = cc in
      is

  pub one_plain : (a b : Reply) → HasReply a → HasReply b → a ≡ b
  one_plain a b r q = same_reply a b r q (one_plain_reply a b r q)

  module _ (asked : Bool) (Refusal : List ℕ → ℕ → List ℕ → Type 0) (one_refusal : (line : List ℕ) (number : ℕ)
      (a b : List ℕ) → Refusal line number a → Refusal line number b → a ≡ b) where
    abbrev ReportedTo : LinePosition → List ℕ → Type 0
    ReportedTo at text = Refusals Reported asked Refusal form input at text

    -- both go on by a line, which one text explains
    reports_next : (at other : LinePosition) (text more line next : List ℕ) (n m : ℕ) (said reported : Answer)
        (why lines : List ℕ)
        → Same at other text more → StandsAt form input at.position line n → StandsAt form input other.position next m
        → Reported line said → Reported next reported
        → ExplainedIf (is_reported asked at.refused said) (Refusal line (at.count + 1)) why
        → ExplainedIf (is_reported asked other.refused reported) (Refusal next (other.count + 1)) lines
        → Same (next_position at n said) (next_position other m reported) (text ++ why) (more ++ lines)
    reports_next at other text more line next n m said reported why lines same h k s t w v =
        let step = same_next at other text more line next n m said reported same h k s t in
        let one = one_stands form input at.position line next n m h
        (subst (λ (u : LinePosition). StandsAt form input u.position next m) (sym same.positions) k) in
        let answers : said ≡ reported = one_answer line said reported s
        (subst (λ (l : List ℕ). Reported l reported) (sym one.lines) t) in
        let other_reported = subst (λ (a : Answer). ExplainedIf (is_reported asked at.refused a)
        (Refusal line (at.count + 1)) lines) (sym answers)
        (subst (λ (l : List ℕ). ExplainedIf (is_reported asked at.refused reported) (Refusal l (at.count + 1)) lines)
        (sym one.lines)
        (subst (λ (u : LinePosition). ExplainedIf (is_reported asked u.refused reported)
        (Refusal next (u.count + 1)) lines)
        (sym same.positions) v)) in
        let texts : why ≡ lines = if-explained (is_reported asked at.refused said) (Refusal line (at.count + 1))
        (one_refusal line (at.count + 1)) why lines w other_reported in
        let words = same.texts in
        record { positions = step.positions; texts = cc }

    -- one text explains the lines to a position
    same_reported : (at : LinePosition) (text : List ℕ) → ReportedTo at text → (other : LinePosition) (more : List ℕ)
        → ReportedTo other more
        → at.count ≡ other.count → Same at other text more
    same_reported at text none_reported other more none_reported e = record { positions = refl; texts = refl }
    same_reported at text none_reported other more (one_reported before front line n said why u is says reports) e =
        absurd (omega (arith, e))
    same_reported at text (one_reported before front line n said why u is says reports) other more none_reported e =
        absurd (omega (arith, e))
    same_reported at text (one_reported before front line n said why u is says reports) other more
        (one_reported prior begun next m reported lines v has report explains) e =
        reports_next before prior front begun line next n m said reported why lines
        (same_reported before front u prior begun v (omega (arith, e))) is.stands has.stands says report reports
        explains

    -- one reply
    pub one_lines_reply : (a b : Reply) → LinesReply Reported asked Refusal NeedsMore form input a
        → LinesReply Reported asked Refusal NeedsMore form input b → a ≡ b
    one_lines_reply a b r q =
        let one = one_plain_reply r.plain q.plain r.replies q.replies in
        let plain : r.plain ≡ q.plain = same_reply r.plain q.plain r.replies q.replies one in
        let position = one.same.positions in
        let stops = one.ends.stops in
        let reported = same_reported r.replies.point r.reports.first r.reports.refusals q.replies.point q.reports.first
        q.reports.refusals (ap (λ (v : LinePosition). v.count) position) in
        let first = reported.texts in
        let before : r.before ≡ q.before = r.reports.is
        ∙ ap (λ t. t ++ more_refused (count_unreported asked r.replies.point.refused)) first
        ∙ ap (λ (v : LinePosition). q.reports.first ++ more_refused (count_unreported asked v.refused)) position
        ∙ sym q.reports.is in
        let why : r.why ≡ q.why = if-explained asked (λ t. t ≡ stop_lines r.replies.stop) (λ x y h k. h ∙ sym k)
        r.why q.why r.explains
        (subst (λ (s : Stop). ExplainedIf asked (λ t. t ≡ stop_lines s) q.why) (sym stops) q.explains) in
        r.reported ∙ ap (λ t. explained_reply t r.plain r.why) before ∙ ap (λ p. explained_reply q.before p r.why) plain
        ∙ ap (λ w. explained_reply q.before q.plain w) why ∙ sym q.reported
