-- The rows of the code.
use Rattle.abnfexplain.specs.AbnfMistakes as rows
use Rattle.abnfexplain.specs.declared.abnf_mistakes.Mistake.{Mistake}

-- what the code's row stands for
abbrev pub mistake_of : Mistake → rows.Mistake
mistake_of m = record {
  kinds = m.kinds.now;
  marks = m.marks;
  begins = m.begins.now;
  blanks = m.blanks;
  next = m.next.now;
  ends = m.ends;
  before = m.before.now;
  word = m.word.now;
  whole = m.whole;
  earlier = m.earlier.now;
  reported = m.reported.now;
}
