use Rattle.packrat.proofs.known.known_at.Goals as goal

pub returns : goal.returns
returns c =
    let t = c.requires.tabled in
    let d = c.in_ok-decided.ensures.decided t.0 c.args.node t.1 t.2 in
    record {
      byte = d.byte;
      here = d.here;
      last = d.last;
      verdict = c.in_ok-decided.decided.verdict;
      decides = rw c.from.ensures d.decides;
      found = c.found_at.ensures;
    }
