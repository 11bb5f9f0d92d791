use Rattle.matchfailure.proofs.farthest.laws.farthest_or_none.Goals as goal

pub returns : goal.returns
returns c rules nodes bodies x start f vs far none = none far.some.0 far.some.1 f far.some.2
