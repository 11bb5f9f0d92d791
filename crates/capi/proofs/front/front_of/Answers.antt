-- All messages stand once, or an allocation failed.
use Rattle.std.proofs.Common.{◌≡◌, Ok}
use Rattle.capi.specs.FrontText.{not_reported, refused_once, reported_once}
use Rattle.capi.proofs.front.front_of.Goals as goal
use Rattle.capi.proofs.front.front_of.Goals.{in-Some, in-None}

pub returns-in-Ok : goal.returns-in-Ok
returns-in-Ok g c = elim c.match-refused_by.branch [
  | in-Some w ↦
      let ok : w.text_of_refusal-reported.result ≡ Ok c.in-Ok.reported = rw w.reported-is at c.in-Ok.is in
      rw w.reported-is (refused_once w.in-Some.fault w.in-Some.ensures (rw ok at w.text_of_refusal-reported.ensures))
  | in-None w ↦
      let ok : w.text_of_first.result ≡ Ok c.in-Ok.reported = rw w.reported-is at c.in-Ok.is in
      rw w.reported-is (reported_once w.in-None.ensures (rw ok at w.text_of_first.ensures))
]

pub returns : goal.returns
returns g c = not_reported c.new.ensures.items
