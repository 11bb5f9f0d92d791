use Rattle.std.proofs.Common.{refl}
use lib.Utf8.{encode}
use Rattle.diagnostics.proofs.picture.code_points.point_facts.Goals as goal

pub returns : goal.returns
unfolding encode
returns c = refl
