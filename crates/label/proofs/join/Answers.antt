-- `label::join` meets its contract.
use mathlib.Core.Path.{refl}
use Rattle.label.proofs.join.Goals as goal

pub returns : goal.returns
returns c = refl
