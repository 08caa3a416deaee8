-- `label::is_subset` meets its contract: the mask test is the subset test on a byte's bits.
use native.Mathlib.Omega.{arith}
use Rattle.label.proofs.Masks.{mask_test}
use Rattle.label.proofs.is_subset.Goals as goal

pub returns : goal.returns
returns c = mask_test c.args.k c.args.m (omega arith)
