-- `calls::rewrite` meets its contract: the view for label 15.
use mathlib.Core.Path.{◌∙◌}
use Rattle.wire.proofs.Lists.{IsByte, every_of}
use Rattle.calls.proofs.Pipeline.{view_rewrites}
use Rattle.calls.proofs.rewrite.Goals as goal

pub returns : goal.returns
returns c =
    let a = c.args in
    let bytes = every_of IsByte 0 a.image.now (λ i. (c.type_inv.image i).fits) in
    let laws = view_rewrites a.image.now bytes a.out.now in
    let v = c.view in
    (v.ensures.0 ∙ laws.0, v.ensures.1 ∙ laws.1)
