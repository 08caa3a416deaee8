-- `loader::load` meets its contract: an accepted image is loadable.
use mathlib.Core.Path.{◌∙◌}
use Rattle.wire.proofs.Lists.{IsByte, every_of}
use Rattle.image.specs.Image.{state_of}
use Rattle.loader.proofs.Loading.{accepted_loadable}
use Rattle.loader.proofs.load.Goals as goal

pub load_slots-requires : goal.load_slots-requires
load_slots-requires c =
    let b = c.args.image.now in
    let bytes = every_of IsByte 0 b (λ i. (c.type_inv.image i).fits) in
    rw (c.slots_part.ensures, c.version.ensures) (accepted_loadable b bytes c.requires)

pub returns : goal.returns
unfolding state_of
returns c = c.load_slots.ensures ∙ rw (c.slots_part.ensures, c.version.ensures)
