-- `image::clearance` meets its contract: the byte behind the label, or 15.
use borrow.Author.Tests.{lt-leb, le-leb}
use Rattle.image.proofs.Offsets.{task_at_lem}
use Rattle.image.proofs.clearance.Goals as goal

pub returns-then-version-lt2 : goal.returns-then-version-lt2
returns-then-version-lt2 c = let a = c.args in rw ((task_at_lem a.version a.task.now).clearance, lt-leb 2 a.version c.if-version-lt2.true)

pub returns-else-version-lt2 : goal.returns-else-version-lt2
returns-else-version-lt2 c =
    let a = c.args in
    rw ((task_at_lem a.version a.task.now).clearance, le-leb 2 a.version c.if-version-lt2.false) c.byte_at.ensures
