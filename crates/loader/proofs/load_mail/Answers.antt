use Prim.Native.Nat.{◌*◌, ◌/◌}
use mathlib.Core.Path.{◌≡◌, ap, ◌∙◌}
use native.Mathlib.Omega.{arith}
use lib.ListN.{length, length-drop, get_or}
use Rattle.std.specs.Iterator.Adapters.{enumerate_source, enumerate_count}
use Rattle.std.specs.Slice.Iter.{chunks_exact_rest, chunks_exact_size}
use Rattle.machine.specs.State.{Task}
use Rattle.table.specs.Table.{slots_in}
use Rattle.table.specs.Change.{change, with_mail}
use Rattle.table.proofs.Change.{change_keeps}
use Rattle.loader.specs.Loading.{mail_set}
use Rattle.loader.proofs.Loading.{from_on, chunk_at, mail_none, mail_next, mail_length}
use Rattle.loader.proofs.load_mail.Goals as goal

pub loop-i-init : goal.loop-i-init
loop-i-init c =
    let same = c.into_iter-i-iterator.ensures.into_iter_gives in
    let source = ap enumerate_source same ∙ c.enumerate-i-items.ensures.source in
    let none = ap enumerate_count same ∙ c.enumerate-i-items.ensures.count in
    record {
      size = ap chunks_exact_size source ∙ c.chunks_exact.ensures.size;
      left = rw none (ap chunks_exact_rest source ∙ c.chunks_exact.ensures.rest);
      most = omega (arith, none);
      set = rw none (mail_none _ _ _);
    }

pub set_mail-requires : goal.set_mail-requires
set_mail-requires c =
    let h = c.loop-i in
    let a = c.args in
    let k = enumerate_count h.i-iterator in
    let step = c.in-Some.ensures.steps in
    let chunk = chunk_at a.mailbox.now (enumerate_source h.i-iterator) (enumerate_source c.next.new.self) c.in-Some.message h.invariant.size k h.invariant.left step.0 in
    let long = change_keeps (λ (t : Task). length t.mailbox) (mail_set k a.mailbox.now) (mail_length k a.mailbox.now) a.slot.number (slots_in a.table.now) a.slot.number in
    rw h.invariant.set (omega (arith, long, c.requires, chunk.there, step.1))

pub loop-i-preserved : goal.loop-i-preserved
loop-i-preserved c =
    let h = c.loop-i in
    let a = c.args in
    let m = a.mailbox.now in
    let k = enumerate_count h.i-iterator in
    let step = c.in-Some.ensures.steps in
    let chunk = chunk_at m (enumerate_source h.i-iterator) (enumerate_source c.next.new.self) c.in-Some.message h.invariant.size k h.invariant.left step.0 in
    let sender = get_or c.in-Some.message.now 1 0 in
    let value = c.decode_u32-value in
    record {
      size = step.0.0 ∙ h.invariant.size;
      left = rw step.2 chunk.behind;
      most = omega (arith, step.2, chunk.there);
      set =
          rw step.2
          (rw step.1 at c.set_mail.ensures ∙ ap (change a.slot.number (with_mail k sender value.result)) h.invariant.set
          ∙ mail_next a.slot.number k sender value.result m (slots_in a.table.now) chunk.sender (rw from_on at value.ensures ∙ chunk.value));
    }

pub returns : goal.returns
returns c =
    let h = c.loop-i in
    let all : enumerate_count h.i-iterator ≡ length c.args.mailbox.now / 6
    = omega (arith, ap length h.invariant.left, length-drop (6 * enumerate_count h.i-iterator) c.args.mailbox.now, h.invariant.size, h.invariant.most, c.in-None.ensures.steps.0.1) in
    rw all at h.invariant.set
