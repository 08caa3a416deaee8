-- `loader::load_mail` meets its contract: the messages whose chunks were taken are set.
use Prim.Native.Nat.{◌*◌, ◌≤◌, ◌/◌}
use mathlib.Core.Path.{◌≡◌}
use lib.ListN.{length, drop}
use Rattle.std.specs.Slice.Iter.{chunks_exact_rest, chunks_exact_size}
use Rattle.std.specs.Iterator.Adapters.{enumerate_source, enumerate_count}
use Rattle.table.specs.Table.{slots_in}
use Rattle.table.specs.Change.{change}
use Rattle.loader.specs.Loading.{mail_set}
use Rattle.loader.proofs.load_mail.Given as goal

abbrev pub invariant-loop-i : goal.invariant-loop-i
invariant-loop-i l = record {
  size : chunks_exact_size (enumerate_source l.i-iterator) ≡ 6;
  left : chunks_exact_rest (enumerate_source l.i-iterator) ≡ drop (6 * enumerate_count l.i-iterator) l.mailbox;
  most : enumerate_count l.i-iterator ≤ length l.mailbox / 6;
  set : slots_in l.table ≡ change l.slot.number (mail_set (enumerate_count l.i-iterator) l.mailbox) (slots_in l.initial.table);
}
