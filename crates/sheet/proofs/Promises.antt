-- The definitions are about the code: each public function, called with any arguments, requires nothing and ends as they say.
use Prim.Native.Nat.{◌≤◌}
use mathlib.Core.Path.{◌≡◌}
use lib.ListN.{length}
use Rattle.wire.specs.Output.{overwrite}
use Rattle.machine.specs.Limits.{sheet_room}
use Rattle.monitor.specs.Calls.{as_answer, CallPromise}
use Rattle.monitor.proofs.Keeps.{Keeps, image_of, observer_of, output_of, sole_output_of, input_of}
use Rattle.sheet.specs.Sheet.{sheet_call, printed}
use Rattle.sheet.specs.contracts.write as Write
use Rattle.sheet.proofs.write.Symbol as WriteCode
use Rattle.sheet.proofs.write.Met as WriteMet
use Rattle.sheet.specs.contracts.print as Print
use Rattle.sheet.proofs.print.Symbol as PrintCode
use Rattle.sheet.proofs.print.Met as PrintMet

module _ {M : Type 1} where
  pub write_keeps : Keeps M Write.ended WriteCode.code WriteCode.name
      (λ κs a r e. CallPromise (sheet_call (observer_of a) (image_of a).now) (output_of a).now (as_answer r) (output_of e).now)
  write_keeps = WriteMet.met

  pub print_keeps : Keeps M Print.ended PrintCode.code PrintCode.name
      (λ κs a r e. (r ≡ length (printed (input_of a).now))
      × (r ≤ sheet_room)
      × ((sole_output_of e).now ≡ overwrite (printed (input_of a).now) (sole_output_of a).now))
  print_keeps = PrintMet.met
