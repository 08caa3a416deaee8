-- The claims are about the code: each public function, called with any arguments, requires nothing and keeps its promise.
use Rattle.monitor.specs.Calls.{CallPromise, as_answer}
use Rattle.monitor.proofs.Keeps.{Keeps, sole_output_of, input_of}
use Rattle.listing.specs.Listing.{AssemblePromise, disassemble_call}
use Rattle.listing.specs.contracts.assemble as Assemble
use Rattle.listing.proofs.assemble.Symbol as AssembleCode
use Rattle.listing.proofs.assemble.Met as AssembleMet
use Rattle.listing.specs.contracts.disassemble as Disassemble
use Rattle.listing.proofs.disassemble.Symbol as DisassembleCode
use Rattle.listing.proofs.disassemble.Met as DisassembleMet

module _ {M : Type 1} where
  pub assemble_keeps : Keeps M Assemble.ended AssembleCode.code AssembleCode.name
      (λ κs a r e. AssemblePromise (input_of a).now (sole_output_of a).now (as_answer r) (sole_output_of e).now)
  assemble_keeps = AssembleMet.met

  pub disassemble_keeps : Keeps M Disassemble.ended DisassembleCode.code DisassembleCode.name
      (λ κs a r e. CallPromise (disassemble_call (input_of a).now) (sole_output_of a).now (as_answer r) (sole_output_of e).now)
  disassemble_keeps = DisassembleMet.met
