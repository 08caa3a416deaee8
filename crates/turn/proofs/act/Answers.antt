-- `turn::act` meets its contract: kind 3 at place N, else the instruction that stands there.
use mathlib.Core.Path.{◌∙◌}
use native.Mathlib.Omega.{arith}
use Rattle.table.specs.Table.{slots_in}
use Rattle.turn.proofs.Steps.{was_decoded, act_ends, act_executes, valid_ready}
use Rattle.turn.proofs.act.Goals as goal

-- the place that was read is ahead of N
pub execute-requires : goal.execute-requires
execute-requires c =
    let ss = slots_in c.args.table.now in
    (valid_ready _ _ ss c.requires.1 c.pc-pc.ensures c.requires.0 c.if-pc-program.true, was_decoded _ _ _ c.legal_at.ensures)

pub returns-then-pc-program : goal.returns-then-pc-program
returns-then-pc-program c =
    let ss = slots_in c.args.table.now in
    let pc = c.pc-pc.ensures in
    c.execute.ensures ∙ act_executes _ _ ss c.requires.1 pc c.if-pc-program.true _ c.legal_at.ensures

pub returns-else-pc-program : goal.returns-else-pc-program
returns-else-pc-program c =
    let ss = slots_in c.args.table.now in
    c.set_kind.ensures ∙ act_ends _ _ ss c.requires.1 c.pc-pc.ensures c.requires.0 (omega arith)
