-- What a bot sends lies within the ranges of the server.
use Rattle.std.proofs.Common.{◌<◌, ◌^◌, arith}
use Rattle.bot_core.specs.declared.bot_state.BotState.{BotState}
use Rattle.bot_core.specs.declared.bot_state.Phase.{Phase}
use Rattle.bot_core.specs.declared.bot_state.Phase.TheVariants as phase
use Rattle.bot_core.specs.declared.bot_state.Awaited.{Awaited}
use Rattle.bot_core.specs.declared.bot_state.Awaited.TheVariants.{Begin, Answer, Slept}
use Rattle.bot_core.specs.Bounds.{Bounds}
use Rattle.bot_core.specs.Table.{phase_action, awaited_action}
use Rattle.wire_laws.specs.Meant.{LiesWithin, RangesLieWithin}

phase_lies_within : (s : BotState) → s.limits.steps < 2 ^ 32 → Bounds s → (p : Phase) → LiesWithin (phase_action s p)
phase_lies_within s few b phase.Handshake = omega (arith, few, b.steps, b.session)
phase_lies_within s few b phase.Poll = tt
phase_lies_within s few b phase.Claim = (omega (arith, few, b.steps, b.session), omega (arith, few, b.steps, b.claim))
phase_lies_within s few b phase.Prepare = tt
phase_lies_within s few b phase.Start = tt
phase_lies_within s few b phase.Look = tt
phase_lies_within s few b (phase.Signal signal) = tt
phase_lies_within s few b phase.Send = (omega (arith, b.run.pending), omega (arith, b.run.output), tt)
phase_lies_within s few b phase.LastSend = (omega (arith, b.run.pending), omega (arith, b.run.output), omega (arith, few, b.steps, b.run.dropped))
phase_lies_within s few b phase.Upload = tt
phase_lies_within s few b phase.CleanUp = tt
phase_lies_within s few b (phase.Stop why) = tt

by_awaited : (s : BotState) → s.limits.steps < 2 ^ 32 → Bounds s → (a : Awaited) → LiesWithin (awaited_action s a)
by_awaited s few b (Slept secs) = tt
by_awaited s few b Begin = phase_lies_within s few b s.phase
by_awaited s few b Answer = phase_lies_within s few b s.phase

pub ranges_within : RangesLieWithin
ranges_within s few b = by_awaited s few b s.awaited
