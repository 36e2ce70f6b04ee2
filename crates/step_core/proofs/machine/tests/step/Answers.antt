use Rattle.std.proofs.Common.{◌<◌, ℕ, length, arith}
use Rattle.step_core.specs.CoreLists.{CoreLists}
use Rattle.step_core.specs.EventRoom.{HasRoom}
use Rattle.step_core.specs.declared.event.Event.{Event}
use Rattle.step_core.specs.declared.event.Event.TheVariants.{LoadLower, LoadUpper, Raise, Cut, SeeSeal, Seal, Split, Meet, Draw, Stop, SeeStop}
use Rattle.step_core.proofs.machine.tests.step.Goals as goal

has_room : (core : CoreLists) (event : Event) → length core.passes < 4294967295 → HasRoom core event
has_room core (LoadLower pass k s) h = tt
has_room core (LoadUpper pass k s) h = tt
has_room core (Raise pass k s) h = tt
has_room core (Cut pass k s) h = tt
has_room core (SeeSeal pass k b) h = tt
has_room core (Seal pass k b) h = tt
has_room core (Split pass) h = h
has_room core (Meet kept other) h = tt
has_room core (Draw pass) h = tt
has_room core (Stop pass) h = tt
has_room core (SeeStop pass) h = tt

pub apply-requires-clause-room : goal.apply-requires-clause-room
apply-requires-clause-room c = has_room c.args.core.now c.args.event
    (let h = c.if-passes-lt4294967295.true in let e = c.passes.ensures in omega (arith, h, e))
