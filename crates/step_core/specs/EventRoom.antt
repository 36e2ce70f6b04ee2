-- Which events need room or memory.
use Rattle.std.specs.Prelude.{◌<◌, length}
use Rattle.step_core.specs.CoreLists.{CoreLists}
use Rattle.step_core.specs.declared.event.Event.{Event}
use Rattle.step_core.specs.declared.event.Event.TheVariants.{LoadLower, LoadUpper, Raise, Cut, SeeSeal, Seal, Split, Meet, Draw, Stop, SeeStop}

-- there is one more number for a pass
abbrev pub HasRoom : CoreLists → Event → Type 0
HasRoom core (LoadLower pass k s) = Unit {0}
HasRoom core (LoadUpper pass k s) = Unit {0}
HasRoom core (Raise pass k s) = Unit {0}
HasRoom core (Cut pass k s) = Unit {0}
HasRoom core (SeeSeal pass k b) = Unit {0}
HasRoom core (Seal pass k b) = Unit {0}
HasRoom core (Split pass) = length core.passes < 4294967295
HasRoom core (Meet kept ended) = Unit {0}
HasRoom core (Draw pass) = Unit {0}
HasRoom core (Stop pass) = Unit {0}
HasRoom core (SeeStop pass) = Unit {0}

-- a pass is added, or a list of tickets grows
abbrev pub NeedsMemory : Event → Type 0
NeedsMemory (LoadLower pass k s) = ⊥
NeedsMemory (LoadUpper pass k s) = ⊥
NeedsMemory (Raise pass k s) = ⊥
NeedsMemory (Cut pass k s) = ⊥
NeedsMemory (SeeSeal pass k b) = ⊥
NeedsMemory (Seal pass k b) = ⊥
NeedsMemory (Split pass) = Unit {0}
NeedsMemory (Meet kept ended) = Unit {0}
NeedsMemory (Draw pass) = Unit {0}
NeedsMemory (Stop pass) = ⊥
NeedsMemory (SeeStop pass) = ⊥
