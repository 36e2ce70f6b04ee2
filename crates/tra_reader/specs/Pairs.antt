-- Pairs of states as they are kept.
use Rattle.model_core.specs.StateNumber.{state_number}
use Rattle.tra_reader.specs.Entries.{StatePair}
use Rattle.tra_reader.specs.declared.entry.Pair.{Pair}

-- the pair, with its states numbered from 1
abbrev pub pair_of : Pair → StatePair
pair_of pair = record { from = state_number pair.from; to = state_number pair.to }
