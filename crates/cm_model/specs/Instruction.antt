-- One instruction in one processor: Hillis 1985; what a store into each flag does is ours.
use Rattle.std.specs.Prelude.{◌==◌, ◌||◌, Bool, List, slice_set, if◌then◌else◌}
use Rattle.cm_model.specs.declared.act.Nano.{Nano}
use Rattle.cm_model.specs.Processor.{Processor, ZERO, NEWS, DAISY, memory_bit, flag, entry}
use Rattle.std.specs.Bool.{beq}

-- the condition holds here
abbrev pub holds : Nano → Processor → Bool
holds nano processor = beq (flag processor nano.cond) nano.sense

-- the output of the memory table
abbrev pub memory_output : Nano → Processor → Bool
memory_output nano processor =
    entry nano.mem_table (memory_bit processor nano.a) (memory_bit processor nano.b) (flag processor nano.read)

-- the output of the flag table
abbrev pub flag_output : Nano → Processor → Bool
flag_output nano processor =
    entry nano.flag_table (memory_bit processor nano.a) (memory_bit processor nano.b) (flag processor nano.read)

-- a store into NEWS or DAISY takes the output of another processor
abbrev pub takes_incoming : Nano → Bool
takes_incoming nano = nano.write == NEWS || nano.write == DAISY

-- the flags after this bit was stored: a store into ZERO is dropped
abbrev pub flags_after : Nano → Bool → List Bool → List Bool
flags_after nano stored flags = if nano.write == ZERO then flags else slice_set flags nano.write stored

-- the processor after the instruction, where this bit comes in over NEWS or DAISY
unfoldable pub processor_after : Nano → Bool → Processor → Processor
processor_after nano incoming processor =
    if holds nano processor
    then record {
      memory = slice_set processor.memory nano.a (memory_output nano processor);
      flags = flags_after nano (if takes_incoming nano then incoming else flag_output nano processor) processor.flags;
    }
    else processor
