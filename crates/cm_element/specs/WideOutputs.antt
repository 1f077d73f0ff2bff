-- What all chips of a run compute of an instruction before anything is stored. Hillis 1985.
use Rattle.std.specs.Prelude.{◌≡◌, ℕ, ◌<◌, length, slice_index}
use Rattle.cm_element.specs.declared.wide_outputs.WideOutputs.{WideOutputs}
use Rattle.cm_model.specs.declared.act.Nano.{Nano}
use Rattle.cm_model.specs.Array.{Chips, chip_at}
use Rattle.cm_element.specs.Outputs.{AreOutputs}

-- a plane for each of so many chips in each list
pub record HaveRoomFor (count : ℕ) (outputs : WideOutputs) : Type 0 where
  pub mem : length outputs.mem.items ≡ count
  pub flag : length outputs.flag.items ≡ count
  pub holds : length outputs.holds.items ≡ count

-- the planes of chip c are what its processors compute
pub record AreWideOutputs (nano : Nano) (chips : Chips) (outputs : WideOutputs) : Type 0 where
  pub each : (c : ℕ) → c < length chips → AreOutputs nano (chip_at chips c)
      (record {
        mem = slice_index outputs.mem.items c;
        flag = slice_index outputs.flag.items c;
        holds = slice_index outputs.holds.items c;
      })
