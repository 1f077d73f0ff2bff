-- Chips that are taken in of bytes as they come: ours.
use Rattle.std.specs.Prelude.{◌≡◌, ℕ, ◌+◌, ◌-◌, ◌≤◌, ◌^◌, Option, Ok, List, ◌++◌, drop, length}
use Rattle.std.specs.Io.KnownBytes.{Consumes}
use Rattle.cm_model.specs.Machine.{Machine}
use Rattle.cm_image_format.specs.Reading.{made}
use Rattle.cm_image_format.specs.Image.{chip_part}
use Rattle.cm_image_load.specs.Chips.{with_chip_image, IsBlankFrom, chips_onto}

-- a chip is read at the front of bytes and put into a machine, and so many bytes come after it
pub record IsTakenIn (n cap clock c : ℕ) (machine whole : Machine) (len : ℕ) (bytes : List ℕ) : Type 0 where
  pub within : len ≤ length bytes
  pub is : made (with_chip_image c machine) (chip_part n cap clock) bytes ≡ Ok (whole, drop (length bytes - len) bytes)

-- all chips before this one are read of bytes and of those that a source gave behind them: whatever comes behind, what is
-- left of them is read on as all of them is from the first chip on
pub record AreTakenIn (n cap clock c : ℕ) (first whole : Machine) (bytes rest : List ℕ) (old new : Option (List ℕ))
    (most left : ℕ) : Type 0 where
  pub came : List ℕ
  pub few : length came + left ≡ most
  pub consumed : Consumes old new came
  pub within : c ≤ 2 ^ n
  pub blank : IsBlankFrom n c whole
  pub same : (more : List ℕ) → chips_onto n cap clock c whole (rest ++ more)
      ≡ chips_onto n cap clock 0 first (bytes ++ (came ++ more))
