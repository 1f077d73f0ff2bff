use Rattle.std.proofs.Common.{◌≡◌, ◌==◌, ◌<◌, ◌+◌, ◌^◌, if◌then◌else◌, ℕ, List, get_or, refl, ap, ◌∙◌, arith}
use Rattle.cm_model.specs.Array.{Chips, chip_at}
use Rattle.cm_model.specs.Processor.{memory_bit}
use Rattle.cm_model.specs.Chip.{processor_at, plane_number}
use Rattle.cm_model.proofs.Values.{plane_number-is}
use Rattle.cm_image_format.specs.Whole.{memory_plane_of}
use Rattle.cm_image_dump.proofs.Counting.{no_plane}
use Rattle.cm_image_dump.proofs.counts.count_planes.Goals as goal

pub returns-then-not-is_in_use : goal.returns-then-not-is_in_use
returns-then-not-is_in_use g c =
    let chips : Chips = c.args.machine.now.machine.chips in
    let at : ℕ = c.args.at in
    let number_is : c.unwrap-address.result ≡ at = rw c.unwrap-address.ensures at c.new.ensures.value in
    record {
      value = λ k h.
          let none : memory_plane_of (chip_at chips k) at ≡ 0 =
          no_plane (chip_at chips k) c.unwrap-address.result at (c.if-not-is_in_use.ensures.blank refl k h) number_is in
          let nothing : ◌≡◌ {A = ℕ} (if memory_plane_of (chip_at chips k) at == 0 then 0 else 1) 0 =
          ap (λ (n : ℕ). if n == 0 then 0 else 1) none in
          omega (arith, nothing);
    }

pub returns : goal.returns
returns g c =
    let chips : Chips = c.args.machine.now.machine.chips in
    let counts : List ℕ = c.args.counts.now in
    let row : List ℕ = c.plane_row.result.now in
    let number_is : c.unwrap-address.result ≡ c.args.at = rw c.unwrap-address.ensures at c.new.ensures.value in
    let planes : (k : ℕ) → k < 2 ^ g.S.Sizes.n → get_or row k 0 ≡ memory_plane_of (chip_at chips k) c.args.at =
    λ k h. plane_number-is (get_or row k 0) (λ p. memory_bit (processor_at (chip_at chips k) p) c.unwrap-address.result)
    (c.count_row.ensures.words k) (c.plane_row.ensures.value k h)
    ∙ ap (λ (n : ℕ). plane_number (λ p. memory_bit (processor_at (chip_at chips k) p) n)) number_is in
    record {
      value = λ k h. c.count_row.ensures.value k (omega (arith, h, c.requires.count))
          ∙ ap (λ (n : ℕ). get_or counts k 0 + (if n == 0 then 0 else 1)) (planes k h);
    }
