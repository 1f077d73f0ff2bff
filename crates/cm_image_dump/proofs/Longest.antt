-- How long an image can be: its cut wires, its planes, its chips.
use Rattle.std.proofs.Common.{◌≡◌, ℕ, zero, suc, ◌+◌, ◌*◌, ◌^◌, ◌<◌, ◌≤◌, ◌==◌, not, Bool, true, false, List, [], length, refl}
use Rattle.std.proofs.Common.{if◌then◌else◌, map, subst, arith}
use Rattle.std.specs.List.{range_with_len}
use Rattle.std.proofs.lemmas.List.Filters.{length-filter_both}
use Rattle.std.proofs.lemmas.List.FromFn.{length-map-range_with_len}
use Rattle.cm_bits.specs.Wire.{Wire}
use Rattle.cm_model.specs.Each.{tabulate}
use Rattle.cm_model.specs.Processor.{Processor}
use Rattle.cm_model.specs.Array.{chip_at, nth_or_nil}
use Rattle.cm_model.specs.Machine.{Machine}
use Rattle.cm_model.specs.Wiring.{Routing}
use Rattle.cm_model.specs.Laws.{CutsAreFew}
use Rattle.cm_image_format.specs.Cuts.{listed_cuts_text, version_of, routing_text}
use Rattle.cm_image_format.specs.Image.{Listed, chip_text}
use Rattle.cm_image_format.specs.Whole.{memory_plane_of, image_of_chip}
use Rattle.cm_image_fields.proofs.Lengths.{length-listed_cuts}
use Rattle.cm_image_dump.specs.Planes.{planes_below, chips_text}
use Rattle.cm_image_dump.specs.Longest.{TextsAreShort}
use Rattle.cm_image_dump.proofs.Lengths.{length-chip_text, length-chips_none, length-chips_more, length-text_of}

pub few_planes : (chip : List Processor) (count : ℕ) → length (planes_below chip count) ≤ count
unfolding planes_below tabulate
few_planes chip count =
    let entry : ℕ → Listed = λ address. record { at = address; plane = memory_plane_of chip address } in
    omega (
      arith,
      length-filter_both (λ (x : Listed). x.plane == 0) (λ (x : Listed). not (x.plane == 0)) (λ x. refl)
          (map entry (range_with_len 0 count)),
      length-map-range_with_len entry 0 count,
    )

short_choice : (b : Bool) (cuts : List Wire) → length (if b then [] else listed_cuts_text cuts) ≤ 2 + length cuts * 3
short_choice true cuts = omega arith
short_choice false cuts = omega (arith, length-listed_cuts cuts)

short_routing : (routing : Routing) → length (routing_text routing) ≤ 2 + length routing.cuts * 3
short_routing routing = short_choice (version_of routing == 1) routing.cuts

-- chips of which none is longer
short_chips : (machine : Machine) (n each : ℕ)
    → ((c : ℕ) → c < 2 ^ n
    → length (chip_text (image_of_chip (chip_at machine.chips c) (nth_or_nil machine.buffers c))) ≤ each)
    → (k : ℕ) → k ≤ 2 ^ n → length (chips_text machine 0 k) ≤ k * each
short_chips machine n each one zero h = omega (arith, length-chips_none machine)
short_chips machine n each one (suc k) h =
    let next : suc k ≡ k + 1 = omega arith in
    let more : length (chips_text machine 0 (k + 1)) ≤ suc k * each =
    omega (
      arith,
      length-chips_more machine k,
      one k (omega (arith, h)),
      short_chips machine n each one k (omega (arith, h)),
    ) in
    subst (λ (count : ℕ). length (chips_text machine 0 count) ≤ suc k * each) (omega arith) more

pub texts_short : CutsAreFew → TextsAreShort
texts_short few n cap machine has =
    let each : ℕ = 35 + 4096 * 4 + cap * 18 in
    let one : (c : ℕ) → c < 2 ^ n
    → length (chip_text (image_of_chip (chip_at machine.chips c) (nth_or_nil machine.buffers c))) ≤ each =
    λ c h. omega (
      arith,
      length-chip_text (chip_at machine.chips c) (nth_or_nil machine.buffers c),
      few_planes (chip_at machine.chips c) 4096,
      has.whole.room c h,
    ) in
    omega (
      arith,
      length-text_of n cap machine,
      short_routing machine.routing,
      few n machine.routing has.whole.routing,
      short_chips machine n each one (2 ^ n) (omega arith),
    )
