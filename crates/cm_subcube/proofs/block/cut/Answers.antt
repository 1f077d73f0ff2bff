use Rattle.std.proofs.Common.{◌≡◌, ℕ, ◌*◌, ◌-◌, ◌^◌, ap, ◌∙◌, refl, arith}
use Rattle.cm_blocks.specs.Parts.{part, block_size}
use Rattle.cm_subcube.proofs.Blocking.{IsBlock-cut, band_fits}
use Rattle.cm_subcube.proofs.block.cut.Goals as goal

pub overflow_mul-b : goal.overflow_mul-b
overflow_mul-b g c =
    grind (arith, band_fits g.S.Sizes.n c.args.k c.args.b c.power_of_two-size.result c.dims.ensures.sizes.dimension)

pub part_in-requires : goal.part_in-requires
part_in-requires g c = record {
  there = grind (
    arith,
    band_fits g.S.Sizes.n c.args.k c.args.b c.power_of_two-size.result
        c.dims.ensures.sizes.dimension,
  );
}

pub invariant_of-result : goal.invariant_of-result
invariant_of-result g c =
    let same : c.power_of_two-size.result ≡ block_size g.S.Sizes.n c.args.k =
    c.power_of_two-size.ensures.value ∙ ap (λ (d : ℕ). 2 ^ (d - c.args.k)) c.dims.ensures.value in
    IsBlock-cut g.S.Sizes.n c.args.k c.args.b c.args.machine.now.machine c.in_ok-part.part
    c.requires.within c.requires.block
    c.in_ok-part.ensures.dims
    (c.in_ok-part.ensures.value ∙ ap (λ (s : ℕ). part (c.args.b * s) s c.args.machine.now.machine) same)

pub returns : goal.returns
returns g c =
    let same : c.power_of_two-size.result ≡ block_size g.S.Sizes.n c.args.k =
    c.power_of_two-size.ensures.value ∙ ap (λ (d : ℕ). 2 ^ (d - c.args.k)) c.dims.ensures.value in
    record {
      value = c.in_ok-part.ensures.value ∙ ap (λ (s : ℕ). part (c.args.b * s) s c.args.machine.now.machine) same;
      fresh = record {
        blocks = refl;
        dims = c.in_ok-part.ensures.dims;
        room = c.in_ok-part.ensures.room;
        log_room = c.in_ok-part.ensures.log_room;
        gathered = c.in_ok-part.ensures.gathered;
      };
    }
