use Rattle.std.proofs.Common.{◌≡◌, ℕ, ◌<◌, List, length, get_or, ap, ◌∙◌, arith, rules}
use Rattle.cm_array.specs.Pokes.{machine_with_flag_plane}
use Rattle.cm_image_load.proofs.Building.{flags_none, flag_once, flag_of_zero}
use Rattle.cm_image_load.proofs.chips.put_flags.Goals as goal
use Rattle.cm_image_load.proofs.chips.put_flags.Goals.{then-f-ne8, else-f-ne8}

pub loop-f-init : goal.loop-f-init
loop-f-init g c = flags_none g.S.Sizes.n c.args.chip c.args.builder.now c.args.flags.now c.requires.chip c.requires.blank

pub loop-f-preserved : goal.loop-f-preserved
loop-f-preserved g c =
    let flags : List ℕ = c.args.flags.now in
    let long : length flags ≡ 16 = search rules in
    let below : c.args.chip < length c.args.builder.now.chips =
    omega (arith, c.requires.chip, c.requires.blank.chip_count) in
    elim c.if-f-ne8.branch [
      | then-f-ne8 w ↦
          let number_is : w.unwrap.result ≡ c.loop-f.f = rw w.unwrap.ensures at w.new.ensures.value in
          w.builder-is
          ∙ (w.flag_plane.ensures.value
          ∙ ((λ i. machine_with_flag_plane (c.loop-f.invariant i)
          c.args.chip (number_is i) (get_or flags c.from.result 0))
          ∙ flag_once c.args.chip c.loop-f.f (get_or flags c.from.result 0) c.args.builder.now flags below
          (omega arith) long (ap (λ (k : ℕ). get_or flags k 0) c.from.ensures)))
      | else-f-ne8 w ↦
          w.builder-is
          ∙ (c.loop-f.invariant
          ∙ flag_of_zero c.args.chip c.loop-f.f c.args.builder.now flags (omega arith) long
          (ap (λ (k : ℕ). get_or flags k 0) w.if-f-ne8.false ∙ c.requires.zero))
    ]
