use Rattle.std.proofs.Common.{◌≡◌, ◌%◌, ◌^◌, sym, subst}
use Rattle.cm_model.specs.Steps.{Cross}
use Rattle.cm_blocks.specs.Parcels.{Blank}
use Rattle.cm_blocks.specs.Steps.{part_after}
use Rattle.cm_array.specs.Cuts.{PartView, part_view}
use Rattle.cm_array.proofs.Halving.{part_after-Cross, view_crossed}
use Rattle.cm_array.proofs.part.Part.cross.Goals as goal

pub returns : goal.returns
returns c =
    let inside = c.self.inside in
    let before : PartView = part_view inside.first inside.state in
    let begins : before.part.first % 2 ^ c.args.span ≡ 0 =
    subst (λ (k : PartView). k.part.first % 2 ^ c.args.span ≡ 0) (sym c.self.view_is) c.requires.begins in
    let many : before.part.count ≡ 2 ^ c.args.span =
    subst (λ (k : PartView). k.part.count ≡ 2 ^ c.args.span) (sym c.self.view_is) c.requires.band in
    record {
      value = view_crossed inside.first inside.state c.args.self.now c.cross.new.self
          (λ k. part_after k.dims k.room (Cross c.args.dim) Blank k.part) c.self.view_is
          (part_after-Cross before.dims before.room c.args.dim c.args.span before.part c.cross.new.self.buffers
          c.requires.dim begins many c.cross.ensures.value);
    }
