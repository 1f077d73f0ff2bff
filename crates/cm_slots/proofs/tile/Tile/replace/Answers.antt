use Rattle.cm_slots.proofs.Changing.{replaced, changed}
use Rattle.cm_slots.proofs.tile.Tile.replace.Goals as goal

pub returns : goal.returns
returns c =
    let put = c.put.ensures.value in
    record {
      value = changed c.args.place _ c.args.self.now c.put.new.self c.requires.whole put.shape put.awake
          (replaced c.args.number c.args.slot _ _ _ (c.requires.whole.queues c.args.place c.requires.place)
          c.requires.there c.requires.taken put.here put.same) put.others;
    }
