use Rattle.cm_slots.proofs.Changing.{arrived, changed}
use Rattle.cm_slots.proofs.tile.Tile.arrive.Goals as goal

pub returns : goal.returns
returns c =
    let put = c.put.ensures.value in
    record {
      value = changed c.args.place _ c.args.self.now c.put.new.self c.requires.whole put.shape put.awake
          (arrived c.args.number c.len-len.result _ _ _ (c.requires.whole.queues c.args.place c.requires.place)
          c.requires.space c.requires.taken c.len-len.ensures.value put.here put.same) put.others;
    }
