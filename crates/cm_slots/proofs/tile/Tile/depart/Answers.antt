use Rattle.std.proofs.Common.{refl, sym, None}
use Rattle.cm_slots.proofs.Runs.{has_departed, quiet_stays, none_from}
use Rattle.cm_slots.proofs.tile.Tile.depart.Goals as goal

pub returns-in-Some : goal.returns-in-Some
returns-in-Some c = record {
  value = has_departed c.args.sizes.room c.args.dim c.in-Some.rows c.args.self.now c.leave.new.self
      c.close_up.new.self c.put_leavers.new.leavers c.in-Some.ensures.value c.close_up.ensures.value
      c.put_leavers.ensures.long c.put_leavers.ensures.value;
}

pub returns-in-None : goal.returns-in-None
returns-in-None c =
    let left = c.leave.new.self in
    let gone = c.in-None.ensures.value in
    let quiet = c.in-None.ensures.quiet refl in
    record {
      value = rw c.forget.ensures.value (has_departed c.args.sizes.room c.args.dim 0 c.args.self.now left left None gone
          (quiet_stays 0 (λ i. 0) left gone.shape quiet (λ i h. refl)) tt
          (λ i h. sym (none_from c.args.dim left quiet i h)));
    }
