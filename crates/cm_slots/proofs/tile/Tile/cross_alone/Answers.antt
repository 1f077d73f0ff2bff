use Rattle.std.proofs.Common.{◌%◌, ◌^◌, arith, refl}
use Rattle.std.proofs.lemmas.Nat.{xor_lt}
use Rattle.cm_slots.specs.Runs.{place_across}
use Rattle.cm_slots.proofs.Runs.{has_crossed, none_crossed, come_behind}
use Rattle.cm_slots.proofs.tile.Tile.cross_alone.Goals as goal

pub take_in-requires-clause-taken : goal.take_in-requires-clause-taken
take_in-requires-clause-taken c = λ i h.
    let low = xor_lt 6 i (2 ^ c.args.dim % 64) h (omega arith) in
    rw (c.put_across.ensures.value i h) (c.in-Some.ensures.value.gone (place_across c.args.dim i) low).taken

pub returns-in-Some : goal.returns-in-Some
returns-in-Some c = record {
  value = has_crossed c.in-Some.ensures.value (come_behind refl c.take_in.ensures.value) c.in-Some.rows c.args.self.now c.leave.new.self
      c.in-Some.ensures.value c.put_across.ensures.value;
}

pub returns-in_default : goal.returns-in_default
returns-in_default c =
    let gone = c.leave.ensures.value in
    let quiet = c.leave.ensures.quiet c.in_default.is in
    record { value = none_crossed _ _ _ _ _ _ _ _ _ gone gone quiet quiet }
