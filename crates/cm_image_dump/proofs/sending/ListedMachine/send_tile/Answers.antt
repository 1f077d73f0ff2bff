use Rattle.std.proofs.Common.{◌≡◌, ◌<◌, ◌+◌, ◌++◌, ◌^◌, ℕ, refl, subst}
use Rattle.std.proofs.Common.{rules, arith}
use Rattle.cm_image_dump.specs.Planes.{chips_text}
use Rattle.cm_image_dump.specs.Sending.{GoesOut}
use Rattle.cm_image_dump.proofs.Leaving.{chips_start, chip_waits, goes_on, goes_cut, part_of_chips, stops}
use Rattle.cm_image_dump.proofs.sending.ListedMachine.send_tile.Goals as goal

pub loop-c-init : goal.loop-c-init
loop-c-init g c = record {
  gone = chips_start c.args.self.now.machine.now.machine c.args.text.now.items (g.O.Sink.contents c.args.sink.now) c.args.first;
  working = c.requires.working;
  capacity = omega arith;
  waits = λ few. few;
}

pub push_chip-requires : goal.push_chip-requires
push_chip-requires g c =
    let below : c.args.first + c.loop-c.c < 2 ^ g.S.Sizes.n = omega (arith, c.requires.chips, c.loop-c-test.true) in
    let near = c.requires.near c.loop-c.c c.loop-c-test.true in
    search (rules, below, near)

pub loop-c-preserved : goal.loop-c-preserved
loop-c-preserved g c =
    let number : ℕ = c.args.first + c.loop-c.c in
    let waits = chip_waits c.args.self.now.machine.now.machine c.args.text.now.items c.loop-c.text.items
    c.push_chip.new.text.items (g.O.Sink.contents c.args.sink.now) (g.O.Sink.contents c.loop-c.sink) c.args.first
    c.loop-c.c number refl c.loop-c.invariant.gone c.in-Ok.ensures.ok in
    record {
      gone = goes_on (g.O.Sink.contents c.args.sink.now) (g.O.Sink.contents c.loop-c.sink)
          (g.O.Sink.contents c.send_full.new.sink) _ c.push_chip.new.text.items c.send_full.new.text.items waits
          c.in-Ok-send_full.ensures.ok;
      working = c.in-Ok-send_full.ensures.failed;
      capacity = omega (
        arith,
        c.loop-c.invariant.capacity,
        c.push_chip.ensures.capacity,
        c.send_full.ensures.capacity,
      );
      waits = λ few. c.in-Ok-send_full.ensures.waits;
    }

pub returns-in_default-clause-err : goal.returns-in_default-clause-err
returns-in_default-clause-err g c =
    part_of_chips c.args.self.now.machine.now.machine c.args.text.now.items (g.O.Sink.contents c.args.sink.now)
    (g.O.Sink.contents c.loop-c.sink) c.args.first c.loop-c.c c.args.some (omega (arith, c.loop-c-test.true))
    (stops (g.O.Sink.contents c.args.sink.now) (g.O.Sink.contents c.loop-c.sink) _ c.loop-c.text.items
    c.loop-c.invariant.gone)

pub returns-in-Err-clause-err : goal.returns-in-Err-clause-err
returns-in-Err-clause-err g c =
    let number : ℕ = c.args.first + c.loop-c.c in
    let waits = chip_waits c.args.self.now.machine.now.machine c.args.text.now.items c.loop-c.text.items
    c.push_chip.new.text.items (g.O.Sink.contents c.args.sink.now) (g.O.Sink.contents c.loop-c.sink) c.args.first
    c.loop-c.c number refl c.loop-c.invariant.gone c.in-Ok.ensures.ok in
    part_of_chips c.args.self.now.machine.now.machine c.args.text.now.items (g.O.Sink.contents c.args.sink.now)
    (g.O.Sink.contents c.send_full.new.sink) c.args.first (c.loop-c.c + 1) c.args.some (omega (arith, c.loop-c-test.true))
    (goes_cut (g.O.Sink.contents c.args.sink.now) (g.O.Sink.contents c.loop-c.sink)
    (g.O.Sink.contents c.send_full.new.sink) _ c.push_chip.new.text.items waits c.in-Err.ensures.err)

pub returns : goal.returns
returns g c =
    let all : c.loop-c.c ≡ c.args.some = omega arith in
    record {
      ok = subst (λ (k : ℕ). GoesOut (g.O.Sink.contents c.args.sink.now) (g.O.Sink.contents c.loop-c.sink)
          (c.args.text.now.items ++ chips_text c.args.self.now.machine.now.machine c.args.first k) c.loop-c.text.items) all
          c.loop-c.invariant.gone;
      err = tt;
      failed = c.loop-c.invariant.working;
      capacity = c.loop-c.invariant.capacity;
      waits = c.loop-c.invariant.waits;
      memory = λ few room wants. absurd (cc);
    }
