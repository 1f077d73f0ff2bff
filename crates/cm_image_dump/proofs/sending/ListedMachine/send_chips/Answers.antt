use Rattle.std.proofs.Common.{◌+◌, ◌^◌, arith}
use Rattle.cm_image_dump.proofs.Leaving.{chips_start, tile_waits, goes_on, goes_cut, part_of_chips}
use Rattle.cm_image_dump.proofs.sending.ListedMachine.send_chips.Goals as goal

pub loop-first-init : goal.loop-first-init
loop-first-init g c = record {
  within = omega arith;
  near = c.requires.near;
  gone = chips_start c.args.self.now.machine.now.machine c.args.text.now.items (g.O.Sink.contents c.args.sink.now) 0;
  working = c.requires.working;
  capacity = omega arith;
  waits = λ few. few;
}

pub loop-first-preserved : goal.loop-first-preserved
loop-first-preserved g c = record {
  within = omega (arith, c.min-some.ensures, c.loop-first.invariant.within);
  near = c.lay_out.ensures.near;
  gone = goes_on (g.O.Sink.contents c.args.sink.now) (g.O.Sink.contents c.loop-first.sink)
      (g.O.Sink.contents c.send_tile.new.sink) _ _ c.send_tile.new.text.items
      (tile_waits c.args.self.now.machine.now.machine c.args.text.now.items c.loop-first.text.items
      (g.O.Sink.contents c.args.sink.now) (g.O.Sink.contents c.loop-first.sink) c.loop-first.first c.min-some.result
      c.loop-first.invariant.gone)
      c.in-Ok.ensures.ok;
  working = c.in-Ok.ensures.failed;
  capacity = omega (arith, c.loop-first.invariant.capacity, c.send_tile.ensures.capacity);
  waits = λ few. c.in-Ok.ensures.waits (c.loop-first.invariant.waits few);
}

pub returns-in-Err-clause-err : goal.returns-in-Err-clause-err
returns-in-Err-clause-err g c =
    part_of_chips c.args.self.now.machine.now.machine c.args.text.now.items (g.O.Sink.contents c.args.sink.now)
    (g.O.Sink.contents c.send_tile.new.sink) 0 (c.loop-first.first + c.min-some.result) (2 ^ g.S.Sizes.n)
    (omega (arith, c.min-some.ensures, c.loop-first.invariant.within, c.chip_count-count.ensures.value))
    (goes_cut (g.O.Sink.contents c.args.sink.now) (g.O.Sink.contents c.loop-first.sink)
    (g.O.Sink.contents c.send_tile.new.sink) _ _
    (tile_waits c.args.self.now.machine.now.machine c.args.text.now.items c.loop-first.text.items
    (g.O.Sink.contents c.args.sink.now) (g.O.Sink.contents c.loop-first.sink) c.loop-first.first c.min-some.result
    c.loop-first.invariant.gone)
    c.in-Err.ensures.err)
