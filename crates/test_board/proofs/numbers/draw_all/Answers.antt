use Rattle.std.proofs.Common.{◌≡◌, ◌+◌, [], ◌∷◌, ◌++◌, ap, sym, ◌∙◌, arith}
use Rattle.cm_board.specs.Courses.{due_now, one_use_more}
use Rattle.test_board.specs.Rising.{rising}
use Rattle.test_board.proofs.Counted.{length-rising, rising_at, rising_more}
use Rattle.test_board.proofs.numbers.draw_all.Goals as goal

pub loop-i-init : goal.loop-i-init
unfolding rising
loop-i-init g c = record { end = c.requires.end; seen = c.new-seen.ensures.items }

pub draw-emptying-requires : goal.draw-emptying-requires
draw-emptying-requires g c = rw c.loop-i.invariant.end (omega (arith, length-rising 1 c.args.count))

pub loop-i-preserved : goal.loop-i-preserved
loop-i-preserved g c =
    let was = c.loop-i.invariant in
    let got : c.parcel-parcel.result.now ≡ 1 + c.loop-i._i =
    c.parcel-parcel.ensures.value ∙ c.draw-emptying.ensures.parcel ∙ ap due_now was.end
    ∙ rising_at 1 c.args.count c.loop-i._i 0 c.loop-i-test.true in
    record {
      end = c.clear-end.ensures.end ∙ ap one_use_more (c.draw-emptying.ensures.end ∙ was.end);
      seen = c.push_reserved.ensures.items ∙ (λ k. (c.in_ok-reserve.ensures.items ∙ was.seen) k ++ got k ∷ [])
          ∙ sym (rising_more 1 c.loop-i._i);
    }
