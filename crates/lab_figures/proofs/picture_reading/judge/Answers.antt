use Rattle.std.proofs.Common.{◌≡◌, ◌/◌, ◌%◌, ◌<◌, Bool, nat_lt, Ok, Err, length, get_or, ap, ◌∙◌, arith, lt-ltb, le-ltb}
use Rattle.std.proofs.Common.{if◌then◌else◌}
use Rattle.std.proofs.lemmas.List.Sums.{position_or_len_is}
use Rattle.lab_figures.specs.declared.picture_reading.PictureFault.TheVariants.{TooLarge}
use Rattle.lab_figures.specs.PictureReading.{first_large}
use Rattle.lab_figures.proofs.picture_reading.judge.Goals as goal

pub returns-then-dot-from-clause-refused : goal.returns-then-dot-from-clause-refused
returns-then-dot-from-clause-refused c =
    let dots = c.args.dots.now in
    let large : c.args.greatest < get_or dots c.loop-i.i 0 = omega (arith, c.if-dot-from.true, c.from.ensures) in
    let place : first_large c.args.greatest dots ≡ c.loop-i.i =
    position_or_len_is (λ dot. nat_lt c.args.greatest dot) dots c.loop-i.i 0 (omega arith) c.loop-i.invariant
    (λ _. lt-ltb c.args.greatest (get_or dots c.loop-i.i 0) large) in
    (λ j. if nat_lt (place j) (length dots)
    then Err (TooLarge (place j / c.args.width) (place j % c.args.width)) else Ok dots)
    ∙ ap (λ (b : Bool). if b then Err (TooLarge (c.loop-i.i / c.args.width) (c.loop-i.i % c.args.width)) else Ok dots)
    (lt-ltb c.loop-i.i (length dots) c.loop-i-test.true)

pub returns-clause-ok : goal.returns-clause-ok
returns-clause-ok c =
    let dots = c.args.dots.now in
    let none : first_large c.args.greatest dots ≡ length dots =
    position_or_len_is (λ dot. nat_lt c.args.greatest dot) dots (length dots) 0 (omega arith)
    (λ k l. c.loop-i.invariant k (omega (arith, l, c.loop-i-test.false))) (λ l. absurd (omega arith)) in
    ap (λ (b : Bool). if b
    then Err (TooLarge (first_large c.args.greatest dots / c.args.width) (first_large c.args.greatest dots % c.args.width))
    else Ok dots) (le-ltb (first_large c.args.greatest dots) (length dots) (omega (arith, none)))
