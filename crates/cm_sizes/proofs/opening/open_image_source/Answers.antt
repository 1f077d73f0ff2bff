use Rattle.std.proofs.Common.{◌≡◌, ◌-◌, ℕ, List, Ok, Err, take, arith}
use Rattle.std.proofs.lemmas.List.{length-take-le}
use Rattle.cm_sizes.specs.Opening.{image_opened}
use Rattle.cm_sizes.specs.ImageSources.{IMAGE_LIMIT}
use Rattle.cm_sizes.proofs.Sourcing.{opens_all, refuses_all, unread}
use Rattle.cm_sizes.proofs.opening.open_image_source.Goals as goal

pub returns-in-Ok-clause-value : goal.returns-in-Ok-clause-value
returns-in-Ok-clause-value g c =
    let front : List ℕ = take c.in-Ok.count c.read.new.buf in
    let long = length-take-le c.in-Ok.count c.read.new.buf c.in-Ok.ensures.bound.0 in
    opens_all IMAGE_LIMIT (IMAGE_LIMIT - c.in-Ok.count) (g.I.Source.left c.args.source.now)
    (g.I.Source.left c.read.new.self) (g.I.Source.left c.open_behind.new.source) front
    (λ machine image. image_opened image ≡ Ok machine) c.open_behind.result
    (omega (arith, long, c.read.auto.buf, c.in-Ok.ensures.bound.0)) c.in-Ok.ensures.bytes.0
    c.open_behind.ensures.value

pub returns-in-Ok-clause-refused : goal.returns-in-Ok-clause-refused
returns-in-Ok-clause-refused g c =
    let front : List ℕ = take c.in-Ok.count c.read.new.buf in
    let long = length-take-le c.in-Ok.count c.read.new.buf c.in-Ok.ensures.bound.0 in
    refuses_all IMAGE_LIMIT (IMAGE_LIMIT - c.in-Ok.count) (g.I.Source.left c.args.source.now)
    (g.I.Source.left c.read.new.self) (g.I.Source.left c.open_behind.new.source) front
    (λ own image. image_opened image ≡ Err own) c.open_behind.result
    (omega (arith, long, c.read.auto.buf, c.in-Ok.ensures.bound.0)) c.in-Ok.ensures.bytes.0
    c.open_behind.ensures.refused

pub returns-in-Err-clause-refused : goal.returns-in-Err-clause-refused
returns-in-Err-clause-refused g c =
    unread IMAGE_LIMIT (g.I.Source.left c.args.source.now) (g.I.Source.left c.read.new.self) c.in-Err.ensures.bytes
