use Rattle.std.proofs.Common.{◌≡◌, ℕ, Ok, ap, ◌∙◌, arith}
use Rattle.std.specs.Int.{w16}
use Rattle.std.proofs.lemmas.Result.{err_from_is_err_and}
use Rattle.cm_array.specs.Pokes.{machine_with_plane}
use Rattle.cm_image_format.specs.Reading.{number_at}
use Rattle.cm_image_format.specs.Image.{listed_part}
use Rattle.cm_image_fields.proofs.Taking.{memory_on, memory_err, memory_all}
use Rattle.cm_image_fields.proofs.planes.take_memory.Goals as goal

pub returns-in_err-at-clause-refused : goal.returns-in_err-at-clause-refused
returns-in_err-at-clause-refused g c =
    let p = err_from_is_err_and c.from_residual-in_err-at.result c.from_residual-in_err-at.ensures.1 in
    let counted : number_at w16 c.args.bytes.now ≡ Ok (c.in_ok-count.count, c.in_ok-count.rest.now) =
    cc (c.in_ok-count.ensures.value) in
    rw (p.1, p.2)
    (memory_err c.args.chip c.in_ok-count.count c.loop-i.i c.loop-i.least c.loop-i.builder c.args.builder.now
    c.loop-i.rest.now c.in_ok-count.rest.now c.args.bytes.now _ (omega arith) (omega arith)
    counted c.loop-i.invariant c.in_err-at.ensures.value)

pub loop-i-preserved : goal.loop-i-preserved
loop-i-preserved g c =
    let told : listed_part c.loop-i.least c.loop-i.rest.now
    ≡ Ok (record { at = c.in_ok-at.at; plane = c.in_ok-at.plane }, c.in_ok-at.after.now) =
    cc (c.in_ok-at.ensures.value) in
    let number_is : c.unwrap.result ≡ c.in_ok-at.at = rw c.unwrap.ensures at c.new.ensures.value in
    let put : c.plane.new.self ≡ machine_with_plane c.loop-i.builder c.args.chip c.in_ok-at.at c.in_ok-at.plane =
    c.plane.ensures.value ∙ ap (λ (k : ℕ). machine_with_plane c.loop-i.builder c.args.chip k c.in_ok-at.plane)
    number_is in
    memory_on c.args.chip c.in_ok-count.count c.loop-i.i c.loop-i.least c.in_ok-at.at c.in_ok-at.plane
    c.loop-i.builder c.plane.new.self c.args.builder.now c.loop-i.rest.now c.in_ok-at.after.now
    c.in_ok-count.rest.now (omega arith) c.loop-i.invariant told c.in_ok-at.ensures.len put

pub returns-clause-ok : goal.returns-clause-ok
returns-clause-ok g c =
    let counted : number_at w16 c.args.bytes.now ≡ Ok (c.in_ok-count.count, c.in_ok-count.rest.now) =
    cc (c.in_ok-count.ensures.value) in
    memory_all c.args.chip c.in_ok-count.count c.loop-i.i c.loop-i.least c.loop-i.builder c.args.builder.now
    c.loop-i.rest.now c.in_ok-count.rest.now c.args.bytes.now (omega arith) (omega arith) counted
    c.loop-i.invariant

pub returns-then-whole-from-clause-refused : goal.returns-then-whole-from-clause-refused
returns-then-whole-from-clause-refused g c =
    let counted : number_at w16 c.args.bytes.now ≡ Ok (c.in_ok-count.count, c.in_ok-count.rest.now) =
    cc (c.in_ok-count.ensures.value) in
    memory_err c.args.chip c.in_ok-count.count c.loop-i.i c.loop-i.least c.loop-i.builder c.args.builder.now
    c.loop-i.rest.now c.in_ok-count.rest.now c.args.bytes.now _ (omega arith) (omega arith)
    counted c.loop-i.invariant c.short_fault.ensures.value
