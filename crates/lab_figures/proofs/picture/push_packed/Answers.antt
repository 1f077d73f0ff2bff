use Rattle.std.proofs.Common.{◌≡◌, ℕ, ◌*◌, ◌/◌, ◌%◌, ◌++◌, map, ap, ◌∙◌, arith}
use Rattle.std.specs.List.{range_with_len}
use Rattle.lab_figures.specs.Pictures.{row_bytes, eight_dots, packed_byte, packed_text}
use Rattle.lab_figures.proofs.Growing.{each_more}
use Rattle.lab_figures.proofs.picture.push_packed.Goals as goal

pub loop-b-preserved : goal.loop-b-preserved
loop-b-preserved c =
    let picture = c.args.picture.now in
    let in_row : c.div_ceil-in_row.result ≡ row_bytes c.args.picture.now.width =
    omega (arith, c.div_ceil-in_row.ensures, c.from.ensures) in
    each_more (packed_byte picture) c.args.text.now.items c.loop-b.text.items c.push.new.self.items c.loop-b.b
    c.eight_dots-byte.result c.loop-b.invariant c.in-Ok.ensures.items
    (c.eight_dots-byte.ensures.value
    ∙ ap (λ (k : ℕ). eight_dots picture (c.loop-b.b / k) (8 * (c.loop-b.b % k))) in_row)

pub returns : goal.returns
unfolding packed_text
returns c =
    let picture = c.args.picture.now in
    let in_row : c.div_ceil-in_row.result ≡ row_bytes c.args.picture.now.width =
    omega (arith, c.div_ceil-in_row.ensures, c.from.ensures) in
    let all : c.loop-b.b ≡ c.from-2.result * c.div_ceil-in_row.result =
    omega (arith, c.loop-b-test.false, c.loop-b.auto.b-end) in
    record {
      ok = c.loop-b.invariant
          ∙ ap (λ (count : ℕ). c.args.text.now.items ++ map (packed_byte picture) (range_with_len 0 count))
          (all ∙ (λ j. (c.from-2.ensures ∙ c.height.ensures.value) j * in_row j));
    }
