use Rattle.std.proofs.Common.{◌≡◌, ℕ, ◌==◌, ◌&&◌, Bool, true, List, Result, Err, sym, ap, ◌∙◌, subst, eq-eqb, if◌then◌else◌}
use Rattle.lab_figures.specs.declared.picture_reading.PictureFault.{PictureFault}
use Rattle.lab_figures.specs.declared.picture_reading.PictureFault.TheVariants.{Size}
use Rattle.lab_figures.specs.PictureReading.{GivesPicture, ◌>>=◌, number_part, greatest_part, sized_part, sizes_part}
use Rattle.lab_figures.proofs.picture_reading.take_sizes.Goals as goal

pub returns-then-h-from : goal.returns-then-h-from
returns-then-h-from c =
    let text = c.args.text.now in
    let width = c.args.width in
    let height = c.args.height in
    let is_bits = c.args.is_bits in
    let w = c.in_ok-w.w in
    let h = c.in_ok-h.h in
    let both : (w == width && h == height) ≡ true = λ j.
    eq-eqb w width (c.if-w-from.true ∙ c.from.ensures) j
    && eq-eqb h height (c.if-h-from.true ∙ c.from-then-w-from.ensures) j in
    let same : sizes_part text width height is_bits c.args.bytes.now ≡ greatest_part text is_bits c.in_ok-h.rest.now =
    ap (λ (r : Result (ℕ × List ℕ) PictureFault). r >>= λ one. number_part text one.1 >>= λ other.
    sized_part text width height is_bits one.0 other.0 other.1) c.in_ok-w.ensures.value
    ∙ ap (λ (r : Result (ℕ × List ℕ) PictureFault). r >>= λ other.
    sized_part text width height is_bits w other.0 other.1) c.in_ok-h.ensures.value
    ∙ ap (λ (b : Bool). if b then greatest_part text is_bits c.in_ok-h.rest.now else Err (Size w h width height)) both in
    record {
      value = subst (λ (given : Result (ℕ × List ℕ) PictureFault).
          GivesPicture (λ read. (read.0, read.1.now)) c.take_greatest.result given) (sym same) c.take_greatest.ensures.value;
    }
