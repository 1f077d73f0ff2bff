use Rattle.std.proofs.Common.{◌≡◌, ℕ, ◌==◌, Bool, List, ◌++◌, min, max, if◌then◌else◌, ne_eqb, length, ◌<◌, sym, ap, ◌∙◌, arith}
use Rattle.lab_figures.specs.Numbers.{numbers_text}
use Rattle.lab_figures.specs.Pictures.{numbers_in_line}
use Rattle.lab_figures.proofs.Texts.{numbers_text-some}
use Rattle.lab_figures.proofs.picture.push_numbers.Goals as goal
use Rattle.lab_figures.proofs.picture.push_numbers.Goals.{then-greatest-eq1, else-greatest-eq1}

pub returns : goal.returns
returns c =
    let picture = c.args.picture.now in
    let wide = picture.width in
    let dots : c.dots.result.now ≡ picture.dots = c.dots.ensures.value in
    let told = λ (most line : ℕ) (some : 0 < most) (so : line ≡ max (min wide most) 1).
    ap (λ (k : ℕ). numbers_text k 0 c.dots.result.now) so
    ∙ ap (λ (xs : List ℕ). numbers_text (max (min wide most) 1) 0 xs) dots
    ∙ numbers_text-some wide picture.height most picture.dots some (sym (ap length dots) ∙ c.dots.ensures.count) in
    let all : numbers_text c.from.result 0 c.dots.result.now ≡ numbers_text (numbers_in_line picture) 0 picture.dots =
    elim c.if-greatest-eq1.branch [
      | then-greatest-eq1 w ↦ told 32 c.from.result (omega arith) (omega arith)
          ∙ ap (λ (b : Bool). numbers_text (if b then min wide 32 else min wide 8) 0 picture.dots)
          (sym (ap (λ (g : ℕ). g == 1) (sym c.greatest.ensures.value ∙ w.if-greatest-eq1.true)))
      | else-greatest-eq1 w ↦ told 8 c.from.result (omega arith) (omega arith)
          ∙ ap (λ (b : Bool). numbers_text (if b then min wide 32 else min wide 8) 0 picture.dots)
          (sym (ne_eqb picture.greatest 1 (λ e. w.if-greatest-eq1.false (c.greatest.ensures.value ∙ e))))
    ] in
    record {
      ok = c.in_ok-extend_from_slice.ensures.items
          ∙ ap (λ (xs : List ℕ). c.args.text.now.items ++ xs) (c.deref.ensures.value ∙ c.in_ok-numbers.ensures.value ∙ all);
    }
