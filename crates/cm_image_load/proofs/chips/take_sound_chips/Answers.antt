use Rattle.std.proofs.Common.{◌≡◌, ◌+◌, ◌-◌, ◌<◌, ◌^◌, ℕ, List, length, drop, sym, ap, ◌∙◌, subst, arith, rules}
use Rattle.std.proofs.lemmas.Result.{err_from_is_err_and}
use Rattle.cm_model.specs.Array.{Chips}
use Rattle.cm_model.specs.Machine.{Machine}
use Rattle.cm_image_load.specs.WaitingChips.{with_waiting}
use Rattle.cm_image_load.specs.Taken.{IsTakenIn, AreTakenIn}
use Rattle.cm_image_load.proofs.Loading.{blank_on}
use Rattle.cm_image_load.proofs.Waiting.{nothing_waits}
use Rattle.cm_image_load.proofs.Coming.{stopped_after, taken_first, taken_more, taken_on}
use Rattle.cm_image_load.proofs.chips.take_sound_chips.Goals as goal

pub loop-chip-init : goal.loop-chip-init
loop-chip-init g c =
    let none : c.args.builder.now ≡ with_waiting 0 c.args.builder.now c.args.waiting.now =
    sym (nothing_waits 0 c.args.builder.now)
    ∙ ap (λ (chips : Chips). with_waiting 0 c.args.builder.now chips) (sym c.requires.none) in
    record {
      waiting = rw c.requires.none (omega arith);
      clock = c.requires.clock;
      working = c.requires.working;
      taken = taken_first g.S.Sizes.n g.S.Sizes.cap c.args.clock c.args.builder.now
          (with_waiting 0 c.args.builder.now c.args.waiting.now) c.args.window.now (g.I.Source.left c.args.source.now)
          c.args.most none c.requires.blank;
    }

pub returns-in_err-left-clause-refused : goal.returns-in_err-left-clause-refused
returns-in_err-left-clause-refused g c =
    let p = err_from_is_err_and c.from_residual.result c.from_residual.ensures.1 in
    let taken = c.loop-chip.invariant.taken in
    rw (p.1, p.2)
    (stopped_after c.args.most c.loop-chip.left (g.I.Source.left c.args.source.now) (g.I.Source.left c.loop-chip.source)
    (g.I.Source.left c.fill.new.source) taken.came (λ f more. ⊥) (λ f more. ⊥) _ taken.few taken.consumed
    (λ f more never. never) c.in_err-left.ensures.refused)

pub returns-in_default-clause-value : goal.returns-in_default-clause-value
returns-in_default-clause-value g c =
    let came = c.in_ok-left.ensures.value in
    let less : ℕ = c.loop-chip.left - c.in_ok-left.field-0 in
    let before : Machine = with_waiting c.loop-chip.chip c.loop-chip.builder c.loop-chip.waiting in
    let now =
    subst (λ (w : List ℕ). AreTakenIn g.S.Sizes.n g.S.Sizes.cap c.args.clock c.loop-chip.chip c.args.builder.now before
    c.args.window.now w (g.I.Source.left c.args.source.now) (g.I.Source.left c.fill.new.source) c.args.most less)
    (sym came.1)
    (taken_more g.S.Sizes.n g.S.Sizes.cap c.args.clock c.loop-chip.chip c.args.builder.now before c.args.window.now
    c.loop-chip.window came.0 (g.I.Source.left c.args.source.now) (g.I.Source.left c.loop-chip.source)
    (g.I.Source.left c.fill.new.source) c.args.most c.loop-chip.left less c.loop-chip.invariant.taken came.2
    (omega (arith, came.3, came.4))) in
    subst (λ (m : Machine). AreTakenIn g.S.Sizes.n g.S.Sizes.cap c.args.clock c.loop-chip.chip c.args.builder.now m
    c.args.window.now c.fill.new.self (g.I.Source.left c.args.source.now) (g.I.Source.left c.fill.new.source)
    c.args.most less)
    (sym (c.in_default.ensures.other (search rules))) now

pub loop-chip-preserved : goal.loop-chip-preserved
loop-chip-preserved g c =
    let came = c.in_ok-left.ensures.value in
    let less : ℕ = c.loop-chip.left - c.in_ok-left.field-0 in
    let before : Machine = with_waiting c.loop-chip.chip c.loop-chip.builder c.loop-chip.waiting in
    let after : Machine =
    with_waiting (c.loop-chip.chip + 1) c.take_sound_chip-taken.new.builder c.take_sound_chip-taken.new.waiting in
    let below : c.loop-chip.chip < 2 ^ g.S.Sizes.n = omega (arith, c.chip_count-chips.ensures.value) in
    let now =
    subst (λ (w : List ℕ). AreTakenIn g.S.Sizes.n g.S.Sizes.cap c.args.clock c.loop-chip.chip c.args.builder.now before
    c.args.window.now w (g.I.Source.left c.args.source.now) (g.I.Source.left c.fill.new.source) c.args.most less)
    (sym came.1)
    (taken_more g.S.Sizes.n g.S.Sizes.cap c.args.clock c.loop-chip.chip c.args.builder.now before c.args.window.now
    c.loop-chip.window came.0 (g.I.Source.left c.args.source.now) (g.I.Source.left c.loop-chip.source)
    (g.I.Source.left c.fill.new.source) c.args.most c.loop-chip.left less c.loop-chip.invariant.taken came.2
    (omega (arith, came.3, came.4))) in
    let full =
    subst (λ (w : List ℕ). IsTakenIn g.S.Sizes.n g.S.Sizes.cap c.args.clock c.loop-chip.chip before after c.in-Some.rest w)
    c.rest.ensures.value c.in-Some.ensures.full in
    record {
      waiting = c.in-Some.ensures.waiting;
      clock = (blank_on g.S.Sizes.n g.S.Sizes.cap c.args.clock c.loop-chip.chip before after c.fill.new.self
          (drop (length c.fill.new.self - c.in-Some.rest) c.fill.new.self) full.is now.blank
          c.loop-chip.invariant.clock).1;
      working = search rules;
      taken = subst (λ (w : List ℕ). AreTakenIn g.S.Sizes.n g.S.Sizes.cap c.args.clock (c.loop-chip.chip + 1)
          c.args.builder.now after c.args.window.now w (g.I.Source.left c.args.source.now)
          (g.I.Source.left c.fill.new.source) c.args.most less)
          (sym c.keep.ensures.value)
          (taken_on g.S.Sizes.n g.S.Sizes.cap c.args.clock c.loop-chip.chip c.in-Some.rest c.args.builder.now before after
          c.args.window.now c.fill.new.self (g.I.Source.left c.args.source.now) (g.I.Source.left c.fill.new.source)
          c.args.most less below c.loop-chip.invariant.clock now full);
    }
