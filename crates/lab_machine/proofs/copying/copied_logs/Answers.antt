use Rattle.std.proofs.Common.{◌≡◌, ◌^◌, ◌++◌, ◌∷◌, [], List, sym, ap, refl, ◌∙◌, arith}
use Rattle.std.proofs.lemmas.List.{map-append}
use Rattle.cm_model.specs.Each.{tabulate}
use Rattle.cm_model.specs.declared.message.Event.{Event}
use Rattle.cm_model.specs.Array.{nth_or_nil}
use Rattle.cm_model.proofs.Each.{is_each}
use Rattle.cm_router.specs.Logs.{Log}
use Rattle.cm_petit.specs.Routers.{events_of}
use Rattle.lab_machine.proofs.Tabulating.{tabulate-more}
use Rattle.lab_machine.proofs.copying.copied_logs.Goals as goal

pub loop-chip-init : goal.loop-chip-init
unfolding tabulate
loop-chip-init g c = ap events_of c.new-logs.ensures.items

pub loop-chip-preserved : goal.loop-chip-preserved
loop-chip-preserved g c =
    let was : List Log = c.loop-chip.logs.items in
    let all : List (List Event) = c.args.machine.now.machine.logs in
    let one : c.in_ok-log.log.items ≡ nth_or_nil all c.loop-chip.chip = c.in_ok-log.ensures.value ∙ c.log.ensures.value in
    ap events_of c.in-Ok.ensures.items
    ∙ map-append (λ (log : Log). log.items) was (c.in_ok-log.log ∷ [])
    ∙ (λ i. c.loop-chip.invariant i ++ one i ∷ [])
    ∙ sym (tabulate-more (nth_or_nil all) c.loop-chip.chip)

pub returns : goal.returns
returns g c =
    let all : List (List Event) = c.args.machine.now.machine.logs in
    let count : c.loop-chip.chip ≡ 2 ^ g.S.Sizes.n =
    omega (arith, c.loop-chip-test.false, c.loop-chip.auto.chip-end, c.chip_count-chip-end.ensures.value) in
    record {
      value = c.loop-chip.invariant ∙ ap (λ k. tabulate 0 k (nth_or_nil all)) count
          ∙ sym (is_each [] (2 ^ g.S.Sizes.n) (nth_or_nil all) all c.clock-clock.ensures.whole.log_count (λ i l. refl));
    }
