-- What callers are told of every world.
use Rattle.std.proofs.Common.{◌≡◌, ◌↔◌, ℕ, ◌<◌, List, Option, None, Some, IsNone, IfSome}
use Rattle.std.proofs.Common.{true≢false, refl, sym, subst, ◌∙◌, arith}
use Rattle.std.proofs.lemmas.List.{length-map, get_or-map}
use Rattle.cm_model.specs.declared.act.Act.{Act}
use Rattle.cm_model.specs.Machine.{Machine}
use Rattle.cm_subcube.specs.declared.round.Round.{Round}
use Rattle.cm_subcube.specs.Blocks.{BlockView}
use Rattle.cm_exchange.specs.declared.stand.Stand.{Stand}
use Rattle.cm_exchange.specs.declared.step.Step.{Step}
use Rattle.cm_exchange.specs.Lanes.{exchange_of}
use Rattle.cm_exchange.specs.Laws.{IsNext}
use Rattle.cm_exchange.specs.Worlds.{IsFinished}
use Rattle.cm_exchange.specs.Steps.{next_step}
use Rattle.cm_exchange.proofs.Going.{worlds_are_never_stuck}
use Rattle.cm_weave.specs.declared.lane.Lane.{Lane}
use Rattle.cm_weave.specs.Woven.{Woven, AreWoven, IsOnItsWay}
use Rattle.cm_weave.proofs.Finishing.{no_block}
use Rattle.cm_weave.proofs.Following.{exchange_is}
use Rattle.cm_weave.proofs.Playing.{view, as_many}

pub on_its_way : (n cap k : ℕ) (machine : Machine) (acts : List Act) (rounds_kept : List Round)
    (blocks : List BlockView) (stands : List Stand) (lanes : List Lane)
    → AreWoven n cap k machine acts rounds_kept blocks stands lanes → (now : Woven)
    → view k machine acts blocks stands lanes ≡ now → IsOnItsWay n cap now
on_its_way n cap k machine acts rounds_kept blocks stands lanes w now is = subst (IsOnItsWay n cap) is (record {
  few = w.few;
  within = w.within;
  few_rounds =
      let f = w.few_rounds in
      let m = as_many n cap k machine acts rounds_kept blocks stands lanes w in omega (arith, f, m);
  reached = w.reached;
  count = length-map blocks (λ (b : BlockView). b.kept.part) ∙ w.block_count;
  parts = λ b d l.
      get_or-map (λ (z : BlockView). z.kept.part) blocks b (no_block n k machine) d
      (subst (λ (z : ℕ). b < z) (sym w.block_count) l)
      ∙ (w.each b (no_block n k machine) l).part;
})

-- such a world is never stuck
pub never_stuck : (n cap : ℕ) (now : Woven) → IsOnItsWay n cap now →
    ((next_step (exchange_of n cap now.k now.machine now.acts) now.world ≡ None)
    ↔ IsFinished (exchange_of n cap now.k now.machine now.acts) now.world)
    × ((step : Step) → next_step (exchange_of n cap now.k now.machine now.acts) now.world ≡ Some step
    → IsNext (exchange_of n cap now.k now.machine now.acts) now.world step)
never_stuck n cap now way =
    worlds_are_never_stuck (exchange_of n cap now.k now.machine now.acts) way.reached.steps now.world
    (exchange_is n cap now.k now.machine now.acts (let h = way.within in omega (arith, h))) way.reached.is

-- so much is told with the next step
pub next_told : (n cap : ℕ) (now : Woven) (next : Option Step) → IsOnItsWay n cap now
    → next ≡ next_step (exchange_of n cap now.k now.machine now.acts) now.world →
    (IsNone next ↔ IsFinished (exchange_of n cap now.k now.machine now.acts) now.world)
    × IfSome next (IsNext (exchange_of n cap now.k now.machine now.acts) now.world)
next_told n cap now None way is = ((λ none. (never_stuck n cap now way).0.0 (sym is), λ finished. refl), tt)
next_told n cap now (Some step) way is = (
  (
    λ none. absurd (true≢false none),
    λ finished. absurd (let wrong : Some step ≡ None = is ∙ (never_stuck n cap now way).0.1 finished in cc),
  ),
  (never_stuck n cap now way).1 step (sym is),
)
