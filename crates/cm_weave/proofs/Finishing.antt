-- Blocks that are through all rounds are the machine after the run.
use Rattle.std.proofs.Common.{◌≡◌, ◌↔◌, ℕ, ◌<◌, ◌^◌, true, List, [], length, map}
use Rattle.std.proofs.Common.{get_or}
use Rattle.std.proofs.Common.{ap, sym, subst, ◌∙◌, arith}
use Rattle.std.specs.Prelude.{slice_get}
use Rattle.std.proofs.lemmas.List.{length-map, get_or-map}
use Rattle.cm_model.specs.declared.act.Act.{Act}
use Rattle.cm_model.specs.Machine.{Machine, run_of}
use Rattle.cm_model.specs.Keeping.{IsMachine}
use Rattle.cm_model.proofs.Each.{is_each}
use Rattle.cm_model.proofs.Keeping.{IsMachine-run_of}
use Rattle.cm_blocks.specs.Parts.{Part, block}
use Rattle.cm_blocks.specs.Rounds.{rounds, before_round}
use Rattle.cm_blocks.proofs.Rounding.{rounds_end_the_run}
use Rattle.cm_array.specs.Cuts.{joined, AreWhole}
use Rattle.cm_subcube.specs.declared.round.Round.{Round}
use Rattle.cm_subcube.specs.Blocks.{BlockView}
use Rattle.cm_subcube.specs.Laws.{all_blocks}
use Rattle.cm_subcube.proofs.Joining.{joined-blocks, AreWhole-blocks}
use Rattle.cm_exchange.specs.declared.stand.Stand.{Stand}
use Rattle.cm_exchange.specs.Lanes.{exchange_of}
use Rattle.cm_exchange.specs.Worlds.{at_first, IsFinished}
use Rattle.cm_weave.specs.declared.lane.Lane.{Lane}
use Rattle.cm_weave.specs.Parts.{at_stage, part_at_stand}
use Rattle.cm_weave.specs.Woven.{Woven, world_seen, AreWoven}
use Rattle.cm_weave.proofs.Following.{count-rounds}
use Rattle.cm_weave.proofs.Weaving.{sound}
use Rattle.cm_weave.proofs.Playing.{view, as_many}
use Rattle.std.specs.List.{All}

-- some block
pub no_block : ℕ → ℕ → Machine → BlockView
no_block n k machine = record {
  k = k;
  kept = record { dims = n; room = 0; part = block n k 0 machine; log_rooms = []; gathered = true };
}

module _ (n cap k : ℕ) (machine : Machine) (acts : List Act) (rounds_kept : List Round) (blocks : List BlockView)
    (stands : List Stand) (lanes : List Lane) (w : AreWoven n cap k machine acts rounds_kept blocks stands lanes)
    (is : IsMachine n cap machine)
    (finished : IsFinished (exchange_of n cap k machine acts) (world_seen stands lanes)) where
  at_end : (b : ℕ) → b < 2 ^ k
      → part_at_stand n cap k machine acts b (get_or stands b at_first) ≡ block n k b (run_of n cap machine acts)
  unfolding part_at_stand
  at_end b l =
      let there = sound n cap k machine acts rounds_kept blocks stands lanes w in
      let stands_so = there.stands b l in
      let over = finished b at_first (subst (λ (z : ℕ). b < z) (sym there.stand_count) l) in
      let within = stands_so.within in
      let stage : (get_or stands b at_first).stage ≡ 0 = omega (arith, over, within) in
      let last : (get_or stands b at_first).round ≡ length (rounds n k acts) = over
      ∙ count-rounds n cap k machine acts in
      ap (λ (z : ℕ). at_stage cap z (slice_get (rounds n k acts) (get_or stands b at_first).round)
      (block n k b (before_round n cap k machine acts (get_or stands b at_first).round))) stage
      ∙ ap (λ (z : ℕ). block n k b (before_round n cap k machine acts z)) last
      ∙ ap (block n k b) (rounds_end_the_run n cap k machine acts is.buffer_count)

  pub parts_are : map (λ (b : BlockView). b.kept.part) blocks ≡ all_blocks n k (run_of n cap machine acts)
  parts_are =
      is_each (block n k 0 machine) (2 ^ k) (λ b. block n k b (run_of n cap machine acts))
      (map (λ (b : BlockView). b.kept.part) blocks)
      (length-map blocks (λ (b : BlockView). b.kept.part) ∙ w.block_count)
      (λ b l.
      let below : b < length blocks = subst (λ (z : ℕ). b < z) (sym w.block_count) l in
      get_or-map (λ (z : BlockView). z.kept.part) blocks b (no_block n k machine) (block n k 0 machine) below
      ∙ (w.each b (no_block n k machine) l).part ∙ at_end b l)

  pub whole_at_end : AreWhole n cap (map (λ (b : BlockView). b.kept.part) blocks)
  whole_at_end = subst (λ (s : List Part). AreWhole n cap s) (sym parts_are)
      (AreWhole-blocks n cap k (run_of n cap machine acts) (let h = w.within in omega (arith, h))
      (IsMachine-run_of n cap machine acts is))

  pub joined_at_end : joined (map (λ (b : BlockView). b.kept.part) blocks) ≡ run_of n cap machine acts
  joined_at_end = ap joined parts_are
      ∙ joined-blocks n cap k (run_of n cap machine acts) (let h = w.within in omega (arith, h))
      (IsMachine-run_of n cap machine acts is)

-- what code asks
pub through_is : {P : Type 0} (n cap k : ℕ) (machine : Machine) (acts : List Act) (rounds_kept : List Round)
    (blocks : List BlockView) (stands : List Stand) (lanes : List Lane)
    → AreWoven n cap k machine acts rounds_kept blocks stands lanes → (now : Woven)
    → view k machine acts blocks stands lanes ≡ now → (given : List Stand) (last : ℕ) → given ≡ stands
    → last ≡ length rounds_kept → (P ↔ All (λ (stand : Stand). stand.round ≡ last) given)
    → P ↔ IsFinished (exchange_of n cap now.k now.machine now.acts) now.world
through_is {P} n cap k machine acts rounds_kept blocks stands lanes w now is given last are count h =
    subst (λ (z : Woven). P ↔ IsFinished (exchange_of n cap z.k z.machine z.acts) z.world) is
    (subst (λ (z : ℕ). P ↔ All (λ (stand : Stand). stand.round ≡ z) stands)
    (count ∙ as_many n cap k machine acts rounds_kept blocks stands lanes w)
    (subst (λ (z : List Stand). P ↔ All (λ (stand : Stand). stand.round ≡ last) z) are h))

pub finished_here : (n cap k : ℕ) (machine : Machine) (acts : List Act) (blocks : List BlockView) (stands : List Stand)
    (lanes : List Lane) (now : Woven) → view k machine acts blocks stands lanes ≡ now
    → IsFinished (exchange_of n cap now.k now.machine now.acts) now.world
    → IsFinished (exchange_of n cap k machine acts) (world_seen stands lanes)
finished_here n cap k machine acts blocks stands lanes now is h =
    subst (λ (z : Woven). IsFinished (exchange_of n cap z.k z.machine z.acts) z.world) (sym is) h
