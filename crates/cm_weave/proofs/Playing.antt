-- What code asks and does at a step.
use Rattle.std.proofs.Common.{◌≡◌, ◌≢◌, ℕ, zero, suc, ◌<◌, ◌≤◌, ◌^◌, Bool, true, false}
use Rattle.std.proofs.Common.{List, [], ◌∷◌, length, map, get_or, set, refl, ap, sym, subst, ◌∙◌, ◌&&◌, cond, take, eqb}
use Rattle.std.proofs.Common.{arith}
use Rattle.std.specs.Prelude.{nat_lt}
use Rattle.std.specs.List.{filter}
use Rattle.std.proofs.lemmas.Bool.{eq-eqb, ne_eqb}
use Rattle.std.proofs.lemmas.List.{get_or_default}
use Rattle.std.proofs.lemmas.Bool.Decides.{nat_tests}
use Rattle.cm_model.specs.declared.act.Act.{Act}
use Rattle.cm_model.specs.Machine.{Machine}
use Rattle.cm_subcube.specs.declared.round.Round.{Round}
use Rattle.cm_subcube.specs.Blocks.{BlockView}
use Rattle.cm_subcube.specs.Rounds.{rounds_of, round_of}
use Rattle.cm_subcube.specs.Rounds as subcube_rounds
use Rattle.cm_blocks.specs.Rounds as blocks_rounds
use Rattle.std.proofs.lemmas.List.{length-map}
use Rattle.cm_exchange.specs.declared.stand.Stand.{Stand}
use Rattle.cm_exchange.specs.declared.step.Step.{Step}
use Rattle.cm_exchange.specs.declared.step.Step.TheVariants.{Grip, File, Draw, Clear}
use Rattle.cm_exchange.specs.Lanes.{Exchange, exchange_of, round_count, uses}
use Rattle.cm_exchange.specs.Worlds.{World, at_first, unused_lane, stand_of, lane_of, lane_number}
use Rattle.cm_exchange.specs.Steps.{block_of, stage_of, kind_now, sender_of, stand_after, is_possible, is_ready}
use Rattle.cm_exchange.specs.Steps.{world_after}
use Rattle.cm_exchange.specs.Worlds as worlds
use Rattle.cm_exchange.proofs.Partners.{lanes_have_two_ends}
use Rattle.cm_exchange.proofs.Soundness.{Can, lane-within}
use Rattle.cm_exchange.specs.Laws.{word_for}
use Rattle.cm_subcube.specs.Parcels.{CanBeOver}
use Rattle.cm_weave.specs.declared.lane.Lane.{Lane}
use Rattle.cm_weave.specs.Kinds.{round_kind_number, mover}
use Rattle.cm_weave.specs.Woven.{Woven, world_seen, AreWoven}
use Rattle.cm_weave.proofs.Givers.{kind_is_number}
use Rattle.cm_weave.proofs.Following.{IsRoundAt, round_at, count-rounds}
use Rattle.cm_weave.proofs.Weaving.{is_exchange, sound, lane_count, seen-at, able, there, word, can_weave, woven_after}
use Rattle.cm_weave.proofs.Weaving.{world_is, told}
use Rattle.cm_weave.specs.Moves.{CanWeave, HasWoven}

abbrev pub view : ℕ → Machine → List Act → List BlockView → List Stand → List Lane → Woven
view k machine acts blocks stands lanes = record {
  k = k;
  machine = machine;
  acts = acts;
  world = world_seen stands lanes;
  parts = map (λ (b : BlockView). b.kept.part) blocks;
}

mover_is : (exchange : Exchange) (stand : Stand) (step : Step) (number : ℕ) → number ≡ kind_now exchange stand
    → mover exchange.k number step ≡ sender_of exchange stand step
mover_is exchange stand (Grip b) number is = refl
mover_is exchange stand (File b) number is = refl
mover_is exchange stand (Draw b) number is = ap (λ (z : ℕ). mover exchange.k z (Draw b)) is
mover_is exchange stand (Clear b) number is = ap (λ (z : ℕ). mover exchange.k z (Clear b)) is

module _ (n cap k : ℕ) (machine : Machine) (acts : List Act) (rounds_kept : List Round) (blocks : List BlockView)
    (stands : List Stand) (lanes : List Lane) (w : AreWoven n cap k machine acts rounds_kept blocks stands lanes) where
  abbrev exchange : Exchange
  exchange = exchange_of n cap k machine acts

  abbrev world : World
  world = world_seen stands lanes

  pub as_many : length rounds_kept ≡ round_count exchange
  as_many = ap length w.rounds_are ∙ lengths ∙ sym (count-rounds n cap k machine acts) where
    lengths : length (rounds_of n k acts) ≡ length (blocks_rounds.rounds n k acts)
    lengths = length-map (blocks_rounds.rounds n k acts) _

  pub stand_count : length stands ≡ 2 ^ k
  stand_count = (sound n cap k machine acts rounds_kept blocks stands lanes w).stand_count

  module _ (step : Step) (below : block_of step < 2 ^ k)
      (within : (stand_of world (block_of step)).round < round_count exchange) where
    abbrev stand : Stand
    stand = stand_of world (block_of step)

    at_round : IsRoundAt n cap k machine acts stand.round
    at_round = round_at n cap k machine acts stand.round
        (subst (λ (z : ℕ). stand.round < z) (count-rounds n cap k machine acts) within)

    kind_is : (d : Round) → (get_or rounds_kept stand.round d).kind ≡ subcube_rounds.kind_of at_round.phase.step
    kind_is d = ap (λ (r : Round). r.kind)
        (ap (λ (rs : List Round). get_or rs stand.round d) w.rounds_are ∙ at_round.kept d)

    pub over : (d : Round) → CanBeOver n k (get_or rounds_kept stand.round d).kind
    over d = subst (CanBeOver n k) (sym (kind_is d)) at_round.over

    -- the lane that code finds is that of the step
    pub at_is : (d : Round) → lane_number k (round_kind_number n k (get_or rounds_kept stand.round d).kind)
        (mover k (round_kind_number n k (get_or rounds_kept stand.round d).kind) step)
        ≡ lane_number k (kind_now exchange stand) (sender_of exchange stand step)
    at_is d =
        let number : round_kind_number n k (get_or rounds_kept stand.round d).kind ≡ kind_now exchange stand =
        ap (round_kind_number n k) (kind_is d) ∙ sym (at_round.number ∙ kind_is_number n k at_round.phase.step) in
        λ i. lane_number k (number i) (mover_is exchange stand step
        (round_kind_number n k (get_or rounds_kept stand.round d).kind) number i)

    sender_below : sender_of exchange stand step < 2 ^ k
    sender_below = by_step step below where
      by_step : (s : Step) → block_of s < 2 ^ k → sender_of exchange stand s < 2 ^ k
      by_step (Grip x) l = l
      by_step (File x) l = l
      by_step (Draw x) l = (lanes_have_two_ends k (kind_now exchange stand)
          ((is_exchange n cap k machine acts rounds_kept blocks stands lanes w).kinds stand.round within)).gives x l
      by_step (Clear x) l = (lanes_have_two_ends k (kind_now exchange stand)
          ((is_exchange n cap k machine acts rounds_kept blocks stands lanes w).kinds stand.round within)).gives x l

    pub lane_below : lane_number k (kind_now exchange stand) (sender_of exchange stand step) < length lanes
    lane_below = subst (λ (z : ℕ). lane_number k (kind_now exchange stand) (sender_of exchange stand step) < z)
        (sym (lane_count n cap k machine acts rounds_kept blocks stands lanes w))
        (lane-within k (kind_now exchange stand) (sender_of exchange stand step)
        ((is_exchange n cap k machine acts rounds_kept blocks stands lanes w).kinds stand.round within) sender_below)

    -- its word tells whether the step can be taken
    pub free_is : (e : Lane) → stand.stage ≡ stage_of step
        → is_ready step
        (get_or lanes (lane_number k (kind_now exchange stand) (sender_of exchange stand step)) e).word
        ≡ is_possible exchange world step
    unfolding is_possible
    free_is e stage =
        let at : ℕ = lane_number k (kind_now exchange stand) (sender_of exchange stand step) in
        let word : word_for exchange world step ≡ (get_or lanes at e).word =
        ap (λ (z : worlds.Lane). z.word)
        (seen-at n cap k machine acts rounds_kept blocks stands lanes w at e lane_below) in
        ap (is_ready step) (sym word)
        ∙ sym ((told n cap k machine acts rounds_kept blocks stands lanes w step).ready below within stage)
        ∙ sym (rw (less below, less within, eq-eqb stand.stage (stage_of step) stage) refl)
      where
        less : {a b : ℕ} → a < b → nat_lt a b ≡ true
        less {a} {b} h = grind (arith, nat_tests)

-- ---- asked by code, which has a world that contracts see

false_and : (x y : Bool) → x ≡ false → (x && y) ≡ false
false_and x y e = rw e refl

and_false : (x y : Bool) → y ≡ false → (x && y) ≡ false
and_false true y e = e
and_false false y e = refl

pub possible_not : (n cap : ℕ) (now : Woven) (step : Step) → 2 ^ now.k ≤ block_of step
    → is_possible (exchange_of n cap now.k now.machine now.acts) now.world step ≡ false
unfolding is_possible
possible_not n cap now step past =
    let t : nat_lt (block_of step) (2 ^ now.k) ≡ false = grind (arith, nat_tests) in false_and _ _ t

pub over_not : (n cap : ℕ) (now : Woven) (step : Step) (stand : Stand) → stand ≡ stand_of now.world (block_of step)
    → round_count (exchange_of n cap now.k now.machine now.acts) ≤ stand.round
    → is_possible (exchange_of n cap now.k now.machine now.acts) now.world step ≡ false
unfolding is_possible
over_not n cap now step stand is past =
    let rounds : stand.round ≡ (stand_of now.world (block_of step)).round = ap (λ (z : Stand). z.round) is in
    let t : nat_lt (stand_of now.world (block_of step)).round
    (round_count (exchange_of n cap now.k now.machine now.acts)) ≡ false =
    not_less (stand_of now.world (block_of step)).round (round_count (exchange_of n cap now.k now.machine now.acts))
    (omega (arith, past, rounds)) in
    and_false _ _ (false_and _ _ t)
  where
    not_less : (a b : ℕ) → b ≤ a → nat_lt a b ≡ false
    not_less a b h = grind (arith, nat_tests)

pub stage_not : (n cap : ℕ) (now : Woven) (step : Step) (stand : Stand) → stand ≡ stand_of now.world (block_of step)
    → stand.stage ≢ stage_of step
    → is_possible (exchange_of n cap now.k now.machine now.acts) now.world step ≡ false
unfolding is_possible
stage_not n cap now step stand is other =
    let t = ne_eqb (stand_of now.world (block_of step)).stage (stage_of step)
    (λ e. other (ap (λ (z : Stand). z.stage) is ∙ e)) in
    and_false _ _ (and_false _ _ (false_and _ _ t))

module _ (n cap k : ℕ) (machine : Machine) (acts : List Act) (rounds_kept : List Round) (blocks : List BlockView)
    (stands : List Stand) (lanes : List Lane) (w : AreWoven n cap k machine acts rounds_kept blocks stands lanes)
    (now : Woven) (is : view k machine acts blocks stands lanes ≡ now) (step : Step) where
  pub rounds_now : length rounds_kept ≡ round_count (exchange_of n cap now.k now.machine now.acts)
  rounds_now = as_many n cap k machine acts rounds_kept blocks stands lanes w
      ∙ ap (λ (z : Woven). round_count (exchange_of n cap z.k z.machine z.acts)) is

  pub stands_now : length stands ≡ 2 ^ now.k
  stands_now = stand_count n cap k machine acts rounds_kept blocks stands lanes w
      ∙ ap (λ (z : Woven). 2 ^ z.k) is

  pub stand_now : (b : ℕ) (stand : Stand) → b < length stands → stand ≡ get_or stands b stand
      → stand ≡ stand_of now.world b
  stand_now b stand l e = e ∙ get_or_default stands b stand at_first l ∙ ap (λ (z : Woven). stand_of z.world b) is

  module _ (stand : Stand) (below : block_of step < 2 ^ now.k) (stands_is : stand ≡ stand_of now.world (block_of step))
      (within : stand.round < round_count (exchange_of n cap now.k now.machine now.acts)) where
    below_here : block_of step < 2 ^ k
    below_here = subst (λ (z : Woven). block_of step < 2 ^ z.k) (sym is) below

    stand_here : stand ≡ stand_of (world_seen stands lanes) (block_of step)
    stand_here = stands_is ∙ sym (ap (λ (z : Woven). stand_of z.world (block_of step)) is)

    within_here : (stand_of (world_seen stands lanes) (block_of step)).round
        < round_count (exchange_of n cap k machine acts)
    within_here = subst (λ (z : Stand). z.round < round_count (exchange_of n cap k machine acts)) stand_here
        (subst (λ (z : Woven). stand.round < round_count (exchange_of n cap z.k z.machine z.acts)) (sym is) within)

    kept_is : (kept : Round) → kept ≡ get_or rounds_kept stand.round kept
        → kept ≡ get_or rounds_kept (stand_of (world_seen stands lanes) (block_of step)).round kept
    kept_is kept e = e ∙ ap (λ (z : Stand). get_or rounds_kept z.round kept) stand_here

    pub kind_asked : (kept : Round) → kept ≡ get_or rounds_kept stand.round kept → CanBeOver n k kept.kind
    kind_asked kept e = subst (λ (z : Round). CanBeOver n k z.kind) (sym (kept_is kept e))
        (over n cap k machine acts rounds_kept blocks stands lanes w step below_here within_here kept)

    pub at_asked : (kept : Round) (at : ℕ) → kept ≡ get_or rounds_kept stand.round kept
        → at ≡ lane_number k (round_kind_number n k kept.kind) (mover k (round_kind_number n k kept.kind) step)
        → at ≡ lane_number k (kind_now (exchange_of n cap k machine acts)
        (stand_of (world_seen stands lanes) (block_of step)))
        (sender_of (exchange_of n cap k machine acts) (stand_of (world_seen stands lanes) (block_of step)) step)
    at_asked kept at e f =
        f ∙ ap (λ (z : Round). lane_number k (round_kind_number n k z.kind) (mover k (round_kind_number n k z.kind) step))
        (kept_is kept e)
        ∙ at_is n cap k machine acts rounds_kept blocks stands lanes w step below_here within_here kept

    pub at_below_asked : (kept : Round) (at : ℕ) → kept ≡ get_or rounds_kept stand.round kept
        → at ≡ lane_number k (round_kind_number n k kept.kind) (mover k (round_kind_number n k kept.kind) step) → at < length lanes
    at_below_asked kept at e f = subst (λ (z : ℕ). z < length lanes) (sym (at_asked kept at e f))
        (lane_below n cap k machine acts rounds_kept blocks stands lanes w step below_here within_here)

    pub free_asked : (kept : Round) (at : ℕ) (lane : Lane) (ready : Bool) → stand.stage ≡ stage_of step
        → kept ≡ get_or rounds_kept stand.round kept
        → at ≡ lane_number k (round_kind_number n k kept.kind) (mover k (round_kind_number n k kept.kind) step)
        → lane ≡ get_or lanes at lane → ready ≡ is_ready step lane.word
        → ready ≡ is_possible (exchange_of n cap now.k now.machine now.acts) now.world step
    free_asked kept at lane ready stage e f g h =
        h ∙ ap (λ (z : Lane). is_ready step z.word) (g ∙ ap (λ (z : ℕ). get_or lanes z lane) (at_asked kept at e f))
        ∙ free_is n cap k machine acts rounds_kept blocks stands lanes w step below_here within_here lane
        (sym (ap (λ (z : Stand). z.stage) stand_here) ∙ stage)
        ∙ ap (λ (z : Woven). is_possible (exchange_of n cap z.k z.machine z.acts) z.world step) is

-- ---- a step that is taken

uses-few : (kinds : List ℕ) (kind r : ℕ) → uses kinds kind r ≤ r
uses-few [] kind zero = omega arith
uses-few [] kind (suc r) = omega arith
uses-few (x ∷ kinds) kind zero = omega arith
uses-few (x ∷ kinds) kind (suc r) = by_test (eqb x kind) (uses-few kinds kind r) where
  by_test : (t : Bool) → uses kinds kind r ≤ r
      → length (cond t (x ∷ filter (λ one. eqb one kind) (take r kinds)) (filter (λ one. eqb one kind) (take r kinds)))
      ≤ suc r
  by_test true h = omega (arith, h)
  by_test false h = omega (arith, h)

stage_few : (step : Step) → stage_of step < 4
stage_few (Grip b) = omega arith
stage_few (File b) = omega arith
stage_few (Draw b) = omega arith
stage_few (Clear b) = omega arith

module _ (n cap k : ℕ) (machine : Machine) (acts : List Act) (rounds_kept : List Round) (blocks : List BlockView)
    (stands : List Stand) (lanes : List Lane) (w : AreWoven n cap k machine acts rounds_kept blocks stands lanes)
    (now : Woven) (is : view k machine acts blocks stands lanes ≡ now) (step : Step)
    (possible_now : is_possible (exchange_of n cap now.k now.machine now.acts) now.world step ≡ true) where
  abbrev run_exchange : Exchange
  run_exchange = exchange_of n cap k machine acts

  abbrev seen : World
  seen = world_seen stands lanes

  possible : is_possible run_exchange seen step ≡ true
  possible = subst (λ (z : Woven). is_possible (exchange_of n cap z.k z.machine z.acts) z.world step ≡ true)
      (sym is) possible_now

  ready_to : Can run_exchange seen (stand_of seen (block_of step)) step
  ready_to = able n cap k machine acts rounds_kept blocks stands lanes w step possible

  pub taken_below : block_of step < 2 ^ k
  taken_below = ready_to.below

  pub taken_in_stands : block_of step < length stands
  taken_in_stands = subst (λ (z : ℕ). block_of step < z)
      (sym (stand_count n cap k machine acts rounds_kept blocks stands lanes w)) ready_to.below

  pub taken_in_blocks : block_of step < length blocks
  taken_in_blocks = subst (λ (z : ℕ). block_of step < z) (sym w.block_count) ready_to.below

  -- what code has read
  module _ (b : ℕ) (stand : Stand) (b_is : b ≡ block_of step) (stand_read : stand ≡ get_or stands b stand) where
    stand_is : stand ≡ stand_of seen (block_of step)
    stand_is = stand_read ∙ ap (λ (z : ℕ). get_or stands z stand) b_is
        ∙ get_or_default stands (block_of step) stand at_first taken_in_stands

    pub taken_in_rounds : stand.round < length rounds_kept
    taken_in_rounds = subst (λ (z : Stand). z.round < length rounds_kept) (sym stand_is)
        (subst (λ (z : ℕ). (stand_of seen (block_of step)).round < z)
        (sym (as_many n cap k machine acts rounds_kept blocks stands lanes w)) ready_to.within)

    pub taken_few : stand.round < 2 ^ 63
    taken_few = let f = taken_in_rounds in let g = w.few_rounds in omega (arith, f, g)

  module _ (b : ℕ) (stand : Stand) (kept : Round) (at : ℕ) (b_is : b ≡ block_of step)
      (stand_read : stand ≡ get_or stands b stand) (kept_read : kept ≡ get_or rounds_kept stand.round kept) where
    kept_at : kept ≡ get_or rounds_kept (stand_of seen (block_of step)).round kept
    kept_at = kept_read ∙ ap (λ (z : Stand). get_or rounds_kept z.round kept)
        (stand_is b stand b_is stand_read)

    pub taken_kind : CanBeOver n k kept.kind
    taken_kind = subst (λ (z : Round). CanBeOver n k z.kind) (sym kept_at)
        (over n cap k machine acts rounds_kept blocks stands lanes w step ready_to.below ready_to.within kept)

    phase_is : kept ≡ round_of (there n cap k machine acts rounds_kept blocks stands lanes w step possible).phase
    phase_is = kept_at
        ∙ ap (λ (rs : List Round). get_or rs (stand_of seen (block_of step)).round kept) w.rounds_are
        ∙ (there n cap k machine acts rounds_kept blocks stands lanes w step possible).kept kept

    module _ (at_found : at
        ≡ lane_number k (round_kind_number n k kept.kind) (mover k (round_kind_number n k kept.kind) step)) where
      abbrev its_lane : ℕ
      its_lane = lane_number k (kind_now run_exchange (stand_of seen (block_of step)))
          (sender_of run_exchange (stand_of seen (block_of step)) step)

      lane_is : at ≡ its_lane
      lane_is = at_found
          ∙ ap (λ (z : Round). lane_number k (round_kind_number n k z.kind) (mover k (round_kind_number n k z.kind) step)) kept_at
          ∙ at_is n cap k machine acts rounds_kept blocks stands lanes w step ready_to.below ready_to.within kept

      pub taken_in_lanes : at < length lanes
      taken_in_lanes = subst (λ (z : ℕ). z < length lanes) (sym lane_is)
          (lane_below n cap k machine acts rounds_kept blocks stands lanes w step ready_to.below ready_to.within)

      module _ (block : BlockView) (lane : Lane) (block_read : block ≡ get_or blocks b block)
          (lane_read : lane ≡ get_or lanes at lane) where
        block_is : block ≡ get_or blocks (block_of step) block
        block_is = block_read ∙ ap (λ (z : ℕ). get_or blocks z block) b_is

        its_lane_is : lane ≡ get_or lanes its_lane lane
        its_lane_is = lane_read ∙ ap (λ (z : ℕ). get_or lanes z lane) lane_is

        small : (get_or lanes its_lane lane).word < 2 ^ 31
        small =
            let e = word n cap k machine acts rounds_kept blocks stands lanes w step possible lane in
            let u = uses-few run_exchange.kinds (kind_now run_exchange (stand_of seen (block_of step)))
            (stand_of seen (block_of step)).round in
            let s = stage_few step in
            let r = ready_to.within in
            let f = w.few_rounds in
            let m = as_many n cap k machine acts rounds_kept blocks stands lanes w in
            omega (arith, e, u, s, r, f, m)

        pub taken_can : CanWeave acts step kept block lane
        taken_can =
            subst (λ (z : Round). CanWeave acts step z block lane) (sym phase_is)
            (subst (λ (z : BlockView). CanWeave acts step
            (round_of (there n cap k machine acts rounds_kept blocks stands lanes w step possible).phase) z lane)
            (sym block_is)
            (subst (λ (z : Lane). CanWeave acts step
            (round_of (there n cap k machine acts rounds_kept blocks stands lanes w step possible).phase)
            (get_or blocks (block_of step) block) z)
            (sym its_lane_is)
            (can_weave n cap k machine acts rounds_kept blocks stands lanes w step possible block lane small)))

        module _ (new : BlockView) (moved_to : Lane) (gone : Stand) (gone_is : gone ≡ stand_after step stand)
            (has : HasWoven acts step kept block lane new moved_to) where
          its_has : HasWoven acts step
              (round_of (there n cap k machine acts rounds_kept blocks stands lanes w step possible).phase)
              (get_or blocks (block_of step) block) (get_or lanes its_lane lane) new moved_to
          its_has =
              subst (λ (z : Lane). HasWoven acts step
              (round_of (there n cap k machine acts rounds_kept blocks stands lanes w step possible).phase)
              (get_or blocks (block_of step) block) z new moved_to) its_lane_is
              (subst (λ (z : BlockView). HasWoven acts step
              (round_of (there n cap k machine acts rounds_kept blocks stands lanes w step possible).phase)
              z lane new moved_to) block_is
              (subst (λ (z : Round). HasWoven acts step z block lane new moved_to) phase_is has))

          gone_to : gone ≡ stand_after step (stand_of seen (block_of step))
          gone_to = gone_is ∙ ap (stand_after step) (stand_is b stand b_is stand_read)

          pub taken_woven : AreWoven n cap k machine acts rounds_kept (set blocks b new) (set stands b gone)
              (set lanes at moved_to)
          taken_woven =
              subst (λ (z : ℕ). AreWoven n cap k machine acts rounds_kept (set blocks z new) (set stands z gone)
              (set lanes at moved_to)) (sym b_is)
              (subst (λ (z : Stand). AreWoven n cap k machine acts rounds_kept (set blocks (block_of step) new)
              (set stands (block_of step) z) (set lanes at moved_to)) (sym gone_to)
              (subst (λ (z : ℕ). AreWoven n cap k machine acts rounds_kept (set blocks (block_of step) new)
              (set stands (block_of step) (stand_after step (stand_of seen (block_of step)))) (set lanes z moved_to))
              (sym lane_is)
              (woven_after n cap k machine acts rounds_kept blocks stands lanes w step possible block lane new moved_to
              its_has)))

          pub taken_world : world_seen (set stands b gone) (set lanes at moved_to)
              ≡ world_after (exchange_of n cap now.k now.machine now.acts) now.world step
          taken_world =
              (λ i. world_seen (set stands (b_is i) (gone_to i)) (set lanes (lane_is i) moved_to))
              ∙ world_is n cap k machine acts rounds_kept blocks stands lanes w step possible block lane new moved_to
              its_has
              ∙ ap (λ (z : Woven). world_after (exchange_of n cap z.k z.machine z.acts) z.world step) is
