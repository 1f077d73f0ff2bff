-- Blocks that go through acts until a round.
use Rattle.std.proofs.Common.{◌≡◌, ℕ, ◌-◌, ◌+◌, ◌<◌, ◌≤◌, true, false, List, [], ◌∷◌, ◌++◌, length, get_or, map}
use Rattle.std.proofs.Common.{drop, sym, ◌∙◌, ap, arith}
use Rattle.std.proofs.lemmas.List.{drop_more}
use Rattle.std.specs.List.{range_with_len}
use Rattle.cm_model.specs.declared.act.Act.TheVariants as act
use Rattle.cm_model.specs.declared.act.Act.{Act}
use Rattle.cm_model.specs.Steps.{Step, Inject, Cross, Deliver, steps_of, all_steps}
use Rattle.cm_blocks.specs.Rounds.{until_round}
use Rattle.cm_array.specs.Cuts.{PartView}
use Rattle.cm_subcube.specs.Blocks.{BlockView, IsBlock, CanGo, HasGone}
use Rattle.cm_subcube.specs.Local.{is_through}
use Rattle.cm_subcube.proofs.Stopping.{until_round-through, until_round-stopped, until_round-all, begins}
use Rattle.cm_subcube.proofs.Stopping.{cycle_stops, cycle_goes_through}
use Rattle.cm_subcube.proofs.Going.{HasGone-append, CanGo-first, CanGo-second}

-- the steps of acts until a round, where a block is now
abbrev pub steps_to_go : List Act → BlockView → List Step
steps_to_go acts block = until_round block.kept.dims block.k (all_steps block.kept.dims acts)

-- the next of the acts
pub next_act : (acts : List Act) (i : ℕ) (one : Act) → i < length acts → one ≡ get_or acts i one
    → drop i acts ≡ one ∷ drop (i + 1) acts
next_act acts i one below is = cc (drop_more acts i one below)

-- ---- some steps, and acts behind them

module _ (here : List Step) (acts : List Act) (old : BlockView) where
  abbrev n : ℕ
  n = old.kept.dims

  abbrev all : List Step
  all = until_round n old.k (here ++ all_steps n acts)

  abbrev first : List Step
  first = until_round n old.k here

  -- what can go through all can go through these
  pub can_begin : CanGo all old → CanGo first old
  can_begin can =
      let more = begins n old.k here (all_steps n acts) in CanGo-first first more.0 old (rw more.1 at can)

  -- where a round of these came, all that was to do is done
  pub gone_stopped : (new : BlockView) → HasGone first old new → is_through n old.k here ≡ false → HasGone all old new
  gone_stopped new gone stopped = rw (until_round-stopped n old.k here (all_steps n acts) stopped) gone

  -- and else it can go on with the acts, and all is done when they are
  module _ (mid : BlockView) (gone : HasGone first old mid) (through : is_through n old.k here ≡ true) where
    done : HasGone here old mid
    done = rw (until_round-all n old.k here through) at gone

    same : steps_to_go acts mid ≡ steps_to_go acts old
    same = λ i. until_round (gone.dims i) (gone.blocks i) (all_steps (gone.dims i) acts)

    pub can_go_on : CanGo all old → CanGo (steps_to_go acts mid) mid
    can_go_on can =
        rw same (CanGo-second here (steps_to_go acts old) old mid
        (rw (until_round-through n old.k here (all_steps n acts) through) at can) done)

    pub gone_on : (new : BlockView) → HasGone (steps_to_go acts mid) mid new → HasGone all old new
    gone_on new more =
        rw (until_round-through n old.k here (all_steps n acts) through)
        (HasGone-append here (steps_to_go acts old) old mid new done (rw same at more))

-- ---- a petit cycle

-- a block after injection and the dimensions that its chips span
module _ (old mid new : BlockView) (first : HasGone (Inject ∷ []) old mid)
    (second : HasGone (map Cross (range_with_len 0 (mid.kept.dims - mid.k))) mid new)
    (k : ℕ) (kept : PartView) (view : record { k = k; kept = kept } ≡ new) (is : IsBlock k kept) where
  abbrev low : List Step
  low = (Inject ∷ []) ++ map Cross (range_with_len 0 (old.kept.dims - old.k))

  gone_low : HasGone low old new
  gone_low =
      let same : map Cross (range_with_len 0 (mid.kept.dims - mid.k))
      ≡ map Cross (range_with_len 0 (old.kept.dims - old.k)) =
      λ i. map Cross (range_with_len 0 (first.dims i - first.blocks i)) in
      HasGone-append (Inject ∷ []) (map Cross (range_with_len 0 (old.kept.dims - old.k))) old mid new first
      (rw same at second)

  -- how a block is cut does not change, and it is cut by no more dimensions than there are
  cut : (k ≡ old.k) × (old.k ≤ old.kept.dims)
  cut =
      let same : k ≡ old.k = ap (λ (b : BlockView). b.k) view ∙ gone_low.blocks in
      let dims : kept.dims ≡ old.kept.dims = ap (λ (b : BlockView). b.kept.dims) view ∙ gone_low.dims in
      (same, omega (arith, is.within, same, dims))

  -- where there are more blocks than one it has come to a round
  pub cycle_stopped : 0 < k → HasGone (until_round old.kept.dims old.k (steps_of old.kept.dims act.Cycle)) old new
      × (false ≡ is_through old.kept.dims old.k (steps_of old.kept.dims act.Cycle))
  cycle_stopped some =
      let at = cycle_stops old.kept.dims old.k cut.1 (omega (arith, some, cut.0)) in
      (rw at.steps gone_low, sym at.through)

  -- where there is one it can deliver
  pub cycle_can_deliver : k ≤ 0 → CanGo (until_round old.kept.dims old.k (steps_of old.kept.dims act.Cycle)) old
      → CanGo (Deliver ∷ []) new
  cycle_can_deliver none can =
      let whole = cycle_goes_through old.kept.dims old.k (omega (arith, none, cut.0)) in
      CanGo-second low (Deliver ∷ []) old new (rw whole.steps at can) gone_low

  -- and is at the end then
  pub cycle_done : k ≤ 0 → (last : BlockView) → HasGone (Deliver ∷ []) new last
      → HasGone (until_round old.kept.dims old.k (steps_of old.kept.dims act.Cycle)) old last
      × (true ≡ is_through old.kept.dims old.k (steps_of old.kept.dims act.Cycle))
  cycle_done none last delivered =
      let whole = cycle_goes_through old.kept.dims old.k (omega (arith, none, cut.0)) in
      (rw whole.steps (HasGone-append low (Deliver ∷ []) old new last gone_low delivered), sym whole.through)
