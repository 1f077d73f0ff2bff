-- Blocks follow the steps of their exchange, and the rounds of a run are those of its exchange.
use Rattle.std.proofs.Common.{◌≡◌, ℕ, zero, suc, ◌-◌, ◌/◌, ◌<◌, ◌≤◌, ◌^◌, List, [], ◌∷◌, Option, Some}
use Rattle.std.proofs.Common.{length}
use Rattle.std.proofs.Common.{get_or, refl, ap, sym, subst, ◌∙◌, arith}
use Rattle.std.specs.Prelude.{slice_get}
use Rattle.std.proofs.lemmas.Option.{get_or_from_slice_get}
use Rattle.std.proofs.lemmas.List.{length-map, get_or-map}
use Rattle.cm_model.specs.declared.act.Act.{Act}
use Rattle.cm_model.specs.Machine.{Machine}
use Rattle.cm_model.specs.Steps.{Phase}
use Rattle.cm_blocks.specs.Parts.{Part, block}
use Rattle.cm_blocks.specs.Parcels.{Parcel, due, sender}
use Rattle.cm_blocks.specs.Rounds.{rounds, before_round, steps_between}
use Rattle.cm_blocks.specs.Steps.{part_after_all, less, absorbed}
use Rattle.cm_blocks.proofs.Rounding.{blocks_go_on}
use Rattle.cm_blocks.proofs.Filling.{leaving_then_taking_in}
use Rattle.cm_subcube.specs.declared.round.Kind.{Kind}
use Rattle.cm_subcube.specs.declared.round.Kind.TheVariants as kind
use Rattle.cm_subcube.specs.declared.round.Round.{Round}
use Rattle.cm_subcube.specs.Rounds.{kind_of, round_of, rounds_of}
use Rattle.cm_subcube.specs.Parcels.{IsExchangeBy, CanBeOver}
use Rattle.cm_subcube.specs.Laws.{IsFollowed}
use Rattle.cm_subcube.proofs.Following.{round_is_followed}
use Rattle.cm_exchange.specs.declared.stand.Stand.{Stand}
use Rattle.cm_exchange.specs.declared.step.Step.{Step}
use Rattle.cm_exchange.specs.declared.step.Step.TheVariants.{Grip, File, Draw, Clear}
use Rattle.cm_exchange.specs.Lanes.{Exchange, exchange_of, due_from, giver, kind_at, kind_count, round_count}
use Rattle.cm_exchange.specs.Lanes as lanes
use Rattle.cm_exchange.specs.Steps.{stage_of, stand_after}
use Rattle.cm_exchange.specs.Laws.{HasItsKinds}
use Rattle.cm_weave.specs.Kinds.{round_kind_number}
use Rattle.cm_weave.specs.Parts.{at_stage, part_at_stand, part_with}
use Rattle.cm_weave.proofs.Givers.{kind_is_number, giver_is_sender}

-- ---- a round that is there

pub record IsRoundAt (n cap k : ℕ) (machine : Machine) (acts : List Act) (r : ℕ) : Type 0 where
  pub phase : Phase
  pub at : slice_get (rounds n k acts) r ≡ Some phase
  pub kept : (d : Round) → get_or (rounds_of n k acts) r d ≡ round_of phase
  pub number : kind_at (exchange_of n cap k machine acts).kinds r ≡ lanes.kind_number_of n k phase.step
  pub over : CanBeOver n k (kind_of phase.step)
  pub followed : IsFollowed n k r acts phase

can_be_over : (n k : ℕ) (one : Act) (round : Kind) → IsExchangeBy n k one round → CanBeOver n k round
can_be_over n k one kind.North is = tt
can_be_over n k one kind.South is = tt
can_be_over n k one (kind.Dim d) is = is

record IsThere {X : Type 0} (xs : List X) (i : ℕ) : Type 0 where
  one : X
  is : slice_get xs i ≡ Some one

there : {X : Type 0} (xs : List X) (i : ℕ) → i < length xs → IsThere xs i
there [] i below = absurd (omega (arith, below))
there (x ∷ xs) zero below = record { one = x; is = refl }
there (x ∷ xs) (suc i) below = let rest = there xs i (omega (arith, below)) in record { one = rest.one; is = rest.is }

pub round_at : (n cap k : ℕ) (machine : Machine) (acts : List Act) (r : ℕ) → r < length (rounds n k acts)
    → IsRoundAt n cap k machine acts r
round_at n cap k machine acts r below =
    let it = there (rounds n k acts) r below in
    let told = round_is_followed n k r acts it.one it.is in
    record {
      phase = it.one;
      at = it.is;
      kept = λ d. get_or-map round_of (rounds n k acts) r it.one d below
          ∙ ap round_of (get_or_from_slice_get (rounds n k acts) r it.one it.one it.is);
      number = get_or-map (λ (p : Phase). lanes.kind_number_of n k p.step) (rounds n k acts) r it.one 0 below
          ∙ ap (λ (p : Phase). lanes.kind_number_of n k p.step)
          (get_or_from_slice_get (rounds n k acts) r it.one it.one it.is);
      over = can_be_over n k it.one.act (kind_of it.one.step) told.round.exchange;
      followed = told;
    }

pub count-rounds : (n cap k : ℕ) (machine : Machine) (acts : List Act)
    → round_count (exchange_of n cap k machine acts) ≡ length (rounds n k acts)
count-rounds n cap k machine acts = length-map (rounds n k acts) (λ (p : Phase). lanes.kind_number_of n k p.step)

number_below : (n k : ℕ) (round : Kind) → k ≤ n → CanBeOver n k round → round_kind_number n k round < kind_count k
number_below n k kind.North within over = omega arith
number_below n k kind.South within over = omega arith
number_below n k (kind.Dim d) within over = let f = over.from in let g = over.below in omega (arith, f, g, within)

pub exchange_is : (n cap k : ℕ) (machine : Machine) (acts : List Act) → k ≤ n
    → HasItsKinds (exchange_of n cap k machine acts)
exchange_is n cap k machine acts within = record {
  kinds = λ r below.
      let it = round_at n cap k machine acts r
      (subst (λ (z : ℕ). r < z) (count-rounds n cap k machine acts) below) in
      subst (λ (z : ℕ). z < kind_count k) (sym (it.number ∙ kind_is_number n k it.phase.step))
      (number_below n k (kind_of it.phase.step) within it.over);
}

-- ---- blocks from stage to stage

pub blocks_follow : (n cap k b : ℕ) (machine : Machine) (acts : List Act) (stand : Stand) (step : Step) (phase : Phase)
    → k ≤ n - n / 2 → b < 2 ^ k → slice_get (rounds n k acts) stand.round ≡ Some phase
    → stand.stage ≡ stage_of step →
    part_at_stand n cap k machine acts b (stand_after step stand)
    ≡ part_with n cap k acts step stand.round phase
    ((exchange_of n cap k machine acts).sent stand.round (giver k (lanes.kind_number_of n k phase.step) b))
    (part_at_stand n cap k machine acts b stand)
unfolding part_at_stand
blocks_follow n cap k b machine acts stand (Grip x) phase h l at e =
    let now : Part = block n k b (before_round n cap k machine acts stand.round) in
    sym (ap (λ (z : ℕ). at_stage cap z (slice_get (rounds n k acts) stand.round) now) e)
blocks_follow n cap k b machine acts stand (File x) phase h l at e =
    let now : Part = block n k b (before_round n cap k machine acts stand.round) in
    ap (λ (o : Option Phase). at_stage cap 2 o now) at
    ∙ ap (less cap phase.step) (sym (ap (λ (z : ℕ). at_stage cap z (slice_get (rounds n k acts) stand.round) now) e))
blocks_follow n cap k b machine acts stand (Draw x) phase h l at e =
    let now : Part = block n k b (before_round n cap k machine acts stand.round) in
    ap (λ (o : Option Phase). at_stage cap 3 o now) at
    ∙ sym (ap (λ (z : ℕ). at_stage cap z (slice_get (rounds n k acts) stand.round) now) e
    ∙ ap (λ (o : Option Phase). at_stage cap 2 o now) at)
blocks_follow n cap k b machine acts stand (Clear x) phase h l at e =
    let r : ℕ = stand.round in
    let whole : Machine = before_round n cap k machine acts r in
    let now : Part = block n k b whole in
    let told : IsFollowed n k r acts phase = round_is_followed n k r acts phase at in
    let parcel : Parcel = due n cap phase.step (block n k (sender n k phase.step b) whole) in
    let sent : (exchange_of n cap k machine acts).sent r (giver k (lanes.kind_number_of n k phase.step) b) ≡ parcel =
    ap (λ (o : Option Phase). due_from n cap k whole o (giver k (lanes.kind_number_of n k phase.step) b)) at
    ∙ ap (λ (from : ℕ). due n cap phase.step (block n k from whole))
    (giver_is_sender n k phase.step b told.exchanges) in
    let left : at_stage cap stand.stage (slice_get (rounds n k acts) r) now ≡ less cap phase.step now =
    ap (λ (z : ℕ). at_stage cap z (slice_get (rounds n k acts) r) now) e
    ∙ ap (λ (o : Option Phase). at_stage cap 3 o now) at in
    blocks_go_on n cap k b r machine acts phase h l at
    ∙ ap (part_after_all n cap (steps_between n k acts r))
    (sym (leaving_then_taking_in n cap k b whole phase.step (omega (arith, h)) l told.is_step told.exchanges)
    ∙ ap (λ (p : Parcel). absorbed n cap phase.step p (less cap phase.step now)) (sym sent)
    ∙ ap (λ (s : Part). absorbed n cap phase.step
    ((exchange_of n cap k machine acts).sent r (giver k (lanes.kind_number_of n k phase.step) b)) s) (sym left))
