-- The kinds of steps by number, and the block from which one gets.
use Rattle.std.proofs.Common.{◌≡◌, ℕ, suc, ◌+◌, ◌-◌, true, false, refl, ap, arith}
use Rattle.std.proofs.lemmas.Bool.Decides.{nat_tests}
use Rattle.cm_bits.specs.declared.plane.Dir.{Dir}
use Rattle.cm_bits.specs.declared.plane.Dir.TheVariants as dir
use Rattle.cm_model.specs.Steps.{Step, Instruct, Look, Inject, Cross, Deliver}
use Rattle.cm_blocks.specs.Parcels.{sender, sender_over}
use Rattle.cm_blocks.specs.Rounds.{is_round, is_vertical}
use Rattle.cm_subcube.specs.Rounds.{kind_of, kind_over}
use Rattle.cm_exchange.specs.Lanes.{giver}
use Rattle.cm_exchange.specs.Lanes as lanes
use Rattle.cm_weave.specs.Kinds.{round_kind_number}

-- the kind of a step by number, and the block from which one gets
pub kind_is_number : (n k : ℕ) (step : Step) → lanes.kind_number_of n k step ≡ round_kind_number n k (kind_of step)
kind_is_number n k (Instruct nano) = over nano.dir where
  over : (to : Dir) → lanes.kind_number_over to ≡ round_kind_number n k (kind_over to)
  over dir.North = refl
  over dir.South = refl
  over dir.East = refl
  over dir.West = refl
kind_is_number n k Look = refl
kind_is_number n k Inject = refl
kind_is_number n k (Cross d) = refl
kind_is_number n k Deliver = refl

pub giver_is_sender : (n k : ℕ) (step : Step) (b : ℕ) → is_round n k step ≡ true
    → giver k (lanes.kind_number_of n k step) b ≡ sender n k step b
giver_is_sender n k (Instruct nano) b round = over nano.dir (grind (arith, nat_tests)) where
  over : (to : Dir) → is_vertical to ≡ true → giver k (lanes.kind_number_over to) b ≡ sender_over k to b
  over dir.North v = refl
  over dir.South v = refl
  over dir.East v = absurd (let wrong : false ≡ true = v in cc)
  over dir.West v = absurd (let wrong : false ≡ true = v in cc)
giver_is_sender n k Look b round = absurd (let wrong : false ≡ true = round in cc)
giver_is_sender n k Inject b round = absurd (let wrong : false ≡ true = round in cc)
giver_is_sender n k (Cross d) b round =
    ap (λ (z : ℕ). giver k z b)
    (let two : 2 + (d - (n - k)) ≡ suc (suc (d - (n - k))) = omega arith in two)
giver_is_sender n k Deliver b round = absurd (let wrong : false ≡ true = round in cc)
