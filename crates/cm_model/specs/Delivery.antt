-- A delivery part of the way: the messages of a buffer are gone through from the front, one after another. Ours.
use Rattle.std.specs.Prelude.{◌≡◌, ℕ, ◌<◌, ◌&&◌, Bool, not, List, [], ◌∷◌, ◌++◌, if◌then◌else◌}
use Rattle.cm_model.specs.declared.message.Message.{Message}
use Rattle.cm_model.specs.Processor.{Processor}
use Rattle.cm_model.specs.Whole.{IsChip}
use Rattle.cm_model.specs.Letters.{can_receive, is_among, chip_after_delivery}
use Rattle.cm_model.specs.OneChip.{arrived_for, delivered, kept}

-- the processors for which messages have arrived, these messages on
abbrev pub arrived_in : List ℕ → List Message → List ℕ
arrived_in before [] = before
arrived_in before (m ∷ ms) = arrived_in (arrived_for before m) ms

-- a chip for which these messages of a buffer have been gone through, one after another:
-- what could be delivered to it was
pub record HasDelivered (before : List Processor) (seen : List Message) (chip : List Processor) : Type 0 where
  pub whole : IsChip before
  pub chip_is : chip ≡ chip_after_delivery (delivered (can_receive before) [] seen) before
  pub «open» : (p : ℕ) → p < 16 → can_receive chip p ≡ (can_receive before p && not (is_among p (arrived_in [] seen)))

-- such a chip after one message more, which was delivered or kept
pub record HasHandedOver (was_delivered : Bool) (before : List Processor) (seen : List Message) (m : Message)
    (chip : List Processor) : Type 0 where
  pub gone : HasDelivered before (seen ++ m ∷ []) chip
  pub delivered_is : delivered (can_receive before) [] (seen ++ m ∷ []) ≡ delivered (can_receive before) [] seen
      ++ (if was_delivered then m ∷ [] else [])
  pub kept_is : kept (can_receive before) [] (seen ++ m ∷ []) ≡ kept (can_receive before) [] seen
      ++ (if was_delivered then [] else m ∷ [])
