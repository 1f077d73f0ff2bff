-- Who leaves a chip in a dimension step, in the words of since: Hillis 1985; which message goes first is ours.
use Rattle.std.specs.Prelude.{◌≡◌, ℕ, true, false, ◌⊎◌, List, [], Option, Some, None, length}
use Rattle.std.specs.List.{All, Contains}
use Rattle.cm_model.specs.declared.rule.Rule.{Rule}
use Rattle.cm_model.specs.Wiring.{Way}
use Rattle.cm_model.specs.Router.{Standing, goes_before, same_since, standing_at, crossing}

-- of these records, one that no other goes before
pub record GoesFirst (rule : Rule) (records : List Standing) (r : Standing) : Type 0 where
  pub here : Contains records r
  pub least : All (λ q. goes_before rule q r ≡ false) records

-- one that goes before no other
pub record GoesLast (rule : Rule) (records : List Standing) (r : Standing) : Type 0 where
  pub here : Contains records r
  pub greatest : All (λ q. goes_before rule r q ≡ false) records

-- a chip refers a record: none there has to cross, it is full, and this is the one that goes last
pub record IsReferred (rule : Rule) (cap : ℕ) (crossers here : List Standing) (r : Standing) : Type 0 where
  pub none_crosses : crossers ≡ []
  pub full : length here ≡ cap
  pub last : GoesLast rule here r

-- nobody leaves: none there has to cross, and it is not full, or holds nobody at all
pub record NobodyLeaves (cap : ℕ) (crossers here : List Standing) : Type 0 where
  pub none_crosses : crossers ≡ []
  pub not_full : length here ≡ cap → here ≡ []

-- of those that stand at a chip, and those of them that have to cross, whom it chooses
abbrev pub IsChosen : Rule → ℕ → List Standing → List Standing → Option Standing → Type 0
IsChosen rule cap crossers here None = NobodyLeaves cap crossers here
IsChosen rule cap crossers here (Some r) = GoesFirst rule crossers r ⊎ IsReferred rule cap crossers here r

-- who leaves chip c in dimension d, if anybody does: nobody, where the wire is cut
pub record IsLeaver (way : Way) (cap d c : ℕ) (set : List Standing) (leaving : Option Standing) : Type 0 where
  pub cut : way.cut ≡ true → leaving ≡ None
  pub open_wire : way.cut ≡ false
      → IsChosen way.rule cap (crossing d (standing_at c set)) (standing_at c set) leaving

-- of these records no two have one since
abbrev pub SincesDiffer : List Standing → Type 0
SincesDiffer records = (r q : Standing) → Contains records r → Contains records q → same_since r.since q.since ≡ true
    → r ≡ q
