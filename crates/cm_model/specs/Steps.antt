-- The steps of a run, one after another: a petit cycle crosses each dimension once, Hillis 1985; their order is ours.
use Rattle.std.specs.Prelude.{ℕ, ◌+◌, ◌<◌, List, [], ◌∷◌, ◌++◌, map}
use Rattle.std.specs.List.{flat_map, range_with_len}
use Rattle.cm_model.specs.declared.act.Nano.{Nano}
use Rattle.cm_model.specs.declared.act.Act.{Act}
use Rattle.cm_model.specs.declared.act.Act.TheVariants as act

-- what a machine does at once: an instruction, a look, or a part of a petit cycle
pub data Step : Type 0 where
  -- an instruction in every processor
  Instruct : Nano → Step
  -- a look at the global wire
  Look : Step
  -- every router takes messages in
  Inject : Step
  -- messages cross dimension d
  Cross : ℕ → Step
  -- messages that have arrived go to their processors
  Deliver : Step

-- a step on a cube of n dimensions, which has no others to cross
abbrev pub IsStep : ℕ → Step → Type 0
IsStep n (Instruct nano) = Unit {0}
IsStep n Look = Unit {0}
IsStep n Inject = Unit {0}
IsStep n (Cross d) = d < n
IsStep n Deliver = Unit {0}

-- the steps of an act on a cube of n dimensions
abbrev pub steps_of : ℕ → Act → List Step
steps_of n (act.Nano nano) = Instruct nano ∷ []
steps_of n act.Sense = Look ∷ []
steps_of n act.Cycle = Inject ∷ (map Cross (range_with_len 0 n) ++ Deliver ∷ [])

-- the steps of a list of acts
abbrev pub all_steps : ℕ → List Act → List Step
all_steps n acts = flat_map (steps_of n) acts

-- a step of a run, with its act and the place of that act among all
pub record Phase : Type 0 where
  pub at : ℕ
  pub act : Act
  pub step : Step

-- the phases of the act at a place
abbrev pub phases_of : ℕ → ℕ → Act → List Phase
phases_of n at one = map (λ step. record { at = at; act = one; step = step }) (steps_of n one)

-- those of a list of acts that begins at a place
abbrev pub phases_from : ℕ → ℕ → List Act → List Phase
phases_from n at [] = []
phases_from n at (one ∷ more) = phases_of n at one ++ phases_from n (at + 1) more

-- those of a run
abbrev pub phases : ℕ → List Act → List Phase
phases n acts = phases_from n 0 acts

-- the steps of a list of phases
abbrev pub steps_in : List Phase → List Step
steps_in run = map (λ phase. phase.step) run
