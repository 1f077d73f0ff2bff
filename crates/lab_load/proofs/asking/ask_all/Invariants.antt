use Rattle.std.proofs.Common.{◌≡◌, length}
use Rattle.lab_load.specs.Asking.{asking_after_places}
use Rattle.lab_load.proofs.asking.ask_all.Given as goal

-- the first so many places have asked
abbrev pub invariant-loop-place : goal.invariant-loop-place
invariant-loop-place l = record {
  value : record { chips = l.run; sources = l.sources; deepest = l.deepest }
      ≡ asking_after_places l.load l.t (record { chips = l.fn.run; sources = l.fn.sources; deepest = l.fn.deepest }) l.place;
  chips : length l.run ≡ length l.fn.run;
}
