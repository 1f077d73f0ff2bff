use Rattle.std.proofs.Common.{◌≡◌, ℕ, ◌+◌, ◌<◌, get_or}
use Rattle.cm_image_load.proofs.waiting_chips.put_planes.Given as goal

-- the planes of the flags below this one are put
abbrev pub invariant-loop-f : goal.invariant-loop-f
invariant-loop-f l = record {
  value : (f : ℕ) → f < l.f → get_or l.planes (l.place + f) 0 ≡ get_or l.flags f 0;
  below : (i : ℕ) → i < l.place → get_or l.planes i 0 ≡ get_or l.initial.planes i 0;
}
