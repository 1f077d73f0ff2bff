use Rattle.std.proofs.Common.{◌≡◌, ℕ, ◌*◌, ◌<◌, ◌≢◌, take, get_or}
use Rattle.cm_image_dump.specs.Planes.{listings}
use Rattle.cm_image_dump.proofs.dense.list_all.Given as goal

-- where no plane is 0, these are listed so far
abbrev pub invariant-loop-k : goal.invariant-loop-k
invariant-loop-k l =
    ((a : ℕ) → a < 4096 → get_or l.planes a 0 ≢ 0) → take (4 * (l.k * 8)) l.listed ≡ listings l.planes (l.k * 8)
