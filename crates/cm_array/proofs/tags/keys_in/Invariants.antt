use Rattle.std.proofs.Common.{◌≡◌, map, take}
use Rattle.std.specs.List.{flat_map}
use Rattle.cm_array.specs.Tags.{tag_key}
use Rattle.cm_array.proofs.tags.keys_in.Given as goal

abbrev pub invariant-loop-c : goal.invariant-loop-c
invariant-loop-c l = l.keys.items ≡ map tag_key (flat_map (λ buffer. buffer) (take l.c l.crossing.buffers))
