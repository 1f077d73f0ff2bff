use Rattle.std.proofs.Common.{List, subst}
use Rattle.std.specs.Bool.{MatchBool}
use Rattle.std.specs.List.Sorted.{IsPermutation}
use Rattle.std.specs.List.{flat_map}
use Rattle.cm_array.specs.Tags.{Key, HasEqualNeighbours, AreNeighboursApart}
use Rattle.cm_array.proofs.Tagging.{found_by_sorting}
use Rattle.cm_array.proofs.tags.has_tag_twice.Goals as goal

pub returns : goal.returns
returns c =
    let keys : List Key = c.sort_unstable.new.self.items in
    record {
      value = found_by_sorting c.has_equal_neighbours.result
          (flat_map (λ buffer. buffer) c.args.crossing.now.buffers) keys
          (subst (λ (ks : List Key). IsPermutation ks keys) c.in_ok-keys.ensures.value
          c.sort_unstable.ensures.permutation) c.sort_unstable.ensures.sorted
          (subst (λ (ks : List Key). MatchBool c.has_equal_neighbours.result (HasEqualNeighbours ks)
          (AreNeighboursApart ks)) c.deref.ensures.value c.has_equal_neighbours.ensures.value);
    }
