use Rattle.std.proofs.Common.{ℕ, ◌*◌, ◌^◌, ◌≤◌, ap, ◌∙◌, refl, length, arith}
use Rattle.std.proofs.Math.Nat.{mul-le-mul_left}
use Rattle.lab_load.specs.Figures.{throughput_of, mean_of, most_of, greatest_latency}
use Rattle.lab_load.proofs.figures.figures_of.Goals as goal

pub overflow_mul-turns : goal.overflow_mul-turns
overflow_mul-turns c =
    let few : c.from-2.result ≤ 1000000 = omega (arith, c.from-2.ensures, c.requires.few, c.requires.skip) in
    omega (arith, mul-le-mul_left c.from.result few, c.from.ensures, c.chip_count.ensures.few)

pub returns : goal.returns
returns c = record {
  value = λ loaded counts told. let is = c.as_slice-latencies.ensures.value ∙ told.latencies in record {
    rate = refl;
    offered = c.offered_from.ensures.value;
    taken = told.taken;
    delivered = ap length is;
    throughput = c.throughput_of.ensures.value
        ∙ (ap (λ (k : ℕ). throughput_of k (c.from.result * c.from-2.result)) (ap length is)
        ∙ (ap (λ (k : ℕ). throughput_of (length loaded.latencies) (k * c.from-2.result))
        (c.from.ensures ∙ c.chip_count.ensures.value)
        ∙ ap (λ (k : ℕ). throughput_of (length loaded.latencies) (2 ^ c.args.load.now.dims * k)) c.from-2.ensures));
    mean = c.mean_of.ensures.value ∙ ap mean_of is;
    most = c.most_of.ensures.value ∙ ap (most_of c.args.cycles) is;
    greatest = c.greatest_of.ensures.value ∙ ap greatest_latency is;
    deepest = told.deepest;
    counts_are = told.counts_are;
  };
}
