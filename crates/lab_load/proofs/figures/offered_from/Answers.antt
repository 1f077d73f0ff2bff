use Rattle.std.proofs.Common.{◌≡◌, ℕ, suc, ◌+◌, ap, ◌∙◌, arith}
use Rattle.lab_load.specs.declared.offers.Load.{Load}
use Rattle.lab_load.specs.Offers.{places}
use Rattle.lab_load.specs.Loaded.{offered_by, offered_in}
use Rattle.lab_load.proofs.figures.offered_from.Goals as goal

one_more : (load : Load) (t : ℕ) → offered_in load (t + 1) ≡ offered_in load t + offered_by load t (places load.dims)
unfolding offered_in
one_more load t = let next : t + 1 ≡ suc t = omega arith in ap (λ (k : ℕ). offered_in load k) next

pub loop-t-preserved : goal.loop-t-preserved
loop-t-preserved c = record {
  so_far = omega (
    arith,
    c.loop-t.invariant.so_far,
    c.offered_by.ensures.value,
    one_more c.args.load.now c.loop-t.t,
  );
  within = omega (arith, c.loop-t.invariant.within, c.offered_by.ensures.within);
}

pub returns : goal.returns
returns c =
    let all : c.loop-t.t ≡ c.args.cycles = omega arith in
    let sum = c.loop-t.invariant.so_far ∙ ap (λ (k : ℕ). offered_in c.args.load.now k) all in
    record { value = omega (arith, sum) }
