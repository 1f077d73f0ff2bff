use Rattle.std.proofs.Common.{[], refl, inl, inr}
use Rattle.cm_system.proofs.Leading.{did_so}
use Rattle.cm_tools.proofs.Weaving.{faultless, same_acts, told_fault}
use Rattle.cm_tools.proofs.weaves.weave_machine.Goals as goal

pub returns-in-Ok : goal.returns-in-Ok
returns-in-Ok g c = record {
  does = did_so c.weave_world.ensures.does (λ trace weaves. inr (record {
    woven = _;
    begins = same_acts c.acts.ensures.value c.in-Ok.ensures.value;
    faultless = faultless _ _ _ c.acts.ensures.value (c.in-Ok.ensures.ok refl);
    then = weaves;
  }));
}

pub returns-in-Err : goal.returns-in-Err
returns-in-Err g c = record {
  does = record {
    trace = [];
    lead = refl;
    so = inl (record {
      told = told_fault _ _ _ c.acts.ensures.value c.from.ensures c.in-Err.ensures.fault;
      did = refl;
      silent = (refl, c.requires.writer);
    });
  };
}
