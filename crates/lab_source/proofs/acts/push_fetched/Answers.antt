use Rattle.std.proofs.Common.{refl}
use Rattle.lab_phrases.specs.Acts.{fetch_bit}
use Rattle.lab_source.proofs.Pushing.{two_more}
use Rattle.lab_source.proofs.acts.push_fetched.Goals as goal

pub loop-i-preserved : goal.loop-i-preserved
loop-i-preserved c =
    two_more c.args.acts.now.items c.loop-i.acts.items c.push.new.self.items c.push-in-loop-i.new.self.items c.loop-i.i
    (fetch_bit c.args.context.now c.args.flag c.args.dir c.args.d c.args.s) c.fetch.result c.keep.result
    c.loop-i.invariant c.in_ok-push.ensures.items c.in_ok-push-2.ensures.items
    (rw (c.fetch.ensures.value, c.keep.ensures.value, c.address.ensures, c.address-in-loop-i.ensures) refl)
