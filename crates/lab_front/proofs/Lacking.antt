-- How often a runner lacked a thread, where no more bytes came.
use Rattle.std.proofs.Common.{◌≡◌, ℕ, Option, Err, List}
use Rattle.cm_session.specs.declared.fault.SessionFault.{SessionFault}
use Rattle.cm_session.specs.declared.fault.SessionFault.TheVariants.{Read, Write, TooMuch, Memory, NoThread}
use Rattle.lab_front.specs.Ends.{CountsFrontLacks}
use Rattle.lab_front.specs.Hearing.{HearingStops}

-- no more bytes came
pub lacks_unheard : (before after : ℕ) (source left : Option (List ℕ)) (rest : List ℕ) (fault : SessionFault) → after ≡ before
    → HearingStops source left rest fault → CountsFrontLacks before after (Err fault)
lacks_unheard before after source left rest Read same stops = same
lacks_unheard before after source left rest (Write count) same stops = absurd stops
lacks_unheard before after source left rest TooMuch same stops = absurd stops
lacks_unheard before after source left rest Memory same stops = same
lacks_unheard before after source left rest NoThread same stops = absurd stops
