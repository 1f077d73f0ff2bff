-- The law of the whole, from those that it is put together of.
use Rattle.std.proofs.Common.{◌≡◌, ℕ, ◌<◌, ◌≤◌, ◌^◌, List, [], length, ap, ◌∙◌, arith}
use Rattle.cm_bits.specs.Text.{lines_of}
use Rattle.cm_model.specs.declared.message.Event.{Event}
use Rattle.cm_model.specs.Array.{nth_or_nil}
use Rattle.cm_model.specs.Machine.{Machine}
use Rattle.cm_model.specs.Unlogged.{IsUnlogged}
use Rattle.cm_model.proofs.Each.{get_or-each_below}
use Rattle.cm_language.specs.Places.{MacrosStandInTheirProgram}
use Rattle.cm_image_format.specs.Laws.{IsStorable, OnlyTextsAreRead}
use Rattle.cm_session.specs.Laws.{LinesCanBeParted}
use Rattle.cm_session.specs.Whole.{SessionsKeepMachines, LinesRunTheirActs, SessionsDoMacros}
use Rattle.cm_session.specs.Whole.{SessionsKeepMessages, SessionsDeliver}
use Rattle.cm_whole.specs.Whole.{SessionsAreAsWritten}
use Rattle.cm_whole.proofs.Lines.{is_done}

-- no log of an image's machine has an event
no_events : (n c i : ℕ) (machine : Machine) → IsUnlogged n machine → c < 2 ^ n → length (nth_or_nil machine.logs c) ≤ i
no_events n c i machine none inside =
    let empty : nth_or_nil machine.logs c ≡ [] =
    ap (λ (logs : List (List Event)). nth_or_nil logs c) none ∙ get_or-each_below (2 ^ n) (λ k. []) c [] inside in
    let short : length (nth_or_nil machine.logs c) ≡ 0 = ap length empty in
    omega (arith, short)

pub as_written : OnlyTextsAreRead → MacrosStandInTheirProgram → LinesCanBeParted → LinesRunTheirActs
    → SessionsKeepMachines → SessionsDoMacros → SessionsKeepMessages → SessionsDeliver → SessionsAreAsWritten
as_written only stand parted run keep do_macros keep_messages deliver inputs setup accepted =
    let stored : IsStorable setup.n setup.cap setup.machine =
    (only setup.n setup.cap inputs.image setup.machine accepted.bytes accepted.image).1 in
    record {
      lines = λ before line next. is_done parted setup before line
          (keep setup.n setup.cap setup.machine setup.program.acts before stored.whole).buffer_count;
      acts = λ before lines come.
          run setup.n setup.cap setup.machine setup.program.acts before lines stored.whole come.pokeless;
      macros = λ r m before lines whole.
          do_macros setup.n setup.cap setup.machine setup.program.acts before lines (length r.acts) m r.context
          stored.whole whole.come.pokeless (stand inputs.text setup.program r m accepted.program whole.says)
          whole.begins whole.ends;
      messages = λ message is.
          keep_messages setup.n setup.cap setup.machine setup.program.acts (lines_of inputs.commands) message
          stored.whole is;
      deliveries = λ c i d m inside told.
          deliver setup.n setup.cap setup.machine setup.program.acts (lines_of inputs.commands) c i d m stored.whole
          inside (no_events setup.n c i setup.machine stored.unlogged inside) told;
    }
