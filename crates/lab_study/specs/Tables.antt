-- The tables of a study, as texts: numbers in columns, with a comma between them. Ours.
use Rattle.std.specs.Prelude.{ℕ, ◌^◌, List, [], ◌∷◌, ◌++◌, codes}
use Rattle.std.specs.List.{flat_map, range_with_len}
use Rattle.cm_model.specs.declared.message.Event.{Event}
use Rattle.cm_model.specs.declared.message.Event.TheVariants.{Injected, Delivered}
use Rattle.cm_model.specs.declared.message.Message.{Message}
use Rattle.cm_model.specs.Array.{nth_or_nil}
use Rattle.cm_model.specs.Machine.{Machine}
use Rattle.cm_model.specs.Router.{target_from}
use Rattle.cm_bits.specs.Text.{number_cell, last_number_cell}
use Rattle.lab_study.specs.declared.counts.Counts.{Counts}
use Rattle.lab_study.specs.declared.trace.Trace.{Trace}
use Rattle.lab_study.specs.Counts.{events_behind}
use Rattle.lab_study.specs.Traces.{Traces, trace_of, trace_after}

-- three numbers, each with a comma behind it
abbrev pub three_columns : ℕ → ℕ → ℕ → List ℕ
three_columns x y z = number_cell x ++ number_cell y ++ number_cell z

-- ---- petit cycles

-- the names of the columns of the table of petit cycles
abbrev pub cycles_header : List ℕ
cycles_header = codes "cycle,taken,delivered,referred,standing,full,asking\n"

-- the line of a petit cycle
unfoldable pub cycle_line : ℕ → Counts → List ℕ
cycle_line clock counts =
    three_columns clock counts.taken counts.delivered ++ three_columns counts.referred counts.standing counts.full
    ++ last_number_cell counts.asking

-- ---- messages

-- the names of the columns of the table of messages
abbrev pub messages_header : List ℕ
messages_header = codes "chip,processor,taken,to chip,to processor,delivered,crossed,referred\n"

-- who sent a message and when, each with a comma behind it
abbrev pub tag_columns : Trace → List ℕ
tag_columns trace = three_columns trace.tag.chip trace.tag.proc trace.tag.birth

-- how many dimensions it crossed and how often it was referred
abbrev pub way_columns : Trace → List ℕ
way_columns trace = number_cell trace.crossed ++ last_number_cell trace.referred

-- the line of a message that was delivered, to a processor of chip c in a petit cycle
unfoldable pub delivered_line : ℕ → ℕ → Message → Trace → List ℕ
delivered_line clock c m trace = tag_columns trace ++ three_columns c m.proc clock ++ way_columns trace

-- where one that stands at chip c is bound for, and nothing of a delivery
abbrev pub bound_columns : ℕ → Message → List ℕ
bound_columns c m = number_cell (target_from c m).chip ++ number_cell m.proc ++ 44 ∷ []

-- its line
unfoldable pub trace_line : ℕ → Message → Trace → List ℕ
trace_line c m trace = tag_columns trace ++ bound_columns c m ++ way_columns trace

-- what an event of chip c tells of a delivery
abbrev pub event_text : ℕ → Traces → ℕ → Event → List ℕ
event_text clock traces c (Injected m) = []
event_text clock traces c (Delivered d m) = delivered_line clock c m (trace_after (trace_of traces c m) m)

-- the lines of the messages that a chip delivered
abbrev pub delivered_text_at : ℕ → List ℕ → Traces → Machine → ℕ → List ℕ
delivered_text_at clock before traces machine c =
    flat_map (event_text clock traces c) (events_behind before machine c)

-- of those that all chips delivered
unfoldable pub delivered_text : ℕ → ℕ → List ℕ → Traces → Machine → List ℕ
delivered_text n clock before traces machine =
    flat_map (delivered_text_at clock before traces machine) (range_with_len 0 (2 ^ n))

-- the lines of the messages that stand at a chip
abbrev pub standing_text_at : Traces → Machine → ℕ → List ℕ
standing_text_at traces machine c =
    flat_map (λ m. trace_line c m (trace_of traces c m)) (nth_or_nil machine.buffers c)

-- of those that stand in all routers
unfoldable pub standing_text : ℕ → Traces → Machine → List ℕ
standing_text n traces machine = flat_map (standing_text_at traces machine) (range_with_len 0 (2 ^ n))
