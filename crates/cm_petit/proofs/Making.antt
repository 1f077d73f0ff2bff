-- The phases of a petit cycle that go through chips one after another: injection and delivery.
use Rattle.std.proofs.Common.{◌≡◌, ◌≢◌, ℕ, ◌+◌, ◌-◌, ◌<◌, ◌≤◌, ◌++◌, List, [], length, map, set, get_or, sym, ap, ◌∙◌}
use Rattle.std.proofs.Common.{arith, vec_len, vec_capacity, below_more, get_or-set_same, get_or-set_other, refl}
use Rattle.std.proofs.Common.{◌∷◌, Bool, false}
use Rattle.std.specs.List.{list_any}
use Rattle.std.proofs.lemmas.Bool.{or_parts}
use Rattle.std.proofs.lemmas.List.{append-nil, length-map, length-set, map-set, get_or-map, ext_get_or}
use Rattle.cm_model.specs.declared.message.Message.{Message}
use Rattle.cm_model.specs.declared.message.Event.{Event}
use Rattle.cm_model.specs.declared.message.Event.TheVariants.{Injected, Delivered}
use Rattle.cm_model.specs.Processor.{Processor}
use Rattle.cm_model.specs.Each.{tabulate}
use Rattle.cm_model.specs.Array.{Chips, chip_at, nth_or_nil}
use Rattle.cm_model.specs.Wiring.{Routing}
use Rattle.cm_model.specs.Letters.{chip_after_injection, chip_after_delivery, can_receive, has_arrived}
use Rattle.cm_model.specs.OneChip.{taken_here, sent_here, delivered, kept, delivered_here, kept_here}
use Rattle.cm_model.proofs.Each.{length-tabulate, get_or-tabulate}
use Rattle.cm_router.specs.Idle.{IsIdle, IsPassedOver}
use Rattle.cm_router.specs.Logs.{Log, log_room, log_rooms_of, HaveLogRoom}
use Rattle.cm_router.proofs.Rooms.{room_at, room_written, room_of_others}
use Rattle.cm_petit.specs.Routers.{events_of, part_from_logs, part_from}

-- a row that reads as this at each place is what is made of the numbers from the first on
pub row_is : {X : Type 0} (d : X) (first count : ℕ) (g : ℕ → ℕ → X) (xs : List X) → length xs ≡ count
    → ((i : ℕ) → i < count → get_or xs i d ≡ g (first + i) i) → xs ≡ tabulate first count (λ c. g c (c - first))
row_is d first count g xs long reads =
    ext_get_or d xs (tabulate first count (λ c. g c (c - first)))
    (long ∙ sym (length-tabulate first count (λ c. g c (c - first))))
    (λ i h.
    let place : first + i - first ≡ i = omega arith in
    reads i (omega (arith, long)) ∙ ap (g (first + i)) (sym place)
    ∙ sym (get_or-tabulate first count (λ c. g c (c - first)) i d (omega (arith, long))))

-- how many events more a log takes that is read; the first part shows `grind` what to look for
pub room_is : (logs : List Log) (i : ℕ) (d : Log) → i < length logs → (get_or logs i d ≡ get_or logs i d)
    × (room_at logs i ≡ log_room (get_or logs i d)) × (i < length (log_rooms_of logs))
room_is logs i d inside = (refl, get_or-map log_room logs i d 0 inside, omega (arith, length-map logs log_room))

-- chips, buffers and logs by place
pub record Rows : Type 0 where
  pub chips : Chips
  pub buffers : List (List Message)
  pub logs : List Log

-- the same, with the events that are told of each
pub record Standing : Type 0 where
  pub chips : Chips
  pub buffers : List (List Message)
  pub logs : List (List Event)

-- what stands at a chip: its processors, its messages and its events
pub record Cell : Type 0 where
  pub chip : List Processor
  pub messages : List Message
  pub events : List Event

abbrev pub cell_of : Standing → ℕ → Cell
cell_of all i =
    record { chip = chip_at all.chips i; messages = nth_or_nil all.buffers i; events = nth_or_nil all.logs i }

abbrev pub standing_of : Rows → Standing
standing_of rows = record { chips = rows.chips; buffers = rows.buffers; logs = events_of rows.logs }

abbrev pub cell_at : Rows → ℕ → Cell
cell_at rows i = cell_of (standing_of rows) i

-- injection, of a cell at the chip of a number
abbrev pub injecting : ℕ → ℕ → ℕ → ℕ → Cell → Cell
injecting n room clock c x = record {
  chip = chip_after_injection (taken_here room x.messages x.chip) x.chip;
  messages = x.messages ++ sent_here n room clock c x.messages x.chip;
  events = x.events ++ map Injected (sent_here n room clock c x.messages x.chip);
}

-- delivery
abbrev pub delivering : ℕ → Cell → Cell
delivering c x = record {
  chip = chip_after_delivery (delivered_here x.messages x.chip) x.chip;
  messages = kept_here x.messages x.chip;
  events = x.events ++ map (λ m. Delivered c m) (delivered_here x.messages x.chip);
}

-- of so many chips, numbered from the first on, those behind a place are what the phase makes of them, and those ahead
-- are as before
pub record AreDone (f : ℕ → Cell → Cell) (first count : ℕ) (before now : Standing) (place : ℕ) : Type 0 where
  pub chip_count : length now.chips ≡ count
  pub buffer_count : length now.buffers ≡ count
  pub log_count : length now.logs ≡ count
  pub behind : (i : ℕ) → i < place → cell_of now i ≡ f (first + i) (cell_of before i)
  pub ahead : (i : ℕ) → place ≤ i → cell_of now i ≡ cell_of before i

pub done_none : {f : ℕ → Cell → Cell} {first count : ℕ} {all : Standing} → length all.chips ≡ count
    → length all.buffers ≡ count → length all.logs ≡ count → AreDone f first count all all 0
done_none chips buffers logs = grind arith

-- some more, which the phase leaves as they are
pub done_past : {f : ℕ → Cell → Cell} {first count i : ℕ} {before now : Standing} (j : ℕ)
    → AreDone f first count before now i → i ≤ j → ((k : ℕ) → i ≤ k → k < j
    → cell_of now k ≡ cell_of before k → cell_of now k ≡ f (first + k) (cell_of before k))
    → AreDone f first count before now j
done_past j was on stays = grind arith

-- one more, the chip of this number, where these logs tell more of it alone
pub done_more : {f : ℕ → Cell → Cell} {first count i : ℕ} {before now : Standing} (c : ℕ) (logs : List (List Event))
    → AreDone f first count before now i → c ≡ first + i → i < count → length logs ≡ count
    → nth_or_nil logs i ≡ (f c (cell_of now i)).events → ((k : ℕ) → k ≢ i → nth_or_nil logs k ≡ nth_or_nil now.logs k)
    → AreDone f first count before (record {
      chips = set now.chips i (f c (cell_of now i)).chip;
      buffers = set now.buffers i (f c (cell_of now i)).messages;
      logs = logs;
    }) (i + 1)
done_more {f} {first} {count} {i} {before} {now} c logs was number inside long told others =
    let made : Cell = f c (cell_of now i) in
    let next : Standing = record {
      chips = set now.chips i made.chip;
      buffers = set now.buffers i made.messages;
      logs = logs;
    } in
    let in_chips : i < length now.chips = omega (arith, was.chip_count) in
    let in_buffers : i < length now.buffers = omega (arith, was.buffer_count) in
    let same = was.ahead i (omega arith) in
    let here : cell_of next i ≡ f (first + i) (cell_of before i) =
    rw (get_or-set_same, get_or-set_same, told, ← number, ← same) refl in
    let elsewhere : (k : ℕ) → k ≢ i → cell_of next k ≡ cell_of now k =
    λ k other. rw (others k other) (simp get_or-set_other) in
    record {
      chip_count = length-set now.chips i _ ∙ was.chip_count;
      buffer_count = length-set now.buffers i _ ∙ was.buffer_count;
      log_count = long;
      behind = below_more (λ k. cell_of next k ≡ f (first + k) (cell_of before k)) i
          (λ k l. let other : k ≢ i = omega arith in elsewhere k other ∙ was.behind k l) here;
      ahead = λ k from. let other : k ≢ i = omega arith in elsewhere k other ∙ was.ahead k (omega arith);
    }

-- all of them
pub done_all : {f : ℕ → Cell → Cell} {first count place : ℕ} {before now : Standing} (routing : Routing) (clock : ℕ)
    → AreDone f first count before now place → count ≤ place
    → part_from routing first count now.chips now.buffers now.logs clock ≡ record {
      first = first;
      count = count;
      chips = tabulate first count (λ c. (f c (cell_of before (c - first))).chip);
      buffers = tabulate first count (λ c. (f c (cell_of before (c - first))).messages);
      logs = tabulate first count (λ c. (f c (cell_of before (c - first))).events);
      clock = clock;
      routing = routing;
    }
done_all {f} {first} {count} {place} {before} {now} routing clock is all =
    let made : ℕ → ℕ → Cell = λ c i. f c (cell_of before i) in
    let chips = row_is [] first count (λ c i. (made c i).chip) now.chips is.chip_count
    (λ i l. ap (λ (x : Cell). x.chip) (is.behind i (omega arith))) in
    let buffers = row_is [] first count (λ c i. (made c i).messages) now.buffers is.buffer_count
    (λ i l. ap (λ (x : Cell). x.messages) (is.behind i (omega arith))) in
    let logs = row_is [] first count (λ c i. (made c i).events) now.logs is.log_count
    (λ i l. ap (λ (x : Cell). x.events) (is.behind i (omega arith))) in
    rw (chips, buffers, logs) refl

-- ---- events into logs by chip

-- the same of logs, none of which takes more than so many events fewer
pub record AreMade (f : ℕ → Cell → Cell) (most first count : ℕ) (before now : Rows) (place : ℕ) : Type 0 where
  pub done : AreDone f first count (standing_of before) (standing_of now) place
  pub log_count : length now.logs ≡ count
  pub lost : (i : ℕ) → i < place → room_at before.logs i ≤ room_at now.logs i + most
  pub spared : (i : ℕ) → place ≤ i → room_at now.logs i ≡ room_at before.logs i

length-events_of : (logs : List Log) → length (events_of logs) ≡ length logs
length-events_of logs = length-map logs (λ (l : Log). l.items)

pub made_none : {f : ℕ → Cell → Cell} {most first count : ℕ} {rows : Rows} → length rows.chips ≡ count
    → length rows.buffers ≡ count → length rows.logs ≡ count → AreMade f most first count rows rows 0
made_none {rows = rows} chips buffers logs = record {
  done = done_none chips buffers (length-events_of rows.logs ∙ logs);
  log_count = logs;
  lost = λ i l. omega arith;
  spared = λ i l. refl;
}

-- some more, which the phase leaves as they are
pub made_past : {f : ℕ → Cell → Cell} {most first count i : ℕ} {before now : Rows} (j : ℕ)
    → AreMade f most first count before now i → i ≤ j → ((k : ℕ) → i ≤ k → k < j
    → cell_at now k ≡ cell_at before k → cell_at now k ≡ f (first + k) (cell_at before k))
    → AreMade f most first count before now j
made_past j was on stays =
    let done = done_past j was.done on stays in grind arith

-- one more, the chip of this number
pub made_more : {f : ℕ → Cell → Cell} {most first count i : ℕ} {before now : Rows} (c : ℕ) (log after : Log)
    → AreMade f most first count before now i → c ≡ first + i → i < count
    → after.items ≡ (f c (record (cell_at now i) { events = (get_or now.logs i log).items })).events
    → vec_len after ≤ vec_len (get_or now.logs i log) + most
    → vec_capacity (get_or now.logs i log) ≤ vec_capacity after
    → AreMade f most first count before (record {
      chips = set now.chips i (f c (cell_at now i)).chip;
      buffers = set now.buffers i (f c (cell_at now i)).messages;
      logs = set now.logs i after;
    }) (i + 1)
made_more {f} {most} {first} {count} {i} {before} {now} c log after was number inside told longer kept =
    let in_logs : i < length now.logs = omega (arith, was.log_count) in
    let in_events : i < length (events_of now.logs) = omega (arith, length-events_of now.logs) in
    let events = get_or-map (λ (l : Log). l.items) now.logs i log [] in_logs in
    record {
      done = done_more c (events_of (set now.logs i after)) was.done number inside
          (length-events_of (set now.logs i after) ∙ length-set now.logs i _ ∙ was.log_count)
          (rw (map-set, get_or-set_same, told, ← events) refl) (λ k other. simp (map-set, get_or-set_other));
      log_count = length-set now.logs i _ ∙ was.log_count;
      lost = λ k l. grind (arith, room_written, room_of_others, room_is);
      spared = λ k l. grind (arith, room_of_others);
    }

-- all of them
pub made_all : {f : ℕ → Cell → Cell} {most first count place : ℕ} {before now : Rows} (routing : Routing) (clock : ℕ)
    → AreMade f most first count before now place → count ≤ place
    → part_from_logs routing first count now.chips now.buffers now.logs clock ≡ record {
      first = first;
      count = count;
      chips = tabulate first count (λ c. (f c (cell_at before (c - first))).chip);
      buffers = tabulate first count (λ c. (f c (cell_at before (c - first))).messages);
      logs = tabulate first count (λ c. (f c (cell_at before (c - first))).events);
      clock = clock;
      routing = routing;
    }
made_all routing clock is all = done_all routing clock is.done all

-- there is room for what the next chip tells
pub log_takes : {f : ℕ → Cell → Cell} {most first count i : ℕ} {before now : Rows} (log : Log)
    → AreMade f most first count before now i → length before.logs ≡ count → i < length now.logs
    → HaveLogRoom most (log_rooms_of before.logs) → most ≤ log_room (get_or now.logs i log)
log_takes {most = most} {i = i} {before = before} {now = now} log was long inside has =
    let there : i < length before.logs = omega (arith, was.log_count, long) in
    omega (arith, (room_is now.logs i log inside).1, was.spared i (omega arith), has i (room_is before.logs i log there).2)

-- ---- cells that a phase leaves as they are

pub injecting_nothing : (n room clock c : ℕ) (x : Cell) → IsIdle x.chip → x ≡ injecting n room clock c x
injecting_nothing n room clock c x idle =
    rw (idle.nobody room (length x.messages), append-nil x.messages, append-nil x.events, ← idle.same) refl

pub injecting_passed : (n room clock c : ℕ) (before after : Cell) → after ≡ before
    → IsPassedOver room after.messages after.chip → after ≡ injecting n room clock c before
injecting_passed n room clock c before after is passed =
    let here : IsPassedOver room before.messages before.chip = rw is at passed in
    rw (is, here.nobody, append-nil before.messages, append-nil before.events, ← here.same) refl

-- of messages of which none has arrived none is delivered, and all are kept
nothing_delivered : (receives : ℕ → Bool) (before : List ℕ) (ms : List Message) → list_any has_arrived ms ≡ false
    → delivered receives before ms ≡ []
nothing_delivered receives before [] none = refl
nothing_delivered receives before (m ∷ ms) none =
    let parts = or_parts (has_arrived m) (list_any has_arrived ms) none in
    rw parts.0 (nothing_delivered receives before ms parts.1)

all_kept : (receives : ℕ → Bool) (before : List ℕ) (ms : List Message) → list_any has_arrived ms ≡ false
    → kept receives before ms ≡ ms
all_kept receives before [] none = refl
all_kept receives before (m ∷ ms) none =
    let parts = or_parts (has_arrived m) (list_any has_arrived ms) none in
    rw (parts.0, all_kept receives before ms parts.1) refl

pub delivering_nothing : (c : ℕ) (before after : Cell) → after ≡ before
    → list_any has_arrived after.messages ≡ false → before.chip ≡ chip_after_delivery [] before.chip
    → after ≡ delivering c before
delivering_nothing c before after is none same =
    let here : list_any has_arrived before.messages ≡ false = rw is at none in
    let receives : ℕ → Bool = can_receive before.chip in
    rw (
      is,
      nothing_delivered receives [] before.messages here,
      all_kept receives [] before.messages here,
      append-nil before.events,
      ← same,
    ) refl
