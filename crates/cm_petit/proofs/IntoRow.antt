-- The phases that go through chips one after another, where all tell into one row.
use Rattle.std.proofs.Common.{◌≡◌, ℕ, ◌+◌, ◌*◌, ◌<◌, ◌≤◌, ◌++◌, List, length, set, ap, ◌∙◌, arith}
use Rattle.std.proofs.Common.{vec_len, vec_capacity, length-set}
use Rattle.std.proofs.Math.Nat.{mul-le-mul_right}
use Rattle.std.specs.List.{All}
use Rattle.cm_model.specs.declared.message.Message.{Message}
use Rattle.cm_model.specs.declared.message.Event.{Event}
use Rattle.cm_model.specs.Processor.{Processor}
use Rattle.cm_model.specs.Array.{Chips, nth_or_nil}
use Rattle.cm_router.specs.Logs.{Log, log_room}
use Rattle.cm_router.specs.Rows.{logging_chip, with_row}
use Rattle.cm_router.proofs.Telling.{length-with_row, told_more, told_no_more}
use Rattle.cm_petit.proofs.Making.{Standing, Cell, cell_of, AreDone, done_none, done_past, done_more}

-- chips and buffers by place, and the row that they tell into
pub record Telling : Type 0 where
  pub chips : Chips
  pub buffers : List (List Message)
  pub row : Log

-- with the row behind these logs
abbrev pub behind : List (List Event) → Telling → Standing
behind logs all = record { chips = all.chips; buffers = all.buffers; logs = with_row logs all.row.items }

-- of so many chips from chip 0 on, those behind a place are what the phase makes of them, whatever logs the row stands
-- behind, and have told at most so many events each
pub record AreTold (f : ℕ → Cell → Cell) (most count : ℕ) (before now : Telling) (place : ℕ) : Type 0 where
  pub inside : place ≤ count
  pub chip_count : length now.chips ≡ count
  pub buffer_count : length now.buffers ≡ count
  pub done : (logs : List (List Event)) → length logs ≡ count
      → AreDone f 0 count (behind logs before) (behind logs now) place
  pub len : vec_len now.row ≤ vec_len before.row + place * most
  pub capacity : vec_capacity before.row ≤ vec_capacity now.row

pub told_none : {f : ℕ → Cell → Cell} {most count : ℕ} {all : Telling} → length all.chips ≡ count
    → length all.buffers ≡ count → AreTold f most count all all 0
told_none {all = all} chips buffers = record {
  inside = omega arith;
  chip_count = chips;
  buffer_count = buffers;
  done = λ logs long. done_none chips buffers (length-with_row logs all.row.items ∙ long);
  len = omega arith;
  capacity = omega arith;
}

-- some more, which the phase leaves as they are
pub told_past : {f : ℕ → Cell → Cell} {most count i : ℕ} {before now : Telling} (j : ℕ)
    → AreTold f most count before now i → i ≤ j → j ≤ count
    → ((logs : List (List Event)) (k : ℕ) → i ≤ k → k < j
    → cell_of (behind logs now) k ≡ cell_of (behind logs before) k
    → cell_of (behind logs now) k ≡ f (0 + k) (cell_of (behind logs before) k))
    → AreTold f most count before now j
told_past {most = most} j was on inside stays = record {
  inside = inside;
  chip_count = was.chip_count;
  buffer_count = was.buffer_count;
  done = λ logs long. done_past j (was.done logs long) on (stays logs);
  len = omega (arith, was.len, mul-le-mul_right most on);
  capacity = was.capacity;
}

-- one more, which tells these events
pub told_one : {f : ℕ → Cell → Cell} {most count i : ℕ} {before now : Telling} {chips : Chips}
    {buffers : List (List Message)} {chip : List Processor} {messages : List Message} {after : Log} (es : List Event)
    → AreTold f most count before now i → i < count
    → ((logs : List (List Event)) → f i (cell_of (behind logs now) i)
    ≡ record { chip = chip; messages = messages; events = nth_or_nil (with_row logs now.row.items) i ++ es })
    → chips ≡ set now.chips i chip → buffers ≡ set now.buffers i messages
    → after.items ≡ now.row.items ++ es → All (λ e. logging_chip e ≡ i) es
    → vec_len after ≤ vec_len now.row + most → vec_capacity now.row ≤ vec_capacity after
    → AreTold f most count before (record { chips = chips; buffers = buffers; row = after }) (i + 1)
told_one {f} {most} {count} {i} {before} {now} {chips} {buffers} {chip} {messages} {after} es was here makes
    chips_are buffers_are items tells longer kept = record {
      inside = omega arith;
      chip_count = ap length chips_are ∙ length-set now.chips i _ ∙ was.chip_count;
      buffer_count = ap length buffers_are ∙ length-set now.buffers i _ ∙ was.buffer_count;
      done = λ logs long.
          let there : i < length logs = omega (arith, long) in
          rw (chips_are, buffers_are) (rw (makes logs) at (done_more i (with_row logs after.items) (was.done logs long)
          (omega arith) here (length-with_row logs after.items ∙ long)
          (rw (makes logs, items) (told_more logs now.row.items es i there tells))
          (λ k other. rw items (told_no_more logs now.row.items es i k other tells))));
      len = omega (arith, was.len, longer);
      capacity = omega (arith, was.capacity, kept);
    }

-- ---- the room of the row

-- there is room for what the next chip tells
pub row_takes : {f : ℕ → Cell → Cell} {most count i : ℕ} {before now : Telling} → AreTold f most count before now i
    → i < count → count * most ≤ log_room before.row → most ≤ log_room now.row
row_takes {most = most} {count} {i} was here room =
    let next : i + 1 ≤ count = omega arith in
    omega (arith, was.len, was.capacity, room, mul-le-mul_right most next)

-- what was taken by all of them
pub row_taken : {f : ℕ → Cell → Cell} {most count i : ℕ} {before now : Telling} → AreTold f most count before now i
    → vec_len now.row ≤ vec_len before.row + count * most
row_taken {most = most} was = omega (arith, was.len, mul-le-mul_right most was.inside)

-- what is left for a second phase, and what both take
pub row_left : (count few more : ℕ) (before now : Log) → count * (few + more) ≤ log_room before
    → vec_len now ≤ vec_len before + count * few → vec_capacity before ≤ vec_capacity now
    → count * more ≤ log_room now
row_left count few more before now room len capacity = grind arith

pub row_taken_twice : (count few more : ℕ) (before now after : Log) → vec_len now ≤ vec_len before + count * few
    → vec_len after ≤ vec_len now + count * more → vec_len after ≤ vec_len before + count * (few + more)
row_taken_twice count few more before now after first second = grind arith
