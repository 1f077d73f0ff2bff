-- A machine without its logs: an image can tell it, and it has the text of the machine with them.
use Rattle.std.proofs.Common.{◌≡◌, ℕ, zero, suc, ◌+◌, ◌≤◌, ◌^◌, Bool, true, false, cond, List, [], map}
use Rattle.std.proofs.Common.{refl, sym, ap, ◌∙◌, subst, ⊎_elim, arith}
use Rattle.std.proofs.lemmas.Bool.{cases_Bool}
use Rattle.std.proofs.lemmas.List.Elements.{All-nil}
use Rattle.std.proofs.lemmas.List.Sums.{sum_by-cons, sum_by-append}
use Rattle.std.specs.List.{All, count_by, sum_by, filter_map, range_with_len}
use Rattle.cm_model.specs.declared.message.Message.{Message}
use Rattle.cm_model.specs.declared.message.Tag.{Tag}
use Rattle.cm_model.specs.declared.message.Event.{Event}
use Rattle.cm_model.specs.Array.{nth_or_nil}
use Rattle.cm_model.specs.Machine.{Machine}
use Rattle.cm_model.specs.Found.{same_tag}
use Rattle.cm_model.specs.Account.{Triple, standing_triple, delivered_triple, account_at, account}
use Rattle.cm_model.specs.Keeping.{IsEventOf, HasTagsOnce}
use Rattle.cm_model.specs.Unlogged.{IsUnlogged, has_tag_twice}
use Rattle.cm_model.proofs.Each.{length-tabulate, get_or-each_below}
use Rattle.cm_model.proofs.Counting.{sum_by-map, sum_by-flat_map}
use Rattle.cm_model.proofs.Unlogged.{standing, counted_twice, none_injected, HasTagsOnce-standing}
use Rattle.cm_model.proofs.Unlogged.{BornBefore-buffers, born_at}
use Rattle.cm_image_format.specs.Whole.{text_of, read_image}
use Rattle.cm_image_format.specs.Laws.{HasText, IsStorable, without_logs, TextsLeaveOutLogs}
use Rattle.cm_image_format.proofs.Theorems.{texts_are_read}

-- ---- tags of the account

abbrev of_tag : Tag → Message → Bool
of_tag tag m = same_tag m.tag tag

abbrev line_of_tag : Tag → Triple → Bool
line_of_tag tag triple = same_tag triple.tag tag

-- a function that is nowhere less has no lesser sum
sum_by-least : (f g : ℕ → ℕ) (a k : ℕ) → ((c : ℕ) → f c ≤ g c)
    → sum_by f (range_with_len a k) ≤ sum_by g (range_with_len a k)
sum_by-least f g a zero least = omega arith
sum_by-least f g a (suc k) least =
    omega (
      arith,
      sum_by-cons f a (range_with_len (a + 1) k),
      sum_by-cons g a (range_with_len (a + 1) k),
      least a,
      sum_by-least f g (a + 1) k least,
    )

-- what stands at a chip is a part of its account
counted_at : (machine : Machine) (tag : Tag) (c : ℕ)
    → count_by (of_tag tag) (nth_or_nil machine.buffers c) ≤ count_by (line_of_tag tag) (account_at machine c)
counted_at machine tag c =
    omega (
      arith,
      sum_by-append (λ (triple : Triple). cond (same_tag triple.tag tag) 1 0)
          (map (standing_triple c) (nth_or_nil machine.buffers c)) (filter_map delivered_triple (nth_or_nil machine.logs c)),
      sum_by-map (λ (triple : Triple). cond (same_tag triple.tag tag) 1 0) (standing_triple c)
          (nth_or_nil machine.buffers c),
    )

counted : (n : ℕ) (machine : Machine) (tag : Tag)
    → count_by (of_tag tag) (standing n machine) ≤ count_by (line_of_tag tag) (account n machine)
unfolding account
counted n machine tag =
    omega (
      arith,
      sum_by-flat_map (λ (m : Message). cond (same_tag m.tag tag) 1 0) (λ c. nth_or_nil machine.buffers c)
          (range_with_len 0 (2 ^ n)),
      sum_by-flat_map (λ (triple : Triple). cond (same_tag triple.tag tag) 1 0) (account_at machine)
          (range_with_len 0 (2 ^ n)),
      sum_by-least (λ c. sum_by (λ (m : Message). cond (same_tag m.tag tag) 1 0) (nth_or_nil machine.buffers c))
          (λ c. sum_by (λ (triple : Triple). cond (same_tag triple.tag tag) 1 0) (account_at machine c)) 0 (2 ^ n)
          (counted_at machine tag),
    )

-- a machine whose tags stand once has none twice in its buffers, whatever its logs tell
stand_once : (n : ℕ) (machine : Machine) → HasTagsOnce n machine → has_tag_twice (standing n machine) ≡ false
stand_once n machine once =
    ⊎_elim
    (λ (h : has_tag_twice (standing n machine) ≡ true).
    let found = counted_twice (standing n machine) h in
    absurd (omega (arith, counted n machine found.0, once found.0, found.1)))
    (λ (h : has_tag_twice (standing n machine) ≡ false). h) (cases_Bool (has_tag_twice (standing n machine)))

-- ---- without logs

unlogged : (n : ℕ) (machine : Machine) → IsUnlogged n (without_logs n machine)
unlogged n machine = refl

IsStorable-without_logs : (n cap : ℕ) (machine : Machine) → HasText n cap machine
    → IsStorable n cap (without_logs n machine)
IsStorable-without_logs n cap machine is =
    let bare : Machine = without_logs n machine in
    let none : IsUnlogged n (without_logs n machine) = unlogged n machine in
    record {
      dimension = is.dimension;
      some_room = is.some_room;
      most_room = is.most_room;
      clock = is.clock;
      unlogged = none;
      whole = record {
        chip_count = is.whole.chip_count;
        buffer_count = is.whole.buffer_count;
        log_count = length-tabulate 0 (2 ^ n) (λ c. []);
        whole = is.whole.whole;
        room = is.whole.room;
        messages = is.whole.messages;
        routing = is.whole.routing;
        events = λ c h. subst (λ (log : List Event). All (IsEventOf n c) log)
            (sym (get_or-each_below (2 ^ n) (λ b. []) c [] h)) (All-nil (IsEventOf n c));
        births = BornBefore-buffers n bare none (λ c h. born_at n machine c is.whole.births h);
        tags = HasTagsOnce-standing n bare none (stand_once n machine is.whole.tags);
        injected = none_injected n bare none;
      };
    }

same_text : (n cap : ℕ) (machine : Machine) → text_of n cap (without_logs n machine) ≡ text_of n cap machine
same_text n cap machine = refl

pub texts_leave_out_logs : TextsLeaveOutLogs
texts_leave_out_logs n cap machine is =
    ap (read_image n cap) (sym (same_text n cap machine))
    ∙ texts_are_read n cap (without_logs n machine) (IsStorable-without_logs n cap machine is)
