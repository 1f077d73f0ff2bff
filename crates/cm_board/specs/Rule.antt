-- The rule of a lane's table, and what each step tells its seat. Ours.
use Rattle.std.specs.Prelude.{◌≡◌, ◌≢◌, ◌⊎◌, ℕ, ◌+◌, ◌*◌, Bool, true, false, List, [], ◌∷◌, Option, Some}
use Rattle.std.specs.Prelude.{slice_index_or}
use mathlib.Core.Option.{some, none}
use mathlib.Core.Option as maybe
use Rattle.atomic_table.specs.Table.{State, Me}
use Rattle.cm_board.specs.declared.table.View.{View}
use Rattle.cm_board.specs.declared.table.Side.TheVariants.{Alone, Sends, Gets}

-- how far a use of the lane has come
pub data Stage : Type 0 where
  empty : Stage
  filling : Stage
  full : Stage
  emptying : Stage

-- the word, after k uses
abbrev pub word_at : ℕ → Stage → ℕ
word_at k empty = 4 * k
word_at k filling = 4 * k + 1
word_at k full = 4 * k + 2
word_at k emptying = 4 * k + 3

-- how many parcels the sender has filed; the receiver has cleared k
abbrev pub filed_at : ℕ → Stage → ℕ
filed_at k empty = k
filed_at k filling = k
filed_at k full = k + 1
filed_at k emptying = k + 1

-- whether the parcel is out with the sender
abbrev pub sender_holds : Stage → Bool
sender_holds filling = true
sender_holds _ = false

-- whether it is out with the receiver
abbrev pub receiver_holds : Stage → Bool
receiver_holds emptying = true
receiver_holds _ = false

-- what a seat knows, and the parcels that it has in hand, with the slot of each
abbrev pub Knows : Type 0 → Type 0
Knows T = Me (Option T) (View T)

module _ {T : Type 0} where
  -- the parcel of use k
  abbrev pub due_at : List T → T → ℕ → T
  due_at due blank k = slice_index_or due k blank

  -- what lies in the cell: nothing while an end has it in hand
  abbrev pub home_at : List T → T → ℕ → Stage → maybe.Option (Option T)
  home_at due blank k empty = some (Some blank)
  home_at due blank k filling = none
  home_at due blank k full = some (Some (due_at due blank k))
  home_at due blank k emptying = none

  -- the view of the one seat at the beginning, which knows no list yet
  abbrev pub alone : T → View T
  alone blank = record { side = Alone; uses = 0; holds = false; due = []; blank = blank }

  -- a sender's view
  abbrev pub sender : List T → T → ℕ → Bool → View T
  sender due blank uses holds = record { side = Sends; uses = uses; holds = holds; due = due; blank = blank }

  -- a receiver's view
  abbrev pub receiver : List T → T → ℕ → Bool → View T
  receiver due blank uses holds = record { side = Gets; uses = uses; holds = holds; due = due; blank = blank }

  -- a lane before its seats are dealt
  abbrev pub starting : T → State (Option T) (View T)
  starting blank = record { words = 0 ∷ []; homes = some (Some blank) ∷ []; views = alone blank ∷ [] }

  -- a lane after k uses, at a stage of the next
  abbrev pub standing : List T → T → ℕ → Stage → State (Option T) (View T)
  standing due blank k stage = record {
    words = word_at k stage ∷ [];
    homes = home_at due blank k stage ∷ [];
    views = sender due blank (filed_at k stage) (sender_holds stage)
        ∷ receiver due blank k (receiver_holds stage) ∷ [];
  }

  -- the rule: it stands so
  abbrev pub Kept : State (Option T) (View T) → Type 0
  Kept s = ((blank : T) × (s ≡ starting blank))
      ⊎ ((due : List T) × (blank : T) × (k : ℕ) × (stage : Stage) × (s ≡ standing due blank k stage))

  -- a grip that found the cell empty has the blank parcel in hand
  abbrev pub gripped : Knows T → ℕ → Knows T → Type 0
  gripped old found new =
      (found ≡ 4 * old.0.uses → new ≡ (record old.0 { holds = true }, (0, Some old.0.blank) ∷ old.1))
      × (found ≢ 4 * old.0.uses → new ≡ old)

  -- a draw that found the cell full has the due parcel in hand
  abbrev pub drawn : Knows T → ℕ → Knows T → Type 0
  drawn old found new =
      (found ≡ 4 * old.0.uses + 2
      → new ≡ (record old.0 { holds = true }, (0, Some (due_at old.0.due old.0.blank old.0.uses)) ∷ old.1))
      × (found ≢ 4 * old.0.uses + 2 → new ≡ old)

  -- one that files or clears has finished one use more, and has nothing in hand
  abbrev pub finished : Knows T → ℕ → Knows T → Type 0
  finished old found new = new ≡ (record old.0 { uses = old.0.uses + 1; holds = false }, [])
