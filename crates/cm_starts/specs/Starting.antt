-- The rule of a start word, and what each step tells its seat. Ours.
use Rattle.std.specs.Prelude.{◌≡◌, ◌⊎◌, ℕ, ◌≤◌, Bool, [], ◌∷◌, if◌then◌else◌}
use Rattle.atomic_table.specs.Table.{State, Me}
use Rattle.cm_starts.specs.declared.words.Sight.{Sight}
use Rattle.cm_starts.specs.declared.words.Place.TheVariants.{Alone, Starts, Waits}

-- the view of the one seat at the beginning
abbrev pub starter_alone : Sight
starter_alone = record { place = Alone; word = 0 }

-- the view of the starter, who told this word
abbrev pub starter : ℕ → Sight
starter word = record { place = Starts; word = word }

-- the view of the worker, who saw this word last
abbrev pub waiter : ℕ → Sight
waiter word = record { place = Waits; word = word }

-- the word of a starter that tells the worker to begin
abbrev pub begin : ℕ
begin = 1

-- the word of a starter that tells the worker not to begin, since a thread of the team was refused
abbrev pub cancel : ℕ
cancel = 2

-- the word for a team, all of whose threads were started or not
abbrev pub start_word_for : Bool → ℕ
start_word_for are_started = if are_started then begin else cancel

-- before the seats are dealt
abbrev pub starting : State ℕ Sight
starting = record { words = 0 ∷ []; homes = []; views = starter_alone ∷ [] }

-- the word is what the starter told: nothing, 0, to begin, 1, or not to, 2; the worker has seen it, or has seen nothing
abbrev pub start_state : ℕ → Bool → State ℕ Sight
start_state word saw =
    record { words = word ∷ []; homes = []; views = starter word ∷ waiter (if saw then word else 0) ∷ [] }

-- the rule: the seats are not dealt yet, or the table stands as a word leaves it that was told, seen or not
abbrev pub StartRule : State ℕ Sight → Type 0
StartRule s = (s ≡ starting) ⊎ ((word : ℕ) × (saw : Bool) × (word ≤ 2) × (s ≡ start_state word saw))

-- a worker that looks has then seen the word that it found
abbrev pub looked : Me ℕ Sight → ℕ → Me ℕ Sight → Type 0
looked old found new = new ≡ (waiter found, old.1)

-- a starter that tells a word has then told it
abbrev pub has_told : ℕ → Me ℕ Sight → ℕ → Me ℕ Sight → Type 0
has_told word old found new = new ≡ (starter word, old.1)
