-- An end that holds the cell, after a write through `parcel`.
use Rattle.cm_board.specs.declared.sending.Filling.{Filling}
use Rattle.cm_board.specs.declared.getting.Emptying.{Emptying}

-- a sender with another parcel
abbrev pub filling_with : {T : Type 0} → Filling T → T → Filling T
filling_with it parcel = record it { parcel = parcel }

-- a receiver with another parcel
abbrev pub emptying_with : {T : Type 0} → Emptying T → T → Emptying T
emptying_with it parcel = record it { parcel = parcel }
