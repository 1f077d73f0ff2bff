-- Numbers that are drawn: SplitMix64 of Steele, Lea and Flood, 2014, by its arithmetic on numbers of 64 bits.
use Rattle.std.specs.Prelude.{ℕ, ◌+◌, ◌*◌, ◌/◌, ◌%◌, ◌^◌, bit_xor}

-- the lowest 64 bits of a number
abbrev pub wrapped : ℕ → ℕ
wrapped x = x % 2 ^ 64

-- a number with its upper bits, so many places down, laid over it
abbrev pub folded : ℕ → ℕ → ℕ
folded places x = bit_xor x (x / 2 ^ places)

-- a state, stirred
abbrev pub stirred : ℕ → ℕ
stirred state =
    folded 31 (wrapped (folded 27 (wrapped (folded 30 state * 0xbf58_476d_1ce4_e5b9)) * 0x94d0_49bb_1331_11eb))

-- draw k of a seed: the state begins at the seed, and moves on by as much before each draw
unfoldable pub draw_of : ℕ → ℕ → ℕ
draw_of seed k = stirred (wrapped (seed + wrapped ((k + 1) * 0x9e37_79b9_7f4a_7c15)))
