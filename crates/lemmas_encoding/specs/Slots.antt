-- What a thread record holds, read in place from the bytes of a state.
use Rattle.std.specs.Prelude.{List, ℕ, ◌+◌, ◌*◌, get_or, take, drop}
use Rattle.rules.specs.Sizes.{register_count, return_count, returns_place, presence_place, registers_place, held_count_place, held_place}
use Rattle.rules.specs.Sizes.{held_size, thread_size, words_size}
use Rattle.rules.specs.Bytes.{num16, num32, chunks}

-- the bytes of a state from thread t's record on
abbrev record_on : List ℕ → ℕ → List ℕ
record_on b t = drop (words_size + thread_size * t) b

-- its return labels, its presence set, the values of its registers, the count of the signals held, and their places
abbrev pub returns_in : List ℕ → ℕ → List ℕ
returns_in b t = chunks num16 2 return_count (drop returns_place (record_on b t))

abbrev pub present_in : List ℕ → ℕ → ℕ
present_in b t = num32 (drop presence_place (record_on b t))

abbrev pub registers_in : List ℕ → ℕ → List ℕ
registers_in b t = chunks num16 2 register_count (drop registers_place (record_on b t))

abbrev pub held_count_in : List ℕ → ℕ → ℕ
held_count_in b t = get_or (drop held_count_place (record_on b t)) 0 0

abbrev pub signals_in : List ℕ → ℕ → List ℕ
signals_in b t = take held_size (drop held_place (record_on b t))
