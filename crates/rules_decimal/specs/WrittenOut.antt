-- What packing, unpacking and adding come to for four digits a, b, c and d, the highest first, with the worth of each place written out.
use Rattle.std.specs.Prelude.{ℕ, ◌+◌, ◌*◌, ◌<◌}

pub record Below (n a b c d : ℕ) : Type 0 where
  pub thousands : a < n
  pub hundreds : b < n
  pub tens : c < n
  pub ones : d < n

abbrev pub decimal : ℕ → ℕ → ℕ → ℕ → ℕ
decimal a b c d = 1000 * a + 100 * b + 10 * c + d

abbrev pub in_bits : ℕ → ℕ → ℕ → ℕ → ℕ
in_bits a b c d = 4096 * a + 256 * b + 16 * c + d
