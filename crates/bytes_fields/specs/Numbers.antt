-- Numbers by their halves.
use Rattle.std.specs.Prelude.{◌≡◌, List, ℕ, ◌+◌, ◌*◌, drop}
use Rattle.std.proofs.Common.{ap, drop-drop}
use Rattle.rules.specs.Bytes.{num16, num32}

-- the number of 64 bits that a list begins with
unfoldable pub num64 : List ℕ → ℕ
num64 b = num32 b + 4294967296 * num32 (drop 4 b)

pub num32-drop : (at : ℕ) (s : List ℕ) → num32 (drop at s) ≡ num16 (drop at s) + 65536 * num16 (drop (at + 2) s)
unfolding num32
num32-drop at s = ap (λ l. num16 (drop at s) + 65536 * num16 l) (drop-drop 2 at s)

pub num64-drop : (at : ℕ) (s : List ℕ) → num64 (drop at s) ≡ num32 (drop at s) + 4294967296 * num32 (drop (at + 4) s)
unfolding num64
num64-drop at s = ap (λ l. num32 (drop at s) + 4294967296 * num32 l) (drop-drop 4 at s)
