-- The library's version as one number, which the header has too: major × 65,536 + minor × 256 + patch.
use Rattle.std.specs.Prelude.{ℕ, ◌+◌, ◌*◌}

abbrev version_by : ℕ → ℕ → ℕ → ℕ
version_by major minor patch = 65536 * major + 256 * minor + patch

-- 0.9.0
abbrev pub version_number : ℕ
version_number = version_by 0 9 0
