-- What a shared word, stored into the bytes of a machine, comes to.
use Rattle.std.specs.Prelude.{◌≡◌, List, ℕ, ◌+◌, ◌*◌, ◌<◌}
use Rattle.rules.specs.Sizes.{word_count, word_total}
use Rattle.rules.specs.Bytes.{le16}
use Rattle.rules.specs.Machine.{Machine}
use Rattle.bytes_fields.specs.Put.{put}
use Rattle.lemmas_encoding.specs.Encoded.{Encodes, encodes}
use Rattle.lemmas_encoding.specs.Stores.{with_word, sized-word, word-then}

-- where word w of a block stands in a state: it is number 16 × block + w
abbrev pub word_place : ℕ → ℕ → ℕ
word_place block w = 2 * (word_count * block + w)

-- word n written
pub word-written : (b : List ℕ) (s : Machine) → Encodes b s → (n v : ℕ) {b' : List ℕ} → n < word_total → b' ≡ put b (2 * n) (le16 v)
    → Encodes b' (with_word s n v)
word-written b s h n v l e = encodes _ _ (word-then s h.sized h.same n v l e) (sized-word s n v h.sized)
