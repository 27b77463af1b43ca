-- A number as a label, a block, a thread or a lock.
use Rattle.std.specs.Prelude.{ℕ}
use Rattle.rules.specs.declared.sorts.Label.{Label}
use Rattle.rules.specs.declared.sorts.Block.{Block}
use Rattle.rules.specs.declared.sorts.Thread.{Thread}
use Rattle.rules.specs.declared.sorts.Lock.{Lock}

abbrev pub label : ℕ → Label
label n = record { 0 = n }

abbrev pub block : ℕ → Block
block n = record { 0 = n }

abbrev pub thread : ℕ → Thread
thread n = record { 0 = n }

abbrev pub lock : ℕ → Lock
lock n = record { 0 = n }
