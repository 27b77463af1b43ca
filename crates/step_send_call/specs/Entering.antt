-- A direct SEND and a CALL carried out, by their passage.
use Rattle.std.specs.Prelude.{◌≡◌, List, ℕ, ◌<◌, ◌≤◌, length, take, Ok, Err}
use Rattle.std.proofs.Math.Path.{refl}
use Rattle.rules.specs.Sizes.{lock_count, thread_count, register_count, idle_label, record_size}
use Rattle.rules.specs.Image.{labels, label_a, operands}
use Rattle.rules.specs.Machine.{fill, job}
use Rattle.rules.specs.Encoding.{machine_from}
use Rattle.rules.specs.Steps.{rules_by, finished}
use Rattle.rules.specs.Traps.{reason}
use Rattle.rules.specs.declared.sorts.Lock.{Lock}
use Rattle.rules.specs.declared.sorts.Thread.{Thread}
use Rattle.rules.specs.declared.answer.Answer.{Answer}
use Rattle.rules.specs.declared.answer.Answer.TheVariants.{Waiting, Moved, Trapped}
use Rattle.rules.specs.declared.trap.Trap.{Trap}
use Rattle.bytes_fields.specs.Put.{put}
use Rattle.lemmas_encoding.specs.Encoded.{Canonical, Encodes}
use Rattle.state_registers.specs.Filling.{ZerosAfter}
use Rattle.state_thread.specs.Threads.{Running, Runs, keeping}
use Rattle.state_thread.specs.Records.{thread_place, raw_bytes}
use Rattle.state_thread.specs.declared.thread.ThreadState.{ThreadState}
use Rattle.step_contract.specs.Ready.{Stepped, Ended, done, thread-stepped}
use Rattle.step_contract.specs.At.{At, small}
use Rattle.step_lock.specs.declared.Passage.{Passage}
use Rattle.step_lock.specs.declared.Passage.TheVariants.{Wait, Go, Own}
use Rattle.step_lock.specs.Enters.{Enters}
use Rattle.step_hold.specs.Holding.{holding, holding-as}

-- a thread w that can go in by the record r, with the values that it read
pub record CanEnter (w : ThreadState) (r vs : List ℕ) : Type 0 where
  pub thread : Running w
  pub long : length r ≡ record_size
  pub few : operands r ≤ register_count
  pub label : label_a r < idle_label
  pub zeros : ZerosAfter (operands r) vs

-- a trap whose job has been ended
pub trap-stepped : {image table b b' : List ℕ} {t : ℕ} {w : ThreadState} {r returns vs : List ℕ} {x : Trap} {a : Answer}
    → Enters image table b t w r returns vs (Err x) → a ≡ Trapped (reason x) → Ended image table b t b' → Stepped image table b t b' a
trap-stepped {image} {table} {b} {t = t} {x = x} e f g =
    done (finished (rules_by image table) t (machine_from b)) (Trapped (reason x)) e.passes f g

module _ {image table b : List ℕ} {t : ℕ} {w : ThreadState} {r returns vs : List ℕ} (h : At image table b t w r) where
  pub wait-stepped : {l : Lock} {u : Thread} → Enters image table b t w r returns vs (Ok (Wait l u))
      → Stepped image table b t b (Waiting l)
  wait-stepped {l} e = done (machine_from b) (Waiting l) e.passes.0 refl h.ready.canonical

  pub can-enter : {p : Passage} → Enters image table b t w r returns vs (Ok p) → label_a r < labels image → CanEnter w r vs
  can-enter e k = record {
    thread = h.thread;
    long = h.readable.long;
    few = h.readable.few;
    label = small h _ k;
    zeros = e.zeros refl;
  }

  -- the lock that the thread takes, once it is changed to x, is one of the 16
  pub can-hold : {l : Lock} → Enters image table b t w r returns vs (Ok (Go l)) → {x : ThreadState} → Running x
      → Canonical b × (t < thread_count) × Running x × (l.0 < lock_count)
  can-hold e k = (h.ready.canonical, h.inside, k, e.passes.0)

  pub go-stepped : {l : Lock} → Enters image table b t w r returns vs (Ok (Go l)) → {x : ThreadState} {b' : List ℕ}
      → Runs x w.locks (keeping w (job (label_a r) returns (fill (take (operands r) vs)))) → Encodes b' (holding (machine_from b) t x l)
      → Stepped image table b t b' Moved
  go-stepped {l} e m z = done _ Moved e.passes.1 refl (holding-as (machine_from b) t l m z)

  -- a thread that has the lock is written with the locks that it has
  pub own-stepped : Enters image table b t w r returns vs (Ok Own) → {x : ThreadState} {b' : List ℕ}
      → Runs x w.locks (keeping w (job (label_a r) returns (fill (take (operands r) vs)))) → b' ≡ put b (thread_place t) (raw_bytes x)
      → Stepped image table b t b' Moved
  own-stepped e m z = thread-stepped h.ready t Moved h.inside e.passes m z
