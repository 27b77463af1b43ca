-- The number of a trap's reason, as answers have it.
use Rattle.std.specs.Prelude.{ℕ}
use Rattle.rules.specs.Codes.{absent_register_code, no_return_label_code, returns_full_code, pending_full_code, foreign_fd_block_code}
use Rattle.rules.specs.Codes.{held_full_code, below_zero_code, zero_divisor_code, not_decimal_code}
use Rattle.rules.specs.declared.trap.Trap.{Trap}
use Rattle.rules.specs.declared.trap.Trap.TheVariants.{AbsentRegister, NoReturnLabel, ReturnsFull, PendingFull, ForeignFdBlock, HeldFull}
use Rattle.rules.specs.declared.trap.Trap.TheVariants.{BelowZero, ZeroDivisor, NotDecimal}

abbrev pub reason : Trap → ℕ
reason AbsentRegister = absent_register_code
reason NoReturnLabel = no_return_label_code
reason ReturnsFull = returns_full_code
reason PendingFull = pending_full_code
reason ForeignFdBlock = foreign_fd_block_code
reason HeldFull = held_full_code
reason BelowZero = below_zero_code
reason ZeroDivisor = zero_divisor_code
reason NotDecimal = not_decimal_code
