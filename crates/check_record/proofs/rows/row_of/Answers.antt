use mathlib.Core.Path.{◌≡◌, refl}
use mathlib.Core.Logic.{⊎_elim}
use borrow.Author.Tests.{ne_eqb}
use native.Mathlib.Omega.{arith}
use Rattle.check_record.specs.Rows.{table, refuses, asks_in, row_of}
use Rattle.check_record.proofs.rows.row_of.Goals as goal

pub returns-in-1 : goal.returns-in-1
unfolding row_of
returns-in-1 c = ⊎_elim (λ e. rw e refl) (λ e. rw e refl) c.in-1.is

pub returns-in-2 : goal.returns-in-2
unfolding row_of
returns-in-2 c = rw c.in-2.is refl

pub returns-in-4 : goal.returns-in-4
unfolding row_of
returns-in-4 c = rw c.in-4.is refl

pub returns-in-5 : goal.returns-in-5
unfolding row_of
returns-in-5 c = rw c.in-5.is refl

pub returns-in-6 : goal.returns-in-6
unfolding row_of
returns-in-6 c = ⊎_elim (λ e. rw e refl) (λ e. rw e refl) c.in-6.is

pub returns-in-7 : goal.returns-in-7
unfolding row_of
returns-in-7 c = rw c.in-7.is refl

pub returns-in-8 : goal.returns-in-8
unfolding row_of
returns-in-8 c = rw c.in-8.is refl

pub returns-in-9 : goal.returns-in-9
unfolding row_of
returns-in-9 c = rw c.in-9.is refl

pub returns-in-10 : goal.returns-in-10
unfolding row_of
returns-in-10 c = rw c.in-10.is refl

pub returns-in-12 : goal.returns-in-12
unfolding row_of
returns-in-12 c = rw c.in-12.is refl

pub returns-in-13 : goal.returns-in-13
unfolding row_of
returns-in-13 c = rw c.in-13.is refl

pub returns-in-14 : goal.returns-in-14
unfolding row_of
returns-in-14 c = rw c.in-14.is refl

pub returns-in-15 : goal.returns-in-15
unfolding row_of
returns-in-15 c = rw c.in-15.is refl

pub returns-in_default : goal.returns-in_default
unfolding row_of
returns-in_default c =
    let op = c.args.opcode in
    let none : asks_in table op ≡ refuses = simp (
      ne_eqb op 1 (λ e. grind arith),
      ne_eqb op 3 (λ e. grind arith),
      ne_eqb op 2 (λ e. omega arith),
      ne_eqb op 4 (λ e. omega arith),
      ne_eqb op 5 (λ e. omega arith),
      ne_eqb op 6 (λ e. grind arith),
      ne_eqb op 11 (λ e. grind arith),
      ne_eqb op 7 (λ e. omega arith),
      ne_eqb op 8 (λ e. omega arith),
      ne_eqb op 9 (λ e. omega arith),
      ne_eqb op 10 (λ e. omega arith),
      ne_eqb op 12 (λ e. omega arith),
      ne_eqb op 13 (λ e. omega arith),
      ne_eqb op 14 (λ e. omega arith),
      ne_eqb op 15 (λ e. omega arith),
    ) in
    rw none refl
