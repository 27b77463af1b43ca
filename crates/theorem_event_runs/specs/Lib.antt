-- Events that an image accepts, written down as bytes: numbers 7 and 8 do not apply to them, and they read back as themselves (Written).
-- A Run of them from any state that numbers 1 to 6 accept is accepted (Runs), and its answers and the state that it leaves are the rules':
-- `run_of` of proofs/Runs.
pub mod Written
pub mod Runs
