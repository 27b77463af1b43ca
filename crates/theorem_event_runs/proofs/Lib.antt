-- A Run of accepted events from an accepted state: its answers and the state that it leaves are the rules', `run_of` of Runs.
pub mod Runs
