-- What an accepted walk returns and writes: `WalkCall`; proofs/WalkCall has the proof.
pub mod Places
pub mod WalkCall
