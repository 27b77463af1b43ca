-- What no event can do, proved of the rules: what the theorems speak of, and the theorems of groups of blocks: `holds-the-group`,
-- `enters-with-its-lock`, `lock-set-stays` and `waits-for-the-lock` of Groups. proofs/Lib has the other theorems.

-- ends of a job
pub mod Ends
-- blocks that one lock guards, and those whose lock a thread does not hold
pub mod Groups
pub mod UnheldBlocks
-- return labels
pub mod Paths
pub mod ReturnTargets
