-- What no event can do, proved of the rules. The main theorems: `every-end-is-clean` of Ends; `run-leaves-unheld-blocks` of UnheldBlocks;
-- `returns-are-open-calls` of OpenCalls; `return-leads-to-a-calling-block` of ReturnTargets. specs/Groups has those of groups of blocks;
-- soundness/specs/Untouched and Places have what an event leaves as it was.

-- ends of a job
pub mod Ends
-- blocks whose lock a thread does not hold
pub mod UnheldBlocks
-- return labels
pub mod Returns
pub mod OpenCalls
pub mod ReturnTargets
