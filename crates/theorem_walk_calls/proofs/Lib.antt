-- What an accepted walk returns and writes: `walk_call` of WalkCall.
pub mod WalkCall
