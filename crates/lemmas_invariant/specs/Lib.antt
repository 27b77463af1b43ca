-- A machine that passes the state check passes it after every event of an accepted list: `well-formed-stays` of StaysWellFormed,
-- `sized-react` of StaysSized, `fresh-leaves-ready` and `run-leaves-ready` of States. On the way, what an event leaves as it was:
-- `other-threads-stay`, `words-of-other-blocks-stay`, `words-elsewhere-stay` and `an-arrival-changes-the-end` of Untouched;
-- `trees-keep-their-places` and `queues-of-others-stay` of Places. And a Run without events: `no-events-return`, `no-events-state` and
-- `no-events-answers` of NoEvents.

-- the laws that the rules of a checked image keep, and what follows for every machine that events make of a fresh one
pub mod Laws
pub mod Invariant
-- what an event can do, and what it leaves as it was
pub mod Happens
pub mod Queues
pub mod Untouched
pub mod Places
-- well formed machines
pub mod Disjoint
pub mod Members
pub mod Sound
pub mod Destinations
pub mod Trees
pub mod StaysWellFormed
-- counts within the limits
pub mod StatementLimits
-- bytes and calls
pub mod States
pub mod NoEvents
