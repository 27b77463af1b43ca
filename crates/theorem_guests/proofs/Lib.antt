-- A guest on a linked image, of the rules: `linked-passes` of Passes (the link's result passes the image check); `react-shift` of
-- Relabelled (any rules by which an EXIT leaves with the signals that its job holds); `guest-reading` of Reading (any image of which the
-- guest's is a part); `machine-unshifted`, `events-shifted` and `all-accepted-alone` of Inverse (the labels taken back); `first-guest`,
-- `second-guest`, `reads-as-alone`, `other-words-stay` and `other-locks-free` of Guests.

-- the linked image: its records, its parts, its check
pub mod Shifted
pub mod Parts
pub mod Passes
-- an event with its labels shifted
pub mod Relabelled
pub mod Actions
-- a guest's events
pub mod Reading
pub mod Inverse
pub mod Guests
