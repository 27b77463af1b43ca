-- What a SEND JOBTREE comes to.
pub mod Held
