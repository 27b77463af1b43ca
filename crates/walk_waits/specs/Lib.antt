pub mod Waiting
