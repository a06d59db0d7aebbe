pub mod CanonEvents
